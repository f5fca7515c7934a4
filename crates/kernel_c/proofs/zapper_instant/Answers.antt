-- `zapper_instant` meets its contract: the fields of the answer, in their places.
use mathlib.Core.Path.{◌≡◌, refl, ◌∙◌}
use mathlib.Core.Bool.{Bool, true, false, cond}
use mir.Val.{bool_byte}
use Rattle.std.specs.Prelude.{Ok, Err}
use Rattle.std.specs.Result.{result_unwrap_or}
use Rattle.table.specs.declared.numbers.Numbered.{Numbered}
use Rattle.table.specs.Verdict.{ending, Numbers}
use Rattle.kernel.specs.declared.Refusal.{Refusal}
use Rattle.kernel.specs.declared.Answer.{Answer}
use Rattle.kernel.specs.Answer.{Reply, call_number, call_index, outcome_number, outcome_index, no_answer, fields_of}
use Rattle.kernel_c.proofs.zapper_instant.Goals as goal

-- a truth value as a number
as_number : (b : Bool) → bool_byte b ≡ cond b 1 0
as_number true = refl
as_number false = refl

numbered : (r : Reply) (n : Numbered) → Numbers (λ (why : Refusal) (n : Numbered). (n.number ≡ call_number why) × (n.index ≡ call_index why)) r n
    → (n.number ≡ outcome_number (ending r)) × (n.index ≡ outcome_index (ending r))
numbered (Ok a) n told = told
numbered (Err why) n told = told

fields : (r : Reply) (a : Answer) → a ≡ no_answer → result_unwrap_or r a ≡ fields_of r
fields (Ok b) a e = refl
fields (Err why) a e = e

-- pub extern "C" fn zapper_instant
pub returns : goal.returns
returns c =
    let r = c.instant-reply.result in
    let (number, index) = numbered r c.of-refusal.result c.of-refusal.ensures in
    let all = c.unwrap_or-a.ensures ∙ fields r c.no_answer.result c.no_answer.ensures in
    record {
      answer = r;
      answered = c.instant-reply.ensures;
      written = c.places_of.ensures ∙ rw (number, index, all, as_number (fields_of r).finished);
    }
