-- Request L1 of the program for people: the sentences of specs/L1.antt.
use Prim.Native.Nat.{ℕ, ◌≤◌, ◌<◌}
use mathlib.Core.Path.{◌≡◌, refl, sym, ap, ◌∙◌}
use mathlib.Core.Bool.{true, false, false≢true}
use mathlib.Core.List.{List, [], ◌++◌, append-nil}
use mathlib.Core.Option.{Option, none, some}
use native.Mathlib.Omega.{arith}
use lib.ListN.{take}
use Rattle.events.specs.Events.{Events}
use Rattle.events.specs.Members.{members}
use Rattle.junior.specs.Values.{Values}
use Rattle.junior.specs.Program.{size}
use Rattle.junior.specs.Term.{prog}
use Rattle.junior.specs.Waited.{Wait, waited}
use Rattle.junior.proofs.Lower.{found}
use Rattle.junior.proofs.Waited.{named_at_the_end}
use Rattle.junior.proofs.WayDown.{Within}
use Rattle.table.specs.Records.{nodes}
use Rattle.kernel.specs.declared.Answer.{Answer}
use Rattle.std.specs.Prelude.{Ok}
use Rattle.kernel.specs.Answer.{call_number, call_index, node_of, Rooms, Run, Answered}
use Rattle.listing.specs.Output.{ran_line, bad_line, refused_line}
use Rattle.player.specs.Waiting.{Under}
use Rattle.player.specs.Answering.{Lists}
use Rattle.player.specs.L1.{AsListed, OneLineMore, L1}
use Rattle.player.proofs.Named.{named_inside, all_its_nodes}

as_listed : {t s : List ℕ} {lent : Rooms} {line : List ℕ} {number : ℕ} {s' : List ℕ} {left : Rooms} {text : List ℕ}
    → Lists true t s lent line number s' left text
    → AsListed t s lent line number s' left text
as_listed {number = number} (Lists.bad r) =
    record { listed = bad_line number; more = []; lists = Lists.bad r; whole = sym (append-nil (bad_line number)) }
as_listed {number = number} (Lists.refused X why r o) =
    let told = refused_line number (call_number why) (call_index why) in
    record { listed = told; more = []; lists = Lists.refused X why r o; whole = sym (append-nil told) }
as_listed {number = number} (Lists.ran X a {more = more} {left = left} r o u) =
    let told = ran_line number a.passes a.finished (members a.events) (take a.atoms left.row) in
    record {
      listed = told ++ [];
      more = more;
      lists = Lists.ran X a r o Under.not_asked;
      whole = ap (λ (l : List ℕ). l ++ more) (sym (append-nil told));
    }

-- a test is named by one of the program's nodes, none by 4,096
named : (o : Option Wait) {n : ℕ} → found o ≡ true → Within 0 n o → node_of o < n
named none e a = absurd (false≢true e)
named (some w) e a = (a.nodes w refl).1

unnamed : (o : Option Wait) → found o ≡ false → node_of o ≡ 4096
unnamed none e = refl
unnamed (some w) e = absurd (false≢true (sym e))

one_line_more : {t s : List ℕ} {X : Events} {value : Values} {lent : Rooms} {s' : List ℕ} {left : Rooms} {a : Answer} {more : List ℕ}
    → Answered t s X value lent s' left (Ok a)
    → Under t a.waits true more
    → (run : Run t s X value lent s' left a)
    → OneLineMore run more
one_line_more {t} {a = a} r u run = go u
  where
    ended : found (waited run.instant) ≡ run.result.env.eoi
    ended = named_at_the_end run.instant refl

    few : (size (prog run.term) ≡ nodes t) × (nodes t ≤ 4096)
    few = all_its_nodes r run

    go : {more : List ℕ} → Under t a.waits true more → OneLineMore run more
    go (Under.never_declared n) =
        record {
          if_declared = λ d. absurd (omega (arith, few, run.waits_node_is, named (waited run.instant) (ended ∙ d) (named_inside run.instant)));
          if_never = λ d. refl;
        }
    go (Under.declared p l s) =
        record {
          if_declared = λ d. (p, s, refl);
          if_never = λ d. absurd (omega (arith, few, run.waits_node_is, unnamed (waited run.instant) (ended ∙ d)));
        }

pub request_1 : L1
request_1 = record { as_listed = as_listed; one_line_more = one_line_more }
