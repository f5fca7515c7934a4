-- An instant's reply, told by how it ended.
use Prim.Native.Nat.{ℕ}
use mathlib.Core.Path.{◌≡◌, refl}
use mathlib.Core.Logic.{◌≢◌, ◌⊎◌, inl, inr}
use mathlib.Core.List.{List}
use native.Mathlib.Omega.{arith}
use Rattle.std.specs.Prelude.{Result as RustResult, Ok, Err}
use Rattle.events.specs.Events.{Events}
use Rattle.junior.specs.Values.{Values}
use Rattle.table.specs.Verdict.{ending}
use Rattle.kernel.specs.declared.Refusal.{Refusal}
use Rattle.kernel.specs.declared.Answer.{Answer}
use Rattle.kernel.specs.Answer.{Outcome, Reply, outcome_number, outcome_index, Rooms, instant_outcome, no_answer, fields_of, Run, Answered}

pub no_refusal : {why : Refusal} → ◌≢◌ {A = Outcome} (Err why) (Ok tt)
no_refusal e = let z : ◌≡◌ {A = ℕ} 0 1 = cc in omega arith

unfoldable pub ran_or_not : (o : Outcome) → (o ≡ Ok tt) ⊎ (o ≢ Ok tt)
ran_or_not (Ok done) = inl refl
ran_or_not (Err why) = inr no_refusal

-- how a call ended tells its number and its index
pub same_numbers : {T : Type 0} (r : RustResult T Refusal) → (outcome_number r ≡ outcome_number (ending r)) × (outcome_index r ≡ outcome_index (ending r))
same_numbers (Ok x) = (refl, refl)
same_numbers (Err why) = (refl, refl)

-- refused, it has no fields
pub no_fields : (r : Reply) → ending r ≢ Ok tt → fields_of r ≡ no_answer
no_fields (Ok a) n = absurd (n refl)
no_fields (Err why) n = refl

module _ {t s : List ℕ} {X : Events} {value : Values} {lent : Rooms} {s' : List ℕ} {left : Rooms} where
  -- what was answered
  pub answered : (r : Reply) → Answered t s X value lent s' left r → ending r ≡ Ok tt
      → (a : Answer) × (r ≡ Ok a) × Run t s X value lent s' left a
  answered (Ok a) o e = (a, refl, o.leaves)
  answered (Err why) o e = absurd (no_refusal e)

  pub fields_run : (r : Reply) → Answered t s X value lent s' left r → ending r ≡ Ok tt → Run t s X value lent s' left (fields_of r)
  fields_run (Ok a) o e = o.leaves
  fields_run (Err why) o e = absurd (no_refusal e)

  pub kept : (r : Reply) → Answered t s X value lent s' left r → ending r ≢ Ok tt → (s' ≡ s) × (left ≡ lent)
  kept (Ok a) o n = absurd (n refl)
  kept (Err why) o n = o.leaves

  -- and what may be
  pub by_run : (r : Reply) → ending r ≡ instant_outcome t s X lent → ending r ≡ Ok tt → Run t s X value lent s' left (fields_of r)
      → Answered t s X value lent s' left r
  by_run (Ok a) i e run = record { outcome_is = i; leaves = run }
  by_run (Err why) i e run = absurd (no_refusal e)

  pub by_keeping : (r : Reply) → ending r ≡ instant_outcome t s X lent → ending r ≢ Ok tt → (s' ≡ s) × (left ≡ lent)
      → Answered t s X value lent s' left r
  by_keeping (Ok a) i n k = absurd (n refl)
  by_keeping (Err why) i n k = record { outcome_is = i; leaves = k }
