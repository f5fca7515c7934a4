-- An If that is reached, 001's "Boolean Test": its value chooses the branch.
use Prim.Native.Nat.{ℕ, ◌<◌}
use mathlib.Core.Bool.{true, false}
use mathlib.Core.Path.{◌≡◌, refl, ap, sym, ◌∙◌}
use mathlib.Core.Logic.{inr}
use mathlib.Core.List.{List, ◌∷◌, ◌++◌}
use native.Mathlib.Omega.{arith}
use lib.ListN.{drop}
use Rattle.junior.specs.declared.Flag.{Flag}
use Rattle.junior.specs.Configuration.{Env}
use Rattle.junior.specs.Values.{Values, nonzero}
use Rattle.junior.specs.Program.{Program, If, kind}
use Rattle.junior.specs.Term.{Term, if0, if1, if2, prog, fresh}
use Rattle.junior.specs.Trace.{Place}
use Rattle.junior.specs.Rules.{left_first, Result, Rewrites, if_true, if_true_on, if_false, if_false_on}
use Rattle.junior.specs.Inside.{Going, pot}
use Rattle.junior.proofs.Fresh.{prog_fresh, fresh_at_rest}
use Rattle.junior.proofs.Going.{rest_going}
use Rattle.junior.proofs.Figures.{pot_fresh}
use Rattle.table.specs.Records.{argument_at}
use Rattle.table.specs.Spells.{Spells}
use Rattle.state.specs.Kinds.{if_kind}
use Rattle.state.specs.StateBytes.{zeros, below}
use Rattle.state.proofs.Parts.{fresh_zeros}
use Rattle.state.proofs.Shape.{Shape, is_if0, shape_by}
use Rattle.steps.specs.Running.{Rooms, Ready, Ran, Live, Runs, KindPhase, values_in}
use Rattle.steps.specs.Kinds.{InSecond}
use Rattle.runner.proofs.Stages.{InThen}
use Rattle.steps.proofs.Done.{same_lengths, ready_as, room_for, ran_by}
use Rattle.steps.proofs.LoadedNode.{if_placed}

-- an If that hasn't chosen
pub data If0 : Term → Type 0 where
  reached : (v : ℕ) (p q : Program) → If0 (if0 v p q)

if0_of : {t : Term} → Shape t if_kind 0 → If0 t
if0_of (is_if0 v p q) = reached v p q

pub if0_by : (t : Term) → KindPhase if_kind 0 t → If0 t
if0_by t (e, p) = if0_of (shape_by t e p)

-- a branch begins
first_begins : {value : Values} {P : Place} {v : ℕ} {p q : Program} {E : Env} {r : Result}
    → nonzero (value v) ≡ true
    → Rewrites (left_first value) P (if1 v (fresh p) q) E r
    → Rewrites (left_first value) P (if0 v p q) E r
first_begins e (if_true_on d) = if_true e d

second_begins : {value : Values} {P : Place} {v : ℕ} {p q : Program} {E : Env} {r : Result}
    → nonzero (value v) ≡ false
    → Rewrites (left_first value) P (if2 v p (fresh q)) E r
    → Rewrites (left_first value) P (if0 v p q) E r
second_begins e (if_false_on d) = if_false e d

module _ {table : List ℕ} {i : ℕ} {state words : List ℕ} {rooms : Rooms} {tally : List ℕ} where
  -- its value's number is in its argument
  pub if_names : {t : Term} → If0 t → Ready 0 table i state words rooms tally t → argument_at table i < 16
  unfolding prog Spells
  if_names (reached v p q) h = omega (arith, if_placed h.placed, h.placed.spelled.1)

  first_ready : (v : ℕ) (p q : Program) → Ready 0 table i state words rooms tally (if0 v p q)
      → Ready 1 table i state words rooms tally (if1 v (fresh p) q)
  unfolding Going prog below pot kind
  first_ready v p q h =
      ready_as h (ap (λ x. If v x q) (prog_fresh p)) refl (same_lengths words tally)
      (ap (drop 1) h.bytes ∙ ap (λ l. 0 ∷ 0 ∷ 0 ∷ (l ++ zeros q)) (sym (fresh_zeros p)))
      (rest_going _ (fresh p) (fresh_at_rest p))
      (room_for h (λ k. simp (prog_fresh p) (omega (arith, pot_fresh k p))))

  second_ready : (v : ℕ) (p q : Program) → Ready 0 table i state words rooms tally (if0 v p q)
      → Ready 1 table i state words rooms tally (if2 v p (fresh q))
  unfolding Going prog below pot kind
  second_ready v p q h =
      ready_as h (ap (If v p) (prog_fresh q)) refl (same_lengths words tally)
      (ap (drop 1) h.bytes ∙ ap (λ l. 0 ∷ 0 ∷ 0 ∷ (zeros p ++ l)) (sym (fresh_zeros q)))
      (rest_going _ (fresh q) (fresh_at_rest q))
      (room_for h (λ k. simp (prog_fresh q) (omega (arith, pot_fresh k q))))

  pub first_live : {t : Term} → If0 t → Ready 0 table i state words rooms tally t → Live 1 InThen table i state words rooms tally
  unfolding kind prog
  first_live (reached v p q) h = (if1 v (fresh p) q, (inr refl, refl), first_ready v p q h)

  pub second_live : {t : Term} → If0 t → Ready 0 table i state words rooms tally t → Live 1 InSecond table i state words rooms tally
  second_live (reached v p q) h = (if2 v p (fresh q), refl, second_ready v p q h)

  -- what its value says
  own_value : (v : ℕ) (p q : Program) → Ready 0 table i state words rooms tally (if0 v p q)
      → values_in tally (argument_at table i) ≡ values_in tally v
  unfolding prog Spells
  own_value v p q h = ap (values_in tally) h.placed.spelled.1

  pub first_goes : {t : Term} → If0 t → Ready 0 table i state words rooms tally t → nonzero (values_in tally (argument_at table i)) ≡ true
      → {state' words' : List ℕ} {rooms' : Rooms} {tally' : List ℕ} {α : Flag}
      → Runs 1 InThen table i state words rooms tally state' words' rooms' tally' α
      → (P : Place)
      → P.node ≡ i
      → Ran P t words rooms tally state' words' rooms' tally' α
  unfolding kind prog
  first_goes (reached v p q) h e run P at =
      let k = run (if1 v (fresh p) q) (inr refl, refl) (first_ready v p q h) P at in
      ran_by k (first_begins (ap nonzero (sym (own_value v p q h)) ∙ e) k.rewrites) refl

  pub second_goes : {t : Term} → If0 t → Ready 0 table i state words rooms tally t → nonzero (values_in tally (argument_at table i)) ≡ false
      → {state' words' : List ℕ} {rooms' : Rooms} {tally' : List ℕ} {α : Flag}
      → Runs 1 InSecond table i state words rooms tally state' words' rooms' tally' α
      → (P : Place)
      → P.node ≡ i
      → Ran P t words rooms tally state' words' rooms' tally' α
  second_goes (reached v p q) h e run P at =
      let k = run (if2 v p (fresh q)) refl (second_ready v p q h) P at in
      ran_by k (second_begins (ap nonzero (sym (own_value v p q h)) ∙ e) k.rewrites) refl
