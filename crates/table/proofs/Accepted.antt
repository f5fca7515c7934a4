-- What an accepted table has, and what suffices for a table to be judged by its program.
use Prim.Native.Nat.{ℕ, ◌≤◌, ◌<◌}
use mathlib.Core.Bool.{Bool, true, false, cond, not}
use mathlib.Core.Path.{◌≡◌, refl, ap, sym, ◌∙◌}
use mathlib.Core.Logic.{◌≢◌}
use mathlib.Core.List.{List}
use native.Mathlib.Omega.{arith}
use lib.Dec.{ltb}
use borrow.Author.Tests.{le-ltb, ltb-false}
use Rattle.events.specs.Events.{lowest}
use Rattle.std.specs.Prelude.{Ok, Err}
use Rattle.table.specs.declared.Figures.{Figures}
use Rattle.table.specs.declared.TableRefusal.{TableRefusal}
use Rattle.table.specs.declared.TableRefusal.TheVariants.{BadLength, BadCounts, BadDistances, BadConfiguration, BadNode, TooDeep}
use Rattle.table.specs.declared.TableRefusal.TheVariants.{EndlessLoop, TooHeavy}
use Rattle.table.specs.Records.{nodes, configurations}
use Rattle.table.specs.Good.{good_configuration, good_node}
use Rattle.table.specs.Spells.{tree_of}
use Rattle.table.specs.Verdict.{length_good, counts_good, distances_good, program_verdict, nodes_verdict, records_verdict}
use Rattle.table.specs.Verdict.{Verdict, verdict_of, refusal_number, number_of}
use Rattle.table.specs.Inside.{ConfigurationsGood, NodesGood, Loaded}
use Rattle.table.specs.Inside.Framing.{frame_of}
use Rattle.table.proofs.Lowest.{lowest_bad, none_bad}
use Rattle.table.proofs.Framing.{frame_counts}

-- a table past 1 to 5 is judged by its program
pub by_program : (t : List ℕ) → length_good t ≡ true → counts_good t ≡ true → distances_good t ≡ true → ConfigurationsGood t → NodesGood t
    → verdict_of t ≡ program_verdict (tree_of t)
unfolding verdict_of records_verdict nodes_verdict
by_program t l c d g n =
    let e = lowest_bad (good_configuration t) (configurations t) (configurations t) (omega arith) g (λ h. absurd (omega arith)) in
    let f = lowest_bad (good_node t) (nodes t) (nodes t) (omega arith) n (λ h. absurd (omega arith)) in
    rw (
      l,
      c,
      d,
      ← e,
      le-ltb (configurations t) (configurations t) (omega arith),
      ← f,
      le-ltb (nodes t) (nodes t) (omega arith),
    )

-- where two answers are chosen from and one can't be meant, it was the other
pub chosen : {C : Type 0} (P : C → Type 0) (b : Bool) {x y : C} → P (cond b x y) → (P y → ⊥) → (b ≡ true) × P x
chosen P true e n = (refl, e)
chosen P false e n = absurd (n e)

pub passed : {C : Type 0} (P : C → Type 0) (b : Bool) {x y : C} → P (cond b x y) → (P x → ⊥) → (b ≡ false) × P y
passed P true e n = absurd (n e)
passed P false e n = (refl, e)

-- none of refusals 1 to 5
abbrev pub Past5 : Verdict → Type 0
Past5 c = 1 ≤ number_of c → 5 < number_of c

-- a table past 1 to 5
pub record Accepted (t : List ℕ) : Type 0 where
  pub loaded : Loaded t
  pub verdict_is : verdict_of t ≡ program_verdict (tree_of t)

pub past_5 : (t : List ℕ) → Past5 (verdict_of t) → Accepted t
unfolding verdict_of records_verdict nodes_verdict number_of frame_of
past_5 t h =
    let l = chosen Past5 (length_good t) h (λ e. omega (arith, e (omega arith))) in
    let c = chosen Past5 (counts_good t) l.1 (λ e. omega (arith, e (omega arith))) in
    let d = chosen Past5 (distances_good t) c.1 (λ e. omega (arith, e (omega arith))) in
    let bad_configuration = lowest (configurations t) (λ j. not (good_configuration t j)) in
    let g = passed Past5 (ltb bad_configuration (configurations t)) d.1 (λ e. omega (arith, e (omega arith))) in
    let bad_node = lowest (nodes t) (λ i. not (good_node t i)) in
    let n = passed Past5 (ltb bad_node (nodes t)) g.1 (λ e. omega (arith, e (omega arith))) in
    let good = none_bad (good_configuration t) (configurations t) bad_configuration refl (ltb-false bad_configuration (configurations t) g.0) in
    let all = none_bad (good_node t) (nodes t) bad_node refl (ltb-false bad_node (nodes t) n.0) in
    record {
      loaded = record { framed = frame_counts t _ (rw (l.0, c.0, d.0)); configurations_good = good; nodes_good = all };
      verdict_is = by_program t l.0 c.0 d.0 good all;
    }

pub accepted : (t : List ℕ) → number_of (verdict_of t) ≡ 0 → Accepted t
accepted t h = past_5 t (λ l. absurd (omega arith))

-- each refusal has a number
pub some_number : (why : TableRefusal) → 1 ≤ refusal_number why
some_number BadLength = omega arith
some_number BadCounts = omega arith
some_number BadDistances = omega arith
some_number (BadConfiguration j) = omega arith
some_number (BadNode i) = omega arith
some_number (TooDeep i) = omega arith
some_number (EndlessLoop i) = omega arith
some_number TooHeavy = omega arith

-- so a verdict with none has figures, and one with another number has none
pub no_number : {c : Verdict} {x : Figures} → Ok x ≡ c → number_of c ≡ 0
unfolding number_of
no_number e = ap number_of (sym e)

-- as a call has it of check
pub loaded : {t : List ℕ} {x : Figures} → Ok x ≡ verdict_of t → Loaded t
loaded {t} e = (accepted t (no_number e)).loaded

pub its_figures : (c : Verdict) → number_of c ≡ 0 → (x : Figures) × (c ≡ Ok x)
unfolding number_of
its_figures (Ok x) e = (x, refl)
its_figures (Err why) e = absurd (omega (arith, some_number why))

pub not_accepted : (c : Verdict) → ((x : Figures) → c ≡ Ok x → ⊥) → number_of c ≢ 0
unfolding number_of
not_accepted (Ok x) n e = n x refl
not_accepted (Err why) n e = omega (arith, some_number why)

-- a verdict refuses for one reason, and none that has number 0 does
pub one_refusal : {c : Verdict} {u v : TableRefusal} → c ≡ Err u → c ≡ Err v → u ≡ v
one_refusal {u = u} {v = v} e f = let same : ◌≡◌ {A = Verdict} (Err u) (Err v) = sym e ∙ f in cc

pub not_both : {c : Verdict} {why : TableRefusal} → number_of c ≡ 0 → c ≡ Err why → ⊥
unfolding number_of
not_both {why = why} z e = let n = ap number_of e in omega (arith, some_number why)
