-- A chain of Pars, each the second branch of the one above it, whose first branch is suspended: what the last of them answers is heard by the one above
-- it alone, which is suspended itself, so that nothing is to be done further up (rule 8).
use Prim.Native.Nat.{ℕ, ◌+◌, ◌*◌, ◌≤◌, ◌<◌}
use mathlib.Core.Path.{◌≡◌, refl, ◌∙◌}
use mathlib.Core.Logic.{◌≢◌}
use mathlib.Core.List.{List}
use mir.Syntax.{w64}
use mir.Val.{Fits}
use native.Mathlib.Omega.{arith}
use lib.ListN.{length, get_or}
use Rattle.junior.specs.declared.Flag.{Flag}
use Rattle.junior.specs.declared.Flag.TheVariants.{SUSP, STOP, TERM}
use Rattle.junior.specs.Flags.{γ}
use Rattle.table.specs.Records.{size_at, second_child}
use Rattle.steps.specs.Running.{Rooms, Any}
use Rattle.steps.specs.Kinds.{BothSuspended}
use Rattle.steps.specs.Flags.{ParEnds, Heard}
use Rattle.steps.specs.Lent.{Lent, lent, CanRun, HasRun}
use Rattle.steps.proofs.FlagNumbers.{second_stays}
use Rattle.steps.proofs.Dispatch.{few_nodes}
use Rattle.runner.proofs.Falling.{weigh, child_rank, form_rank}
use Rattle.runner.proofs.ParRuns.{par_first, par_second, par_joins, par_done}
use Rattle.steps.specs.declared.progress.Progress.{Progress}

-- before a turn of the loop: the Par `at` can be run, and what that does now is what the Par i does from the entry on, once `above` has heard it
pub record Chain (L₀ : Lent) (i : ℕ) (table state : List ℕ) (m : Progress) (rooms : Rooms) (above at : ℕ) : Type 0 where
  pub can : CanRun 0 BothSuspended (lent table state m rooms) at
  pub inside : size_at table at ≤ size_at table i
  pub below : above ≤ at
  pub heard_asks : {state₁ : List ℕ} {m₁ : Progress} {rooms₁ : Rooms} {r : Flag}
      → HasRun 0 BothSuspended (lent table state m rooms) at (lent table state₁ m₁ rooms₁) r
      → 4 * above ≢ 4 * at
      → (4 * above + 4 < length state₁) × (4 * at < length state₁) × (get_or state₁ (4 * above + 1) 0 ≡ 0)
  pub goes_on : {state₁ : List ℕ} {m₁ : Progress} {rooms₁ : Rooms} {r : Flag}
      → HasRun 0 BothSuspended (lent table state m rooms) at (lent table state₁ m₁ rooms₁) r
      → {state₂ : List ℕ} {q : Flag} → Heard r (4 * above) (4 * at) state₁ state₂ q
      → HasRun 0 BothSuspended L₀ i (lent table state₂ m₁ rooms₁) q

pub first_link : {i : ℕ} {table state : List ℕ} {m : Progress} {rooms : Rooms} → CanRun 0 BothSuspended (lent table state m rooms) i
    → Chain (lent table state m rooms) i table state m rooms i i
first_link o =
    record {
      can = o;
      inside = omega arith;
      below = omega arith;
      heard_asks = λ run n. absurd (n refl);
      goes_on = λ run h. let (same, answer) = h.itself refl in rw (same, answer) run;
    }

-- a Par is suspended with its first branch
joined_with : (β : Flag) → γ SUSP β ≡ SUSP
joined_with SUSP = refl
joined_with STOP = refl
joined_with TERM = refl

suspended : {g : Flag} {at second : ℕ} {s s' : List ℕ} {q : Flag} → ParEnds SUSP g at second s s' q → q ≡ SUSP
suspended {g = g} e = e.flag ∙ joined_with g

module _ {L₀ : Lent} {i : ℕ} {table state : List ℕ} {m : Progress} {rooms : Rooms} {above at : ℕ} (u : Chain L₀ i table state m rooms above at) where
  pub above_fits : Fits w64 (4 * above)
  above_fits = omega (arith, few_nodes u.can, u.below)

  pub chain_first : {k : ℕ} → weigh table i form_rank ≡ k
      → (weigh table (at + 1) child_rank < k) × CanRun 0 Any (lent table state m rooms) (at + 1)
  chain_first e = let (l, s) = par_first u.can refl in (omega (arith, u.inside), s)

  -- where `at` is suspended, all above it are as they were
  pub suspends : {state₁ : List ℕ} {m₁ : Progress} {rooms₁ : Rooms} {q : Flag}
      → HasRun 0 BothSuspended (lent table state m rooms) at (lent table state₁ m₁ rooms₁) q
      → q ≡ SUSP
      → HasRun 0 BothSuspended L₀ i (lent table state₁ m₁ rooms₁) q
  suspends run z =
      u.goes_on run (record { itself = λ e. (refl, refl); above_it = λ n. rw z (second_stays (u.heard_asks run n).2) })

  module _ {state₁ : List ℕ} {m₁ : Progress} {rooms₁ : Rooms} {f : Flag} (run : HasRun 0 Any (lent table state m rooms) (at + 1) (lent table state₁ m₁ rooms₁) f)
      {second : ℕ} (is : second ≡ second_child table at) where
    pub chain_second : (size_at table second < size_at table at) × (size_at table second < size_at table i) × CanRun 0 Any (lent table state₁ m₁ rooms₁) second
    chain_second = let (l, s) = par_second run is u.can in (l, omega (arith, u.inside), s)

    -- the second branch is such a Par too
    pub next_link : f ≡ SUSP → CanRun 0 BothSuspended (lent table state₁ m₁ rooms₁) second
        → ((L' : Lent) (r : Flag) → HasRun 0 BothSuspended (lent table state₁ m₁ rooms₁) second L' r → HasRun 0 Any (lent table state₁ m₁ rooms₁) second L' r)
        → Chain L₀ i table state₁ m₁ rooms₁ at second
    next_link z o any =
        record {
          can = o;
          inside = omega (arith, u.inside, (par_second run is u.can).0);
          below = omega (arith, is);
          heard_asks = λ then n. let ((a, b), flags) = par_joins run is (any _ _ then) u.can in (a, b, flags);
          goes_on = λ then h.
              let e = h.above_it (λ d. omega (arith, is)) in
              suspends (par_done run is (any _ _ then) (rw z e)) (suspended e);
        }

    -- it isn't, and the first is suspended
    pub second_done : f ≡ SUSP → {state₂ : List ℕ} {m₂ : Progress} {rooms₂ : Rooms} {g : Flag}
        → HasRun 0 Any (lent table state₁ m₁ rooms₁) second (lent table state₂ m₂ rooms₂) g
        → {state₃ : List ℕ} {q : Flag} → ParEnds SUSP g (4 * at) (4 * second) state₂ state₃ q
        → HasRun 0 BothSuspended L₀ i (lent table state₃ m₂ rooms₂) q
    second_done z then e = suspends (par_done run is then (rw z e)) (suspended e)
