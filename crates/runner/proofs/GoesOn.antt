-- A node that goes on as another, at the same place: what that one has done, this one has. A node in a phase goes on so by that phase's
-- function, which does not look at the phase any more.
use Prim.Native.Nat.{ℕ, ◌*◌}
use mathlib.Core.Path.{◌≡◌, sym, ◌∙◌}
use mathlib.Core.List.{List}
use lib.ListN.{get_or}
use Rattle.junior.specs.declared.Flag.{Flag}
use Rattle.junior.specs.Term.{Term}
use Rattle.steps.specs.Running.{Rooms, Live, Runs, Phase}
use Rattle.steps.proofs.Children.{unseen}
use Rattle.steps.specs.Progress.{Kept, words_of, tally_of}
use Rattle.steps.specs.Lent.{Lent, lent, Stands, Went, CanRun, HasRun}
use Rattle.steps.proofs.Kept.{kept_same, kept_then}
use Rattle.steps.proofs.Dispatch.{phase_is}
use Rattle.steps.specs.declared.progress.Progress.{Progress}

module _ {skip skip₁ : ℕ} {W U : Term → Type 0} {L : Lent} {i : ℕ} {before part behind : List ℕ} where
  pub stands_as : Stands skip U L i before part behind
      → Live skip₁ W L.table i part (words_of L.progress) L.rooms (tally_of L.progress)
      → Stands skip₁ W L i before part behind
  stands_as o v = record { around = o.around; holds = o.holds; live = v }

  pub went_as : {L₁ L' : Lent} {part₁ : List ℕ} {r : Flag} → Kept L.progress L₁.progress
      → (g : Went skip₁ W L₁ i before part₁ behind L' r)
      → Runs skip U L.table i part (words_of L.progress) L.rooms (tally_of L.progress) g.part'
      (words_of L'.progress) L'.rooms (tally_of L'.progress) r
      → Went skip U L i before part behind L' r
  went_as k g runs = record { part' = g.part'; around = g.around; kept = kept_then k g.kept; runs = runs }

-- node i, of which U holds in L, goes on in L₁ as one of which W holds
pub record GoesOnAs (W U : Term → Type 0) (L : Lent) (i : ℕ) (L₁ : Lent) : Type 0 where
  pub can : CanRun 1 W L₁ i
  pub has : {L' : Lent} {r : Flag} → HasRun 1 W L₁ i L' r → HasRun 0 U L i L' r

module _ {W U : Term → Type 0} {ph : ℕ} (are : (t : Term) → U t → Phase ph t → W t) {table : List ℕ} {i : ℕ} {state : List ℕ} {m : Progress} {rooms : Rooms}
    (is : get_or state (4 * i) 0 ≡ ph) where
  in_phase : {before part behind : List ℕ} → Stands 0 U (lent table state m rooms) i before part behind
      → Stands 1 W (lent table state m rooms) i before part behind
  in_phase o = let (t, u, h) = o.live in stands_as o (t, are t u (sym (phase_is o.around h) ∙ is), unseen h 1)

  pub to_phase : CanRun 0 U (lent table state m rooms) i → CanRun 1 W (lent table state m rooms) i
  to_phase (before, part, behind, o) = (before, part, behind, in_phase o)

  pub by_phase : {L' : Lent} {r : Flag} → HasRun 1 W (lent table state m rooms) i L' r → HasRun 0 U (lent table state m rooms) i L' r
  by_phase run before part behind o =
      let g = run before part behind (in_phase o) in
      went_as (kept_same m) g (λ t u h. g.runs t (are t u (sym (phase_is o.around h) ∙ is)) (unseen h 1))

  pub goes_by_phase : CanRun 0 U (lent table state m rooms) i → GoesOnAs W U (lent table state m rooms) i (lent table state m rooms)
  goes_by_phase o = record { can = to_phase o; has = λ run. by_phase run }
