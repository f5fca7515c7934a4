-- What a function of the cycle hands back; and a call that follows another, over the table of the first.
use Prim.Native.Nat.{ℕ, ◌<◌}
use mathlib.Core.Path.{◌≡◌}
use mathlib.Core.List.{List}
use Rattle.junior.specs.Term.{Term}
use Rattle.junior.specs.declared.Flag.{Flag}
use Rattle.steps.specs.declared.Pass.{Pass}
use Rattle.steps.specs.Running.{Rooms}
use Rattle.steps.specs.Lent.{lent, lent_of, lent_then, CanRun, HasRun, HasPassed, HasPassedBeside, Named}
use Rattle.steps.proofs.Slices.{all_same}
use Rattle.runner.proofs.Falling.{weigh}
use Rattle.steps.specs.declared.progress.Progress.{Progress}

-- a child is run, or another form of the node, and its flag is handed up
pub handed : {skip skip' : ℕ} {W W' : Term → Type 0} {p p' : Pass} {i i' : ℕ} {r : Flag}
    → (HasRun skip W (lent_of p) i (lent_then p p') r → HasRun skip' W' (lent_of p) i' (lent_then p p') r)
    → HasPassed skip W p i p' r → HasPassed skip' W' p i' p' r
handed f e = record { has_run = f e.has_run; named = e.named }

-- the same of a form that does no atom, whatever the row is
pub alone : {skip : ℕ} {W : Term → Type 0} {p p' : Pass} {i : ℕ} {r : Flag} → HasPassedBeside skip W p i p' r → HasPassed skip W p i p' r
alone {p = p} e = record { has_run = rw e.same_row (e.has_run_beside p.atoms.now); named = e.named }

-- nothing is written
pub untouched : {skip : ℕ} {W : Term → Type 0} {p : Pass} {i : ℕ} {r : Flag} → HasRun skip W (lent_of p) i (lent_of p) r → HasPassed skip W p i p r
untouched run = record { has_run = run; named = all_same }

pub passed : {skip : ℕ} {W : Term → Type 0} {p p' : Pass} {i : ℕ} {r : Flag} → HasRun skip W (lent_of p) i (lent_then p p') r → Named p p'
    → HasPassed skip W p i p' r
passed run named = record { has_run = run; named = named }

-- t' is the table of a pass after a call, which is the one of before
module _ {t t' : List ℕ} (same : t' ≡ t) where
  -- a call that follows
  pub can_then : {skip : ℕ} {W : Term → Type 0} {s : List ℕ} {m : Progress} {rooms : Rooms} {i : ℕ}
      → CanRun skip W (lent t s m rooms) i → CanRun skip W (lent t' s m rooms) i
  can_then can = rw same can

  pub falls_then : {skip : ℕ} {W : Term → Type 0} {s : List ℕ} {m : Progress} {rooms : Rooms} {i k : ℕ} (rank : ℕ)
      → (weigh t i rank < k) × CanRun skip W (lent t s m rooms) i → (weigh t' i rank < k) × CanRun skip W (lent t' s m rooms) i
  falls_then rank (l, can) = (rw same l, can_then can)

  -- and what it did
  pub ran_then : {skip : ℕ} {W : Term → Type 0} {s : List ℕ} {m : Progress} {s' : List ℕ} {m' : Progress} {rooms rooms' : Rooms} {i : ℕ} {r : Flag}
      → HasRun skip W (lent t' s m rooms) i (lent t' s' m' rooms') r → HasRun skip W (lent t s m rooms) i (lent t s' m' rooms') r
  ran_then run = rw same at run
