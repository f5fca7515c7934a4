-- A node in phase 3 reads as Nothing, whatever its kind: rule 1.
use Prim.Native.Nat.{ℕ, ◌*◌}
use mathlib.Core.Path.{◌≡◌, refl, sym, ◌∙◌}
use mathlib.Core.List.{List}
use lib.Dec.{lit<}
use lib.ListN.{get_or, set}
use Rattle.junior.specs.declared.Flag.TheVariants.{TERM}
use Rattle.junior.specs.Term.{Term}
use Rattle.state.proofs.Shape.{shape_by}
use Rattle.steps.proofs.Children.{own_in, phase_is}
use Rattle.steps.proofs.LeafParts.{done_ran}
use Rattle.steps.specs.Running.{Rooms}
use Rattle.steps.specs.Lent.{lent, HasRun}
use Rattle.steps.proofs.Context.{phase_at_lem, put_phase}
use Rattle.steps.proofs.Kept.{kept_same}
use Rattle.steps.specs.declared.progress.Progress.{Progress}

pub done_run : {W : Term → Type 0} {table : List ℕ} {i : ℕ} {state : List ℕ} {m : Progress} {rooms : Rooms} → get_or state (4 * i) 0 ≡ 3
    → HasRun 0 W (lent table state m rooms) i (lent table (set state (4 * i) 0) m rooms) TERM
done_run {m = m} e before part behind o =
    let l = own_in o.live.2 0 (lit< tt) in
    record {
      part' = set part 0 0;
      around = put_phase o.around 0 l;
      kept = kept_same m;
      runs = λ t w h P at. done_ran (shape_by t refl (sym (phase_is h) ∙ (sym (phase_at_lem o.around l) ∙ e))) h;
    }
