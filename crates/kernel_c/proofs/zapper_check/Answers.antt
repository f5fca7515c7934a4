-- `zapper_check` meets its contract: the verdict's number, index and figures, in their places.
use mathlib.Core.Path.{◌≡◌, refl}
use mathlib.Core.List.{[], ◌∷◌}
use Rattle.std.specs.Prelude.{Ok, Err}
use Rattle.std.specs.Result.{ResultUnwrapsOrElse}
use Rattle.table.specs.declared.Figures.{Figures}
use Rattle.table.specs.declared.TableRefusal.{TableRefusal}
use Rattle.table.specs.declared.numbers.Numbered.{Numbered}
use Rattle.table.specs.Verdict.{Verdict, Numbers, refusal_number, refusal_index, number_of, index_of, figures_of}
use Rattle.kernel.specs.Exports.{check_places}
use Rattle.kernel_c.proofs.zapper_check.Goals as goal

places : (c : Verdict) (n : Numbered) (f : Figures) (Zeros : Figures → Type 0)
    → Numbers (λ (why : TableRefusal) (n : Numbered). (n.number ≡ refusal_number why) × (n.index ≡ refusal_index why)) c n
    → ResultUnwrapsOrElse c Zeros f
    → ((x : Figures) → Zeros x → (x.generations ≡ 0) × ((x.atoms ≡ 0) × ((x.nodes ≡ 0) × (x.parked ≡ 0))))
    → (n.number ∷ n.index ∷ f.generations ∷ f.atoms ∷ f.nodes ∷ f.parked ∷ []) ≡ check_places c
unfolding number_of index_of figures_of
places (Ok x) n f Zeros (a, b) e zeros = rw (a, b, e) refl
places (Err why) n f Zeros (a, b) e zeros = rw (a, b, (zeros f e).0, (zeros f e).1.0, (zeros f e).1.1.0, (zeros f e).1.1.1) refl

-- *answer = [..];
pub returns : goal.returns
returns c = rw (← c.check-verdict.ensures) (places c.check-verdict.result _ _ _ c.of-refusal.ensures c.unwrap_or_default-figures.ensures (λ x z. z))
