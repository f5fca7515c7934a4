-- Where the reading machine stops, a text without a reading fails; and it fails at one place only.
use Prim.Native.Nat.{ℕ, zero, suc, ◌≤◌, ◌<◌}
use mathlib.Core.Bool.{Bool, true, false}
use mathlib.Core.Path.{◌≡◌, refl, ap, sym, ◌∙◌}
use mathlib.Core.List.{List, [], ◌∷◌, ◌++◌, append_assoc}
use native.Mathlib.Omega.{arith}
use lib.Dec.{ltb}
use lib.ListN.{length, take}
use borrow.Author.Tests.{ltb-true, ltb-false}
use Rattle.form.specs.Fails.{Begins, Fails}
use Rattle.form.specs.Inside.Machine.{Stack, prog, Next, dead, on, then, further, step, run, reach}
use Rattle.form.proofs.Accepts.{accepts}
use Rattle.form.proofs.Completes.{finish, finishes, run_append}
use Rattle.form.proofs.Sound.{has_reading, dead≢on}

-- k bytes are read and the next is not
pub record Stops (σ : Stack) (w : List ℕ) (k : ℕ) : Type 0 where
  pub within : k ≤ length w
  pub to : Stack
  pub so_far : run σ (take k w) ≡ on to
  pub no_further : k < length w → run σ (take (suc k) w) ≡ dead

pub stops : (w : List ℕ) (σ : Stack) → Stops σ w (reach σ w)
unfolding run reach
stops [] σ = record { within = omega arith; to = σ; so_far = refl; no_further = λ h. absurd (omega arith) }
stops (b ∷ w) σ = go (step σ b) refl (λ τ. stops w τ)
  where
    go : (n : Next) → step σ b ≡ n → ((τ : Stack) → Stops τ w (reach τ w)) → Stops σ (b ∷ w) (further n (λ τ. reach τ w))
    go dead e f = record { within = omega arith; to = σ; so_far = refl; no_further = λ h. rw e }
    go (on τ) e f =
        let o = f τ in
        record {
          within = omega (arith, o.within);
          to = o.to;
          so_far = rw e o.so_far;
          no_further = λ h. rw e (o.no_further (omega arith));
        }

then_dead : (n : Next) (f : Stack → Next) → n ≡ dead → then n f ≡ dead
then_dead n f e = rw e

pub fails : (w : List ℕ) (k : ℕ) → Stops (prog ∷ []) w k → (run (prog ∷ []) w ≡ on [] → ⊥) → Fails w k
fails w k o refuses =
    let whole_text : run (prog ∷ []) (take k w ++ finish o.to) ≡ on [] =
    run_append (prog ∷ []) (take k w) (finish o.to) ∙ (rw o.so_far (finishes o.to)) in
    let r = has_reading (take k w ++ finish o.to) whole_text in
    record {
      within = o.within;
      so_far = (r.0, finish o.to, r.1);
      no_further = λ h (p, x, d).
          let z = then_dead (run (prog ∷ []) (take (suc k) w)) (λ τ. run τ x) (o.no_further h) in
          dead≢on (sym z ∙ (sym (run_append (prog ∷ []) (take (suc k) w) x) ∙ accepts d));
      unread = λ p d. refuses (accepts d);
    }

longer : (w : List ℕ) (j k : ℕ) → j ≤ k → (r : List ℕ) × (take k w ≡ take j w ++ r)
longer w zero k h = (take k w, refl)
longer w (suc j) zero h = absurd (omega arith)
longer [] (suc j) (suc k) h = ([], refl)
longer (b ∷ w) (suc j) (suc k) h = let o = longer w j k (omega arith) in (o.0, ap (λ x. b ∷ x) o.1)

begins_shorter : (w : List ℕ) (j k : ℕ) → j ≤ k → Begins (take k w) → Begins (take j w)
begins_shorter w j k h (p, x, d) =
    let o = longer w j k h in
    (p, o.0 ++ x, rw (o.1, append_assoc (take j w) o.0 x) at d)

not_before : (w : List ℕ) (j k : ℕ) → Fails w j → Fails w k → j < k → ⊥
not_before w j k f g h = f.no_further (omega (arith, g.within)) (begins_shorter w (suc j) k h g.so_far)

pub same_place : {w : List ℕ} {j k : ℕ} → Fails w j → Fails w k → j ≡ k
same_place {w} {j} {k} f g = go (ltb j k) refl (ltb k j) refl
  where
    go : (s : Bool) → ltb j k ≡ s → (t : Bool) → ltb k j ≡ t → j ≡ k
    go true e t h = absurd (not_before w j k f g (ltb-true j k e))
    go false e true h = absurd (not_before w k j g f (ltb-true k j h))
    go false e false h = omega (arith, ltb-false j k e, ltb-false k j h)
