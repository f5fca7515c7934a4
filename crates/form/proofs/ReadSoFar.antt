-- A reader that keeps the reading machine's stack and counts: from the first byte, over each byte, to its answer.
use Prim.Native.Nat.{ℕ, zero, suc, ◌+◌, ◌<◌}
use mathlib.Core.Path.{◌≡◌, refl, sym, subst, ◌∙◌}
use mathlib.Core.List.{List, [], ◌∷◌}
use native.Mathlib.Omega.{arith}
use lib.ListN.{length, get_or, drop}
use Rattle.junior.specs.Program.{Program, size}
use Rattle.form.specs.Form.{Says, whole}
use Rattle.form.specs.Fails.{Fails}
use Rattle.form.specs.Made.{named, tests}
use Rattle.form.specs.Inside.Machine.{Sym, Stack, dead, on, step, run, reach}
use Rattle.form.specs.declared.Sizes.{Sizes}
use Rattle.form.specs.Inside.Counted.{counts, none, counted, tally}
use Rattle.form.specs.Inside.ReadTo.{start, ReadTo}
use Rattle.form.proofs.Counted.{tallied}
use Rattle.form.proofs.FailsHere.{Stops, stops, fails}
use Rattle.form.proofs.Sound.{has_reading, dead≢on, cons≢nil}

pub stands_first : (t : List ℕ) → ReadTo t 0 start none
stands_first t = record { within = omega arith; runs_on = refl; reaches_on = omega arith; counts_on = refl }

-- the byte at i and those behind it
drop_at : (t : List ℕ) (i : ℕ) → i < length t → drop i t ≡ get_or t i 0 ∷ drop (i + 1) t
drop_at [] i h = absurd (omega arith)
drop_at (b ∷ t) zero h = refl
drop_at (b ∷ t) (suc i) h = let z : suc i + 1 ≡ suc (i + 1) = omega arith in rw z (drop_at t i (omega arith))

pub stands_on : {t : List ℕ} {i : ℕ} {σ τ : Stack} {k : Sizes} → ReadTo t i σ k
    → i < length t → step σ (get_or t i 0) ≡ on τ → ReadTo t (i + 1) τ (counted σ (get_or t i 0) k)
unfolding run reach tally
stands_on {t} {i} s h e =
    let z = drop_at t i h in
    let r = rw (z, e) at s.reaches_on in
    record {
      within = omega arith;
      runs_on = rw (z, e) at s.runs_on;
      reaches_on = omega arith;
      counts_on = rw (z, e) at s.counts_on;
    }

-- no reading goes on at byte i
pub stands_dead : {t : List ℕ} {i : ℕ} {σ : Stack} {k : Sizes} → ReadTo t i σ k
    → i < length t → step σ (get_or t i 0) ≡ dead → Fails t i
unfolding run reach
stands_dead {t} {i} s h e =
    let z = drop_at t i h in
    let r : reach start t ≡ i + 0 = rw (z, e) at s.reaches_on in
    let d : run start t ≡ dead = rw (z, e) at s.runs_on in
    let a : reach start t ≡ i = omega arith in
    fails t i (subst (Stops start t) a (stops t start)) (λ o. dead≢on (sym d ∙ o))

drop_end : (t : List ℕ) → drop (length t) t ≡ []
drop_end [] = refl
drop_end (b ∷ t) = drop_end t

-- the text ends early
pub stands_short : {t : List ℕ} {s : Sym} {σ : Stack} {k : Sizes} → ReadTo t (length t) (s ∷ σ) k
    → Fails t (length t)
unfolding run reach
stands_short {t} s =
    let z = drop_end t in
    let r : reach start t ≡ length t + 0 = rw z at s.reaches_on in
    let a : reach start t ≡ length t = omega arith in
    fails t (length t) (subst (Stops start t) a (stops t start)) (λ o. cons≢nil (sym (rw z at s.runs_on) ∙ o))

-- the text ends with nothing more to come: it has a reading, and its counts are known
pub stands_whole : {t : List ℕ} {k : Sizes} → ReadTo t (length t) [] k
    → (p : Program) × Says (whole p) t × (k ≡ counts (size p) (tests p) (named p))
unfolding run tally
stands_whole {t} s =
    let z = drop_end t in
    let r = has_reading t (rw z at s.runs_on) in
    (r.0, r.1, sym (rw z at s.counts_on) ∙ tallied r.1)
