-- Reading a whole piece of text leaves the levels of the brackets around it.
use Prim.Native.Nat.{ℕ, ◌+◌, ◌<◌}
use mathlib.Core.Path.{◌≡◌, refl, ap, ◌∙◌}
use mathlib.Core.List.{List, ◌∷◌, ◌++◌, append_assoc}
use native.Mathlib.Omega.{arith}
use borrow.Author.Tests.{ne_eqb}
use Rattle.form.proofs.Digits.{digit_is}
use Rattle.form.proofs.Rows.{no_pair}
use lib.ListN.{set, drop}
use Rattle.junior.specs.Configuration.{Config}
use Rattle.table.specs.Records.{byte}
use Rattle.letters.specs.Decimal.{decimal}
use Rattle.letters.specs.Text.{bytes}
use Rattle.form.specs.Form.{SaysTest, says_event, says_not, says_and, says_or, Piece, whole, later_seq}
use Rattle.form.specs.Form.{later_par, Says}
use Rattle.form.specs.Form.{says_nothing, says_stop, says_atom, says_seq, last_of_seq, more_of_seq, says_par}
use Rattle.form.specs.Form.{last_of_par}
use Rattle.form.specs.Form.{more_of_par, says_loop, says_repeat, says_generate, says_await, says_when}
use Rattle.form.specs.Form.{says_until}
use Rattle.form.specs.Form.{says_control, says_local, says_freezable, says_if, says_repeat_ext}
use Rattle.builder.specs.Building.{relevel, levels}
use Rattle.builder.proofs.ReadDigits.{past_decimal, begins_decimal}
use Rattle.builder.proofs.FirstBytes.{begins_test, begins}

levels_digit : (d : ℕ) (x : List ℕ) → d < 10 → levels ((48 + d) ∷ x) ≡ levels x
unfolding levels relevel
levels_digit d x h =
    simp (
      ne_eqb (48 + d) 32 (λ e. omega arith),
      ne_eqb (48 + d) 40 (λ e. omega arith),
      ne_eqb (48 + d) 41 (λ e. omega arith),
      ne_eqb (48 + d) 44 (λ e. omega arith),
    )

pub levels_number : (n : ℕ) (x : List ℕ) → levels (decimal n ++ x) ≡ levels x
levels_number = past_decimal levels levels_digit

pub levels_close : (x : List ℕ) → levels (41 ∷ x) ≡ 0 ∷ levels x
unfolding levels relevel
levels_close x = refl

-- a blank before what is neither `and` nor `or`
pub levels_blank : (x : List ℕ) → byte x 0 < 97 → levels (32 ∷ x) ≡ levels x
unfolding levels relevel
levels_blank x h = rw (no_pair x h)

pub levels_and : (x : List ℕ) → byte x 0 < 97 → levels (bytes " and " ++ x) ≡ set (levels x) 0 2
unfolding levels relevel
levels_and x h = rw (levels_blank x h)

pub levels_or : (x : List ℕ) → byte x 0 < 97 → levels (bytes " or " ++ x) ≡ set (levels x) 0 3
unfolding levels relevel
levels_or x h = rw (levels_blank x h)

pub levels_test : {c : Config} {u : List ℕ} → SaysTest c u → (x : List ℕ) → levels (u ++ x) ≡ levels x
unfolding levels relevel
levels_test (says_event {s = s} h) x = levels_number s x
levels_test (says_not {u = u} d) x =
    let b = begins_test d (41 ∷ x) in
    simp append_assoc (ap (drop 1) (levels_blank (u ++ (41 ∷ x)) (omega arith) ∙ levels_test d (41 ∷ x)))
levels_test (says_and {v = v} d e) x =
    let b = begins_test e (41 ∷ x) in
    simp append_assoc (ap (drop 1) (levels_test d _ ∙ (levels_and (v ++ (41 ∷ x)) (omega arith) ∙ ap (λ l. set l 0 2) (levels_test e (41 ∷ x)))))
levels_test (says_or {v = v} d e) x =
    let b = begins_test e (41 ∷ x) in
    simp append_assoc (ap (drop 1) (levels_test d _ ∙ (levels_or (v ++ (41 ∷ x)) (omega arith) ∙ ap (λ l. set l 0 3) (levels_test e (41 ∷ x)))))

-- a comma before a part
levels_comma :
    {s : Piece} {u : List ℕ}
    → Says s u
    → (x : List ℕ)
    → levels (44 ∷ 32 ∷ (u ++ x)) ≡ set (levels (u ++ x)) 0 1
unfolding levels relevel
levels_comma {u = u} d x = let b = begins d x in rw (no_pair (u ++ x) (omega arith))

-- a comma before a cap
pub levels_cap : (n : ℕ) (x : List ℕ) → levels (44 ∷ 32 ∷ (decimal n ++ x)) ≡ set (levels x) 0 1
unfolding levels relevel
levels_cap n x = let b = (digit_is (byte (decimal n ++ x) 0) (begins_decimal n x)).1 in rw (no_pair (decimal n ++ x) (omega arith), levels_number n x)

-- a whole program leaves the levels; with a comma before it, what stands behind the first comma of a Seq or Par leaves its bracket's
abbrev pub LevelsStay : Piece → List ℕ → List ℕ → Type 0
LevelsStay (whole p) u x = levels (u ++ x) ≡ levels x
LevelsStay (later_seq p) u x = levels (44 ∷ 32 ∷ (u ++ x)) ≡ 1 ∷ levels x
LevelsStay (later_par p) u x = levels (44 ∷ 32 ∷ (u ++ x)) ≡ 1 ∷ levels x

pub levels_kept : {s : Piece} {u : List ℕ} → Says s u → (x : List ℕ) → LevelsStay s u x
unfolding levels relevel
levels_kept says_nothing x = refl
levels_kept says_stop x = refl
levels_kept (says_atom {a = a} h) x = simp append_assoc (ap (drop 1) (levels_number a (41 ∷ x)))
levels_kept (says_seq d e) x = simp append_assoc (ap (drop 1) (levels_kept d _ ∙ levels_kept e x))
levels_kept (last_of_seq d) x = simp append_assoc (levels_comma d (41 ∷ x) ∙ ap (λ l. set l 0 1) (levels_kept d (41 ∷ x)))
levels_kept (more_of_seq d e) x = simp append_assoc (levels_comma d _ ∙ ap (λ l. set l 0 1) (levels_kept d _ ∙ levels_kept e x))
levels_kept (says_par d e) x = simp append_assoc (ap (drop 1) (levels_kept d _ ∙ levels_kept e x))
levels_kept (last_of_par d) x = simp append_assoc (levels_comma d (41 ∷ x) ∙ ap (λ l. set l 0 1) (levels_kept d (41 ∷ x)))
levels_kept (more_of_par d e) x = simp append_assoc (levels_comma d _ ∙ ap (λ l. set l 0 1) (levels_kept d _ ∙ levels_kept e x))
levels_kept (says_loop d) x = simp append_assoc (ap (drop 1) (levels_kept d (41 ∷ x)))
levels_kept (says_repeat {n = n} h d) x =
    simp append_assoc (ap (drop 1) (levels_number n _ ∙ (levels_comma d _ ∙ ap (λ l. set l 0 1) (levels_kept d (41 ∷ x)))))
levels_kept (says_generate {s = s} h) x = simp append_assoc (ap (drop 1) (levels_number s (41 ∷ x)))
levels_kept (says_await c) x = simp append_assoc (ap (drop 1) (levels_test c (41 ∷ x)))
levels_kept (says_when c d e) x =
    let second = levels_comma e _ ∙ ap (λ l. set l 0 1) (levels_kept e (41 ∷ x)) in
    simp append_assoc (ap (drop 1) (levels_test c _ ∙ (levels_comma d _ ∙ ap (λ l. set l 0 1) (levels_kept d _ ∙ second))))
levels_kept (says_until c d e) x =
    let second = levels_comma e _ ∙ ap (λ l. set l 0 1) (levels_kept e (41 ∷ x)) in
    simp append_assoc (ap (drop 1) (levels_test c _ ∙ (levels_comma d _ ∙ ap (λ l. set l 0 1) (levels_kept d _ ∙ second))))
levels_kept (says_control {s = s} h d) x =
    simp append_assoc (ap (drop 1) (levels_number s _ ∙ (levels_comma d _ ∙ ap (λ l. set l 0 1) (levels_kept d (41 ∷ x)))))
levels_kept (says_local {s = s} h d) x =
    simp append_assoc (ap (drop 1) (levels_number s _ ∙ (levels_comma d _ ∙ ap (λ l. set l 0 1) (levels_kept d (41 ∷ x)))))
levels_kept (says_freezable {s = s} h d) x =
    simp append_assoc (ap (drop 1) (levels_number s _ ∙ (levels_comma d _ ∙ ap (λ l. set l 0 1) (levels_kept d (41 ∷ x)))))
levels_kept (says_if {v = n} h d e) x =
    let second = levels_comma e _ ∙ ap (λ l. set l 0 1) (levels_kept e (41 ∷ x)) in
    simp append_assoc (ap (drop 1) (levels_number n _ ∙ (levels_comma d _ ∙ ap (λ l. set l 0 1) (levels_kept d _ ∙ second))))
levels_kept (says_repeat_ext {v = v} {cap = n} h g d) x =
    let part = levels_comma d _ ∙ ap (λ l. set l 0 1) (levels_kept d (41 ∷ x)) in
    simp append_assoc (ap (drop 1) (levels_number v _ ∙ (levels_cap n _ ∙ ap (λ l. set l 0 1) part)))
