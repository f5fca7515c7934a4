-- Brackets nest no deeper than a program has nodes and configurations.
use Prim.Native.Nat.{ℕ, ◌+◌, ◌≤◌, ◌<◌}
use mathlib.Core.Bool.{Bool, true, false, cond}
use mathlib.Core.Path.{◌≡◌, sym, ap, ◌∙◌}
use mathlib.Core.List.{List, [], ◌∷◌, ◌++◌, append_assoc, append-nil}
use native.Mathlib.Omega.{arith}
use borrow.Author.Tests.{ne_eqb}
use lib.Dec.{eqb}
use lib.ListN.{length, set, take, drop, length-set, length-drop, take-append-drop}
use Rattle.junior.specs.Configuration.{Config}
use Rattle.junior.specs.Program.{Program, size}
use Rattle.table.specs.Spells.{weight}
use Rattle.letters.specs.Decimal.{decimal}
use Rattle.letters.specs.Text.{bytes}
use Rattle.form.specs.Form.{SaysTest, says_event, says_not, says_and, says_or, Piece, whole, later_seq}
use Rattle.form.specs.Form.{later_par, Says}
use Rattle.form.specs.Form.{says_nothing, says_stop, says_atom, says_seq, last_of_seq, more_of_seq, says_par}
use Rattle.form.specs.Form.{last_of_par}
use Rattle.form.specs.Form.{more_of_par, says_loop, says_repeat, says_generate, says_await, says_when}
use Rattle.form.specs.Form.{says_until}
use Rattle.form.specs.Form.{says_control, says_local, says_freezable, says_if, says_repeat_ext}
use Rattle.form.specs.Made.{tests}
use Rattle.form.specs.Inside.Rows.{pair_of}
use Rattle.builder.specs.Building.{relevel, levels}
use Rattle.builder.proofs.ReadDigits.{past_decimal}

-- how many brackets are closed in a text
closes : List ℕ → ℕ
closes [] = 0
closes (b ∷ w) = cond (eqb b 41) 1 0 + closes w

closes_append : (u v : List ℕ) → closes (u ++ v) ≡ closes u + closes v
unfolding closes
closes_append [] v = omega arith
closes_append (b ∷ u) v = let e = closes_append u v in omega arith

closes_digit : (d : ℕ) (x : List ℕ) → d < 10 → closes ((48 + d) ∷ x) ≡ closes x
unfolding closes
closes_digit d x h = rw (ne_eqb (48 + d) 41 (λ e. omega arith)) (omega arith)

closes_number : (n : ℕ) (x : List ℕ) → closes (decimal n ++ x) ≡ closes x
closes_number = past_decimal closes closes_digit

no_longer : (n : ℕ) (b : Bool) (l k : List ℕ) → length l ≤ n → length k ≤ n → length (cond b l k) ≤ n
no_longer n true l k h g = h
no_longer n false l k h g = g

one_more : (b : ℕ) (w l : List ℕ) → length (relevel b w l) ≤ cond (eqb b 41) 1 0 + length l
unfolding relevel
one_more b w l = go (eqb b 41)
  where
    go :
        (x : Bool)
        → length (cond (eqb b 32) (cond (eqb (pair_of w) 0) l (set l 0 (pair_of w)))
        (cond (eqb b 40) (drop 1 l) (cond x (0 ∷ l) (cond (eqb b 44) (set l 0 1) l))))
        ≤ cond x 1 0 + length l
    go x =
        let n : ℕ = cond x 1 0 + length l in
        let same : length l ≤ n = omega arith in
        let stored : (k : ℕ) → length (set l 0 k) ≤ n = λ k. rw (length-set l 0 k) same in
        let fewer : length (drop 1 l) ≤ n = rw (length-drop 1 l) (omega arith) in
        no_longer n (eqb b 32) (cond (eqb (pair_of w) 0) l (set l 0 (pair_of w))) (cond (eqb b 40) (drop 1 l) (cond x (0 ∷ l) (cond (eqb b 44) (set l 0 1) l)))
        (no_longer n (eqb (pair_of w) 0) l (set l 0 (pair_of w)) same (stored (pair_of w)))
        (no_longer n (eqb b 40) (drop 1 l) (cond x (0 ∷ l) (cond (eqb b 44) (set l 0 1) l)) fewer (closing x))
      where
        closing : (y : Bool) → length (cond y (0 ∷ l) (cond (eqb b 44) (set l 0 1) l)) ≤ cond y 1 0 + length l
        closing true = omega arith
        closing false = no_longer (0 + length l) (eqb b 44) (set l 0 1) l (rw (length-set l 0 1) (omega arith)) (omega arith)

levels_closes : (w : List ℕ) → length (levels w) ≤ closes w
unfolding levels closes
levels_closes [] = omega arith
levels_closes (b ∷ w) = let h = one_more b w (levels w) in let k = levels_closes w in omega arith

closes_test : {c : Config} {u : List ℕ} → SaysTest c u → (x : List ℕ) → closes (u ++ x) ≤ weight c + closes x
unfolding closes weight
closes_test (says_event {s = s} h) x = omega (arith, closes_number s x)
closes_test (says_not d) x = simp append_assoc (omega (arith, closes_test d (41 ∷ x)))
closes_test (says_and {v = v} d e) x = simp append_assoc (omega (arith, closes_test d (bytes " and " ++ (v ++ (41 ∷ x))), closes_test e (41 ∷ x)))
closes_test (says_or {v = v} d e) x = simp append_assoc (omega (arith, closes_test d (bytes " or " ++ (v ++ (41 ∷ x))), closes_test e (41 ∷ x)))

abbrev records : Piece → ℕ
records (whole p) = size p + tests p
records (later_seq q) = 1 + size q + tests q
records (later_par q) = 1 + size q + tests q

closes_piece : {s : Piece} {u : List ℕ} → Says s u → (x : List ℕ) → closes (u ++ x) ≤ records s + closes x
unfolding closes size tests
closes_piece says_nothing x = omega arith
closes_piece says_stop x = omega arith
closes_piece (says_atom {a = n} h) x = simp append_assoc (omega (arith, closes_number n (41 ∷ x)))
closes_piece (says_seq {v = v} d e) x = simp append_assoc (omega (arith, closes_piece d (44 ∷ 32 ∷ (v ++ x)), closes_piece e x))
closes_piece (last_of_seq d) x = simp append_assoc (omega (arith, closes_piece d (41 ∷ x)))
closes_piece (more_of_seq {v = v} d e) x = simp append_assoc (omega (arith, closes_piece d (44 ∷ 32 ∷ (v ++ x)), closes_piece e x))
closes_piece (says_par {v = v} d e) x = simp append_assoc (omega (arith, closes_piece d (44 ∷ 32 ∷ (v ++ x)), closes_piece e x))
closes_piece (last_of_par d) x = simp append_assoc (omega (arith, closes_piece d (41 ∷ x)))
closes_piece (more_of_par {v = v} d e) x = simp append_assoc (omega (arith, closes_piece d (44 ∷ 32 ∷ (v ++ x)), closes_piece e x))
closes_piece (says_loop d) x = simp append_assoc (omega (arith, closes_piece d (41 ∷ x)))
closes_piece (says_repeat {n = n} {u = u} h d) x =
    simp append_assoc (omega (arith, closes_number n (44 ∷ 32 ∷ (u ++ (41 ∷ x))), closes_piece d (41 ∷ x)))
closes_piece (says_generate {s = n} h) x = simp append_assoc (omega (arith, closes_number n (41 ∷ x)))
closes_piece (says_await c) x = simp append_assoc (omega (arith, closes_test c (41 ∷ x)))
closes_piece (says_when {v = v} {w = w} c d e) x =
    simp append_assoc
    (omega (arith, closes_test c (44 ∷ 32 ∷ (v ++ (44 ∷ 32 ∷ (w ++ (41 ∷ x))))), closes_piece d (44 ∷ 32 ∷ (w ++ (41 ∷ x))), closes_piece e (41 ∷ x)))
closes_piece (says_until {v = v} {w = w} c d e) x =
    simp append_assoc
    (omega (arith, closes_test c (44 ∷ 32 ∷ (v ++ (44 ∷ 32 ∷ (w ++ (41 ∷ x))))), closes_piece d (44 ∷ 32 ∷ (w ++ (41 ∷ x))), closes_piece e (41 ∷ x)))
closes_piece (says_control {s = n} {u = u} h d) x =
    simp append_assoc (omega (arith, closes_number n (44 ∷ 32 ∷ (u ++ (41 ∷ x))), closes_piece d (41 ∷ x)))
closes_piece (says_local {s = n} {u = u} h d) x =
    simp append_assoc (omega (arith, closes_number n (44 ∷ 32 ∷ (u ++ (41 ∷ x))), closes_piece d (41 ∷ x)))
closes_piece (says_freezable {s = n} {u = u} h d) x =
    simp append_assoc (omega (arith, closes_number n (44 ∷ 32 ∷ (u ++ (41 ∷ x))), closes_piece d (41 ∷ x)))
closes_piece (says_if {v = n} {u = u} {w = w} h d e) x =
    simp append_assoc
    (omega (arith, closes_number n (44 ∷ 32 ∷ (u ++ (44 ∷ 32 ∷ (w ++ (41 ∷ x))))), closes_piece d (44 ∷ 32 ∷ (w ++ (41 ∷ x))), closes_piece e (41 ∷ x)))
closes_piece (says_repeat_ext {v = v} {cap = n} {u = u} h g d) x =
    simp append_assoc
    (omega (
      arith,
      closes_number v (44 ∷ 32 ∷ (decimal n ++ (44 ∷ 32 ∷ (u ++ (41 ∷ x))))),
      closes_number n (44 ∷ 32 ∷ (u ++ (41 ∷ x))),
      closes_piece d (41 ∷ x),
    ))

pub depth_at :
    {p : Program} {text : List ℕ}
    → Says (whole p) text
    → (i : ℕ)
    → length (levels (drop i text)) ≤ size p + tests p
unfolding closes
depth_at {p} {text} d i =
    let a = levels_closes (drop i text) in
    let b : closes text ≡ closes (take i text) + closes (drop i text) = sym (ap closes (take-append-drop i text)) ∙ closes_append (take i text) (drop i text) in
    let c : closes (text ++ []) ≤ size p + tests p + 0 = closes_piece d [] in
    let e : closes (text ++ []) ≡ closes text = ap closes (append-nil text) in
    omega arith
