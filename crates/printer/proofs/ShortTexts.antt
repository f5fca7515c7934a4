-- The text of a loaded table's program is so short that every place in it is a number of 64 bits.
use Prim.Native.Nat.{ℕ, zero, suc, ◌+◌, ◌*◌, ◌/◌, ◌%◌, ◌≤◌}
use mathlib.Core.Bool.{Bool, true, false, cond, ◌&&◌}
use mathlib.Core.List.{List, [], ◌++◌}
use native.Mathlib.Omega.{arith}
use lib.ListN.{length, length-append}
use lib.Dec.{eqb, leb}
use Rattle.letters.specs.Decimal.{decimal}
use Rattle.letters.specs.Text.{bytes}
use Rattle.letters.proofs.Decimal.{decimal_length}
use Rattle.junior.specs.Program.{Program, size, kind}
use Rattle.table.specs.Records.{argument_at, second_child}
use Rattle.table.specs.Inside.{Placed}
use Rattle.table.proofs.Parts.{of_none, of_one, of_two}
use Rattle.table.proofs.Tree.{Tree, leaf, one, two, tree, spelled, written, size_pos}
use Rattle.table.proofs.TestParts.{ends_inside}
use Rattle.table.proofs.Loaded.{limit_few, fine_at}
use Rattle.form.specs.Spelling.{spell}
use Rattle.form.specs.Inside.Rows.{inside}
use Rattle.printer.specs.Printing.{argument, linked, link, head, rest, Fits}
use Rattle.printer.proofs.SpelledBy.{spelled_by, rest_none, rest_one, rest_two}
use Rattle.printer.proofs.ShortTests.{test_short}
use Rattle.printer.proofs.ArgumentsIn.{Argued, no_argument, a_number, a_cap, a_test, argued, test_at}
use Rattle.printer.proofs.ArgumentsIn.{name_short}

linked_few : (x y : ℕ) → length (linked x y) ≤ 2
unfolding linked
linked_few x y = go (leb 134 x && eqb y 44)
  where
    go : (b : Bool) → length (cond b (bytes ", ") []) ≤ 2
    go true = omega arith
    go false = omega arith

link_few : (k : ℕ) → length (link k) ≤ 2
unfolding link
link_few k = linked_few (inside k 0) (inside k 1)

argument_few : {t : List ℕ} {i : ℕ} {p : Program} → Placed t i p → length (argument p) ≤ 14336
argument_few {t} {i} {p} h = go (argued t i p h.spelled)
  where
    go : {a b c : Bool} → Argued t i p a b c → length (argument p) ≤ 14336
    go (no_argument e) = rw e (omega arith)
    go (a_number e) =
        let n = argument_at t i in
        rw e (omega (arith, decimal_length 4 n (omega (arith, (fine_at h).argument_below, limit_few h.loaded (kind p)))))
    go (a_cap e) =
        let n = argument_at t i in
        let l : n ≤ 65535 = omega (arith, (fine_at h).argument_below, limit_few h.loaded (kind p)) in
        let first = decimal_length 4 (n % 16) (omega arith) in
        let second = decimal_length 4 (n / 16) (omega arith) in
        rw e (omega (arith, length-append (decimal (n % 16)) (bytes ", " ++ decimal (n / 16))))
    go (a_test d c l e) =
        let x = test_at h l d c in
        rw e (omega (arith, ends_inside h.loaded.configurations_good d x, test_short h.loaded d x, h.loaded.framed.m_most))

pub head_few : {t : List ℕ} {i : ℕ} {p : Program} → Placed t i p → length (head p) ≤ 14360
head_few {t} {i} {p} h =
    simp length-append (omega (arith, name_short p, argument_few h, link_few (kind p)))

short : (n : ℕ) {t : List ℕ} {i : ℕ} {p : Program} → Placed t i p → size p ≤ n → length (spell p) ≤ 14400 * size p
short zero {p = p} h l = absurd (omega (arith, size_pos p))
short (suc n) {t} {i} {p} h l =
    rw (spelled_by p, length-append (head p) (rest p)) (go (λ j q d m. short n d m) (tree t i p h.spelled))
  where
    go : ((j : ℕ) (q : Program) → Placed t j q → size q ≤ n → length (spell q) ≤ 14400 * size q) → {m : ℕ} → Tree t i m p
        → length (head p) + length (rest p) ≤ 14400 * size p
    go below (leaf h' f) = rw (rest_none f) (omega (arith, head_few h, (of_none f).size_is))
    go below (one {q = q} h' f x) =
        let s = (of_one f).size_is in
        let d : Placed t (i + 1) q = record { loaded = h.loaded; spelled = spelled x; inside = omega (arith, h.inside) } in
        rw (rest_one f) (omega (arith, length-append (spell q) (bytes ")"), head_few h, below (i + 1) q d (omega arith)))
    go below (two {q = q} {r = r} h' f x y) =
        let s = (of_two f).size_is in
        let d : Placed t (i + 1) q = record { loaded = h.loaded; spelled = spelled x; inside = omega (arith, h.inside) } in
        let e : Placed t (second_child t i) r =
        record { loaded = h.loaded; spelled = spelled y; inside = omega (arith, h.inside, written t (i + 1) q (spelled x)) } in
        let first = below (i + 1) q d (omega (arith, size_pos r)) in
        let second = below (second_child t i) r e (omega (arith, size_pos q)) in
        let comma = length-append (spell q) (bytes ", " ++ (spell r ++ bytes ")")) in
        rw (rest_two f) (omega (arith, comma, length-append (spell r) (bytes ")"), head_few h, first, second))

pub whole_fits : {t : List ℕ} {p : Program} → Placed t 0 p → Fits 0 (spell p)
whole_fits {p = p} h =
    let l : size p ≤ size p = omega arith in
    record { below = omega (arith, short (size p) h l, h.inside, h.loaded.framed.n_most) }
