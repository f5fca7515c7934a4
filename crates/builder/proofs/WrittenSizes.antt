-- What a record says of itself in front of the records of its parts.
use Prim.Native.Nat.{ℕ, ◌+◌, ◌*◌, ◌≤◌, ◌<◌}
use mathlib.Core.Path.{◌≡◌, refl, ap, ◌∙◌}
use mathlib.Core.List.{List, ◌++◌}
use native.Mathlib.Nat.{div-add-mod', mul-le-mul}
use native.Mathlib.Omega.{arith}
use borrow.Author.Tests.{leb-true}
use lib.ListN.{length}
use lib.Seq.{get_or-append-add}
use Rattle.junior.specs.Configuration.{Config, Event, Not, And, Or}
use Rattle.junior.specs.Program.{Program, Parts, no_part, one_part, two_parts, parts, size, kind}
use Rattle.table.specs.Records.{byte, word}
use Rattle.table.specs.Spells.{weight}
use Rattle.table.proofs.Parts.{by_kind}
use Rattle.form.specs.Made.{nodes_from_parts, nodes_from, test_records}
use Rattle.form.proofs.MadeLength.{nodes_length, test_length}
use Rattle.builder.specs.Building.{joined_size}

-- its own size is written in it
size_in : (j : ℕ) {p : Program} (v : Parts p) (x : List ℕ) → word (nodes_from_parts j v ++ x) 4 ≡ size p
size_in j {p} (no_part f) x = div-add-mod' (size p) 256
size_in j {p} (one_part f q) x = div-add-mod' (size p) 256
size_in j {p} (two_parts f q r) x = div-add-mod' (size p) 256

pub size_there : (j : ℕ) (p : Program) (x : List ℕ) → word (nodes_from j p ++ x) 4 ≡ size p
unfolding nodes_from
size_there j p x = size_in j (parts p) x

pub weight_there : (c : Config) (x : List ℕ) → word (test_records c ++ x) 2 ≡ weight c
unfolding test_records weight
weight_there (Event s) x = refl
weight_there (Not c) x = div-add-mod' (1 + weight c) 256
weight_there (And c d) x = div-add-mod' (1 + weight c + weight d) 256
weight_there (Or c d) x = div-add-mod' (1 + weight c + weight d) 256

-- and its kind
kind_in : (j : ℕ) {p : Program} (v : Parts p) (x : List ℕ) → byte (nodes_from_parts j v ++ x) 0 ≡ kind p
kind_in j (no_part f) x = refl
kind_in j (one_part f q) x = refl
kind_in j (two_parts f q r) x = refl

pub kind_small : (j : ℕ) (p : Program) (x : List ℕ) → byte (nodes_from j p ++ x) 0 < 16
unfolding nodes_from
kind_small j p x =
    let l = leb-true (kind p) 15 (by_kind p).known_kind in
    omega (arith, kind_in j (parts p) x)

-- bytes behind the first n
pub word_behind : (a x : List ℕ) (n i : ℕ) → length a ≡ n → word (a ++ x) (n + i) ≡ word x i
word_behind a x n i e =
    let f : n + i + 1 ≡ length a + (i + 1) = omega arith in
    rw (f, ← e, get_or-append-add a x i 0, get_or-append-add a x (i + 1) 0)

-- of a stride and a size
pub product_small : (long n : ℕ) → long ≤ 6 → n < 65536 → long * n ≤ 393210
product_small long n h l = let b : n ≤ 65535 = omega arith in mul-le-mul {n₂ = 6} {m₂ = 65535} h b

-- the size of a record in front of two others
joined :
    (long at : ℕ) (a x : List ℕ) (n : ℕ)
    → length a ≡ long * n
    → word (a ++ x) at ≡ n
    → joined_size long at (a ++ x) ≡ 1 + n + word x at
unfolding joined_size
joined long at a x n e w = rw (w, word_behind a x (long * n) at e)

pub joined_nodes : (j : ℕ) (p : Program) (x : List ℕ) → joined_size 6 4 (nodes_from j p ++ x) ≡ 1 + size p + word x 4
joined_nodes j p x = joined 6 4 (nodes_from j p) x (size p) (nodes_length j p) (size_there j p x)

pub joined_tests : (c d : Config) (x : List ℕ) → joined_size 4 2 (test_records c ++ (test_records d ++ x)) ≡ 1 + weight c + weight d
joined_tests c d x =
    joined 4 2 (test_records c) (test_records d ++ x) (weight c) (test_length c) (weight_there c _)
    ∙ ap (λ n. 1 + weight c + n) (weight_there d x)
