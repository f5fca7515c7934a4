-- Reading a program places its records in front of those that are placed.
use Prim.Native.Nat.{ℕ, ◌+◌, ◌*◌, ◌/◌, ◌≤◌, ◌<◌}
use mathlib.Core.Bool.{Bool, true, false, cond}
use mathlib.Core.Path.{◌≡◌, refl, ap, ◌∙◌}
use mathlib.Core.List.{List, [], ◌∷◌, ◌++◌, append_assoc, append-nil}
use native.Mathlib.Nat.{add-zero}
use native.Mathlib.Omega.{arith}
use lib.Dec.{ltb}
use lib.ListN.{drop, set}
use borrow.Author.Tests.{ltb-true, ltb-false}
use Rattle.events.specs.Members.{places}
use Rattle.junior.specs.Configuration.{Config}
use Rattle.junior.specs.Program.{Program, Nothing, Stop, Atom, Seq, Par, Loop, Repeat, Generate, Await, When, Until}
use Rattle.junior.specs.Program.{Control, Local, Freezable, If, size, kind}
use Rattle.junior.specs.Values.{exactly, asked}
use Rattle.table.specs.Records.{byte, word}
use Rattle.table.specs.Spells.{weight}
use Rattle.letters.specs.Decimal.{decimal}
use Rattle.letters.specs.Text.{bytes}
use Rattle.letters.proofs.Decimal.{decimal_digit, decimal_more}
use Rattle.form.specs.Names.{opening}
use Rattle.form.specs.Form.{SaysTest, Piece, whole, later_seq, later_par, Says}
use Rattle.form.specs.Form.{says_nothing, says_stop, says_atom, says_seq, last_of_seq, more_of_seq, says_par}
use Rattle.form.specs.Form.{last_of_par}
use Rattle.form.specs.Form.{more_of_par, says_loop, says_repeat, says_generate, says_await, says_when}
use Rattle.form.specs.Form.{says_until}
use Rattle.form.specs.Form.{says_control, says_local, says_freezable, says_if, says_repeat_ext}
use Rattle.form.specs.Inside.Machine.{is_digit_byte}
use Rattle.form.specs.Made.{big, tests, nodes_from, test_records, tests_of}
use Rattle.form.proofs.Digits.{digit_is}
use Rattle.builder.specs.Building.{SoFar, number, joint, row, branches, choice, own_size, capped_number, capped, asking, single, form, levels}
use Rattle.builder.specs.Building.{placed}
use Rattle.builder.proofs.ReadDigits.{begins_decimal, number_decimal, number_ends}
use Rattle.builder.proofs.FirstBytes.{begins_test, begins}
use Rattle.builder.proofs.LevelsKept.{levels_number, levels_close, levels_test, levels_cap, levels_kept}
use Rattle.builder.proofs.WrittenSizes.{size_there}
use Rattle.builder.proofs.PlacedByConfigurations.{made, small_mod, over_test, placed_number, reads_close, test_placed}
use Rattle.builder.proofs.PlacedByNames.{over, Enclosed, reads, comma_last, comma_more, comma_cap, singled, capped_placed, Joined, joined_last}
use Rattle.builder.proofs.PlacedByNames.{joint_is, Row, seq_row}
use Rattle.builder.proofs.PlacedByNames.{par_row, joined_more, row_placed, await_placed, branches_placed, choice_placed}

-- equal by parts
alike : {a b t u : List ℕ} {j l : ℕ} → a ≡ b → t ≡ u → j ≡ l → made a t j ≡ made b u l
alike e f g = rw (e, f, g)

-- the bracket of a name is closed behind this
closed : (y x : List ℕ) → levels y ≡ 0 ∷ levels x → byte y 0 < 110 → Enclosed y
closed y x e b = record { level = 0; outer = levels x; levels_are = e; low = omega arith; letter = b }

-- and there is a comma in it
parted : (y x : List ℕ) → levels y ≡ 1 ∷ levels x → byte y 0 < 110 → Enclosed y
parted y x e b = record { level = 1; outer = levels x; levels_are = e; low = omega arith; letter = b }

-- the number that a bracket begins with
given : (a : ℕ) (z : List ℕ) → a ≤ 65535 → is_digit_byte (byte z 0) ≡ false → number 0 (decimal a ++ z) ≡ a
given a z h e = number_decimal a z h ∙ number_ends a z e

before : (a : ℕ) (z : List ℕ) → byte (decimal a ++ z) 0 < 110
before a z = let b = (digit_is (byte (decimal a ++ z) 0) (begins_decimal a z)).1 in omega arith

-- a comma before the last program of a bracket
last_levels :
    {p : Program} {u : List ℕ}
    → Says (whole p) u
    → (x : List ℕ)
    → levels (44 ∷ 32 ∷ (u ++ (41 ∷ x))) ≡ 1 ∷ levels x
last_levels d x = simp append_assoc at (levels_kept (last_of_seq d) x)

end_levels : {p : Program} {u : List ℕ} → Says (whole p) u → (x : List ℕ) → levels (u ++ (41 ∷ x)) ≡ 0 ∷ levels x
end_levels d x = levels_kept d (41 ∷ x) ∙ levels_close x

-- the records of a When and an Until, part by part
module _ (c : Config) (p q : Program) (j : ℕ) (s : SoFar) where
  abbrev by_parts : ℕ → SoFar
  by_parts k =
      made
      (k ∷ 0 ∷ (big j ++ (big (1 + size p + size q) ++ (nodes_from (j + weight c) p ++ (nodes_from (j + weight c + tests p) q ++ s.nodes)))))
      (test_records c ++ (tests_of p ++ (tests_of q ++ s.tests)))
      j

  over_when : by_parts 9 ≡ over (When c p q) j s
  unfolding size tests nodes_from tests_of kind
  over_when = simp append_assoc

  over_until : by_parts 10 ≡ over (Until c p q) j s
  unfolding size tests nodes_from tests_of kind
  over_until = simp append_assoc

-- the same of an If
over_if : (v : ℕ) (p q : Program) (j : ℕ) (s : SoFar)
    → made (14 ∷ 0 ∷ (big v ++ (big (1 + size p + size q) ++ (nodes_from j p ++ (nodes_from (j + tests p) q ++ s.nodes)))))
    (tests_of p ++ (tests_of q ++ s.tests)) j ≡ over (If v p q) j s
unfolding size tests nodes_from tests_of kind
over_if v p q j s = simp append_assoc

-- the text behind a value's number, a comma and a blank
behind_value : (v : ℕ) (r : List ℕ) → v ≤ 15 → drop (cond (ltb v 10) 3 4) (decimal v ++ (44 ∷ 32 ∷ r)) ≡ r
behind_value v r h = go (ltb v 10) refl
  where
    go : (b : Bool) → ltb v 10 ≡ b → drop (cond b 3 4) (decimal v ++ (44 ∷ 32 ∷ r)) ≡ r
    go true e = rw (decimal_digit v (ltb-true v 10 e))
    go false e =
        let l = ltb-false v 10 e in
        let one : v / 10 ≡ 1 = omega arith in
        rw (decimal_more v l, one, decimal_digit 1 (omega arith))

-- the two numbers of a RepeatExt
capped_number_lem : (v n : ℕ) (z : List ℕ) → v ≤ 15 → n ≤ 255 → is_digit_byte (byte z 0) ≡ false
    → capped_number (decimal v ++ (44 ∷ 32 ∷ (decimal n ++ z))) ≡ n * 16 + v
unfolding capped_number
capped_number_lem v n z h g e =
    let first : number 0 (decimal v ++ (44 ∷ 32 ∷ (decimal n ++ z))) ≡ v = given v (44 ∷ 32 ∷ (decimal n ++ z)) (omega arith) refl in
    rw (first, behind_value v (decimal n ++ z) h, given n z (omega arith) e, small_mod n 256 (omega arith), small_mod v 16 (omega arith))

module _ (m : ℕ) where
  -- a form without parts, its number in the bracket
  leaf : (k a j : ℕ) (x : List ℕ) → a ≤ 65535 → (placed m x).left ≡ j + 0 → ((l : List ℕ) → own_size k l ≡ 1)
      → single k (decimal a ++ (41 ∷ x)) (placed m (decimal a ++ (41 ∷ x))) ≡ made (k ∷ 0 ∷ (big a ++ (big 1 ++ (placed m x).nodes))) (placed m x).tests j
  leaf k a j x h l o =
      let y : List ℕ = decimal a ++ (41 ∷ x) in
      ap (single k y) (placed_number m a (41 ∷ x) ∙ reads_close m x)
      ∙ (singled k a 1 y (placed m x) (given a (41 ∷ x) h refl) h (o (placed m x).nodes) (omega arith)
      ∙ alike refl refl (l ∙ add-zero j))

  -- a form with one part, a number before it in the bracket
  numbered :
      (k a j : ℕ) {p : Program} {u : List ℕ} (d : Says (whole p) u) (x : List ℕ)
      → a ≤ 65535
      → 1 + size p ≤ 65535
      → ((l : List ℕ) → own_size k l ≡ 1 + word l 4)
      → placed m (u ++ (41 ∷ x)) ≡ over p j (placed m x)
      → single k (decimal a ++ (44 ∷ 32 ∷ (u ++ (41 ∷ x)))) (placed m (decimal a ++ (44 ∷ 32 ∷ (u ++ (41 ∷ x)))))
      ≡ made (k ∷ 0 ∷ (big a ++ (big (1 + size p) ++ (nodes_from j p ++ (placed m x).nodes)))) (tests_of p ++ (placed m x).tests) j
  numbered k a j {p} {u} d x h n o e =
      let z : List ℕ = 44 ∷ 32 ∷ (u ++ (41 ∷ x)) in
      let s : SoFar = over p j (placed m x) in
      ap (single k (decimal a ++ z)) (placed_number m a z ∙ (comma_last m (u ++ (41 ∷ x)) (levels x) (begins d _) (end_levels d x) ∙ e))
      ∙ singled k a (1 + size p) (decimal a ++ z) s (given a z h refl) h (o s.nodes ∙ ap (λ w. 1 + w) (size_there j p (placed m x).nodes)) n

  enclosed_number : (a : ℕ) (x : List ℕ) → Enclosed (decimal a ++ (41 ∷ x))
  enclosed_number a x = closed _ x (levels_number a (41 ∷ x) ∙ levels_close x) (before a (41 ∷ x))

  enclosed_numbered : (a : ℕ) {p : Program} {u : List ℕ} (d : Says (whole p) u) (x : List ℕ) → Enclosed (decimal a ++ (44 ∷ 32 ∷ (u ++ (41 ∷ x))))
  enclosed_numbered a {u = u} d x = parted _ x (levels_number a _ ∙ last_levels d x) (before a (44 ∷ 32 ∷ (u ++ (41 ∷ x))))

  -- what a program places in front of what is placed
  abbrev Whole : Program → List ℕ → Type 0
  Whole p u =
      (x : List ℕ) (j : ℕ)
      → size p ≤ 65535
      → j + tests p ≤ 65535
      → (placed m x).left ≡ j + tests p
      → placed m (u ++ x) ≡ over p j (placed m x)

  -- what the parts of a row of kind k place, with the comma before them
  abbrev Later : ℕ → Program → List ℕ → Type 0
  Later k q v =
      (x : List ℕ) (j : ℕ)
      → size q ≤ 65535
      → j + tests q ≤ 65535
      → (placed m x).left ≡ j + tests q
      → Joined k q j (placed m x) (placed m (44 ∷ 32 ∷ (v ++ x)))

  abbrev Outcome : Piece → List ℕ → Type 0
  Outcome (whole p) u = Whole p u
  Outcome (later_seq q) v = Later 3 q v
  Outcome (later_par q) v = Later 4 q v

  -- before a closing bracket
  at_close :
      (p : Program) (u x : List ℕ) (j : ℕ)
      → Whole p u
      → size p ≤ 65535
      → j + tests p ≤ 65535
      → (placed m x).left ≡ j + tests p
      → placed m (u ++ (41 ∷ x)) ≡ over p j (placed m x)
  at_close p u x j f a b h = f (41 ∷ x) j a b (ap (λ s. s.left) (reads_close m x) ∙ h) ∙ ap (over p j) (reads_close m x)

  last_placed : (k : ℕ) {q : Program} {u : List ℕ} → Says (whole q) u → Whole q u → Later k q (u ++ (41 ∷ []))
  last_placed k {q} {u} d f x j a b h =
      rw (append_assoc u (41 ∷ []) x, comma_last m (u ++ (41 ∷ x)) (levels x) (begins d _) (end_levels d x), at_close q u x j f a b h)
      (joined_last k q j (placed m x))

  module _
      {k : ℕ} {p q r : Program} {u : List ℕ} (o : Row k p q r) (d : Says (whole p) u)
      (v : List ℕ) (l : (x : List ℕ) → levels (44 ∷ 32 ∷ (v ++ x)) ≡ 1 ∷ levels x)
      (f : Whole p u) (g : Later k q v) where
    first_placed : (x : List ℕ) (j : ℕ) → size r ≤ 65535 → j + tests r ≤ 65535 → (placed m x).left ≡ j + tests r
        → Joined k q (j + tests p) (placed m x) (placed m (44 ∷ 32 ∷ (v ++ x)))
    first_placed x j a b h =
        g x (j + tests p) (omega arith) (omega arith) (h ∙ omega arith)

    starts : (x : List ℕ) (j : ℕ) → size r ≤ 65535 → j + tests r ≤ 65535 → (placed m x).left ≡ j + tests r
        → placed m (u ++ (44 ∷ 32 ∷ (v ++ x))) ≡ over p j (placed m (44 ∷ 32 ∷ (v ++ x)))
    starts x j a b h =
        f (44 ∷ 32 ∷ (v ++ x)) j (omega arith) (omega arith) (ap (λ s. s.left) (first_placed x j a b h).placed_is)

    -- behind the name of the row
    row_whole : (x : List ℕ) (j : ℕ) → size r ≤ 65535 → j + tests r ≤ 65535 → (placed m x).left ≡ j + tests r
        → row k (placed m (u ++ (44 ∷ 32 ∷ (v ++ x)))) ≡ over r j (placed m x)
    row_whole x j a b h = ap (row k) (starts x j a b h) ∙ row_placed o j (first_placed x j a b h) a

    -- behind a comma
    more_placed : Later k r (u ++ (44 ∷ 32 ∷ v))
    more_placed x j a b h =
        rw (append_assoc u (44 ∷ 32 ∷ v) x, comma_more m (u ++ (44 ∷ 32 ∷ (v ++ x))) (levels x) (begins d _) (levels_kept d _ ∙ l x), starts x j a b h)
        (joined_more o j (first_placed x j a b h) a)

    enclosed_row : (x : List ℕ) → Enclosed (u ++ (44 ∷ 32 ∷ (v ++ x)))
    enclosed_row x =
        let c = begins d (44 ∷ 32 ∷ (v ++ x)) in
        parted _ x (levels_kept d _ ∙ l x) (omega arith)

  -- two programs, a comma before each
  two_placed :
      {p q : Program} {v w : List ℕ}
      → Says (whole p) v
      → Says (whole q) w
      → Whole p v
      → Whole q w
      → (x : List ℕ) (j : ℕ)
      → 1 + size p + size q ≤ 65535
      → j + (tests p + tests q) ≤ 65535
      → (placed m x).left ≡ j + (tests p + tests q)
      → placed m (44 ∷ 32 ∷ (v ++ (44 ∷ 32 ∷ (w ++ (41 ∷ x)))))
      ≡ made (255 ∷ 0 ∷ 0 ∷ 0 ∷ (big (1 + size p + size q) ++ (nodes_from j p ++ (nodes_from (j + tests p) q ++ (placed m x).nodes))))
      (tests_of p ++ (tests_of q ++ (placed m x).tests)) j
  two_placed {p} {q} {v} {w} d e f g x j n b h =
      let zq : List ℕ = 44 ∷ 32 ∷ (w ++ (41 ∷ x)) in
      let jq : ℕ = j + tests p in
      let s : SoFar = placed m x in
      let second : placed m zq ≡ over q jq s =
      comma_last m (w ++ (41 ∷ x)) (levels x) (begins e _) (end_levels e x) ∙ at_close q w x jq g (omega arith) (omega arith) (h ∙ omega arith) in
      let first : placed m (v ++ zq) ≡ over p j (over q jq s) =
      f zq j (omega arith) (omega arith) (ap (λ r. r.left) second) ∙ ap (over p j) second in
      comma_more m (v ++ zq) (levels x) (begins d _) (levels_kept d zq ∙ last_levels e x)
      ∙ (ap joint first ∙ joint_is j (size q) p (nodes_from jq q ++ s.nodes) (tests_of p ++ (tests_of q ++ s.tests)) j (size_there jq q s.nodes) n)

  -- a test and two programs
  chosen :
      (k : ℕ) {c : Config} {p q : Program} {u v w : List ℕ}
      → SaysTest c u
      → Says (whole p) v
      → Says (whole q) w
      → Outcome (whole p) v
      → Outcome (whole q) w
      → (x : List ℕ) (j : ℕ)
      → 1 + size p + size q ≤ 65535
      → j + (weight c + (tests p + tests q)) ≤ 65535
      → (placed m x).left ≡ j + (weight c + (tests p + tests q))
      → (y : List ℕ)
      → y ≡ u ++ (44 ∷ 32 ∷ (v ++ (44 ∷ 32 ∷ (w ++ (41 ∷ x)))))
      → choice k y (placed m y) ≡ by_parts c p q j (placed m x) k
  chosen k {c} {p} {q} {u} {v} {w} t d e f g x j n b h y is =
      let zq : List ℕ = 44 ∷ 32 ∷ (w ++ (41 ∷ x)) in
      let zp : List ℕ = 44 ∷ 32 ∷ (v ++ zq) in
      let jp : ℕ = j + weight c in
      let jq : ℕ = j + weight c + tests p in
      let s : SoFar = placed m x in
      let both = two_placed d e f g x jp n (omega arith) (h ∙ omega arith) in
      let tested = test_placed m t zp j (omega arith) refl (ap (λ r. r.left) both) ∙ ap (over_test c j) both in
      rw is (choice_placed k c j (1 + size p + size q) jp jq p q s.nodes (tests_of p ++ (tests_of q ++ s.tests)) (u ++ zp) jp
      (placed m (u ++ zp)) tested (omega arith))

  enclosed_chosen :
      {c : Config} {p q : Program} {u v w : List ℕ}
      → SaysTest c u
      → Says (whole p) v
      → Says (whole q) w
      → (x : List ℕ)
      → Enclosed (u ++ (44 ∷ 32 ∷ (v ++ (44 ∷ 32 ∷ (w ++ (41 ∷ x))))))
  enclosed_chosen {v = v} {w = w} t d e x =
      let b = begins_test t (44 ∷ 32 ∷ (v ++ (44 ∷ 32 ∷ (w ++ (41 ∷ x))))) in
      parted _ x (levels_test t _ ∙ (simp append_assoc at (levels_kept (more_of_seq d (last_of_seq e)) x))) (omega arith)

  nothing_placed : Whole Nothing (bytes "Jr.Nothing()")
  unfolding opening form own_size size tests nodes_from tests_of kind
  nothing_placed x j a b h =
      reads m (41 ∷ x) (closed _ x (levels_close x) (omega arith)) 0 (omega arith)
      ∙ (ap (single 0 (41 ∷ x)) (reads_close m x)
      ∙ (singled 0 0 1 (41 ∷ x) (placed m x) (number_ends 0 (41 ∷ x) refl) (omega arith) refl (omega arith) ∙ alike refl refl (h ∙ add-zero j)))

  stop_placed : Whole Stop (bytes "Jr.Stop()")
  unfolding opening form own_size size tests nodes_from tests_of kind
  stop_placed x j a b h =
      reads m (41 ∷ x) (closed _ x (levels_close x) (omega arith)) 1 (omega arith)
      ∙ (ap (single 1 (41 ∷ x)) (reads_close m x)
      ∙ (singled 1 0 1 (41 ∷ x) (placed m x) (number_ends 0 (41 ∷ x) refl) (omega arith) refl (omega arith) ∙ alike refl refl (h ∙ add-zero j)))

  atom_placed : (n : ℕ) → n ≤ 65535 → Whole (Atom n) (bytes "Jr.Atom(" ++ (decimal n ++ bytes ")"))
  unfolding opening form own_size size tests nodes_from tests_of kind
  atom_placed n l x j a b h =
      rw (append_assoc (decimal n) (41 ∷ []) x) (reads m _ (enclosed_number n x) 2 (omega arith) ∙ leaf 2 n j x l h (λ t. refl))

  generate_placed : (n : ℕ) → n < places → Whole (Generate n) (bytes "Jr.Generate(" ++ (decimal n ++ bytes ")"))
  unfolding opening form own_size size tests nodes_from tests_of kind
  generate_placed n l x j a b h =
      rw (append_assoc (decimal n) (41 ∷ []) x) (reads m _ (enclosed_number n x) 7 (omega arith) ∙ leaf 7 n j x (omega arith) h (λ t. refl))

  seq_placed : {p q : Program} {u v : List ℕ} → Says (whole p) u → Says (later_seq q) v → Whole p u → Later 3 q v
      → Whole (Seq p q) (bytes "Jr.Seq(" ++ (u ++ (bytes ", " ++ v)))
  unfolding opening form
  seq_placed {p} {q} {u} {v} d e f g x j a b h =
      rw (append_assoc u (44 ∷ 32 ∷ v) x)
      (reads m _ (enclosed_row (seq_row p q) d v (levels_kept e) f g x) 3 (omega arith) ∙ row_whole (seq_row p q) d v (levels_kept e) f g x j a b h)

  par_placed : {p q : Program} {u v : List ℕ} → Says (whole p) u → Says (later_par q) v → Whole p u → Later 4 q v
      → Whole (Par p q) (bytes "Jr.Par(" ++ (u ++ (bytes ", " ++ v)))
  unfolding opening form
  par_placed {p} {q} {u} {v} d e f g x j a b h =
      rw (append_assoc u (44 ∷ 32 ∷ v) x)
      (reads m _ (enclosed_row (par_row p q) d v (levels_kept e) f g x) 4 (omega arith) ∙ row_whole (par_row p q) d v (levels_kept e) f g x j a b h)

  loop_placed :
      {p : Program} {u : List ℕ}
      → Says (whole p) u
      → Whole p u
      → Whole (Loop p) (bytes "Jr.Loop(" ++ (u ++ bytes ")"))
  unfolding opening form own_size size tests nodes_from tests_of kind
  loop_placed {p} {u} d f x j a b h =
      let c = begins d (41 ∷ x) in
      let s : SoFar = over p j (placed m x) in
      rw (append_assoc u (41 ∷ []) x)
      (reads m (u ++ (41 ∷ x)) (closed _ x (end_levels d x) (omega arith)) 5 (omega arith)
      ∙ (ap (single 5 (u ++ (41 ∷ x))) (at_close p u x j f (omega arith) b h)
      ∙ singled 5 0 (1 + size p) (u ++ (41 ∷ x)) s (number_ends 0 _ (ap is_digit_byte c)) (omega arith) (ap (λ n. 1 + n) (size_there j p (placed m x).nodes)) a))

  repeat_placed : (n : ℕ) {p : Program} {u : List ℕ} → n ≤ 65535 → Says (whole p) u → Whole p u
      → Whole (Repeat (exactly n) p) (bytes "Jr.Repeat(" ++ (decimal n ++ (bytes ", " ++ (u ++ bytes ")"))))
  unfolding opening form own_size size tests nodes_from tests_of kind
  repeat_placed n {p} {u} l d f x j a b h =
      rw (append_assoc (decimal n) (44 ∷ 32 ∷ (u ++ (41 ∷ []))) x, append_assoc u (41 ∷ []) x)
      (reads m _ (enclosed_numbered n d x) 6 (omega arith) ∙ numbered 6 n j d x l a (λ t. refl) (at_close p u x j f (omega arith) b h))

  control_placed : (n : ℕ) {p : Program} {u : List ℕ} → n < places → Says (whole p) u → Whole p u
      → Whole (Control n p) (bytes "Jr.Control(" ++ (decimal n ++ (bytes ", " ++ (u ++ bytes ")"))))
  unfolding opening form own_size size tests nodes_from tests_of kind
  control_placed n {p} {u} l d f x j a b h =
      rw (append_assoc (decimal n) (44 ∷ 32 ∷ (u ++ (41 ∷ []))) x, append_assoc u (41 ∷ []) x)
      (reads m _ (enclosed_numbered n d x) 11 (omega arith) ∙ numbered 11 n j d x (omega arith) a (λ t. refl) (at_close p u x j f (omega arith) b h))

  local_placed : (n : ℕ) {p : Program} {u : List ℕ} → n < places → Says (whole p) u → Whole p u
      → Whole (Local n p) (bytes "Jr.Local(" ++ (decimal n ++ (bytes ", " ++ (u ++ bytes ")"))))
  unfolding opening form own_size size tests nodes_from tests_of kind
  local_placed n {p} {u} l d f x j a b h =
      rw (append_assoc (decimal n) (44 ∷ 32 ∷ (u ++ (41 ∷ []))) x, append_assoc u (41 ∷ []) x)
      (reads m _ (enclosed_numbered n d x) 12 (omega arith) ∙ numbered 12 n j d x (omega arith) a (λ t. refl) (at_close p u x j f (omega arith) b h))

  freezable_placed : (n : ℕ) {p : Program} {u : List ℕ} → n < places → Says (whole p) u → Whole p u
      → Whole (Freezable n p) (bytes "Jr.Freezable(" ++ (decimal n ++ (bytes ", " ++ (u ++ bytes ")"))))
  unfolding opening form own_size size tests nodes_from tests_of kind
  freezable_placed n {p} {u} l d f x j a b h =
      rw (append_assoc (decimal n) (44 ∷ 32 ∷ (u ++ (41 ∷ []))) x, append_assoc u (41 ∷ []) x)
      (reads m _ (enclosed_numbered n d x) 13 (omega arith) ∙ numbered 13 n j d x (omega arith) a (λ t. refl) (at_close p u x j f (omega arith) b h))

  awaits_placed : {c : Config} {u : List ℕ} → SaysTest c u → Whole (Await c) (bytes "Jr.Await(" ++ (u ++ bytes ")"))
  unfolding opening form size tests nodes_from tests_of kind
  awaits_placed {c} {u} t x j a b h =
      let n = begins_test t (41 ∷ x) in
      let l : (placed m x).left ≡ j + weight c = omega arith in
      let e = test_placed m t (41 ∷ x) j (omega arith) refl (ap (λ s. s.left) (reads_close m x) ∙ l) ∙ ap (over_test c j) (reads_close m x) in
      rw (append_assoc u (41 ∷ []) x, append-nil (test_records c))
      (reads m (u ++ (41 ∷ x)) (closed _ x (levels_test t (41 ∷ x) ∙ levels_close x) (omega arith)) 8 (omega arith)
      ∙ await_placed 8 c j (u ++ (41 ∷ x)) (placed m (u ++ (41 ∷ x))) (placed m x) e (omega arith))

  -- the text of a test and two programs, before x
  abbrev three : List ℕ → List ℕ → List ℕ → List ℕ → List ℕ
  three u v w x = u ++ (44 ∷ 32 ∷ (v ++ (44 ∷ 32 ∷ (w ++ (41 ∷ x)))))

  three_before : (u v w x : List ℕ) → (three u v w []) ++ x ≡ three u v w x
  three_before u v w x = simp append_assoc

  when_placed :
      {c : Config} {p q : Program} {u v w : List ℕ}
      → SaysTest c u
      → Says (whole p) v
      → Says (whole q) w
      → Whole p v
      → Whole q w
      → Whole (When c p q) (bytes "Jr.When(" ++ (three u v w []))
  unfolding opening form size tests
  when_placed {c} {p} {q} {u} {v} {w} t d e f g x j a b h =
      rw (three_before u v w x)
      (reads m _ (enclosed_chosen t d e x) 9 (omega arith) ∙ (chosen 9 t d e f g x j a b h _ refl ∙ over_when c p q j (placed m x)))

  until_placed :
      {c : Config} {p q : Program} {u v w : List ℕ}
      → SaysTest c u
      → Says (whole p) v
      → Says (whole q) w
      → Whole p v
      → Whole q w
      → Whole (Until c p q) (bytes "Jr.Until(" ++ (three u v w []))
  unfolding opening form size tests
  until_placed {c} {p} {q} {u} {v} {w} t d e f g x j a b h =
      rw (three_before u v w x)
      (reads m _ (enclosed_chosen t d e x) 10 (omega arith) ∙ (chosen 10 t d e f g x j a b h _ refl ∙ over_until c p q j (placed m x)))

  -- the text of a value's number, a cap and a program, before x
  abbrev asked_text : ℕ → ℕ → List ℕ → List ℕ → List ℕ
  asked_text v n u x = decimal v ++ (44 ∷ 32 ∷ (decimal n ++ (44 ∷ 32 ∷ (u ++ (41 ∷ x)))))

  asked_before : (v n : ℕ) (u x : List ℕ) → (asked_text v n u []) ++ x ≡ asked_text v n u x
  asked_before v n u x = simp append_assoc

  if_placed :
      (v : ℕ) {p q : Program} {u w : List ℕ}
      → v ≤ 15
      → Says (whole p) u
      → Says (whole q) w
      → Whole p u
      → Whole q w
      → Whole (If v p q) (bytes "Jr.If(" ++ (three (decimal v) u w []))
  unfolding opening form asking size tests
  if_placed v {p} {q} {u} {w} l d e f g x j a b h =
      let zp : List ℕ = 44 ∷ 32 ∷ (u ++ (44 ∷ 32 ∷ (w ++ (41 ∷ x)))) in
      let s : SoFar = placed m x in
      let enclosed = parted (decimal v ++ zp) x (levels_number v zp ∙ (simp append_assoc at (levels_kept (more_of_seq d (last_of_seq e)) x))) (before v zp) in
      rw (three_before (decimal v) u w x)
      (reads m _ enclosed 14 (omega arith)
      ∙ (rw (given v zp (omega arith) refl) (ap (branches 14 v) (placed_number m v zp ∙ two_placed d e f g x j a b h))
      ∙ (branches_placed 14 v (1 + size p + size q) j (j + tests p) p q s.nodes (tests_of p ++ (tests_of q ++ s.tests)) j (omega arith)
      ∙ over_if v p q j s)))

  repeat_ext_placed : (v n : ℕ) {p : Program} {u : List ℕ} → v ≤ 15 → n ≤ 255 → Says (whole p) u → Whole p u
      → Whole (Repeat (asked v n) p) (bytes "Jr.RepeatExt(" ++ (asked_text v n u []))
  unfolding opening form asking size tests nodes_from tests_of kind
  repeat_ext_placed v n {p} {u} l k d f x j a b h =
      let z : List ℕ = 44 ∷ 32 ∷ (u ++ (41 ∷ x)) in
      let y : List ℕ = 44 ∷ 32 ∷ (decimal n ++ z) in
      let s : SoFar = over p j (placed m x) in
      let c = (digit_is (byte (decimal n ++ z) 0) (begins_decimal n z)).1 in
      let inner : levels (decimal n ++ z) ≡ 1 ∷ levels x = levels_number n z ∙ last_levels d x in
      let part : placed m z ≡ s =
      comma_last m (u ++ (41 ∷ x)) (levels x) (begins d _) (end_levels d x) ∙ at_close p u x j f (omega arith) b h in
      let all_placed : placed m (decimal v ++ y) ≡ s =
      placed_number m v y ∙ (comma_cap m (decimal n ++ z) (levels x) (omega arith) inner ∙ (placed_number m n z ∙ part)) in
      let enclosed = parted (decimal v ++ y) x (levels_number v y ∙ (levels_cap n z ∙ ap (λ q. set q 0 1) (last_levels d x))) (before v y) in
      rw (asked_before v n u x)
      (reads m _ enclosed 15 (omega arith)
      ∙ (ap (capped 15 (decimal v ++ y)) all_placed
      ∙ capped_placed 15 (n * 16 + v) (1 + size p) (decimal v ++ y) s (capped_number_lem v n z l k refl) (omega arith)
      (ap (λ q. 1 + q) (size_there j p (placed m x).nodes)) a))

  pub piece_placed : {s : Piece} {u : List ℕ} → Says s u → Outcome s u
  piece_placed says_nothing = nothing_placed
  piece_placed says_stop = stop_placed
  piece_placed (says_atom {a = n} l) = atom_placed n l
  piece_placed (says_seq d e) = seq_placed d e (piece_placed d) (piece_placed e)
  piece_placed (last_of_seq d) = last_placed 3 d (piece_placed d)
  piece_placed (more_of_seq {p = p} {q = q} {v = v} d e) = more_placed (seq_row p q) d v (levels_kept e) (piece_placed d) (piece_placed e)
  piece_placed (says_par d e) = par_placed d e (piece_placed d) (piece_placed e)
  piece_placed (last_of_par d) = last_placed 4 d (piece_placed d)
  piece_placed (more_of_par {p = p} {q = q} {v = v} d e) = more_placed (par_row p q) d v (levels_kept e) (piece_placed d) (piece_placed e)
  piece_placed (says_loop d) = loop_placed d (piece_placed d)
  piece_placed (says_repeat {n = n} l d) = repeat_placed n l d (piece_placed d)
  piece_placed (says_generate {s = n} l) = generate_placed n l
  piece_placed (says_await t) = awaits_placed t
  piece_placed (says_when t d e) = when_placed t d e (piece_placed d) (piece_placed e)
  piece_placed (says_until t d e) = until_placed t d e (piece_placed d) (piece_placed e)
  piece_placed (says_control {s = n} l d) = control_placed n l d (piece_placed d)
  piece_placed (says_local {s = n} l d) = local_placed n l d (piece_placed d)
  piece_placed (says_freezable {s = n} l d) = freezable_placed n l d (piece_placed d)
  piece_placed (says_if {v = n} l d e) = if_placed n l d e (piece_placed d) (piece_placed e)
  piece_placed (says_repeat_ext {v = v} {cap = n} l k d) = repeat_ext_placed v n l k d (piece_placed d)
