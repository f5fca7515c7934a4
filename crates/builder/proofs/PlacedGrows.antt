-- What is placed only grows from the end of a text to its beginning, so it has room at each byte if it has at the first.
use Prim.Native.Nat.{ℕ, zero, suc, ◌+◌, ◌*◌, ◌%◌, ◌≤◌}
use mathlib.Core.Bool.{Bool, true, false, cond}
use mathlib.Core.Path.{◌≡◌, refl, ◌∙◌}
use mathlib.Core.List.{List, [], ◌∷◌, ◌++◌}
use native.Mathlib.Omega.{arith}
use lib.Dec.{eqb, ltb}
use lib.ListN.{length, set, take, drop, length-set, take-append-drop}
use lib.Seq.{length-sets}
use Rattle.table.specs.Records.{byte, word}
use Rattle.form.specs.Made.{big}
use Rattle.form.specs.Inside.Machine.{is_digit_byte}
use Rattle.form.specs.Inside.Rows.{form_count, word_row, inside, named, form_in}
use Rattle.builder.specs.Building.{SoFar, with_node, with_test, number, joint, pair, negation, event}
use Rattle.builder.specs.Building.{opening, spread, labelled, row}
use Rattle.builder.specs.Building.{blank, branches, choice, await, capped, asking, single, behind_j, form, name, comma, place, levels}
use Rattle.builder.specs.Building.{placed, Room}

pub record Grows (s t : SoFar) : Type 0 where
  pub nodes_grow : length s.nodes ≤ length t.nodes
  pub tests_grow : length s.tests ≤ length t.tests

pub grows_self : (s : SoFar) → Grows s s
grows_self s = record { nodes_grow = omega arith; tests_grow = omega arith }

grows_then : {s t u : SoFar} → Grows s t → Grows t u → Grows s u
grows_then g h =
    record { nodes_grow = omega arith; tests_grow = omega arith }

grows_either : {s t u : SoFar} (b : Bool) → Grows s t → Grows s u → Grows s (cond b t u)
grows_either true g h = g
grows_either false g h = h

pub grows_node : (k a n : ℕ) (s : SoFar) → Grows s (with_node k a n s)
grows_node k a n s = record { nodes_grow = omega arith; tests_grow = omega arith }

pub grows_test : (k a n : ℕ) (s : SoFar) → Grows s (with_test k a n s)
grows_test k a n s = record { nodes_grow = omega arith; tests_grow = omega arith }

pub length_spread : (f k at : ℕ) (l : List ℕ) → length (spread f k at l) ≡ length l
unfolding spread
length_spread zero k at l = refl
length_spread (suc f) k at l = go (length_spread f k (at + 6 + 6 * word l (at + 10)) (set l at k)) (eqb (byte l at) 255)
  where
    go :
        length (spread f k (at + 6 + 6 * word l (at + 10)) (set l at k)) ≡ length (set l at k)
        → (b : Bool)
        → length (cond b (spread f k (at + 6 + 6 * word l (at + 10)) (set l at k)) l) ≡ length l
    go e true = e ∙ length-set l at k
    go e false = refl

pub grows_event : (w : List ℕ) (s : SoFar) → Grows s (event w s)
unfolding event
grows_event w s = grows_either (is_digit_byte (byte w 0)) (grows_test _ (number 0 w) 1 s) (grows_self s)

grows_joint : (s : SoFar) → Grows s (joint s)
unfolding joint
grows_joint s = grows_node 255 0 _ s

pub grows_pair : (k : ℕ) (s : SoFar) → Grows s (pair k s)
unfolding pair
grows_pair k s = grows_test k 0 _ s

grows_negation : (s : SoFar) → Grows s (negation s)
unfolding negation
grows_negation s = grows_test 1 0 _ s

grows_opening : (level : ℕ) (w : List ℕ) (s : SoFar) → Grows s (opening level w s)
unfolding opening
grows_opening level w s =
    grows_either
    (ltb 1 level)
    (grows_then (grows_event w s) (grows_pair level (event w s)))
    (grows_either (named (word_row 1) w) (grows_negation s) (grows_self s))

pub row_length : (k : ℕ) (s : SoFar) → length (row k s).nodes ≡ length (joint s).nodes
unfolding row
row_length k s = length_spread (length (joint s).nodes) k 0 (joint s).nodes

pub grows_row_joint : (k : ℕ) (s : SoFar) → Grows (joint s) (row k s)
unfolding row joint
grows_row_joint k s = let e = row_length k s in record { nodes_grow = omega arith; tests_grow = omega arith }

grows_row : (k : ℕ) (s : SoFar) → Grows s (row k s)
unfolding row
grows_row k s =
    let g = (grows_joint s).nodes_grow in
    record { nodes_grow = rw (row_length k s) g; tests_grow = omega arith }

-- labels change no length
pub branches_length : (k a : ℕ) (s : SoFar) → length (branches k a s).nodes ≡ length s.nodes
unfolding branches
branches_length k a s = length-sets (labelled k s.nodes) 2 (big (a % 65536)) ∙ length_spread (length s.nodes) k 0 s.nodes

grows_branches : (k a : ℕ) (s : SoFar) → Grows s (branches k a s)
unfolding branches
grows_branches k a s =
    let e = branches_length k a s in
    record { nodes_grow = omega arith; tests_grow = omega arith }

pub grows_choice : (k : ℕ) (w : List ℕ) (s : SoFar) → Grows (event w s) (choice k w s)
unfolding choice
grows_choice k w s = grows_branches k (event w s).left (event w s)

pub grows_await : (k : ℕ) (w : List ℕ) (s : SoFar) → Grows (event w s) (await k w s)
unfolding await
grows_await k w s = grows_node k _ 1 (event w s)

grows_asking : (behind k : ℕ) (w : List ℕ) (s : SoFar) → Grows s (asking behind k w s)
unfolding asking capped
grows_asking behind k w s = grows_either (eqb behind 141) (grows_node k _ _ s) (grows_branches k (number 0 w) s)

grows_single : (k : ℕ) (w : List ℕ) (s : SoFar) → Grows s (single k w s)
unfolding single
grows_single k w s = grows_node k _ _ s

grows_form : (k : ℕ) (w : List ℕ) (s : SoFar) → Grows s (form k w s)
unfolding form
grows_form k w s =
    grows_either
    (eqb (inside k 4) 133)
    (grows_row k s)
    (grows_either
    (eqb (inside k 0) 134)
    (grows_then (grows_event w s) (grows_either (eqb (inside k 1) 44) (grows_choice k w s) (grows_await k w s)))
    (grows_either (eqb (inside k 0) 140) (grows_asking (inside k 3) k w s) (grows_single k w s)))

grows_comma : (level : ℕ) (w : List ℕ) (s : SoFar) → Grows s (comma level w s)
unfolding comma
grows_comma level w s = grows_either (eqb level 1) (grows_either (eqb (byte w 1) 74) (grows_joint s) (grows_self s)) (grows_self s)

grows_blank : (level : ℕ) (w : List ℕ) (s : SoFar) → Grows s (blank level w s)
unfolding blank
grows_blank level w s = grows_either (eqb level 1) (grows_self s) (grows_event w s)

grows_place : (b level : ℕ) (w : List ℕ) (s : SoFar) → Grows s (place b level w s)
unfolding place name
grows_place b level w s =
    let k : ℕ = form_in (drop 2 w) in
    grows_either
    (eqb b 32)
    (grows_blank level w s)
    (grows_either
    (eqb b 40)
    (grows_opening level w s)
    (grows_either
    (eqb b 44)
    (grows_comma level w s)
    (grows_either (eqb b 74) (grows_either (ltb k form_count) (grows_form k (drop (behind_j k) w) s) (grows_self s)) (grows_self s))))

grows_text : (m : ℕ) (w x : List ℕ) → Grows (placed m x) (placed m (w ++ x))
unfolding placed
grows_text m [] x = grows_self (placed m x)
grows_text m (b ∷ w) x = grows_then (grows_text m w x) (grows_place b (byte (levels (w ++ x)) 0) (w ++ x) (placed m (w ++ x)))

-- what has room when it has grown has room
pub room_before : {n m : ℕ} {s t : SoFar} → Grows s t → Room n m t → Room n m s
room_before g r =
    record { for_nodes = omega arith; for_tests = omega arith }

pub room_at : (n m i : ℕ) (text : List ℕ) → Room n m (placed m text) → Room n m (placed m (drop i text))
room_at n m i text r =
    room_before (rw (take-append-drop i text) at (grows_text m (take i text) (drop i text))) r
