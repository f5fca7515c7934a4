-- Reading a configuration places its records.
use Prim.Native.Nat.{ℕ, ◌+◌, ◌-◌, ◌/◌, ◌%◌, ◌≤◌, ◌<◌}
use mathlib.Core.Bool.{false}
use mathlib.Core.Path.{◌≡◌, refl, ap, ◌∙◌}
use mathlib.Core.List.{List, ◌∷◌, ◌++◌, append_assoc}
use native.Mathlib.Nat.{mod-eq_of_lt}
use native.Mathlib.Omega.{arith}
use borrow.Author.Tests.{ne_eqb, lt-ltb}
use lib.ListN.{set}
use Rattle.events.specs.Members.{places}
use Rattle.junior.specs.Configuration.{Config, Event, Not, And, Or}
use Rattle.table.specs.Records.{byte}
use Rattle.table.specs.Spells.{weight}
use Rattle.letters.specs.Decimal.{decimal}
use Rattle.letters.specs.Text.{bytes}
use Rattle.form.specs.Form.{SaysTest, says_event, says_not, says_and, says_or}
use Rattle.form.specs.Inside.Machine.{is_digit_byte}
use Rattle.form.specs.Made.{test_records}
use Rattle.builder.specs.Building.{SoFar, number, pair, negation, event, blank, opening, place, relevel}
use Rattle.builder.specs.Building.{levels, placed}
use Rattle.builder.proofs.ReadDigits.{past_decimal, begins_decimal, number_decimal, number_ends}
use Rattle.builder.proofs.FirstBytes.{begins_test}
use Rattle.builder.proofs.LevelsKept.{levels_close, levels_blank, levels_and, levels_or, levels_test}
use Rattle.builder.proofs.WrittenSizes.{weight_there, joined_tests}

abbrev pub made : List ℕ → List ℕ → ℕ → SoFar
made a b l = record { nodes = a; tests = b; left = l }

pub small_mod : (n k : ℕ) → n < k → n % k ≡ n
small_mod n k h = mod-eq_of_lt h

-- the records of c in front of others, its first being number j
abbrev pub over_test : Config → ℕ → SoFar → SoFar
over_test c j s = made s.nodes (test_records c ++ s.tests) j

placed_digit : (m d : ℕ) (x : List ℕ) → d < 10 → placed m ((48 + d) ∷ x) ≡ placed m x
unfolding placed place
placed_digit m d x h =
    simp (
      ne_eqb (48 + d) 32 (λ e. omega arith),
      ne_eqb (48 + d) 40 (λ e. omega arith),
      ne_eqb (48 + d) 44 (λ e. omega arith),
      ne_eqb (48 + d) 74 (λ e. omega arith),
    )

pub placed_number : (m n : ℕ) (x : List ℕ) → placed m (decimal n ++ x) ≡ placed m x
placed_number m = past_decimal (placed m) (placed_digit m)

-- an event's number is placed by what stands before it
event_placed :
    (s : ℕ) (x : List ℕ) (j : ℕ) (r : SoFar)
    → s < places
    → is_digit_byte (byte x 0) ≡ false
    → r.left ≡ j + 1
    → event (decimal s ++ x) r ≡ over_test (Event s) j r
unfolding event test_records
event_placed s x j r h e l =
    let n : number 0 (decimal s ++ x) ≡ s = number_decimal s x (omega arith) ∙ number_ends s x e in
    let k : r.left - 1 ≡ j = omega arith in
    let sixteens : s / 256 % 16 ≡ s / 256 = small_mod (s / 256) 16 (omega arith) in
    rw (begins_decimal s x, n, sixteens, k)

-- nothing else is an event
pub no_event : (w : List ℕ) (s : SoFar) → is_digit_byte (byte w 0) ≡ false → event w s ≡ s
unfolding event
no_event w s e = rw e

not_placed :
    (c : Config) (j : ℕ) (s : SoFar)
    → weight (Not c) ≤ 65535
    → negation (over_test c (j + 1) s) ≡ over_test (Not c) j s
unfolding negation test_records weight
not_placed c j s h =
    let k : j + 1 - 1 ≡ j = omega arith in
    rw (weight_there c s.tests, small_mod (1 + weight c) 65536 (omega arith), k)

and_placed :
    (c d : Config) (j i : ℕ) (s : SoFar)
    → weight (And c d) ≤ 65535
    → pair 2 (over_test c (j + 1) (over_test d i s)) ≡ over_test (And c d) j s
unfolding pair test_records weight
and_placed c d j i s h =
    let k : j + 1 - 1 ≡ j = omega arith in
    rw (joined_tests c d s.tests, small_mod (1 + weight c + weight d) 65536 (omega arith), k, append_assoc (test_records c) (test_records d) s.tests)

or_placed :
    (c d : Config) (j i : ℕ) (s : SoFar)
    → weight (Or c d) ≤ 65535
    → pair 3 (over_test c (j + 1) (over_test d i s)) ≡ over_test (Or c d) j s
unfolding pair test_records weight
or_placed c d j i s h =
    let k : j + 1 - 1 ≡ j = omega arith in
    rw (joined_tests c d s.tests, small_mod (1 + weight c + weight d) 65536 (omega arith), k, append_assoc (test_records c) (test_records d) s.tests)

reads_not :
    (m : ℕ) (y l : List ℕ)
    → levels y ≡ 0 ∷ l
    → byte y 0 < 58
    → placed m (bytes "(not " ++ y) ≡ negation (event y (placed m y))
unfolding placed place blank opening levels relevel
reads_not m y l e b = rw (levels_blank y (omega arith), e)

reads_pair : (m k : ℕ) (y l : List ℕ) → levels y ≡ k ∷ l → 1 < k → placed m (40 ∷ y) ≡ pair k (event y (placed m y))
unfolding placed place opening
reads_pair m k y l e b = rw (e, lt-ltb 1 k b)

module _ (m : ℕ) (y l : List ℕ) (e : levels y ≡ 0 ∷ l) (b : byte y 0 < 58) where
  reads_and : placed m (bytes " and " ++ y) ≡ event y (placed m y)
  unfolding placed place blank event levels relevel
  reads_and = rw (levels_blank y (omega arith), e)

  reads_or : placed m (bytes " or " ++ y) ≡ event y (placed m y)
  unfolding placed place blank event levels relevel
  reads_or = rw (levels_blank y (omega arith), e)

pub reads_close : (m : ℕ) (x : List ℕ) → placed m (41 ∷ x) ≡ placed m x
unfolding placed place
reads_close m x = refl

-- a bracket round two, y being all behind it, z what stands behind the first
around :
    (m k : ℕ) (c d : Config) (j i : ℕ) (y z l : List ℕ) (s : SoFar)
    → 1 < k
    → levels y ≡ k ∷ l
    → event y (placed m y) ≡ over_test c (j + 1) (placed m z)
    → placed m z ≡ over_test d i s
    → event (40 ∷ y) (placed m (40 ∷ y)) ≡ pair k (over_test c (j + 1) (over_test d i s))
around m k c d j i y z l s h e f g =
    no_event (40 ∷ y) _ refl ∙ (reads_pair m k y l e h ∙ ap (pair k) (f ∙ ap (over_test c (j + 1)) g))

-- with what stands before it
pub test_placed :
    (m : ℕ) {c : Config} {u : List ℕ}
    → SaysTest c u
    → (x : List ℕ) (j : ℕ)
    → weight c ≤ 65535
    → is_digit_byte (byte x 0) ≡ false
    → (placed m x).left ≡ j + weight c
    → event (u ++ x) (placed m (u ++ x)) ≡ over_test c j (placed m x)
unfolding weight
test_placed m (says_event {s = s} h) x j w b l = rw (placed_number m s x) (event_placed s x j (placed m x) h b l)
test_placed m (says_not {c = c} {u = u} d) x j w b l =
    let y : List ℕ = u ++ (41 ∷ x) in
    let h : (placed m (41 ∷ x)).left ≡ j + 1 + weight c = ap (λ s. s.left) (reads_close m x) ∙ (l ∙ omega arith) in
    let t : event y (placed m y) ≡ over_test c (j + 1) (placed m x) = test_placed m d (41 ∷ x) (j + 1) (omega arith) refl h ∙ ap (over_test c (j + 1))
    (reads_close m x) in
    simp append_assoc
    (no_event (bytes "(not " ++ y) _ refl
    ∙ (reads_not m y (levels x) (levels_test d (41 ∷ x) ∙ levels_close x) (begins_test d (41 ∷ x))
    ∙ (ap negation t ∙ not_placed c j (placed m x) w)))
test_placed m (says_and {c = c} {d = c'} {u = u} {v = v} d e) x j w b l =
    let v' : List ℕ = v ++ (41 ∷ x) in
    let z : List ℕ = bytes " and " ++ v' in
    let n = begins_test e (41 ∷ x) in
    let i : ℕ = j + 1 + weight c in
    let h : (placed m (41 ∷ x)).left ≡ i + weight c' = ap (λ s. s.left) (reads_close m x) ∙ (l ∙ omega arith) in
    let g : placed m z ≡ over_test c' i (placed m x) = reads_and m v' (levels x) (levels_test e (41 ∷ x) ∙ levels_close x) n ∙
    (test_placed m e (41 ∷ x) i (omega arith) refl h ∙ ap (over_test c' i) (reads_close m x)) in
    let f = test_placed m d z (j + 1) (omega arith) refl (ap (λ s. s.left) g) in
    let k : levels (u ++ z) ≡ 2 ∷ levels x = levels_test d z ∙ (levels_and v' (omega arith) ∙ ap (λ l. set l 0 2) (levels_test e (41 ∷ x) ∙ levels_close x)) in
    simp append_assoc (around m 2 c c' j i (u ++ z) z (levels x) (placed m x) (omega arith) k f g ∙ and_placed c c' j i (placed m x) w)
test_placed m (says_or {c = c} {d = c'} {u = u} {v = v} d e) x j w b l =
    let v' : List ℕ = v ++ (41 ∷ x) in
    let z : List ℕ = bytes " or " ++ v' in
    let n = begins_test e (41 ∷ x) in
    let i : ℕ = j + 1 + weight c in
    let h : (placed m (41 ∷ x)).left ≡ i + weight c' = ap (λ s. s.left) (reads_close m x) ∙ (l ∙ omega arith) in
    let g : placed m z ≡ over_test c' i (placed m x) = reads_or m v' (levels x) (levels_test e (41 ∷ x) ∙ levels_close x) n ∙
    (test_placed m e (41 ∷ x) i (omega arith) refl h ∙ ap (over_test c' i) (reads_close m x)) in
    let f = test_placed m d z (j + 1) (omega arith) refl (ap (λ s. s.left) g) in
    let k : levels (u ++ z) ≡ 3 ∷ levels x = levels_test d z ∙ (levels_or v' (omega arith) ∙ ap (λ l. set l 0 3) (levels_test e (41 ∷ x) ∙ levels_close x)) in
    simp append_assoc (around m 3 c c' j i (u ++ z) z (levels x) (placed m x) (omega arith) k f g ∙ or_placed c c' j i (placed m x) w)
