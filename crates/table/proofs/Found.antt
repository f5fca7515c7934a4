-- Where a program that is reached from another one stands in the table, and that no repetition of count or cap 0 stands above it there: `found`;
-- so where the body of a Freezable stands that an instant parks: `parked_there`. `runs_tested` and `tested_runs`: the same as a test of bytes.
use Prim.Native.Nat.{ℕ, ◌+◌, ◌-◌, ◌≤◌, ◌<◌}
use mathlib.Core.Bool.{Bool, true, false, ◌&&◌}
use mathlib.Core.Path.{◌≡◌, refl, sym}
use mathlib.Core.List.{List}
use native.Mathlib.Omega.{arith}
use lib.Dec.{ltb}
use borrow.Author.Tests.{ne_eqb, lt-ltb, ltb-true}
use Rattle.events.specs.Events.{lowest}
use Rattle.events.proofs.Events.{before_lowest, lowest_is}
use Rattle.junior.specs.Values.{exactly, asked}
use Rattle.junior.specs.Program.{Program, Seq, Par, Loop, Repeat, When, Until, Control, Local, Freezable, If, kind, size}
use Rattle.junior.specs.Program.{One, loop, repeat, control, local, freezable, Two, seq, par, when, until, if}
use Rattle.junior.specs.Term.{prog}
use Rattle.junior.specs.Trace.{Piece}
use Rattle.junior.specs.Parked.{SomeRuns, Reached, itself, in_part, in_first, in_second, Parked}
use Rattle.table.specs.Records.{nodes, kind_at, argument_at, size_at, second_child}
use Rattle.table.specs.Spells.{Spells, tree_of}
use Rattle.table.specs.Inside.{Loaded}
use Rattle.table.specs.Part.{above, never_runs}
use Rattle.table.proofs.Little.{below_or}
use Rattle.table.proofs.Parts.{of_none, of_one, of_two}
use Rattle.table.proofs.Tree.{Tree, leaf, one, two, tree, kind_is, written, argued, sized, spells_one, spells_two, second}
use Rattle.table.proofs.Loaded.{whole_placed}
use Rattle.table.proofs.PartAccepted.{Runs}

-- a subtree lies within those around it
itself_within : (t : List ℕ) (i : ℕ) (p : Program) → Spells t i p → (k : ℕ) → k ≡ i → k + size_at t k ≤ i + size p
itself_within t i p h k e = rw e (omega (arith, written t i p h))

nest : {t : List ℕ} {i c : ℕ} {p : Program} → Tree t i c p → (k : ℕ) → i ≤ k → k < i + size p → k + size_at t k ≤ i + size p
nest {t} {i} {p = p} (leaf h v) k a b = itself_within t i p h k (omega (arith, (of_none v).size_is))
nest {t} {i} {p = p} (one h v y) k a b =
    let s = (of_one v).size_is in
    below_or i k (λ l. omega (arith, nest y k (omega arith) (omega arith))) (λ l. itself_within t i p h k (omega arith))
nest {t} {i} {p = p} (two h v y z) k a b =
    let s = (of_two v).size_is in
    let w = sized y in
    below_or i k
    (λ l.
    below_or k (second_child t i)
    (λ m. omega (arith, nest y k (omega arith) (omega arith)))
    (λ m. omega (arith, nest z k m (omega arith))))
    (λ l. itself_within t i p h k (omega arith))

-- a node that runs its part, one of two parts
part_runs : (t : List ℕ) (i : ℕ) {p q : Program} (f : One p q) → SomeRuns f → Spells t i p → never_runs t i ≡ false
unfolding kind
part_runs t i (loop q) c h = rw (kind_is t i (Loop q) h)
part_runs t i (repeat (exactly n) q) c h =
    let p = Repeat (exactly n) q in
    rw (kind_is t i p h, argued t i p h, ne_eqb n 0 (λ e. omega arith))
part_runs t i (repeat (asked v cap) q) c h =
    let p = Repeat (asked v cap) q in
    rw (kind_is t i p h, (argued t i p h).1, ne_eqb cap 0 (λ e. omega arith))
part_runs t i (control s q) c h = rw (kind_is t i (Control s q) h)
part_runs t i (local s q) c h = rw (kind_is t i (Local s q) h)
part_runs t i (freezable s q) c h = rw (kind_is t i (Freezable s q) h)

pair_runs : (t : List ℕ) (i : ℕ) {p q r : Program} → Two p q r → Spells t i p → never_runs t i ≡ false
unfolding kind
pair_runs t i (seq q r) h = rw (kind_is t i (Seq q r) h)
pair_runs t i (par q r) h = rw (kind_is t i (Par q r) h)
pair_runs t i (when c q r) h = rw (kind_is t i (When c q r) h)
pair_runs t i (until c q r) h = rw (kind_is t i (Until c q r) h)
pair_runs t i (if v q r) h = rw (kind_is t i (If v q r) h)

-- what is reached is no larger
reached_within : {p x : Program} {j : ℕ} → Reached p j x → j + size x ≤ size p
reached_within itself = omega arith
reached_within (in_part f c r) = omega (arith, reached_within r, (of_one f).size_is)
reached_within (in_first f r) = omega (arith, reached_within r, (of_two f).size_is)
reached_within (in_second f r) = omega (arith, reached_within r, (of_two f).size_is)

-- one node more above
runs_more : (t : List ℕ) (i n j : ℕ) → never_runs t i ≡ false → ((k : ℕ) → i < k → k < n → k + size_at t k ≤ j) → Runs t n j → Runs t i j
runs_more t i n j e none later k a b c =
    below_or i k
    (λ l. below_or k n (λ m. absurd (omega (arith, none k l m))) (λ m. later k m b c))
    (λ l. let same : k ≡ i = omega arith in rw same e)

pub found : (t : List ℕ) (i : ℕ) {p x : Program} {j : ℕ} → Reached p j x → Spells t i p → Spells t (i + j) x × Runs t i (i + j)
found t i itself h = let e : i + 0 ≡ i = omega arith in (rw e h, λ k a b c. absurd (omega arith))
found t i (in_part {j = j} f c r) h =
    let (there, runs) = found t (i + 1) r (spells_one t i f h) in
    let e : i + (1 + j) ≡ i + 1 + j = omega arith in
    (rw e there, rw e (runs_more t i (i + 1) (i + 1 + j) (part_runs t i f c h) (λ k a b. absurd (omega arith)) runs))
found t i (in_first {j = j} f d) h =
    let (there, runs) = found t (i + 1) d (spells_two t i f h).0 in
    let e : i + (1 + j) ≡ i + 1 + j = omega arith in
    (rw e there, rw e (runs_more t i (i + 1) (i + 1 + j) (pair_runs t i f h) (λ k a b. absurd (omega arith)) runs))
found t i (in_second {q = q} {r = r} {j = j} f d) h =
    let (a, b) = spells_two t i f h in
    let (there, runs) = found t (i + 1 + size q) d (second t i q r a b) in
    let e : i + (1 + size q + j) ≡ i + 1 + size q + j = omega arith in (
      rw e there,
      rw e
          (runs_more t i (i + 1 + size q) (i + 1 + size q + j) (pair_runs t i f h)
          (λ k l m. omega (arith, nest (tree t (i + 1) q a) k (omega arith) m))
          runs),
    )

-- the body of a piece: node and event of its Freezable, which no repetition of count or cap 0 stands above
pub record BodyThere (t : List ℕ) (x : Piece) : Type 0 where
  pub behind : 0 < x.node
  pub kind_there : kind_at t (x.node - 1) ≡ 13
  pub event_there : argument_at t (x.node - 1) ≡ x.event
  pub body : Spells t x.node (prog x.state)
  pub inside : x.node + size (prog x.state) ≤ nodes t
  pub runs : Runs t 0 x.node

pub parked_there : {t : List ℕ} {x : Piece} → Loaded t → Parked (tree_of t) 0 x → BodyThere t x
unfolding kind
parked_there {t} {x} l p =
    let j = p.place in
    let q = prog x.state in
    let whole = whole_placed l in
    let (there, runs) = found t 0 p.freezable whole.spelled in
    let node = x.node in
    let f : 0 + j ≡ node - 1 = omega (arith, p.node_is) in
    let n : 0 + j + 1 ≡ node = omega (arith, p.node_is) in
    let is = Freezable x.event q in
    let there' = rw f at there in
    let body' = rw n at (spells_one t (0 + j) (freezable x.event q) there) in
    record {
      behind = omega (arith, p.node_is);
      kind_there = kind_is t (node - 1) is there';
      event_there = argued t (node - 1) is there';
      body = body';
      inside = omega (arith, reached_within p.freezable, (of_one (freezable x.event q)).size_is, whole.inside, p.node_is);
      runs = λ k a b c.
          below_or k (0 + j)
          (λ l. runs k a l (omega arith))
          (λ l. let e : k ≡ 0 + j = omega arith in rw e (part_runs t (0 + j) (freezable x.event q) tt there));
    }

-- that none of those above node j never runs, as a test
abbrev idle_above : List ℕ → ℕ → ℕ → Bool
idle_above t j i = above t j i && never_runs t i

pub runs_tested : (t : List ℕ) (j : ℕ) → lowest j (λ i. above t j i && never_runs t i) ≡ j → Runs t 0 j
runs_tested t j e k a b c =
    rw (lt-ltb k j b, lt-ltb j (k + size_at t k) c) at (before_lowest j (idle_above t j) k (omega arith))

pub tested_runs : (t : List ℕ) (j : ℕ) → Runs t 0 j → lowest j (λ i. above t j i && never_runs t i) ≡ j
tested_runs t j runs = sym (lowest_is j j (idle_above t j) (omega arith) none (λ h. absurd (omega arith)))
  where
    none : (k : ℕ) → k < j → idle_above t j k ≡ false
    none k h = go (ltb j (k + size_at t k)) refl
      where
        go : (b : Bool) → ltb j (k + size_at t k) ≡ b → idle_above t j k ≡ false
        go true e = rw (lt-ltb k j h, e) (runs k (omega arith) h (ltb-true _ _ e))
        go false e = rw (lt-ltb k j h, e)
