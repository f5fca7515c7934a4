-- The fourteen checks, each by the test that the definitions make: it fails exactly if the test is false, and with one index. For the two of the store
-- that holds once the checks before it are passed.
use Prim.Native.Nat.{ℕ, zero, suc, ◌+◌, ◌*◌, ◌≤◌, ◌<◌, min}
use mathlib.Core.Bool.{Bool, true, false, cond, not, ◌&&◌, and-false, false≢true}
use mathlib.Core.Path.{◌≡◌, refl, ap, sym, ◌∙◌}
use mathlib.Core.Logic.{◌≢◌, ◌⊎◌, inl, inr}
use mathlib.Core.List.{List, [], ◌∷◌}
use native.Mathlib.Nat.{le_of_lt}
use native.Mathlib.Omega.{arith}
use lib.Dec.{eqb, ltb, leb}
use lib.ListN.{length}
use borrow.Author.Tests.{leb-true, leb-false, ltb-true, le-leb, lt-leb, lt-ltb, eqb-true, eqb-false, ne_eqb, not-true}
use borrow.Author.Tests.{not-false}
use Rattle.events.specs.Events.{Events, lowest}
use Rattle.events.specs.Members.{places}
use Rattle.events.proofs.Events.{before_lowest, at_lowest, lowest_is}
use Rattle.junior.specs.Program.{Program, Loop, Parts, no_part, one_part, two_parts, parts, size, kind}
use Rattle.junior.specs.Figures.{stops, G, A, W, F}
use Rattle.junior.specs.Trace.{Piece}
use Rattle.std.specs.Prelude.{Err}
use Rattle.table.specs.declared.TableRefusal.TheVariants.{BadLength, BadCounts, BadDistances, BadConfiguration, BadNode}
use Rattle.table.specs.declared.TableRefusal.TheVariants.{TooDeep, EndlessLoop, TooHeavy}
use Rattle.table.specs.Records.{nodes, configurations, events, back_to_nodes, back_to_configurations}
use Rattle.table.specs.Good.{good_configuration, good_node}
use Rattle.table.specs.Spells.{tree_of}
use Rattle.table.specs.Inside.{Loaded}
use Rattle.table.specs.Verdict.{length_good, counts_good, distances_good, Node, preorder, first_such, deep, endless_parts}
use Rattle.table.specs.Verdict.{endless, light}
use Rattle.table.proofs.Laid.{both}
use Rattle.table.proofs.Parts.{loop_of_kind}
use Rattle.table.proofs.Order.{length_preorder}
use Rattle.state.specs.Resting.{rests, blamed}
use Rattle.store.specs.Store.{in_use, store_good, store_room}
use Rattle.store.specs.Stored.{Stored}
use Rattle.store.proofs.GoodStore.{stored}
use Rattle.store.proofs.Room.{no_room, no_store}
use Rattle.kernel.specs.declared.Refusal.TheVariants.{Table, StateRoom, NotAtRest, UnlistedEvent}
use Rattle.kernel.specs.declared.Refusal.TheVariants.{AtomRoom, BadStore, StoreRoom}
use Rattle.kernel.specs.Answer.{Outcome, Bytes, outcome_number, outcome_index, has_room, unlisted}
use Rattle.kernel.specs.Demand1.{Handed, LowestBad, LowestNode, Endless, Check, its_length, its_counts}
use Rattle.kernel.specs.Demand1.{its_distances}
use Rattle.kernel.specs.Demand1.{its_configurations, its_nodes, its_depth, its_loops, its_figures, state_room}
use Rattle.kernel.specs.Demand1.{state_at_rest, listed_events, atom_room, good_store, parking_room, number, Fails}

-- the test of a check, and the outcome where it is false
abbrev pub ok : Check → Handed → Bool
ok its_length h = length_good h.table
ok its_counts h = counts_good h.table
ok its_distances h = distances_good h.table
ok its_configurations h = not (ltb (lowest (configurations h.table) (λ j. not (good_configuration h.table j))) (configurations h.table))
ok its_nodes h = not (ltb (lowest (nodes h.table) (λ i. not (good_node h.table i))) (nodes h.table))
ok its_depth h = not (ltb (first_such deep (preorder 1 (tree_of h.table))) (size (tree_of h.table)))
ok its_loops h = not (ltb (first_such endless (preorder 1 (tree_of h.table))) (size (tree_of h.table)))
ok its_figures h = light (tree_of h.table)
ok state_room h = has_room h.table h.state
ok state_at_rest h = not (ltb (blamed h.table h.state) (nodes h.table))
ok listed_events h = not (ltb (unlisted h.table h.handed_in) places)
ok atom_room h = leb (A (tree_of h.table)) (length h.row)
ok good_store h = store_good h.table h.store
ok parking_room h = leb (F (tree_of h.table)) (store_room h.store)

abbrev pub refusal : Check → Handed → Outcome
refusal its_length h = Err (Table BadLength)
refusal its_counts h = Err (Table BadCounts)
refusal its_distances h = Err (Table BadDistances)
refusal its_configurations h = Err (Table (BadConfiguration (lowest (configurations h.table) (λ j. not (good_configuration h.table j)))))
refusal its_nodes h = Err (Table (BadNode (lowest (nodes h.table) (λ i. not (good_node h.table i)))))
refusal its_depth h = Err (Table (TooDeep (first_such deep (preorder 1 (tree_of h.table)))))
refusal its_loops h = Err (Table (EndlessLoop (first_such endless (preorder 1 (tree_of h.table)))))
refusal its_figures h = Err (Table TooHeavy)
refusal state_room h = Err StateRoom
refusal state_at_rest h = Err (NotAtRest (blamed h.table h.state))
refusal listed_events h = Err (UnlistedEvent (unlisted h.table h.handed_in))
refusal atom_room h = Err AtomRoom
refusal good_store h = Err BadStore
refusal parking_room h = Err StoreRoom

pub numbered : (c : Check) (h : Handed) → outcome_number (refusal c h) ≡ number c
numbered its_length h = refl
numbered its_counts h = refl
numbered its_distances h = refl
numbered its_configurations h = refl
numbered its_nodes h = refl
numbered its_depth h = refl
numbered its_loops h = refl
numbered its_figures h = refl
numbered state_room h = refl
numbered state_at_rest h = refl
numbered listed_events h = refl
numbered atom_room h = refl
numbered good_store h = refl
numbered parking_room h = refl

-- what the checks before a check have shown, where it is asked for
abbrev pub Shown : Check → Handed → Type 0
Shown its_length h = Unit {0}
Shown its_counts h = Unit {0}
Shown its_distances h = Unit {0}
Shown its_configurations h = Unit {0}
Shown its_nodes h = Unit {0}
Shown its_depth h = Unit {0}
Shown its_loops h = Unit {0}
Shown its_figures h = Unit {0}
Shown state_room h = Unit {0}
Shown state_at_rest h = Unit {0}
Shown listed_events h = Unit {0}
Shown atom_room h = Unit {0}
Shown good_store h = Loaded h.table × Bytes h.store
Shown parking_room h = (2 + in_use h.store ≤ length h.store) × (in_use h.store < 65536)

-- a fact that is so exactly if a test is false
record Says (b : Bool) (P : Type 0) : Type 0 where
  so : b ≡ false → P
  back : P → b ≡ false

le_says : (m n : ℕ) → Says (leb m n) (n < m)
le_says m n = record { so = leb-false m n; back = lt-leb m n }

eq_says : (m n : ℕ) → Says (eqb m n) (m ≢ n)
eq_says m n = record { so = eqb-false m n; back = ne_eqb m n }

or_says : {a b : Bool} {P Q : Type 0} → Says a P → Says b Q → Says (a && b) (P ⊎ Q)
or_says {a} {b} {P} {Q} f g = record { so = go a f.so; back = λ z. back a f.back z }
  where
    go : (a : Bool) → (a ≡ false → P) → (a && b) ≡ false → P ⊎ Q
    go true h e = inr (g.so e)
    go false h e = inl (h refl)

    back : (a : Bool) → (P → a ≡ false) → P ⊎ Q → (a && b) ≡ false
    back a h (inl p) = rw (h p)
    back a h (inr q) = rw (g.back q) (and-false a)

-- an event at or above v, the lowest of the first n that are handed in
module _ (X : Events) (v n : ℕ) where
  lowest_unlisted : not (ltb (lowest n (λ e. X e && leb v e)) n) ≡ false
      → (lowest n (λ e. X e && leb v e) < n)
      × (X (lowest n (λ e. X e && leb v e)) ≡ true)
      × (v ≤ lowest n (λ e. X e && leb v e))
      × ((e : ℕ) → e < lowest n (λ e. X e && leb v e) → X e ≡ true → e < v)
  lowest_unlisted h =
      let inside = ltb-true (lowest n (λ e. X e && leb v e)) n (not-false _ h) in
      let (there, high) = both {a = X _} (at_lowest n (λ e. X e && leb v e) inside) in (
        inside,
        there,
        leb-true v _ high,
        λ e l x. leb-false v e (rw x at (before_lowest n (λ e. X e && leb v e) e l)),
      )

  only_unlisted : (i : ℕ) → i < n → X i ≡ true → v ≤ i → ((e : ℕ) → e < i → X e ≡ true → e < v)
      → (not (ltb (lowest n (λ e. X e && leb v e)) n) ≡ false) × (i ≡ lowest n (λ e. X e && leb v e))
  only_unlisted i inside there high lower =
      let same = lowest_is n i (λ e. X e && leb v e) (le_of_lt inside) (λ j l. go j l (X j) refl) (λ z. rw (there, le-leb v i high)) in
      (rw (← same, lt-ltb i n inside), same)
    where
      go : (j : ℕ) → j < i → (b : Bool) → X j ≡ b → (b && leb v j) ≡ false
      go j l true e = lt-leb v j (lower j l e)
      go j l false e = refl

module _ (good : ℕ → Bool) (n : ℕ) where
  lowest_bad : not (ltb (lowest n (λ i. not (good i))) n) ≡ false → LowestBad good n (lowest n (λ i. not (good i)))
  lowest_bad e =
      let inside = ltb-true (lowest n (λ i. not (good i))) n (not-false _ e) in
      record {
        inside = inside;
        bad = not-true (good (lowest n (λ i. not (good i)))) (at_lowest n (λ i. not (good i)) inside);
        lowest = λ j h. not-false (good j) (before_lowest n (λ i. not (good i)) j h);
      }

  only_bad : (i : ℕ) → LowestBad good n i → (not (ltb (lowest n (λ i. not (good i))) n) ≡ false) × (i ≡ lowest n (λ i. not (good i)))
  only_bad i b =
      let same =
      lowest_is n i (λ i. not (good i)) (le_of_lt b.inside) (λ j h. rw (b.lowest j h)) (λ h. rw b.bad) in
      (rw (← same, lt-ltb i n b.inside), same)

-- a fact about a node, told by a test
record Tests (So : Node → Type 0) (so : Node → Bool) : Type 0 where
  sound : (x : Node) → so x ≡ true → So x
  whole : (x : Node) → So x → so x ≡ true

module _ {So : Node → Type 0} {so : Node → Bool} (t : Tests So so) where
  lowest_node : (l : List Node) → first_such so l < length l → LowestNode So l (first_such so l)
  unfolding first_such LowestNode
  lowest_node [] h = absurd (omega arith)
  lowest_node (x ∷ l) h = go (so x) refl (lowest_node l) h
    where
      go : (b : Bool) → so x ≡ b → (first_such so l < length l → LowestNode So l (first_such so l))
          → cond b 0 (suc (first_such so l)) < suc (length l)
          → LowestNode So (x ∷ l) (cond b 0 (suc (first_such so l)))
      go true e f h = t.sound x e
      go false e f h = ((λ s. false≢true (sym e ∙ t.whole x s)), f (omega arith))

  only_node : (l : List Node) (i : ℕ) → LowestNode So l i → (first_such so l < length l) × (i ≡ first_such so l)
  unfolding first_such LowestNode
  only_node [] i h = absurd h
  only_node (x ∷ l) zero h = rw (t.whole x h) (omega arith, refl)
  only_node (x ∷ l) (suc i) (n, h) = go (so x) refl (only_node l i h)
    where
      go : (b : Bool) → so x ≡ b → (first_such so l < length l) × (i ≡ first_such so l)
          → (cond b 0 (suc (first_such so l)) < suc (length l)) × (suc i ≡ cond b 0 (suc (first_such so l)))
      go true e f = absurd (n (t.sound x e))
      go false e (a, b) = (omega arith, ap suc b)

-- of the nodes of a program
module _ {So : Node → Type 0} {so : Node → Bool} (t : Tests So so) (p : Program) where
  lowest_in : not (ltb (first_such so (preorder 1 p)) (size p)) ≡ false → LowestNode So (preorder 1 p) (first_such so (preorder 1 p))
  lowest_in e =
      lowest_node t (preorder 1 p) (rw (length_preorder p 1) (ltb-true (first_such so (preorder 1 p)) (size p) (not-false _ e)))

  only_in : (i : ℕ) → LowestNode So (preorder 1 p) i
      → (not (ltb (first_such so (preorder 1 p)) (size p)) ≡ false) × (i ≡ first_such so (preorder 1 p))
  only_in i b =
      let (inside, same) = only_node t (preorder 1 p) i b in
      let below : first_such so (preorder 1 p) < size p = omega (arith, length_preorder p 1) in
      (rw (lt-ltb (first_such so (preorder 1 p)) (size p) below), same)

deep_test : Tests (λ x. 64 < x.depth) deep
deep_test = record { sound = λ x e. ltb-true 64 x.depth e; whole = λ x h. lt-ltb 64 x.depth h }

endless_so : {p : Program} (v : Parts p) → endless_parts v ≡ true → (q : Program) × (p ≡ Loop q) × (stops q ≡ false)
endless_so (no_part f) e = absurd (false≢true e)
endless_so {p} (one_part {q = q} f v) e =
    let so = both {a = eqb (kind p) 5} e in
    (q, loop_of_kind f (eqb-true (kind p) 5 so.0), not-true (stops q) so.1)
endless_so (two_parts f v w) e = absurd (false≢true e)

endless_test : Tests Endless endless
unfolding kind
endless_test =
    record {
      sound = λ x e. let (q, is_loop, through) = endless_so (parts x.part) e in record { body = q; loop = is_loop; runs_through = through };
      whole = λ x b. rw (b.loop, b.runs_through);
    }

-- the checks that say what is out of its range
length_says : (h : Handed) → Says (ok its_length h) ((length h.table < 16) ⊎ (32778 < length h.table))
unfolding length_good
length_says h = or_says (le_says 16 (length h.table)) (le_says (length h.table) 32778)

counts_says : (h : Handed)
    → Says (ok its_counts h)
    (((nodes h.table < 1) ⊎ (4096 < nodes h.table))
    ⊎ ((2048 < configurations h.table) ⊎ ((events h.table < 1) ⊎ (places < events h.table))))
unfolding counts_good
counts_says h =
    or_says
    (or_says (le_says 1 (nodes h.table)) (le_says (nodes h.table) 4096))
    (or_says (le_says (configurations h.table) 2048) (or_says (le_says 1 (events h.table)) (le_says (events h.table) places)))

distances_says : (h : Handed)
    → Says (ok its_distances h)
    ((back_to_nodes h.table ≢ 6 * nodes h.table + 4 * configurations h.table)
    ⊎ ((back_to_configurations h.table ≢ 4 * configurations h.table)
    ⊎ (length h.table ≢ 6 * nodes h.table + 4 * configurations h.table + 10)))
unfolding distances_good
distances_says h = or_says (eq_says _ _) (or_says (eq_says _ _) (eq_says _ _))

figures_says : (h : Handed)
    → Says (ok its_figures h)
    ((4094 < G (tree_of h.table))
    ⊎ ((4096 < A (tree_of h.table)) ⊎ ((65535 < W (tree_of h.table)) ⊎ (16384 < F (tree_of h.table)))))
unfolding light
figures_says h =
    or_says (le_says (G (tree_of h.table)) 4094)
    (or_says (le_says (A (tree_of h.table)) 4096)
    (or_says (le_says (W (tree_of h.table)) 65535) (le_says (F (tree_of h.table)) 16384)))

-- 25: no list of pieces stands in a store that isn't good
store_says : (h : Handed) → Shown good_store h → Says (ok good_store h) ((l : List Piece) → Stored h.table h.store l → ⊥)
store_says h (loaded, low) = record { so = λ e l. no_store loaded e; back = λ none. go none (ok good_store h) refl }
  where
    go : ((l : List Piece) → Stored h.table h.store l → ⊥) → (b : Bool) → ok good_store h ≡ b → ok good_store h ≡ false
    go none true e = let (l, there) = stored loaded low e in absurd (none l there)
    go none false e = e

-- 13
room_says : (s : List ℕ) (f : ℕ) → 2 + in_use s ≤ length s → in_use s < 65536 → Says (leb f (store_room s)) (min (length s) 65537 < 2 + in_use s + f)
unfolding store_room
room_says s f l u =
    record { so = λ e. no_room s f l (leb-false f (store_room s) e); back = λ h. lt-leb f (store_room s) (omega arith) }

-- where the test is false the check fails
pub fails : (c : Check) (h : Handed) → Shown c h → ok c h ≡ false → Fails c h (outcome_index (refusal c h))
fails its_length h shown e = ((length_says h).so e, refl)
fails its_counts h shown e = ((counts_says h).so e, refl)
fails its_distances h shown e = ((distances_says h).so e, refl)
fails its_configurations h shown e = lowest_bad (good_configuration h.table) (configurations h.table) e
fails its_nodes h shown e = lowest_bad (good_node h.table) (nodes h.table) e
fails its_depth h shown e = lowest_in deep_test (tree_of h.table) e
fails its_loops h shown e = lowest_in endless_test (tree_of h.table) e
fails its_figures h shown e = ((figures_says h).so e, refl)
fails state_room h shown e = (leb-false (4 * nodes h.table) (length h.state) e, refl)
fails state_at_rest h shown e = lowest_bad (rests h.table h.state) (nodes h.table) e
fails listed_events h shown e = lowest_unlisted h.handed_in (events h.table) places e
fails atom_room h shown e = (leb-false (A (tree_of h.table)) (length h.row) e, refl)
fails good_store h shown e = ((store_says h shown).so e, refl)
fails parking_room h (all, low) e = ((room_says h.store (F (tree_of h.table)) all low).so e, refl)

-- and nowhere else, with no other index
pub failing : (c : Check) (h : Handed) → Shown c h → (i : ℕ) → Fails c h i → (ok c h ≡ false) × (i ≡ outcome_index (refusal c h))
failing its_length h shown i (b, e) = ((length_says h).back b, e)
failing its_counts h shown i (b, e) = ((counts_says h).back b, e)
failing its_distances h shown i (b, e) = ((distances_says h).back b, e)
failing its_configurations h shown i b = only_bad (good_configuration h.table) (configurations h.table) i b
failing its_nodes h shown i b = only_bad (good_node h.table) (nodes h.table) i b
failing its_depth h shown i b = only_in deep_test (tree_of h.table) i b
failing its_loops h shown i b = only_in endless_test (tree_of h.table) i b
failing its_figures h shown i (b, e) = ((figures_says h).back b, e)
failing state_room h shown i (b, e) = (lt-leb (4 * nodes h.table) (length h.state) b, e)
failing state_at_rest h shown i b = only_bad (rests h.table h.state) (nodes h.table) i b
failing listed_events h shown i (a, b, c, d) = only_unlisted h.handed_in (events h.table) places i a b c d
failing atom_room h shown i (b, e) = (lt-leb (A (tree_of h.table)) (length h.row) b, e)
failing good_store h shown i (b, e) = ((store_says h shown).back b, e)
failing parking_room h (all, low) i (b, e) = ((room_says h.store (F (tree_of h.table)) all low).back b, e)
