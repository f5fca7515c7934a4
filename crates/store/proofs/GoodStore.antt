-- What refusal 25 tests is that pieces stand there: `stored` gives them from the test, `good_store` the test from them.
use Prim.Native.Nat.{ℕ, zero, suc, ◌+◌, ◌-◌, ◌*◌, ◌≤◌, ◌<◌}
use mathlib.Core.Bool.{true}
use mathlib.Core.Path.{◌≡◌, sym, ap, ◌∙◌}
use mathlib.Core.List.{List, [], ◌∷◌, ◌++◌}
use native.Mathlib.Decide.{ℕ_discrete}
use native.Mathlib.Omega.{arith}
use lib.ListN.{length, get_or, take, drop, length-drop}
use lib.Seq.{length-take-le, get_or-drop}
use Rattle.junior.specs.Term.{Term, prog}
use Rattle.junior.specs.Trace.{Piece, piece}
use Rattle.junior.specs.AtRest.{AtRest}
use Rattle.junior.specs.Parked.{All, no_more, next}
use Rattle.table.specs.Records.{nodes, size_at}
use Rattle.table.specs.Spells.{Spells, tree_of}
use Rattle.table.specs.Part.{part_table}
use Rattle.table.specs.Inside.{Loaded, Placed}
use Rattle.table.proofs.Laid.{both}
use Rattle.table.proofs.OneTree.{one_tree}
use Rattle.table.proofs.Loaded.{node_placed, whole_placed}
use Rattle.table.proofs.PartBytes.{part}
use Rattle.table.proofs.PartGood.{part_loaded}
use Rattle.table.proofs.PartTree.{part_tree}
use Rattle.state.specs.StateBytes.{state_bytes}
use Rattle.state.specs.Pieces.{piece_bytes, pieces_bytes}
use Rattle.state.proofs.Standing.{standing}
use Rattle.state.proofs.Blameless.{resting}
use Rattle.store.specs.Store.{in_use, event_at, node_of, piece_length, two, piece_good, pieces_good, store_good}
use Rattle.store.specs.Stored.{Belongs, Stored}
use Rattle.store.proofs.Tests.{body_is, Good, good_is, is_good, store_pieces, store_is}
use Rattle.store.proofs.Turns.{pieces_more, pieces_end}
use Rattle.store.proofs.There.{both_long, behind_is, joined, two_there, There, there}

-- the part of the table at node j is a table, and what it spells stands at node j
module _ {t : List ℕ} (d : Loaded t) (j : ℕ) (h : j < nodes t) where
  part_placed : Placed (part_table t j) 0 (tree_of (part_table t j))
  part_placed = whole_placed (part_loaded (part d j h))

  part_nodes : nodes (part_table t j) ≡ size_at t j
  part_nodes = (part d j h).nodes_are

  part_spelled : Spells t j (tree_of (part_table t j))
  part_spelled = rw (part_tree (part d j h)) (node_placed d j h).spelled

module _ {t : List ℕ} (d : Loaded t) (s : List ℕ) (end : ℕ) (long : end ≤ length s) where
  -- a piece that belongs there is good
  good_one : {x : Piece} (at : ℕ) → Belongs t x → There t s at x → at + length (piece_bytes x) ≤ end → Good t s end at
  good_one {x} at b h l =
      let j = x.node in
      let among = (body_is b.body).among in
      let same = one_tree t j (prog x.state) (tree_of (part_table t j)) b.program (part_spelled d j among) in
      let state : take (4 * nodes (part_table t j)) (drop (at + 4) s) ≡ state_bytes x.state = rw (part_nodes d j among) h.state_is in
      let rests = resting (part_table t j) (drop (at + 4) s) (part_placed d j among) x.state same state b.at_rest in
      record {
        body = rw (h.event_is, h.node_is) b.body;
        ends = rw h.long l;
        rests_so = rw h.node_is (rests ∙ part_nodes d j among);
      }

  good_pieces : {l : List Piece} → All (Belongs t) l → (n at : ℕ) → at ≤ end → end ≤ n + at → take (end - at) (drop at s) ≡ pieces_bytes l
      → pieces_good t s end n at ≡ true
  unfolding pieces_bytes
  good_pieces no_more n at b m e =
      let none = sym (length-take-le (end - at) (drop at s) (simp length-drop (omega arith))) ∙ ap length e in
      pieces_end t s end n at (omega (arith, none))
  good_pieces (next {x = x} {l = l} h a) n at b m e =
      let r = pieces_bytes l in
      let sum = both_long s (piece_bytes x) r at (end - at) (omega arith) e in
      let x_there = there s r at (end - at) h (omega arith) e in
      let good = good_one at h x_there (omega arith) in
      let less : end - at - length (piece_bytes x) ≡ end - (at + length (piece_bytes x)) = omega arith in
      let later = rw less at (behind_is s (piece_bytes x) r at (end - at) (omega arith) e) in
      pieces_more t s end n at m (omega arith)
      ∙ rw (is_good good, x_there.long) (good_pieces a (n - 1) (at + length (piece_bytes x)) (omega arith) (omega arith) later)

  module _ (low : (i : ℕ) → get_or s i 0 < 256) where
    -- the state of a good piece
    abbrev States : ℕ → Term → Type 0
    States at y =
        Spells t (node_of s at) (prog y) × (take (4 * size_at t (node_of s at)) (drop (at + 4) s) ≡ state_bytes y) × AtRest y

    state_there : (at : ℕ) → Good t s end at → (y : Term) × States at y
    state_there at g =
        let j = node_of s at in
        let among = (body_is g.body).among in
        let n = part_nodes d j among in
        let below : (i : ℕ) → get_or (drop (at + 4) s) i 0 < 256 = λ i. rw (get_or-drop (at + 4) s i 0) (low (at + 4 + i)) in
        let room : 4 * nodes (part_table t j) ≤ length (drop (at + 4) s) = rw n (simp length-drop (omega (arith, g.ends))) in
        let (y, of, bytes, rest) = standing (part_table t j) (drop (at + 4) s) (part_placed d j among) below room (g.rests_so ∙ sym n) in
        (y, (rw of (part_spelled d j among), ap (λ (k : ℕ). take (4 * k) (drop (at + 4) s)) (sym n) ∙ bytes, rest))

    abbrev Stand : ℕ → List Piece → Type 0
    Stand at l = (take (end - at) (drop at s) ≡ pieces_bytes l) × All (Belongs t) l

    one_more : (at : ℕ) → Good t s end at → (l : List Piece) → Stand (at + piece_length t s at) l → (k : List Piece) × Stand at k
    unfolding pieces_bytes
    one_more at g l (later, each) =
        let j = node_of s at in
        let (y, (spelled, state, rest)) = state_there at g in
        let m = end - at in
        let n = 4 * size_at t j in
        let a : at + 2 + 2 ≡ at + 4 = omega arith in
        let b : m - 2 - 2 - n ≡ end - (at + piece_length t s at) = omega arith in
        let c : at + 4 + n ≡ at + piece_length t s at = omega arith in
        let behind = joined s (state_bytes y) (pieces_bytes l) (at + 4) (m - 2 - 2) n (omega (arith, g.ends)) state (rw (b, c) later) in
        let rest_is = state_bytes y ++ pieces_bytes l in
        let two_here = two_there s low at (omega (arith, g.ends)) in
        let two_next = two_there s low (at + 2) (omega (arith, g.ends)) in
        let node = joined s (two j) rest_is (at + 2) (m - 2) 2 (omega (arith, g.ends)) two_next (rw a behind) in
        let all = joined s (two (event_at s at)) (two j ++ rest_is) at m 2 (omega (arith, g.ends)) two_here node in
        (piece (event_at s at) j y ∷ l, (all, next (record { body = g.body; program = spelled; at_rest = rest }) each))

    stand : (n at : ℕ) → at ≤ end → end ≤ n + at → pieces_good t s end n at ≡ true → (l : List Piece) × Stand at l
    unfolding pieces_bytes
    stand zero at b m h = let e : end - at ≡ 0 = omega arith in ([], (rw e, no_more))
    stand (suc n) at b m h = go (ℕ_discrete at end) (λ k c o. stand n k c o)
      where
        go : Dec (at ≡ end) → ((k : ℕ) → k ≤ end → end ≤ n + k → pieces_good t s end n k ≡ true → (l : List Piece) × Stand k l)
            → (l : List Piece) × Stand at l
        go (yes e) later = let z : end - at ≡ 0 = omega arith in ([], (rw z, no_more))
        go (no e) later =
            let less : suc n - 1 ≡ n = omega arith in
            let (good, more) = both {a = piece_good t s end at} (sym (pieces_more t s end (suc n) at m (omega arith)) ∙ h) in
            let g = good_is good in
            let (l, there_so) = later (at + piece_length t s at) g.ends (omega arith) (rw less at more) in
            one_more at g l there_so

pub good_store : {t s : List ℕ} {l : List Piece} → Loaded t → Stored t s l → store_good t s ≡ true
good_store {t} {s} d a =
    let u = in_use s in
    let e : 2 + u - 2 ≡ u = omega arith in
    store_pieces t s a.all ∙ good_pieces d s (2 + u) a.all a.each u 2 (omega arith) (omega arith) (rw e a.bytes)

pub stored : {t s : List ℕ} → Loaded t → ((i : ℕ) → get_or s i 0 < 256) → store_good t s ≡ true → (l : List Piece) × Stored t s l
stored {t} {s} d low g =
    let u = in_use s in
    let e : 2 + u - 2 ≡ u = omega arith in
    let (all, pieces) = store_is t s g in
    let (l, (bytes, each)) = stand d s (2 + u) all low u 2 (omega arith) (omega arith) pieces in
    (l, record { begins = omega arith; all = all; bytes = ap (λ (k : ℕ). take k (drop 2 s)) (sym e) ∙ bytes; each = each })
