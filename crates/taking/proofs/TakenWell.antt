-- What is taken is the newest piece of its event, which check and an instant accept as it leaves; the store that stays is good, and its room serves.
use Prim.Native.Nat.{ℕ, ◌+◌, ◌-◌, ◌*◌, ◌≤◌, ◌<◌}
use mathlib.Core.Path.{◌≡◌, refl, ap, sym, ◌∙◌}
use mathlib.Core.List.{List, ◌++◌}
use native.Mathlib.Omega.{arith}
use lib.ListN.{length, take, drop, length-append, length-drop}
use lib.Seq.{length-take-le, take_at, take_all}
use borrow.Author.Tests.{eqb-true, lt-ltb}
use Rattle.events.specs.Events.{lowest}
use Rattle.events.proofs.Events.{before_lowest}
use Rattle.junior.specs.Program.{Program, size}
use Rattle.junior.specs.Term.{prog}
use Rattle.junior.specs.Trace.{Piece}
use Rattle.junior.specs.Figures.{figure}
use Rattle.table.specs.Records.{nodes, size_at}
use Rattle.table.specs.Part.{part_table}
use Rattle.table.specs.Spells.{tree_of}
use Rattle.table.specs.Verdict.{verdict_of, number_of}
use Rattle.table.specs.Inside.{Loaded}
use Rattle.table.specs.Inside.Weighing.{tree_at}
use Rattle.table.proofs.Loaded.{node_placed, whole_placed, all_nodes}
use Rattle.table.proofs.OneTree.{one_tree}
use Rattle.table.proofs.Tree.{tree}
use Rattle.table.proofs.Accepted.{accepted}
use Rattle.table.proofs.PartBytes.{Part, part}
use Rattle.table.proofs.PartGood.{part_loaded}
use Rattle.table.proofs.PartTree.{part_tree}
use Rattle.table.proofs.PartAccepted.{Runs, weighs, part_accepted}
use Rattle.state.specs.StateBytes.{state_bytes}
use Rattle.state.specs.Pieces.{piece_bytes}
use Rattle.state.proofs.Parts.{len_bytes}
use Rattle.state.proofs.Pieces.{piece_long}
use Rattle.state.proofs.OneTerm.{one_term}
use Rattle.state.proofs.Blameless.{resting}
use Rattle.store.specs.Store.{in_use, piece_length, store_room, newest, without}
use Rattle.store.specs.Stored.{Belongs}
use Rattle.store.proofs.Ways.{stops_at}
use Rattle.store.proofs.Tests.{body_is}
use Rattle.store.proofs.GoodStore.{good_store}
use Rattle.store.proofs.Added.{in_use_is}
use Rattle.store.proofs.Closed.{within, closed}
use Rattle.taking.specs.TakenWell.{Bytes, Accepts, TakesWell}
use Rattle.taking.proofs.Found.{belongs, found_there, found_in}
use Rattle.taking.proofs.Outcomes.{all_passed}

-- the store without n bytes: as long, and its room by n more
module _ (s : List ℕ) (n at : ℕ) (begins : 2 ≤ at) (ends : at + n ≤ 2 + in_use s) (all : 2 + in_use s ≤ length s) where
  without_in_use : in_use (without n at s) ≡ in_use s - n
  unfolding without
  without_in_use =
      let used = in_use s - n in
      in_use_is used (take (at - 2) (drop 2 s) ++ (take (2 + used - at) (drop (at + n) s) ++ drop (2 + used) s))

  without_long : length (without n at s) ≡ length s
  unfolding without
  without_long =
      let used = in_use s - n in
      let a : length (take (at - 2) (drop 2 s)) ≡ at - 2 = length-take-le (at - 2) (drop 2 s) (simp length-drop (omega arith)) in
      let b : length (take (2 + used - at) (drop (at + n) s)) ≡ 2 + used - at =
      length-take-le (2 + used - at) (drop (at + n) s) (simp length-drop (omega arith)) in
      simp (length-append, length-drop) (omega (arith, a, b))

  room_more : Bytes s → store_room (without n at s) ≡ store_room s + n
  unfolding store_room
  room_more small = rw (without_long, without_in_use) (omega (arith, small 0, small 1))

-- a body that no repetition of count or cap 0 stands above
runs_down : {t : List ℕ} {x : Piece} → Belongs t x → Runs t 0 x.node
runs_down {t} {x} b k from below inside =
    let j = x.node in
    let way = eqb-true (lowest j (stops_at t j)) j (body_is b.body).free in
    let so = before_lowest j (stops_at t j) k (omega (arith, way)) in
    rw (lt-ltb k j below, lt-ltb j (k + size_at t k) inside) at so

-- the piece x of table t, its body as a table of its own
module _ {t : List ℕ} (ok : number_of (verdict_of t) ≡ 0) {x : Piece} (b : Belongs t x) where
  loaded : Loaded t
  loaded = (accepted t ok).loaded

  node : x.node < nodes t
  node = (body_is b.body).among

  own : Part t (part_table t x.node) x.node
  own = part loaded x.node node

  spelled : tree_at t x.node ≡ prog x.state
  spelled = one_tree t x.node _ _ (node_placed loaded x.node node).spelled b.program

  own_tree : tree_of (part_table t x.node) ≡ prog x.state
  own_tree = part_tree own ∙ spelled

  own_accepts : Accepts (part_table t x.node) (state_bytes x.state) x.state
  own_accepts =
      let table = part_table t x.node in
      let placed = whole_placed (part_loaded own) in
      let long : 4 * nodes table ≡ length (state_bytes x.state) =
      omega (arith, len_bytes x.state, all_nodes placed, ap size own_tree) in
      let whole : take (4 * nodes table) (state_bytes x.state) ≡ state_bytes x.state =
      take_all (4 * nodes table) (state_bytes x.state) (omega arith) in
      record {
        tree = own_tree;
        accepted = rw spelled at (part_accepted t ok x.node node (runs_down b));
        state_is = refl;
        at_rest = b.at_rest;
        none_blamed = resting table (state_bytes x.state) placed x.state (sym own_tree) whole b.at_rest;
        no_other = λ y p h. one_term y x.state (p ∙ own_tree) (sym h);
      }

  no_heavier : (weight : Program → ℕ) → figure weight (tree_of (part_table t x.node)) ≤ figure weight (tree_of t)
  no_heavier w =
      let whole = whole_placed loaded in
      rw own_tree
      (weighs w (tree t 0 (tree_of t) whole.spelled) x.node (prog x.state) (omega arith)
      (omega (arith, node, all_nodes whole)) (runs_down b) b.program)

pub takes_well : TakesWell
takes_well =
    record {
      well = λ {t} {s} {e} {tableRoom} {stateRoom} {s'} {tableRoom'} {stateRoom'} {r} small o.
          let p = all_passed t s e tableRoom stateRoom (sym o.outcome_is) in
          let l = (accepted t p.table_good).loaded in
          let f = found_in e l small p.store_passes p.some in
          let x = f.piece in
          let there = found_there f in
          let left = o.leaves in
          let b = belongs f in
          let stood = f.is_newest.stood in
          let bytes : length (piece_bytes x) ≡ piece_length t s (newest t s e) = sym there.long in
          let own_part = own p.table_good b in
          let table : take r.table tableRoom' ≡ part_table t x.node =
          ap (take r.table) (rw there.node_is at left.table_is)
          ∙ take_at (part_table t x.node) _ r.table (own_part.long ∙ sym (rw there.node_is at left.table_length)) in
          let bytes_taken : take r.state (drop (newest t s e + 4) s) ≡ state_bytes x.state =
          rw (left.state_length, there.node_is) there.state_is in
          let state : take r.state stateRoom' ≡ state_bytes x.state =
          ap (take r.state) (rw bytes_taken at left.state_is)
          ∙ take_at (state_bytes x.state) _ r.state
          (len_bytes x.state ∙ sym (rw (there.node_is, there.sized) at left.state_length)) in
          let stays = rw (bytes, ← f.at_is) at (closed f.older x f.newer stood) in
          rw (table, state, left.store_is)
          (record {
            older = f.older;
            piece = x;
            newer = f.newer;
            newest = f.is_newest;
            stays = stays;
            good_again = good_store l stays;
            room_again =
                rw (sym (piece_long x) ∙ bytes)
                (room_more s _ (newest t s e) (omega (arith, f.at_is))
                (rw (bytes, ← f.at_is) at (within f.older x f.newer stood)) stood.all small);
            accepts = own_accepts p.table_good b;
            same_events = own_part.events_are;
            no_heavier = no_heavier p.table_good b;
          });
    }
