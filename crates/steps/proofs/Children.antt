-- A child that is to run: it is ready in the part of the node's state that it is lent; the state when the part is back.
use Prim.Native.Nat.{ℕ, suc, ◌+◌, ◌-◌, ◌*◌, ◌≤◌, ◌<◌}
use mathlib.Core.Path.{◌≡◌, refl, ap, sym, ◌∙◌}
use mathlib.Core.List.{List, ◌++◌}
use mathlib.Core.Option.{none}
use native.Mathlib.Omega.{arith}
use lib.ListN.{length, get_or, drop, length-replicate}
use lib.Seq.{drop-drop, get_or-drop}
use borrow.Rule.Slice.PartMut.{mid_of, put_mid}
use Rattle.events.specs.Members.{places, marks}
use Rattle.junior.specs.declared.Flag.{Flag}
use Rattle.junior.specs.Program.{Program, size}
use Rattle.junior.specs.Term.{Term, prog}
use Rattle.junior.specs.Trace.{Place}
use Rattle.junior.specs.Figures.{per, parking}
use Rattle.junior.specs.Inside.{Going}
use Rattle.table.specs.Records.{size_at}
use Rattle.table.specs.Inside.{Placed}
use Rattle.table.proofs.Tree.{size_pos}
use Rattle.table.proofs.Loaded.{size_stands, in_table}
use Rattle.state.specs.StateBytes.{Own, head, below, state_bytes}
use Rattle.state.proofs.Parts.{blank, len_bytes, own_of, own_below, part_is, put_is, own_phase}
use Rattle.state.proofs.Frames.{Frame, size_in, spells_in}
use Rattle.steps.specs.Running.{Rooms, Ready, Ran, Live, Runs, Any}

module _ {skip : ℕ} {table : List ℕ} {i : ℕ} {state words : List ℕ} {rooms : Rooms} {tally : List ℕ} {t : Term}
    (h : Ready skip table i state words rooms tally t) where
  -- a byte that is not skipped
  pub byte_is : (k : ℕ) → skip ≤ k → get_or state k 0 ≡ get_or (state_bytes t) k 0
  byte_is k l =
      let e : skip + (k - skip) ≡ k = omega arith in
      ap (λ n. get_or state n 0) (sym e)
      ∙ (sym (get_or-drop skip state (k - skip) 0)
      ∙ (ap (λ x. get_or x (k - skip) 0) h.bytes
      ∙ (get_or-drop skip (state_bytes t) (k - skip) 0 ∙ ap (λ n. get_or (state_bytes t) n 0) e)))

  -- the own bytes, and all below
  pub own_and_below : skip ≤ 4 → state ≡ own_of state (below t)
  own_and_below l =
      let e : skip + (4 - skip) ≡ 4 = omega arith in
      let d = drop-drop (4 - skip) skip in
      let b = sym (d state) ∙ (ap (drop (4 - skip)) h.bytes ∙ d (state_bytes t)) in
      let z : drop 4 state ≡ below t = rw e at b in
      own_below state (omega (arith, size_pos (prog t), h.long)) ∙ ap (own_of state) z

  -- a node has its own bytes
  pub own_in : (k : ℕ) → k < 4 → k < length state
  own_in k l = omega (arith, size_pos (prog t), h.long)

module _ {table : List ℕ} {i : ℕ} {state words : List ℕ} {rooms : Rooms} {tally : List ℕ} {t : Term}
    (h : Ready 0 table i state words rooms tally t) where
  pub phase_is : own_phase state ≡ (head t).phase
  phase_is = byte_is h 0 (omega arith)

  -- looked at less closely
  pub unseen : (skip : ℕ) → Ready skip table i state words rooms tally t
  unseen skip =
      record {
        placed = h.placed;
        loops = h.loops;
        wide = h.wide;
        tallied = h.tallied;
        long = h.long;
        bytes = ap (drop skip) h.bytes;
        going = h.going;
        room = h.room;
        parking_room = h.parking_room;
      }

-- a node's falling number: its size first, then a rank at the node, run_child's being the highest
abbrev pub falling : List ℕ → ℕ → ℕ → ℕ
falling table i rank = 4 * size_at table i + rank

pub falls : {skip : ℕ} {table : List ℕ} {i : ℕ} {state words : List ℕ} {rooms : Rooms} {tally : List ℕ} {t : Term} {k : ℕ} (rank lower : ℕ)
    → Ready skip table i state words rooms tally t
    → falling table i rank ≡ k
    → lower < rank
    → falling table i lower < k
falls rank lower h e l = omega arith

-- what run_child asks for a smaller x: the falling number, and that it is live
pub asks_for : {skip : ℕ} {table : List ℕ} {i : ℕ} {state words : List ℕ} {rooms : Rooms} {tally : List ℕ} {t : Term} {k : ℕ}
    → Ready skip table i state words rooms tally t
    → (rank : ℕ)
    → falling table i rank ≡ k
    → {j : ℕ} {part words₁ : List ℕ} {rooms₁ : Rooms} {tally₁ : List ℕ} {x : Term}
    → Ready 0 table j part words₁ rooms₁ tally₁ x
    → size (prog x) < size (prog t)
    → (falling table j 3 < k) × Live 0 Any table j part words₁ rooms₁ tally₁
asks_for h rank e {x = x} c l = (omega (arith, size_stands c.placed, size_stands h.placed), (x, tt, c))

-- the child x's part of its node's state, from byte a to byte e
pub record Cut (ahead : ℕ) (x : Term) (a e : ℕ) : Type 0 where
  pub from : a ≡ 4 + 4 * ahead
  pub till : e ≡ a + 4 * size (prog x)

module _ {own : Own} {ahead behind : ℕ} {f : Term → Term} (o : Frame own ahead behind f) {skip : ℕ} {table : List ℕ}
    {i : ℕ} {state words : List ℕ} {rooms : Rooms} {tally : List ℕ} {x : Term} (h : Ready skip table i state words rooms tally (f x)) where
  child_placed : Placed table (i + 1 + ahead) (prog x)
  child_placed =
      record {
        loaded = h.placed.loaded;
        spelled = spells_in o x table i h.placed.spelled;
        inside = omega (arith, size_in o x, h.placed.inside);
      }

  -- the record behind the node's own can be read
  pub next_in_table : 6 * (i + 1) + 5 < length table
  next_in_table = in_table h.placed 1 (omega (arith, size_in o x, size_pos (prog x)))

  module _ {a e : ℕ} (u : Cut ahead x a e) where
    pub till_in : e ≤ length state
    till_in = omega (arith, u.from, u.till, h.long, size_in o x)

    split : skip ≤ 4 → state ≡ own_of state (blank ahead) ++ (state_bytes x ++ blank behind)
    split low = own_and_below h low ∙ ap (own_of state) (o.below_is x)

    own_long : length (own_of state (blank ahead)) ≡ a
    own_long = simp (length-replicate {A = ℕ}) (omega (arith, u.from))

    to_end : a + length (state_bytes x) ≡ e
    to_end = omega (arith, len_bytes x, u.till)

    pub child : skip ≤ 4 → {j : ℕ} → j ≡ i + 1 + ahead → {words₁ : List ℕ}
        → 64 * length words₁ ≡ places
        → Going (marks words₁) x
        → Ready 0 table j (mid_of a (e - a) state) words₁ rooms tally x
    child low at_j w g =
        let part =
        part_is state (own_of state (blank ahead)) (state_bytes x) (blank behind) (split low) a e own_long to_end in
        record {
          placed = rw at_j child_placed;
          loops = o.loops x h.loops;
          wide = w;
          tallied = h.tallied;
          long = ap length part ∙ len_bytes x;
          bytes = part;
          going = g;
          room = omega (arith, h.room, o.pot_in (per 2) x);
          parking_room = omega (arith, h.parking_room, o.pot_in parking x);
        }

    pub put_back : skip ≤ 4 → (s : List ℕ) → put_mid a (e - a) state s ≡ own_of state (blank ahead ++ (s ++ blank behind))
    put_back low s =
        put_is state (own_of state (blank ahead)) (state_bytes x) (blank behind) (split low) a e own_long to_end s

    pub asks : skip ≤ 4 → {j m : ℕ} (rank : ℕ) → falling table i rank ≡ m → j ≡ i + 1 + ahead → {words₁ : List ℕ}
        → 64 * length words₁ ≡ places
        → Going (marks words₁) x
        → (falling table j 3 < m) × Live 0 Any table j (mid_of a (e - a) state) words₁ rooms tally
    asks low rank z at_j w g = asks_for h rank z (child low at_j w g) (omega (arith, size_in o x))

    -- so it ran
    pub child_ran : skip ≤ 4 → {j : ℕ} → j ≡ i + 1 + ahead → {words₁ s words' : List ℕ} {rooms' : Rooms} {tally' : List ℕ} {α : Flag}
        → 64 * length words₁ ≡ places
        → Going (marks words₁) x
        → Runs 0 Any table j (mid_of a (e - a) state) words₁ rooms tally s words' rooms' tally' α
        → (Q : Place)
        → Q.node ≡ j
        → Ran Q x words₁ rooms tally s words' rooms' tally' α
    child_ran low at_j w g run Q at = run x tt (child low at_j w g) Q at

-- a place at a node, for what holds at any
abbrev pub at_node : ℕ → Place
at_node i = record { node = i; scope = λ e. none }

-- the indexes of the children, and their places
pub next_index : (i : ℕ) → i + 1 ≡ i + 1 + 0
next_index i = omega arith

pub first_at : {k i : ℕ} → k ≡ i → suc k ≡ i + 1
first_at at = omega arith

pub second_at : {k i n : ℕ} → k ≡ i → (p : Program) → n ≡ size p → suc k + size p ≡ i + 1 + n
second_at at p e = omega arith

-- where the parts of a first, a second and an only child lie
module _ {skip : ℕ} {table : List ℕ} {i : ℕ} {state words : List ℕ} {rooms : Rooms} {tally : List ℕ} {x : Term} {f : Term → Term}
    (h : Ready skip table i state words rooms tally (f x)) where
  pub first_cut : {own : Own} {behind : ℕ} → Frame own 0 behind f
      → {n : ℕ}
      → n ≡ size_at table (i + 1)
      → Cut 0 x 4 (4 + 4 * n)
  first_cut o {n} e =
      let z : i + 1 + 0 ≡ i + 1 = omega arith in
      let y = rw z at (child_placed o h) in
      record { from = refl; till = omega (arith, size_stands y) }

  pub second_cut : {own : Own} {ahead : ℕ} → Frame own ahead 0 f
      → {n : ℕ}
      → n ≡ ahead
      → Cut ahead x (4 + 4 * n) (length state)
  second_cut o {n} e = record { from = omega arith; till = omega (arith, h.long, size_in o x) }

  pub only_cut : {own : Own} → Frame own 0 0 f → Cut 0 x 4 (length state)
  only_cut o = record { from = refl; till = omega (arith, h.long, size_in o x) }
