-- The tests of refusal 25 one by one: a body, a piece, and what stands before the pieces.
use Prim.Native.Nat.{ℕ, ◌+◌, ◌-◌, ◌*◌, ◌≤◌, ◌<◌}
use mathlib.Core.Bool.{Bool, true, false, not, ◌&&◌, and-false, false≢true}
use mathlib.Core.Path.{◌≡◌, refl, sym, ◌∙◌}
use mathlib.Core.List.{List}
use native.Mathlib.Omega.{arith}
use lib.Dec.{eqb, leb, ltb}
use lib.ListN.{length, take, drop}
use borrow.Author.Tests.{lt-ltb, le-ltb, ltb-true, le-leb, lt-leb, leb-true, eq-eqb, ne_eqb, eqb-true}
use Rattle.std.specs.Prelude.{Some, None, MatchOption, is_some}
use Rattle.std.proofs.Common.{Option}
use Rattle.events.specs.Events.{lowest}
use Rattle.table.specs.Records.{nodes, kind_at, argument_at, size_at}
use Rattle.table.specs.Part.{part_table}
use Rattle.table.specs.Inside.{Loaded, Rooted}
use Rattle.table.proofs.Laid.{both}
use Rattle.table.proofs.PartGood.{part_rooted}
use Rattle.state.specs.Kinds.{freezable_kind}
use Rattle.state.specs.Resting.{rests, blamed}
use Rattle.state.proofs.PartRests.{part_blamed}
use Rattle.store.specs.Store.{in_use, event_at, node_of, piece_length, is_body, piece_good, pieces_good, store_good}
use Rattle.store.proofs.Moved.{to_end}
use Rattle.store.proofs.Ways.{stops_at}

module _ (t : List ℕ) (e : ℕ) where
  pub no_body_first : is_body t e 0 ≡ false
  unfolding is_body
  no_body_first = refl

  module _ (j : ℕ) where
    pub no_body_past : nodes t ≤ j → is_body t e j ≡ false
    unfolding is_body
    no_body_past h = simp (le-ltb _ _ h, and-false)

    pub no_body_kind : (kind_at t (j - 1) ≡ freezable_kind → ⊥) → is_body t e j ≡ false
    unfolding is_body
    no_body_kind h = simp (ne_eqb _ _ h, and-false)

    pub no_body_event : (argument_at t (j - 1) ≡ e → ⊥) → is_body t e j ≡ false
    unfolding is_body
    no_body_event h = simp (ne_eqb _ _ h, and-false)

    pub body_by_way : 0 < j → j < nodes t → kind_at t (j - 1) ≡ freezable_kind → argument_at t (j - 1) ≡ e
        → is_body t e j ≡ eqb (lowest j (stops_at t j)) j
    unfolding is_body
    body_by_way a b c d = rw (lt-ltb _ _ a, lt-ltb _ _ b, eq-eqb _ _ c, eq-eqb _ _ d)

-- what a body is
pub record IsBody (t : List ℕ) (e j : ℕ) : Type 0 where
  pub behind : 0 < j
  pub among : j < nodes t
  pub kind : kind_at t (j - 1) ≡ freezable_kind
  pub event : argument_at t (j - 1) ≡ e
  pub free : eqb (lowest j (stops_at t j)) j ≡ true

pub body_is : {t : List ℕ} {e j : ℕ} → is_body t e j ≡ true → IsBody t e j
unfolding is_body
body_is {t} {e} {j} h =
    let (inside, more) = both {a = ltb 0 j && ltb j (nodes t)} h in
    let (a, b) = both {a = ltb 0 j} inside in
    let (of, way) = both {a = eqb (kind_at t (j - 1)) freezable_kind && eqb (argument_at t (j - 1)) e} more in
    let (c, d) = both {a = eqb (kind_at t (j - 1)) freezable_kind} of in
    record { behind = ltb-true _ _ a; among = ltb-true _ _ b; kind = eqb-true _ _ c; event = eqb-true _ _ d; free = way }

-- a body judged in the table and in the store as they stand
module _ {t : List ℕ} (l : Loaded t) (j : ℕ) (h : j < nodes t) where
  pub rooted_here : {n : ℕ} → n ≡ size_at t j → Rooted (take (length t - 6 * j) (drop (6 * j) t)) n
  rooted_here e = rw (e, to_end (6 * j) t) (part_rooted l j h)

  pub judged_here : (s : List ℕ) (at n : ℕ) → n ≡ size_at t j
      → lowest n (λ i. not (rests (take (length t - 6 * j) (drop (6 * j) t)) (take (length s - at) (drop at s)) i))
      ≡ blamed (part_table t j) (drop at s)
  judged_here s at n e = rw (e, to_end (6 * j) t, to_end at s) (part_blamed l j h (drop at s))

-- whether none of n nodes is to blame, by the lowest that is
pub none_to_blame : (r : Option ℕ) (n b : ℕ) → MatchOption r (b ≡ n) (λ i. (i ≡ b) × (i < n))
    → (none : Bool) → is_some r ≡ not none → none ≡ eqb b n
none_to_blame None n b e true s = sym (eq-eqb b n e)
none_to_blame None n b e false s = absurd (false≢true s)
none_to_blame (Some i) n b (e, l) true s = absurd (false≢true (sym s))
none_to_blame (Some i) n b (e, l) false s = sym (ne_eqb b n (λ f. omega (arith, e, f)))

module _ (t s : List ℕ) (end at : ℕ) where
  pub piece_short : end < at + 4 → piece_good t s end at ≡ false
  unfolding piece_good
  piece_short h =
      let d : end < at + piece_length t s at = omega arith in
      simp (lt-leb _ _ d, and-false)

  pub piece_no_body : is_body t (event_at s at) (node_of s at) ≡ false → piece_good t s end at ≡ false
  unfolding piece_good
  piece_no_body h = rw h

  pub piece_body : is_body t (event_at s at) (node_of s at) ≡ true
      → piece_good t s end at
      ≡ (leb (at + 4 + 4 * size_at t (node_of s at)) end
      && eqb (blamed (part_table t (node_of s at)) (drop (at + 4) s)) (size_at t (node_of s at)))
  unfolding piece_good
  piece_body h =
      let e : at + piece_length t s at ≡ at + 4 + 4 * size_at t (node_of s at) = omega arith in
      rw (h, e)

-- what a good piece is
pub record Good (t s : List ℕ) (end at : ℕ) : Type 0 where
  pub body : is_body t (event_at s at) (node_of s at) ≡ true
  pub ends : at + piece_length t s at ≤ end
  pub rests_so : blamed (part_table t (node_of s at)) (drop (at + 4) s) ≡ size_at t (node_of s at)

pub good_is : {t s : List ℕ} {end at : ℕ} → piece_good t s end at ≡ true → Good t s end at
unfolding piece_good
good_is {t} {s} {end} {at} h =
    let (a, more) = both {a = is_body t (event_at s at) (node_of s at)} h in
    let (b, c) = both {a = leb (at + piece_length t s at) end} more in
    record { body = a; ends = leb-true _ _ b; rests_so = eqb-true _ _ c }

pub is_good : {t s : List ℕ} {end at : ℕ} → Good t s end at → piece_good t s end at ≡ true
unfolding piece_good
is_good g = rw (g.body, le-leb _ _ g.ends, eq-eqb _ _ g.rests_so)

module _ (t s : List ℕ) where
  pub store_short : length s < 2 → store_good t s ≡ false
  unfolding store_good
  store_short h = rw (lt-leb _ _ h)

  pub store_past : length s < 2 + in_use s → store_good t s ≡ false
  unfolding store_good
  store_past h = simp (lt-leb _ _ h, and-false)

  pub store_pieces : 2 + in_use s ≤ length s → store_good t s ≡ pieces_good t s (2 + in_use s) (in_use s) 2
  unfolding store_good
  store_pieces h =
      let b : 2 ≤ length s = omega arith in
      rw (le-leb _ _ b, le-leb _ _ h)

  -- a good store has all the bytes in use, and good pieces fill them
  pub store_is : store_good t s ≡ true → (2 + in_use s ≤ length s) × (pieces_good t s (2 + in_use s) (in_use s) 2 ≡ true)
  unfolding store_good
  store_is h =
      let (a, more) = both {a = leb 2 (length s)} h in
      let (b, c) = both {a = leb (2 + in_use s) (length s)} more in
      (leb-true _ _ b, c)
