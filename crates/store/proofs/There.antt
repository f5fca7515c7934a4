-- Bytes of a store that are one thing and then another, cut apart and put together; and what a piece's numbers and state are where it stands.
use Prim.Native.Nat.{ℕ, suc, ◌+◌, ◌-◌, ◌*◌, ◌/◌, ◌%◌, ◌≤◌, ◌<◌}
use mathlib.Core.Path.{◌≡◌, refl, sym, ap, ◌∙◌}
use mathlib.Core.List.{List, [], ◌∷◌, ◌++◌}
use native.Mathlib.Nat.{div-add-mod'}
use native.Mathlib.Omega.{arith}
use lib.ListN.{length, get_or, take, drop, length-append, length-drop}
use lib.Seq.{length-take-le, take-take, take-add, take_at, drop_at, drop-cons, drop-drop, get_or-take, get_or-drop}
use Rattle.junior.specs.Program.{size}
use Rattle.junior.specs.Term.{prog}
use Rattle.junior.specs.Trace.{Piece}
use Rattle.table.specs.Records.{byte, word, size_at}
use Rattle.table.proofs.Tree.{size_pos, written}
use Rattle.state.specs.StateBytes.{state_bytes}
use Rattle.state.specs.Pieces.{piece_bytes}
use Rattle.state.proofs.Parts.{len_bytes}
use Rattle.state.proofs.Pieces.{piece_long}
use Rattle.store.specs.Store.{event_at, node_of, piece_length, two}
use Rattle.store.specs.Stored.{Belongs}
use Rattle.store.proofs.Moved.{drop_take}

-- the m bytes from `at` on are a and then b
module _ (s a b : List ℕ) (at m : ℕ) (h : at + m ≤ length s) (e : take m (drop at s) ≡ a ++ b) where
  pub both_long : length a + length b ≡ m
  both_long =
      sym (length-append a b) ∙ (sym (ap length e) ∙ length-take-le m (drop at s) (simp length-drop (omega arith)))

  pub front_is : take (length a) (drop at s) ≡ a
  front_is =
      sym (take-take (length a) m (drop at s) (omega (arith, both_long))) ∙ (ap (take (length a)) e ∙ take_at a b (length a) refl)

  pub behind_is : take (m - length a) (drop (at + length a) s) ≡ b
  behind_is =
      ap (take (m - length a)) (sym (drop-drop (length a) at s))
      ∙ (sym (drop_take (length a) m (drop at s) (omega (arith, both_long)) (simp length-drop (omega arith)))
      ∙ (ap (drop (length a)) e ∙ drop_at a b (length a) refl))

pub joined : (s a b : List ℕ) (at m n : ℕ) → n ≤ m → take n (drop at s) ≡ a → take (m - n) (drop (at + n) s) ≡ b
    → take m (drop at s) ≡ a ++ b
joined s a b at m n h f g =
    let e : m ≡ n + (m - n) = omega arith in
    ap (λ (k : ℕ). take k (drop at s)) e ∙ (take-add n (m - n) (drop at s) ∙ rw (drop-drop n at s, f, g))

-- two bytes are the number that they are
pub two_there : (s : List ℕ) → ((i : ℕ) → get_or s i 0 < 256) → (at : ℕ) → at + 2 ≤ length s → take 2 (drop at s) ≡ two (word s at)
two_there s low at h =
    let e : at + 1 ≡ suc at = omega arith in
    let q : (byte s at * 256 + byte s (suc at)) / 256 ≡ byte s at = omega (arith, low (suc at)) in
    let r : (byte s at * 256 + byte s (suc at)) % 256 ≡ byte s (suc at) = omega (arith, low (suc at)) in
    rw (e, q, r, drop-cons s at 0 (omega arith), drop-cons s (suc at) 0 (omega arith))

-- piece x stands at byte `at`
pub record There (t s : List ℕ) (at : ℕ) (x : Piece) : Type 0 where
  pub event_is : event_at s at ≡ x.event
  pub node_is : node_of s at ≡ x.node
  pub sized : size_at t x.node ≡ size (prog x.state)
  pub long : piece_length t s at ≡ length (piece_bytes x)
  pub state_is : take (4 * size_at t x.node) (drop (at + 4) s) ≡ state_bytes x.state

pub there : {t : List ℕ} (s r : List ℕ) (at m : ℕ) {x : Piece} → Belongs t x → at + m ≤ length s → take m (drop at s) ≡ piece_bytes x ++ r
    → There t s at x
there {t} s r at m {x} b h e =
    record { event_is = event; node_is = node; sized = sized; long = long; state_is = rw sized state }
  where
    enough : 8 ≤ m
    enough = omega (arith, both_long s (piece_bytes x) r at m h e, piece_long x, size_pos (prog x.state))

    byte_is : (k : ℕ) → k < m → byte s (at + k) ≡ get_or (piece_bytes x ++ r) k 0
    byte_is k l = sym (get_or-drop at s k 0) ∙ (sym (get_or-take m (drop at s) k 0 l) ∙ ap (λ (l : List ℕ). get_or l k 0) e)

    event : event_at s at ≡ x.event
    event =
        let z : at + 0 ≡ at = omega arith in
        let first = rw z at (byte_is 0 (omega (arith, enough))) in
        rw (first, byte_is 1 (omega (arith, enough))) (div-add-mod' x.event 256)

    node : node_of s at ≡ x.node
    node =
        let z : at + 2 + 1 ≡ at + 3 = omega arith in
        rw (z, byte_is 2 (omega (arith, enough)), byte_is 3 (omega (arith, enough))) (div-add-mod' x.node 256)

    sized : size_at t x.node ≡ size (prog x.state)
    sized = written t x.node (prog x.state) b.program

    long : piece_length t s at ≡ length (piece_bytes x)
    long = rw (node, sized) (sym (piece_long x))

    head : List ℕ
    head = x.event / 256 ∷ x.event % 256 ∷ x.node / 256 ∷ x.node % 256 ∷ []

    state : take (4 * size (prog x.state)) (drop (at + 4) s) ≡ state_bytes x.state
    state =
        let behind = behind_is s head (state_bytes x.state ++ r) at m h e in
        rw (len_bytes x.state) at (front_is s (state_bytes x.state) r (at + 4) (m - 4) (omega (arith, enough)) behind)
