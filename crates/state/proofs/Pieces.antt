-- The bytes of parked pieces: how many they are, those of two lists of pieces, and that a piece can be read back from them.
use Prim.Native.Nat.{ℕ, ◌+◌, ◌*◌}
use mathlib.Core.Path.{◌≡◌, refl, sym, ap, ap₂, ◌∙◌}
use mathlib.Core.List.{List, [], ◌∷◌, ◌++◌, append_assoc}
use native.Mathlib.Nat.{div-add-mod'}
use native.Mathlib.Omega.{arith}
use lib.ListN.{length, get_or, take, drop, length-append}
use lib.Seq.{take_at, drop_at}
use Rattle.junior.specs.Program.{size}
use Rattle.junior.specs.Term.{prog}
use Rattle.junior.specs.Trace.{Piece, piece}
use Rattle.junior.specs.Parked.{together, stored_length}
use Rattle.state.specs.StateBytes.{state_bytes}
use Rattle.state.specs.Pieces.{piece_bytes, pieces_bytes}
use Rattle.state.proofs.Parts.{len_bytes}
use Rattle.state.proofs.OneTerm.{one_term}

pub piece_long : (x : Piece) → length (piece_bytes x) ≡ stored_length x
piece_long x = omega (arith, len_bytes x.state)

pub pieces_long : (l : List Piece) → length (pieces_bytes l) ≡ together stored_length l
unfolding pieces_bytes together
pieces_long [] = refl
pieces_long (x ∷ l) = simp length-append (ap₂ ◌+◌ (piece_long x) (pieces_long l))

pub pieces-++ : (l k : List Piece) → pieces_bytes (l ++ k) ≡ pieces_bytes l ++ pieces_bytes k
unfolding pieces_bytes
pieces-++ [] k = refl
pieces-++ (x ∷ l) k =
    ap (λ b. piece_bytes x ++ b) (pieces-++ l k) ∙ sym (append_assoc (piece_bytes x) (pieces_bytes l) (pieces_bytes k))

-- the number of 16 bits at a place of a list
abbrev number : List ℕ → ℕ → ℕ
number l i = get_or l i 0 * 256 + get_or l (i + 1) 0

-- what stands at the front of a list is only one piece, if its node says of which program it is
module _ (x y : Piece) (r q : List ℕ) (e : piece_bytes x ++ r ≡ piece_bytes y ++ q) where
  pub same_event : x.event ≡ y.event
  same_event = sym (div-add-mod' x.event 256) ∙ (ap (λ l. number l 0) e ∙ div-add-mod' y.event 256)

  pub same_node : x.node ≡ y.node
  same_node = sym (div-add-mod' x.node 256) ∙ (ap (λ l. number l 2) e ∙ div-add-mod' y.node 256)

  module _ (f : prog x.state ≡ prog y.state) where
    as_long : length (state_bytes x.state) ≡ length (state_bytes y.state)
    as_long = len_bytes x.state ∙ (ap (λ p. 4 * size p) f ∙ sym (len_bytes y.state))

    pub one_piece : x ≡ y
    one_piece =
        let n = length (state_bytes y.state) in
        let a = sym (take_at (state_bytes x.state) r n as_long) in
        let b = a ∙ (ap (λ l. take n (drop 4 l)) e ∙ take_at (state_bytes y.state) q n refl) in
        let g = one_term x.state y.state f b in
        ap₂ (λ s n. piece s n x.state) same_event same_node ∙ ap (piece y.event y.node) g

    pub same_behind : r ≡ q
    same_behind =
        let n = length (state_bytes y.state) in
        sym (drop_at (state_bytes x.state) r n as_long) ∙ (ap (λ l. drop n (drop 4 l)) e ∙ drop_at (state_bytes y.state) q n refl)
