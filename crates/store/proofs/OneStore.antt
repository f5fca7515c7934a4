-- No store holds two lists of pieces: `one_store`. Each piece's event and node are read from its bytes, its program from the table, and so its state.
use Prim.Native.Nat.{ℕ}
use mathlib.Core.Path.{◌≡◌, refl, sym, ap, ap₂, ◌∙◌, subst}
use mathlib.Core.List.{List, [], ◌∷◌}
use native.Mathlib.Omega.{arith}
use lib.ListN.{length}
use Rattle.junior.specs.Term.{prog}
use Rattle.junior.specs.Trace.{Piece}
use Rattle.junior.specs.Parked.{All, next}
use Rattle.table.specs.Spells.{Spells}
use Rattle.table.proofs.OneTree.{one_tree}
use Rattle.state.specs.Pieces.{pieces_bytes}
use Rattle.state.proofs.Pieces.{same_node, one_piece, same_behind}
use Rattle.store.specs.Stored.{Belongs, Stored, Holds}

one_list : (t : List ℕ) (l k : List Piece) → All (Belongs t) l → All (Belongs t) k → pieces_bytes l ≡ pieces_bytes k → l ≡ k
unfolding pieces_bytes
one_list t [] [] a b e = refl
one_list t [] (y ∷ k) a b e = let z = ap length e in absurd (omega arith)
one_list t (x ∷ l) [] a b e = let z = ap length e in absurd (omega arith)
one_list t (x ∷ l) (y ∷ k) (next h a) (next g b) e =
    let n = same_node x y (pieces_bytes l) (pieces_bytes k) e in
    let here = subst (λ (i : ℕ). Spells t i (prog y.state)) (sym n) g.program in
    let p = one_tree t x.node (prog x.state) (prog y.state) h.program here in
    ap₂ ◌∷◌ (one_piece x y (pieces_bytes l) (pieces_bytes k) e p) (one_list t l k a b (same_behind x y (pieces_bytes l) (pieces_bytes k) e p))

pub one_store : {t s : List ℕ} {l k : List Piece} → Stored t s l → Stored t s k → k ≡ l
one_store {t} {s} {l} {k} a b = one_list t k l b.each a.each (sym b.bytes ∙ a.bytes)

pub holds : {t s : List ℕ} {l : List Piece} → Stored t s l → Holds t s l
holds a = record { stored = a; only = λ k b. one_store a b }
