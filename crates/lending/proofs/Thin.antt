-- A thin reference: a `&mut [T]` is put into a local, the local is lent to a call as a `&mut &mut [T]`, and behind the call the holder has
-- its slice again, with whatever the call left in it. The covered way makes no such reference out of a slice that is a parameter.
-- Slice and local are lent for one and the same lifetime, made for the call; so the bound that `&'a mut &'b mut [T]` asks for, 'b: 'a, holds
-- by itself. A call could put another slice into the local. That it didn't is what its contract says of names: the slice that it leaves
-- there has the name under which it got it. Where that slice points to, and how long it is, need not be said.
--     Loan          the lifetime that is made for the call, the name of the call's slice and that of its reference to the local
--     Lent          what the holder keeps while the call has the thin reference
--     Halves        the lifetime's token, cut in two: one half for each of the reference's two lifetimes
--     OnLoan, Back  what a walk has while the slice is lent, and when it is back
--     lends_thin    the local with the slice in it, the slice and a share of its lifetime's token give the thin reference, Halves and Lent
--     ends_thin     the halves are back, and the local's slice at the end has the name it got: the local, the holder's slice with what the
--                   call left, as many elements as before, and the share of the token
use mathlib.Core.Path.{◌≡◌}
use Prim.Native.Nat.{ℕ}
use mathlib.Core.List.{List, [], ◌∷◌}
use lib.ListN.{length}
use seplogic.Ra.Ura.{Ura}
use base.Fraction.{full_share}
use base.Share
use mir.Syntax.{Lifetime, Ty, erased, mut, ty_ref}
use mir.Val.{Val, vptr}
use base.Logic.{SProp, ent, sep, ex}
use base.Fml.{Lft, GName, Share, Fml, fsep, fat, feq, flft, fdead, fres, flent}
use types.Logic.{Logic, sem}
use types.Kit.{Item, ‵, ◌⊛◌, some, later, ◌$◌, ◌∵◌, !, qed, move, use1, use2, use3, split, pick, fsplit, fjoin, fpick, fpack, frame}
use types.Kit.{await, updating, now as at_once, show, done}
use types.Tokens.{lft_new, lft_end}
use types.SemTy.{Body}
use denote.RattleType.{RattleType}
use denote.Memory.{mem, cell_at, part_of, pointee}
use denote.Laws.{Is, shows}
use denote.Ref.{MutBor, MutRef}
use denote.Slice.{slice_val, slice_ty, mut_slice_vals, mut_slice_Tells, MutSlice, Room}
use denote.Lend.{lends_ref, ref_back}
use denote.Struct.Steps.{spelt}
use Rattle.lending.proofs.Again.{holding, Away, lends_on, left_again}

pub record Loan : Type 0 where
  pub life : ℕ
  pub slice : GName
  pub outer : GName

abbrev pub loan : ℕ → GName → GName → Loan
loan ν δ ε = record { life = ν; slice = δ; outer = ε }

-- the call's lifetime, and the shares of its token that it gets
abbrev pub lifetime : Loan → Lft
lifetime n = n.life ∷ []

abbrev pub half₁ : Share
half₁ = Share.left full_share

abbrev pub half₂ : Share
half₂ = Share.right full_share

abbrev pub Halves : Loan → Fml
Halves n = fsep (flft (lifetime n) half₁) (flft (lifetime n) half₂)

-- the thin reference's type, and that of the slice in the local; ℓ and ℓ' are the lifetimes' places in the callee's signature
abbrev pub Inner : RattleType → Lifetime → ℕ → RattleType
Inner T ℓ' ν = MutSlice ℓ' (ν ∷ []) T

abbrev pub Thin : RattleType → Lifetime → Lifetime → Loan → RattleType
Thin T ℓ ℓ' n = MutRef ℓ (lifetime n) (Inner T ℓ' n.life)

-- the local's type
abbrev pub local_ty : RattleType → Ty
local_ty T = slice_ty (ty_ref erased mut (pointee T.written))

-- of a slice at (b, o) under the name γ, of the lifetime κ, of whose token its holder has the share q, in the local at l
module _ (T : RattleType) (κ : Lft) (q : Share) (γ : GName) (b o l : ℕ) where
  -- the thin reference itself: the local's place, and in it the call's slice
  abbrev pub thin : Loan → List T.Denot → MutBor (MutBor (List T.Denot))
  thin n xs = record { ref_ptr = (l, 0); ghost_name = n.outer; now = holding b o n.slice xs }

  -- the lender's end of the local's loan, and what waits for the slice
  abbrev pub Lent : Lifetime → Loan → List T.Denot → Fml
  Lent ℓ' n xs =
      fsep (flent (lifetime n) (Body (mem (Inner T ℓ' n.life)) l 0 n.outer)) (Away T κ q γ b o (lifetime n) n.slice xs)

  module _ {M : Type 1} {𝓤 : Ura M} (𝓛 : Logic 𝓤) (ℓ ℓ₁ ℓ₂ : Lifetime) (xs : List T.Denot) where
    open 𝓛 use {H, A}

    abbrev ⟦◌⟧ : Fml → SProp 𝓤
    ⟦ P ⟧ = sem 𝓛 P

    abbrev ◌∗◌ : SProp 𝓤 → SProp 𝓤 → SProp 𝓤
    P ∗ Q = sep 𝓤 P Q

    infixr 35 ◌∗◌
    -- what the machine holds of the slice
    abbrev pair : Val
    pair = slice_val (b, o) (length xs)

    -- the local, with this in it
    abbrev Local : Val → Fml
    Local v = fat full_share (local_ty T) l 0 v

    -- the holder's slice, with these elements
    abbrev Slice : List T.Denot → Fml
    Slice ys = (MutSlice ℓ κ T).own_val (holding b o γ ys) (pair ∷ [])

    -- the call's slice in the local, and the reference to it
    abbrev Held : ℕ → GName → List Val → Fml
    Held ν δ vs = (Inner T ℓ₂ ν).own_val (holding b o δ xs) vs

    abbrev Reference : Loan → Fml
    Reference n = (Thin T ℓ₁ ℓ₂ n).own_val (thin n xs) (vptr l 0 ∷ [])

    -- what a walk has while the slice is lent, and behind the call that left w in the local
    abbrev pub OnLoan : Loan → Item 𝓤
    OnLoan n = ‵ (Reference n) ⊛ (‵ (Halves n) ⊛ ‵ (Lent ℓ₂ n xs))

    abbrev pub Back : MutBor (List T.Denot) → Item 𝓤
    Back w =
        ‵ (Local (slice_val w.ref_ptr (length w.now)))
        ⊛ (‵ (feq ℕ (length w.now) (length xs)) ⊛ (‵ (Slice w.now) ⊛ ‵ (flft κ q)))

    pub lends_thin : ent 𝓤 (⟦ Local pair ⟧ ∗ ⟦ Slice xs ⟧ ∗ A.lft κ q)
        (H.⇛ (ex 𝓤 (λ (n : Loan). ⟦ Reference n ⟧ ∗ ⟦ Halves n ⟧ ∗ ⟦ Lent ℓ₂ n xs ⟧)))
    unfolding part_of
    lends_thin =
        qed 𝓛 (‵ (Local pair) ∷ ‵ (Slice xs) ∷ ‵ (flft κ q) ∷ []) ∵ updating ! $ lft_new ! tt (λ ν. move ! (2 ∷ 3 ∷ []) $
        use2 𝓛 (later (some (λ (δ : GName). ‵ (Held ν δ (pair ∷ [])) ⊛ ‵ (Away T κ q γ b o (ν ∷ []) δ xs))))
        (lends_on T κ q γ b o (ν ∷ []) 𝓛 ℓ ℓ₂ xs) $ await ! tt $ pick ! (λ δ. split ! $
        -- [the call's slice; what waits for it; the lifetime's token; the local]: the local with that slice in it is lent
        move ! (3 ∷ []) $ use1 𝓛 (‵ (cell_at full_share (Inner T ℓ₂ ν).mir (pair ∷ []) l 0)) (𝓛.laws.at_raw full_share (local_ty T) l 0 pair) $
        fjoin ! $ fpack ! (List Val) (λ vs. fsep (cell_at full_share (Inner T ℓ₂ ν).mir vs l 0) (Held ν δ vs)) (pair ∷ []) $
        use1 𝓛 (later (some (λ (ε : GName). ‵ (Reference (loan ν δ ε)) ⊛ ‵ (flent (ν ∷ []) (Body (mem (Inner T ℓ₂ ν)) l 0 ε)))))
        (lends_ref 𝓛 (Inner T ℓ₂ ν) ℓ₁ (ν ∷ []) (holding b o δ xs) l 0) $ await ! tt $ pick ! (λ ε. split ! $
        -- [the reference; the lender's end of the local; what waits for the slice; the lifetime's token]: the token is cut
        at_once ! $ show ! (λ (n : Loan). ⟦ Reference n ⟧ ∗ ⟦ Halves n ⟧ ∗ ⟦ Lent ℓ₂ n xs ⟧) (loan ν δ ε) $ frame ! $ move ! (2 ∷ []) $
        use1 𝓛 (‵ (flft (ν ∷ []) half₁) ⊛ ‵ (flft (ν ∷ []) half₂)) (𝓛.lfts.lft_split (ν ∷ []) full_share) $ split ! $ fjoin ! $ frame ! $
        fjoin ! $ done !)))

    pub ends_thin : (n : Loan) (w : MutBor (List T.Denot)) → w.ghost_name ≡ n.slice → Room T (length xs)
        → ent 𝓤 (⟦ Halves n ⟧ ∗ ⟦ Lent ℓ₂ n xs ⟧ ∗ A.res n.outer ((Inner T ℓ₂ n.life).coded.code w))
        (H.⇛ (⟦ Local (slice_val w.ref_ptr (length w.now)) ⟧ ∗ ⟦ feq ℕ (length w.now) (length xs) ⟧ ∗ ⟦ Slice w.now ⟧ ∗ A.lft κ q))
    unfolding part_of
    ends_thin n w same room =
        qed 𝓛 (‵ (Halves n) ∷ ‵ (Lent ℓ₂ n xs) ∷ ‵ (fres n.outer ((Inner T ℓ₂ n.life).coded.code w)) ∷ []) ∵ updating ! $ fsplit ! $
        use2 𝓛 (‵ (flft (lifetime n) full_share)) (𝓛.lfts.lft_join (lifetime n) full_share) $ lft_end ! tt $
        use1 𝓛 (‵ (fdead (lifetime n)) ⊛ ‵ (fdead (lifetime n))) (𝓛.lfts.dead_dup (lifetime n)) $ split ! $ move ! (2 ∷ []) $ fsplit ! $
        -- [the lender's end of the local; what waits for the slice; it is over; it is over; the local ended with w]: the local is back
        move ! (2 ∷ 0 ∷ 4 ∷ []) $ use3 𝓛 (later (‵ ((mem (Inner T ℓ₂ n.life)).own_at w l 0)))
        (ref_back 𝓛 (Inner T ℓ₂ n.life) (lifetime n) n.outer w l 0) $ await ! tt $ fpick ! (λ vs. fsplit ! $
        spelt ! (Inner T ℓ₂ n.life) (Is (Inner T ℓ₂ n.life)) (shows 𝓛 (Inner T ℓ₂ n.life)) mut_slice_vals
        (mut_slice_Tells ℓ₂ (lifetime n) T) full_share w vs l 0 $
        use1 𝓛 (‵ (Local (slice_val w.ref_ptr (length w.now))))
        (𝓛.laws.raw_at full_share (local_ty T) l 0 (slice_val w.ref_ptr (length w.now))) $
        -- [the local; what w owns; what waits for the slice; it is over]: w is the call's slice, so the holder has its own again
        move ! (3 ∷ 2 ∷ 1 ∷ []) $
        use3 𝓛 (later (‵ (feq ℕ (length w.now) (length xs)) ⊛ (‵ (Slice w.now) ⊛ ‵ (flft κ q))))
        (left_again T κ q γ b o (lifetime n) 𝓛 ℓ ℓ₂ xs n.slice w (mut_slice_vals w) same room) $ await ! tt $
        at_once ! $ move ! (1 ∷ 0 ∷ []) $ done !)
