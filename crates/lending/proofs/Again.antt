-- A `&mut [T]` is lent on for the time of a call, and its holder has it again behind the call, with whatever the call left in it.
-- The holder's loan is opened, and the memory in it is lent once more, for the lifetime of the call and under a name of its own.
-- When that lifetime is over the memory comes back, with the elements that the call's slice ended with, and the holder's loan is
-- closed over them. That they are as many as before need not be promised by the call: the memory itself says so.
--     Away         what the holder keeps while the call has the slice
--     lends_on     the holder's slice and a share of its lifetime's token give the call's slice, of the same elements, and Away
--     has_again    the call's lifetime is over, and its slice ended with ys: the holder's slice with ys, as many as before, and the token
--     left_again   the same where the call left a slice w somewhere, under the name of its slice: the holder's slice with what is in w
use mathlib.Core.Path.{◌≡◌, refl, sym, ap, subst, ◌∙◌}
use Prim.Native.Nat.{ℕ}
use mathlib.Core.List.{List, [], ◌∷◌}
use lib.ListN.{length, length-map}
use seplogic.Ra.Ura.{Ura}
use mir.Syntax.{Lifetime}
use mir.Val.{Val}
use base.Logic.{ent, sep, ex}
use base.Stored.{Gv}
use base.Fml.{Lft, GName, Share, Fml, fsep, feq, flft, fdead, fobs, fauth, fbor, flent, fobor}
use types.Logic.{Logic, sem}
use types.Kit.{‵, ◌⊛◌, later, ◌$◌, ◌∵◌, !, qed, move, keep, drop, use1, use3, fsplit, fsplit3, fjoin, fpack, feq_l, feq_i, rewrite, frame}
use types.Kit.{await, updating, now as at_once, show, done}
use types.Tokens.{name_new, name_done, bor_new}
use types.Mut.{open_ref, close_ref}
use types.SemTy.{SemTy, cells, Arr}
use types.Hole.{Holey, here, heres_in}
use denote.RattleType.{RattleType}
use denote.Shadow.{pure_l, pure_i}
use denote.Memory.{mem}
use denote.Ref.{MutBor}
use denote.Slice.{slice_val, MutSlice, Holeys, heres, Room, finally, mut_slice_at, coded_holeys, res-finally}
use denote.Lend.{Held, slice_back}

-- a slice with these elements, under this name
abbrev pub holding : {X : Type 0} → ℕ → ℕ → GName → List X → MutBor (List X)
holding b o δ xs = record { ref_ptr = (b, o); ghost_name = δ; now = xs }

-- of a slice at (b, o) under the name γ, of the lifetime κ, of whose token its holder has the share q; lent on for the lifetime `call`
module _ (T : RattleType) (κ : Lft) (q : Share) (γ : GName) (b o : ℕ) (call : Lft) where
  -- the memory of so many elements, and what a name remembers of them
  abbrev Row : ℕ → SemTy
  Row n = Arr (Holey (mem T)) n

  abbrev remembered : List T.Denot → Gv
  remembered xs = (coded_holeys T).code (heres T xs)

  -- the lender's end of the call's loan; the holder's own loan, open; and both halves of what its name remembers
  abbrev pub Away : GName → List T.Denot → Fml
  Away δ xs =
      fsep (flent call (Held T (length xs) b o δ))
      (fsep (fobor κ q (Held T (length xs) b o γ)) (fsep (fobs γ (remembered xs)) (fauth γ (remembered xs))))

  module _ {M : Type 1} {𝓤 : Ura M} (𝓛 : Logic 𝓤) (ℓ ℓ' : Lifetime) (xs : List T.Denot) where
    -- what the machine holds of the slice: it stays the same
    open 𝓛 use {H, A}

    abbrev pair : List Val
    pair = slice_val (b, o) (length xs) ∷ []

    pub lends_on : ent 𝓤 (sep 𝓤 (sem 𝓛 ((MutSlice ℓ κ T).own_val (holding b o γ xs) pair)) (A.lft κ q))
        (H.⇛ (ex 𝓤 (λ (δ : GName). sep 𝓤 (sem 𝓛 ((MutSlice ℓ' call T).own_val (holding b o δ xs) pair)) (sem 𝓛 (Away δ xs)))))
    lends_on =
        qed 𝓛 (‵ ((MutSlice ℓ κ T).own_val (holding b o γ xs) pair) ∷ ‵ (flft κ q) ∷ []) ∵ updating ! $ fsplit ! $
        pure_l ! (mut_slice_at T (holding b o γ xs) pair) (λ fits. fsplit ! $ open_ref ! tt (Row (length xs)) {x = heres T xs} {b = b} {o = o} $
        -- [the memory; the holder's open loan; its name's halves]: the memory gets a name for the call, and is lent
        name_new ! tt (remembered xs) (λ δ. move ! (2 ∷ 1 ∷ []) $ fjoin ! $
        fpack ! (Holeys T) (λ hs. fsep ((Row (length xs)).own_at hs b o) (fauth δ ((coded_holeys T).code hs))) (heres T xs) $
        bor_new ! tt call $
        -- [the call's loan; the lender's end of it; the call's half of its name; the holder's open loan; its name's halves]
        at_once ! $
        show ! (λ (δ' : GName). sep 𝓤 (sem 𝓛 ((MutSlice ℓ' call T).own_val (holding b o δ' xs) pair)) (sem 𝓛 (Away δ' xs))) δ $
        move ! (2 ∷ 0 ∷ []) $ fjoin ! $ pure_i ! (mut_slice_at T (holding b o δ xs) pair) (tt, (tt, tt)) fits $ fjoin ! $ frame ! $
        move ! (2 ∷ 3 ∷ []) $ fjoin ! $ move ! (2 ∷ 0 ∷ []) $ fjoin ! $ move ! (1 ∷ 0 ∷ []) $ fjoin ! $ done !))

    pub has_again : (δ : GName) (ys : List T.Denot) → Room T (length xs)
        → ent 𝓤 (sep 𝓤 (A.dead call) (sep 𝓤 (sem 𝓛 (Away δ xs)) (sem 𝓛 (finally T δ ys))))
        (H.⇛ (sep 𝓤 (sem 𝓛 (feq ℕ (length ys) (length xs))) (sep 𝓤 (sem 𝓛 ((MutSlice ℓ κ T).own_val (holding b o γ ys) pair)) (A.lft κ q))))
    has_again δ ys room =
        qed 𝓛 (‵ (fdead call) ∷ ‵ (Away δ xs) ∷ ‵ (finally T δ ys) ∷ []) ∵ updating ! $ move ! (1 ∷ []) $ fsplit ! $ move ! (2 ∷ 0 ∷ 3 ∷ []) $
        use3 𝓛 (later (‵ ((Arr (mem T) (length xs)).own_at ys b o))) (slice_back 𝓛 T call δ ys (length xs) b o) $ await ! tt $
        fsplit ! $ feq_l ! (λ same.
        -- [the elements ys; the holder's open loan with its name's halves]: the loan is closed over them
        use1 𝓛 (‵ (cells (Holey (mem T)) (heres T ys) b o)) (heres_in 𝓛 (mem T) ys b o) $
        feq_i ! ℕ (length (heres T ys)) (length xs) (length-map ys (here (mem T)) ∙ same) $ fjoin ! $
        move ! (1 ∷ []) $ fsplit3 ! $ move ! (3 ∷ 0 ∷ 1 ∷ 2 ∷ []) $ close_ref ! tt (Row (length xs)) (heres T ys) {b = b} {o = o} $
        rewrite ! 1 (λ (n : ℕ). ‵ (fbor κ (Held T n b o γ))) (sym same) refl $
        -- [the holder's half of its name; its loan; its token]: the slice again
        at_once ! $ fjoin ! $
        pure_i ! (mut_slice_at T (holding b o γ ys) pair) (tt, (tt, tt)) (ap (λ (n : ℕ). slice_val (b, o) n ∷ []) (sym same), subst (Room T) (sym same) room) $
        fjoin ! $ feq_i ! ℕ (length ys) (length xs) same $ done !)

    pub left_again : (δ : GName) (w : MutBor (List T.Denot)) (vs : List Val) → w.ghost_name ≡ δ → Room T (length xs)
        → ent 𝓤 (sep 𝓤 (A.dead call) (sep 𝓤 (sem 𝓛 (Away δ xs)) (sem 𝓛 ((MutSlice ℓ' call T).own_val w vs))))
        (H.⇛ (sep 𝓤 (sem 𝓛 (feq ℕ (length w.now) (length xs)))
        (sep 𝓤 (sem 𝓛 ((MutSlice ℓ κ T).own_val (holding b o γ w.now) pair)) (A.lft κ q))))
    left_again δ w vs same room =
        qed 𝓛 (‵ (fdead call) ∷ ‵ (Away δ xs) ∷ ‵ ((MutSlice ℓ' call T).own_val w vs) ∷ []) ∵ updating ! $
        move ! (2 ∷ []) $ fsplit ! $ drop ! $ fsplit ! $ name_done ! tt $
        use1 𝓛 (‵ (finally T w.ghost_name w.now)) (res-finally 𝓛 ℓ' call T w.ghost_name w.now) $
        rewrite ! 0 (λ (ε : GName). ‵ (finally T ε w.now)) same refl $
        -- [what the call's slice ended with; w's loan; it is over; what waits for the slice]
        move ! (2 ∷ 3 ∷ 0 ∷ []) $
        use3 𝓛 (later (‵ (feq ℕ (length w.now) (length xs)) ⊛ (‵ ((MutSlice ℓ κ T).own_val (holding b o γ w.now) pair) ⊛ ‵ (flft κ q))))
        (has_again δ w.now room) $ await ! tt $ at_once ! $ keep ! (0 ∷ []) $ done !
