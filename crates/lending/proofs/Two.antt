-- Two slices behind one thin reference: two `&mut [T]` are put into a local array, the array is lent to a call as a `&mut [&mut [T]; 2]`, and
-- behind the call the holder has both its slices again, with whatever the call left in them. It is what `Thin` says of one slice, at the same
-- loan: the slices and the array are lent for one lifetime, made for the call.
-- The call could put other slices into the array, or these two the other way round. That it didn't is what its contract says of names: the
-- slice that it leaves at each place has the name under which it got the one there. That there are two of them the array itself says.
--     slice_at      of the slices in an array, the one at a place
--     Loans         `Thin`'s loan, of the first slice and the array, and the name of the call's second slice
--     Lent          what the holder keeps while the call has the reference
--     OnLoan, Back  what a walk has while the slices are lent, and when they are back
--     lends_two     the local with the slices in it, and each slice with a share of its lifetime's token, give the reference, Halves and Lent
--     ends_two      the halves are back, and the slices in the array at the end have the names they got: the local, and each of the holder's
--                   slices with what the call left, as many elements as before, and the share of its token
use mathlib.Core.Path.{◌≡◌, refl}
use Prim.Native.Nat.{ℕ}
use native.Mathlib.Omega.{arith}
use mathlib.Core.List.{List, [], ◌∷◌, map}
use lib.ListN.{length, get_or}
use seplogic.Ra.Ura.{Ura}
use base.Fraction.{full_share}
use mir.Syntax.{Lifetime, ty_array}
use mir.Val.{Val, vptr}
use base.Logic.{SProp, ent, sep, ex}
use base.Fml.{Lft, GName, Share, Fml, fsep, fat, feq, flft, fdead, fres, flent}
use types.Logic.{Logic, sem}
use types.Kit.{Item, ‵, ◌⊛◌, some, later, mean, ◌$◌, ◌∵◌, !, qed, move, use1, use2, use3, split, pick, drop, fsplit, fjoin, fpick, fpack}
use types.Kit.{feq_l, frame, await, updating, now as at_once, show, done}
use types.Tokens.{lft_new, lft_end}
use types.SemTy.{Body}
use denote.RattleType.{RattleType}
use denote.Shadow.{pure_i}
use denote.Memory.{mem, cell_at, part_of}
use denote.Laws.{Is, shows}
use denote.Ref.{MutBor, MutRef}
use denote.Slice.{slice_val, mut_slice_vals, mut_slice_Tells, MutSlice, Room}
use denote.Array.{each, array_val, shape, Array, array_vals, Array-Tells, each_two}
use denote.Lend.{lends_ref, ref_back}
use denote.Steps.{nothing}
use denote.Struct.Steps.{spelt}
use Rattle.lending.proofs.Again.{holding, Away, lends_on, left_again}
use Rattle.lending.proofs.Thin.{Loan, loan, lifetime, half₁, half₂, Halves, Inner, local_ty}

abbrev pub slice_at : {X : Type 0} → List (MutBor (List X)) → ℕ → MutBor (List X)
slice_at slices place = get_or slices place (record { ref_ptr = (0, 0); ghost_name = 0; now = [] })

pub record Loans : Type 0 where
  pub first : Loan
  pub second : GName

abbrev loans : ℕ → GName → GName → GName → Loans
loans ν δ δ' ε = record { first = loan ν δ ε; second = δ' }

-- the reference's type, and that of the array in the local; ℓ and ℓ' are the lifetimes' places in the callee's signature
abbrev Row : RattleType → Lifetime → ℕ → RattleType
Row T ℓ' ν = Array (Inner T ℓ' ν) 2

abbrev pub Two : RattleType → Lifetime → Lifetime → Loans → RattleType
Two T ℓ ℓ' n = MutRef ℓ (lifetime n.first) (Row T ℓ' n.first.life)

-- what an array of two slices holds, taken apart
module _ {M : Type 1} {𝓤 : Ura M} (𝓛 : Logic 𝓤) {X : Type 0} (f : MutBor (List X) → List Val → Fml) where
  abbrev Apart : List (MutBor (List X)) → Val → Val → Item 𝓤
  Apart ws u v = ‵ (f (slice_at ws 0) (u ∷ [])) ⊛ ‵ (f (slice_at ws 1) (v ∷ []))

  apart : (ws : List (MutBor (List X))) (us : List Val) → length ws ≡ 2
      → ent 𝓤 (sem 𝓛 (each (MutBor (List X)) f ws us)) (mean 𝓛 (some (λ (u : Val). some (λ (v : Val). Apart ws u v))))
  apart [] us e = absurd (omega (arith, e))
  apart (w ∷ []) us e = absurd (omega (arith, e))
  apart (w ∷ z ∷ []) us e =
      each_two 𝓛 (MutBor (List X)) f w z us (λ u v. qed 𝓛 (‵ (f w (u ∷ [])) ∷ ‵ (f z (v ∷ [])) ∷ []) ∵
      show ! (λ (u' : Val). mean 𝓛 (some (λ (v' : Val). Apart (w ∷ z ∷ []) u' v'))) u $
      show ! (λ (v' : Val). mean 𝓛 (Apart (w ∷ z ∷ []) u v')) v $ done !)
  apart (w ∷ z ∷ y ∷ ws) us e = absurd (omega (arith, e))

-- of slices at (b, o) and (b', o') under the names γ and γ', of the lifetimes κ and κ', of whose tokens their holder has the shares q and q', in the
-- array in the local at l
module _ (T : RattleType) (κ κ' : Lft) (q q' : Share) (γ γ' : GName) (b o b' o' l : ℕ) where
  -- the reference itself: the local's place, and in it the call's slices
  abbrev pub two : Loans → List T.Denot → List T.Denot → MutBor (List (MutBor (List T.Denot)))
  two n xs ys = record { ref_ptr = (l, 0); ghost_name = n.first.outer; now = holding b o n.first.slice xs ∷ holding b' o' n.second ys ∷ [] }

  -- the lender's end of the local's loan, and what waits for each slice
  abbrev pub Lent : Lifetime → Loans → List T.Denot → List T.Denot → Fml
  Lent ℓ' n xs ys =
      fsep (flent (lifetime n.first) (Body (mem (Row T ℓ' n.first.life)) l 0 n.first.outer))
      (fsep (Away T κ q γ b o (lifetime n.first) n.first.slice xs) (Away T κ' q' γ' b' o' (lifetime n.first) n.second ys))

  module _ {M : Type 1} {𝓤 : Ura M} (𝓛 : Logic 𝓤) (ℓ ℓ' ℓ₁ ℓ₂ : Lifetime) (xs ys : List T.Denot) where
    open 𝓛 use {H, A}

    abbrev ⟦◌⟧ : Fml → SProp 𝓤
    ⟦ P ⟧ = sem 𝓛 P

    abbrev ◌∗◌ : SProp 𝓤 → SProp 𝓤 → SProp 𝓤
    P ∗ Q = sep 𝓤 P Q

    infixr 35 ◌∗◌
    -- what the machine holds of the slices
    abbrev pair : Val
    pair = slice_val (b, o) (length xs)

    abbrev pair' : Val
    pair' = slice_val (b', o') (length ys)

    -- the local, with these in it
    abbrev Local : List Val → Fml
    Local us = fat full_share (ty_array (local_ty T) 2) l 0 (array_val us)

    -- the holder's slices, with these elements
    abbrev Slice : List T.Denot → Fml
    Slice zs = (MutSlice ℓ κ T).own_val (holding b o γ zs) (pair ∷ [])

    abbrev Slice' : List T.Denot → Fml
    Slice' zs = (MutSlice ℓ' κ' T).own_val (holding b' o' γ' zs) (pair' ∷ [])

    -- the call's slices, in the local, and the reference to it
    abbrev held : GName → GName → List (MutBor (List T.Denot))
    held δ δ' = holding b o δ xs ∷ holding b' o' δ' ys ∷ []

    abbrev Held : ℕ → GName → GName → List Val → Fml
    Held ν δ δ' vs = (Row T ℓ₂ ν).own_val (held δ δ') vs

    abbrev Reference : Loans → Fml
    Reference n = (Two T ℓ₁ ℓ₂ n).own_val (two n xs ys) (vptr l 0 ∷ [])

    -- what a walk has while the slices are lent, and behind the call that left ws in the local
    abbrev pub OnLoan : Loans → Item 𝓤
    OnLoan n = ‵ (Reference n) ⊛ (‵ (Halves n.first) ⊛ ‵ (Lent ℓ₂ n xs ys))

    abbrev Again : MutBor (List T.Denot) → Item 𝓤
    Again w = ‵ (feq ℕ (length w.now) (length xs)) ⊛ (‵ (Slice w.now) ⊛ ‵ (flft κ q))

    abbrev Again' : MutBor (List T.Denot) → Item 𝓤
    Again' w = ‵ (feq ℕ (length w.now) (length ys)) ⊛ (‵ (Slice' w.now) ⊛ ‵ (flft κ' q'))

    abbrev pub Back : List (MutBor (List T.Denot)) → Item 𝓤
    Back ws = ‵ (Local (map (λ w. slice_val w.ref_ptr (length w.now)) ws)) ⊛ (Again (slice_at ws 0) ⊛ Again' (slice_at ws 1))

    pub lends_two : ent 𝓤 (⟦ Local (pair ∷ pair' ∷ []) ⟧ ∗ ⟦ Slice xs ⟧ ∗ A.lft κ q ∗ ⟦ Slice' ys ⟧ ∗ A.lft κ' q')
        (H.⇛ (ex 𝓤 (λ (n : Loans). mean 𝓛 (OnLoan n))))
    unfolding part_of
    lends_two =
        qed 𝓛 (‵ (Local (pair ∷ pair' ∷ [])) ∷ ‵ (Slice xs) ∷ ‵ (flft κ q) ∷ ‵ (Slice' ys) ∷ ‵ (flft κ' q') ∷ []) ∵ updating ! $
        lft_new ! tt (λ ν. move ! (2 ∷ 3 ∷ []) $
        use2 𝓛 (later (some (λ (δ : GName). ‵ ((Inner T ℓ₂ ν).own_val (holding b o δ xs) (pair ∷ [])) ⊛ ‵ (Away T κ q γ b o (ν ∷ []) δ xs))))
        (lends_on T κ q γ b o (ν ∷ []) 𝓛 ℓ ℓ₂ xs) $ await ! tt $ pick ! (λ δ. split ! $
        -- [the call's first slice; what waits for it; the lifetime's token; the local; the second slice; its token]
        move ! (4 ∷ 5 ∷ []) $
        use2 𝓛 (later (some (λ (δ' : GName). ‵ ((Inner T ℓ₂ ν).own_val (holding b' o' δ' ys) (pair' ∷ [])) ⊛ ‵ (Away T κ' q' γ' b' o' (ν ∷ []) δ' ys))))
        (lends_on T κ' q' γ' b' o' (ν ∷ []) 𝓛 ℓ' ℓ₂ ys) $ await ! tt $ pick ! (λ δ'. split ! $
        -- [the call's second slice; what waits for it; the first; what waits for it; the lifetime's token; the local]: the array of both
        nothing ! $ move ! (1 ∷ 0 ∷ []) $ fjoin ! $ move ! (2 ∷ 0 ∷ []) $ fjoin ! $
        pure_i ! (shape 2 (held δ δ') (array_val (pair ∷ pair' ∷ []) ∷ []) (pair ∷ pair' ∷ [])) (tt, tt) (refl, refl) $ fjoin ! $
        fpack ! (List Val) (λ us. fsep (shape 2 (held δ δ') (array_val (pair ∷ pair' ∷ []) ∷ []) us)
        (each (MutBor (List T.Denot)) (Inner T ℓ₂ ν).own_val (held δ δ') us)) (pair ∷ pair' ∷ []) $
        -- [the array; what waits for the second; for the first; the lifetime's token; the local]: the local with the array in it is lent
        move ! (4 ∷ []) $ use1 𝓛 (‵ (cell_at full_share (Row T ℓ₂ ν).mir (array_val (pair ∷ pair' ∷ []) ∷ []) l 0))
        (𝓛.laws.at_raw full_share (ty_array (local_ty T) 2) l 0 (array_val (pair ∷ pair' ∷ []))) $
        fjoin ! $ fpack ! (List Val) (λ vs. fsep (cell_at full_share (Row T ℓ₂ ν).mir vs l 0) (Held ν δ δ' vs)) (array_val (pair ∷ pair' ∷ []) ∷ []) $
        use1 𝓛 (later (some (λ (ε : GName). ‵ (Reference (loans ν δ δ' ε)) ⊛ ‵ (flent (ν ∷ []) (Body (mem (Row T ℓ₂ ν)) l 0 ε)))))
        (lends_ref 𝓛 (Row T ℓ₂ ν) ℓ₁ (ν ∷ []) (held δ δ') l 0) $ await ! tt $ pick ! (λ ε. split ! $
        -- [the reference; the lender's end of the local; what waits for the second; for the first; the lifetime's token]: the token is cut
        at_once ! $ show ! (λ (n : Loans). mean 𝓛 (OnLoan n)) (loans ν δ δ' ε) $ frame ! $ move ! (3 ∷ []) $
        use1 𝓛 (‵ (flft (ν ∷ []) half₁) ⊛ ‵ (flft (ν ∷ []) half₂)) (𝓛.lfts.lft_split (ν ∷ []) full_share) $ split ! $ fjoin ! $ frame ! $
        move ! (2 ∷ 1 ∷ []) $ fjoin ! $ move ! (1 ∷ 0 ∷ []) $ fjoin ! $ done !))))

    pub ends_two : (n : Loans) (ws : List (MutBor (List T.Denot))) → (slice_at ws 0).ghost_name ≡ n.first.slice → (slice_at ws 1).ghost_name ≡ n.second
        → Room T (length xs) → Room T (length ys)
        → ent 𝓤 (⟦ Halves n.first ⟧ ∗ ⟦ Lent ℓ₂ n xs ys ⟧ ∗ A.res n.first.outer ((Row T ℓ₂ n.first.life).coded.code ws))
        (H.⇛ (mean 𝓛 (Back ws)))
    unfolding part_of
    ends_two n ws same same' room room' =
        qed 𝓛 (‵ (Halves n.first) ∷ ‵ (Lent ℓ₂ n xs ys) ∷ ‵ (fres n.first.outer ((Row T ℓ₂ n.first.life).coded.code ws)) ∷ []) ∵
        updating ! $ fsplit ! $
        use2 𝓛 (‵ (flft (lifetime n.first) full_share)) (𝓛.lfts.lft_join (lifetime n.first) full_share) $ lft_end ! tt $
        use1 𝓛 (‵ (fdead (lifetime n.first)) ⊛ ‵ (fdead (lifetime n.first))) (𝓛.lfts.dead_dup (lifetime n.first)) $ split ! $
        use1 𝓛 (‵ (fdead (lifetime n.first)) ⊛ ‵ (fdead (lifetime n.first))) (𝓛.lfts.dead_dup (lifetime n.first)) $ split ! $
        move ! (3 ∷ []) $ fsplit ! $ move ! (1 ∷ []) $ fsplit ! $
        -- [what waits for the first slice; for the second; the lender's end of the local; it is over; it is over; it is over; the local ended
        -- with ws]: the local is back
        move ! (3 ∷ 2 ∷ 6 ∷ []) $ use3 𝓛 (later (‵ ((mem (Row T ℓ₂ n.first.life)).own_at ws l 0)))
        (ref_back 𝓛 (Row T ℓ₂ n.first.life) (lifetime n.first) n.first.outer ws l 0) $ await ! tt $ fpick ! (λ vs. fsplit ! $
        spelt ! (Row T ℓ₂ n.first.life) (Is (Row T ℓ₂ n.first.life)) (shows 𝓛 (Row T ℓ₂ n.first.life)) (array_vals mut_slice_vals)
        (Array-Tells (Inner T ℓ₂ n.first.life) mut_slice_vals (mut_slice_Tells ℓ₂ (lifetime n.first) T) 2) full_share ws vs l 0 $
        use1 𝓛 (‵ (Local (map (λ w. slice_val w.ref_ptr (length w.now)) ws)))
        (𝓛.laws.raw_at full_share (ty_array (local_ty T) 2) l 0 (array_val (map (λ w. slice_val w.ref_ptr (length w.now)) ws))) $
        -- [the local; what the array owns; what waits for the first slice; for the second; it is over; it is over]
        move ! (1 ∷ []) $ fpick ! (λ us. fsplit ! $ fsplit ! $ drop ! $ feq_l ! (λ two_long.
        use1 𝓛 (some (λ (u : Val). some (λ (v : Val). Apart 𝓛 (Inner T ℓ₂ n.first.life).own_val ws u v)))
        (apart 𝓛 (Inner T ℓ₂ n.first.life).own_val ws us two_long) $ pick ! (λ u. pick ! (λ v. split ! $
        -- [the slice left at 0; that left at 1; the local; what waits for the first slice; for the second; it is over; it is over]
        move ! (5 ∷ 3 ∷ 0 ∷ []) $ use3 𝓛 (later (Again (slice_at ws 0)))
        (left_again T κ q γ b o (lifetime n.first) 𝓛 ℓ ℓ₂ xs n.first.slice (slice_at ws 0) (u ∷ []) same room) $ await ! tt $
        -- [the first slice again; the slice left at 1; the local; what waits for the second; it is over]
        move ! (4 ∷ 3 ∷ 1 ∷ []) $ use3 𝓛 (later (Again' (slice_at ws 1)))
        (left_again T κ' q' γ' b' o' (lifetime n.first) 𝓛 ℓ' ℓ₂ ys n.second (slice_at ws 1) (v ∷ []) same' room') $ await ! tt $
        at_once ! $ move ! (2 ∷ 1 ∷ 0 ∷ []) $ done !)))))
