-- Going from piece to piece, with turns enough: what is still to see of the pieces says what all of them say.
use Prim.Native.Nat.{ℕ, zero, suc, ◌+◌, ◌-◌, ◌≤◌, ◌<◌}
use mathlib.Core.Bool.{Bool, true, false, cond, ◌&&◌}
use mathlib.Core.Path.{◌≡◌, refl, sym, ◌∙◌}
use mathlib.Core.List.{List}
use native.Mathlib.Omega.{arith}
use lib.Dec.{eqb}
use borrow.Author.Tests.{eq-eqb, ne_eqb}
use Rattle.std.proofs.Common.{Option, Some, None, unwrap_or, IfSome, MatchOption}
use Rattle.table.proofs.Laid.{both}
use Rattle.store.specs.Store.{in_use, event_at, piece_length, piece_good, pieces_good, newest_from, newest}

module _ (t s : List ℕ) (end : ℕ) where
  -- one piece more, and none
  pub pieces_more : (n at : ℕ) → end ≤ n + at → at < end
      → pieces_good t s end n at ≡ (piece_good t s end at && pieces_good t s end (n - 1) (at + piece_length t s at))
  unfolding pieces_good
  pieces_more zero at h b = absurd (omega arith)
  pieces_more (suc n) at h b =
      let less : suc n - 1 ≡ n = omega arith in
      let e : at ≡ end → ⊥ = λ e. omega arith in
      rw (less, ne_eqb _ _ e)

  pub pieces_end : (n at : ℕ) → at ≡ end → pieces_good t s end n at ≡ true
  unfolding pieces_good
  pieces_end zero at e = eq-eqb _ _ e
  pieces_end (suc n) at e = rw (eq-eqb _ _ e)

  -- the pieces from `at` on say whether all are good
  pub record Still (at : ℕ) : Type 0 where
    pub turns : ℕ
    pub enough : end ≤ turns + at
    pub same : pieces_good t s end (end - 2) 2 ≡ pieces_good t s end turns at

  pub still_first : 2 ≤ end → Still 2
  still_first h = record { turns = end - 2; enough = omega arith; same = refl }

  pub still_next : {at : ℕ} → Still at → at < end → piece_good t s end at ≡ true → Still (at + piece_length t s at)
  still_next {at} w b g =
      record {
        turns = w.turns - 1;
        enough = omega (arith, w.enough);
        same = w.same ∙ (pieces_more w.turns at w.enough b ∙ rw g);
      }

  pub still_bad : {at : ℕ} → Still at → at < end → piece_good t s end at ≡ false → pieces_good t s end (end - 2) 2 ≡ false
  still_bad {at} w b g = w.same ∙ (pieces_more w.turns at w.enough b ∙ rw g)

  pub still_all : {at : ℕ} → Still at → at ≡ end → pieces_good t s end (end - 2) 2 ≡ true
  still_all {at} w e = w.same ∙ pieces_end w.turns at e

module _ (t s : List ℕ) (e end : ℕ) where
  pub newest_more : (n at found : ℕ) → end ≤ n + at → at < end
      → newest_from t s e end n at found
      ≡ newest_from t s e end (n - 1) (at + piece_length t s at) (cond (eqb (event_at s at) e) at found)
  unfolding newest_from
  newest_more zero at found h b = absurd (omega arith)
  newest_more (suc n) at found h b =
      let less : suc n - 1 ≡ n = omega arith in
      let d : at ≡ end → ⊥ = λ d. omega arith in
      rw (less, ne_eqb _ _ d)

  pub newest_end : (n at found : ℕ) → at ≡ end → newest_from t s e end n at found ≡ found
  unfolding newest_from
  newest_end zero at found h = refl
  newest_end (suc n) at found h = rw (eq-eqb _ _ h)

  -- the pieces from `at` on are good, and say with the one found which is the newest
  pub record Seeking (at found : ℕ) : Type 0 where
    pub turns : ℕ
    pub enough : end ≤ turns + at
    pub good : pieces_good t s end turns at ≡ true
    pub same : newest_from t s e end (end - 2) 2 0 ≡ newest_from t s e end turns at found

  pub seek_first : 2 ≤ end → pieces_good t s end (end - 2) 2 ≡ true → Seeking 2 0
  seek_first h g = record { turns = end - 2; enough = omega arith; good = g; same = refl }

  module _ {at found : ℕ} (w : Seeking at found) where
    good_both : at < end → (piece_good t s end at && pieces_good t s end (w.turns - 1) (at + piece_length t s at)) ≡ true
    good_both b = sym (pieces_more t s end w.turns at w.enough b) ∙ w.good

    pub seek_good : at < end → piece_good t s end at ≡ true
    seek_good b = (both {a = piece_good t s end at} (good_both b)).0

    pub seek_next : at < end → Seeking (at + piece_length t s at) (cond (eqb (event_at s at) e) at found)
    seek_next b =
        record {
          turns = w.turns - 1;
          enough = omega (arith, w.enough);
          good = (both {a = piece_good t s end at} (good_both b)).1;
          same = w.same ∙ newest_more w.turns at found w.enough b;
        }

    pub seek_end : at ≡ end → newest_from t s e end (end - 2) 2 0 ≡ found
    seek_end h = w.same ∙ newest_end w.turns at found h

  pub newest_found : {found : ℕ} → end ≡ 2 + in_use s → newest_from t s e end (end - 2) 2 0 ≡ found → found ≡ newest t s e
  unfolding newest
  newest_found u h =
      let d : 2 + in_use s - 2 ≡ in_use s = omega arith in
      sym h ∙ rw (u, d)

-- where the one found begins; 0 if none is
abbrev pub place : Option ℕ → ℕ
place o = unwrap_or o 0

pub place_more : (b : Bool) (at : ℕ) (o : Option ℕ) → place (cond b (Some at) o) ≡ cond b at (place o)
place_more true at o = refl
place_more false at o = refl

-- none begins at byte 0
abbrev pub Behind0 : Option ℕ → Type 0
Behind0 o = IfSome o (λ at. 0 < at)

pub behind0_more : (b : Bool) {at : ℕ} (o : Option ℕ) → 0 < at → Behind0 o → Behind0 (cond b (Some at) o)
behind0_more true o h p = h
behind0_more false o h p = p

pub found_is : (o : Option ℕ) {n : ℕ} → Behind0 o → place o ≡ n → MatchOption o (n ≡ 0) (λ at. (at ≡ n) × (0 < at))
found_is None p e = sym e
found_is (Some at) p e = (e, p)
