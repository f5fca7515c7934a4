-- The sixteen values in two words: a word read from eight bytes has each value in its own byte; what two such words hold is what the bytes are.
use Prim.Native.Nat.{ℕ, zero, suc, ◌+◌, ◌-◌, ◌*◌, ◌/◌, ◌%◌, ◌^◌, ◌≤◌, ◌<◌}
use mathlib.Core.Bool.{Bool, true, false, cond}
use mathlib.Core.Path.{◌≡◌, refl, ap, ◌∙◌, fun_ext}
use mathlib.Core.List.{List, [], ◌∷◌}
use native.Mathlib.Nat.{zero-div, div-one}
use native.Mathlib.Omega.{arith}
use lib.Dec.{ltb}
use lib.ListN.{length, length-drop, get_or, drop, get_or-eq_default}
use lib.Seq.{get_or-drop, length-take-le}
use borrow.Rule.Slice.PartMut.{mid_of}
use Rattle.std.specs.Int.{w64, to_le_bytes, from_le_bytes}
use Rattle.std.proofs.lemmas.List.{get_or-take}
use Rattle.std.proofs.lemmas.Nat.{le_bytes_8}
use borrow.Author.Tests.{ltb-true, ltb-false}
use Rattle.kernel.specs.Answer.{values_of}
use Rattle.kernel.specs.Passes.{word_values, Eight}

-- a word read from eight bytes, the first the lowest, has each in its place
module _ (bytes : List ℕ) (from word : ℕ) (small : (i : ℕ) → get_or bytes i 0 < 256) (room : from + 8 ≤ length bytes)
    (is : word ≡ from_le_bytes w64 (mid_of from 8 bytes)) where
  eight : List ℕ
  eight = mid_of from 8 bytes

  there : (k : ℕ) → k < 8 → get_or eight k 0 ≡ get_or bytes (from + k) 0
  unfolding eight
  there k h = get_or-take 8 (drop from bytes) k 0 h ∙ get_or-drop from bytes k 0

  eight_long : length eight ≡ 8
  unfolding eight
  eight_long = length-take-le 8 (drop from bytes) (omega (arith, length-drop from bytes))

  eight_small : (k : ℕ) → get_or eight k 0 < 256
  eight_small k = go (ltb k 8) refl
    where
      go : (b : Bool) → ltb k 8 ≡ b → get_or eight k 0 < 256
      go true e = rw (there k (ltb-true k 8 e)) (small (from + k))
      go false e = rw (get_or-eq_default eight 0 {n = k} (omega (arith, eight_long, ltb-false k 8 e))) (omega arith)

  in_place : (k : ℕ) → k < 8 → word / 2 ^ (8 * k) % 256 ≡ get_or (to_le_bytes w64 word) k 0
  in_place zero h = ap (λ n. n % 256) (div-one word)
  in_place (suc zero) h = refl
  in_place (suc (suc zero)) h = refl
  in_place (suc (suc (suc zero))) h = refl
  in_place (suc (suc (suc (suc zero)))) h = refl
  in_place (suc (suc (suc (suc (suc zero))))) h = refl
  in_place (suc (suc (suc (suc (suc (suc zero)))))) h = refl
  in_place (suc (suc (suc (suc (suc (suc (suc zero))))))) h = refl
  in_place (suc (suc (suc (suc (suc (suc (suc (suc k)))))))) h = absurd (omega arith)

  pub eight_in : Eight bytes from word
  unfolding eight
  eight_in k h = in_place k h ∙ (ap (λ l. get_or l k 0) (le_bytes_8 eight word eight_long eight_small is) ∙ there k h)

-- what two words of eight each hold
pub by_bytes : (bytes : List ℕ) (low high : ℕ) → Eight bytes 0 low → Eight bytes 8 high → word_values low high ≡ values_of bytes
by_bytes bytes low high f g = fun_ext (λ v. go v (ltb v 8) refl (ltb v 16) refl)
  where
    go : (v : ℕ) (b : Bool) → ltb v 8 ≡ b → (c : Bool) → ltb v 16 ≡ c → word_values low high v ≡ cond c (get_or bytes v 0) 0
    go v true x true y =
        let below = ltb-true v 8 x in
        let word_is : v / 8 ≡ 0 = omega arith in
        let byte_is : v % 8 ≡ v = omega arith in
        let e : 0 + v ≡ v = omega arith in
        rw (word_is, byte_is) (f v below ∙ ap (λ n. get_or bytes n 0) e)
    go v true x false y =
        let below = ltb-true v 8 x in
        let above = ltb-false v 16 y in
        absurd (omega arith)
    go v false x true y =
        let above = ltb-false v 8 x in
        let below = ltb-true v 16 y in
        let word_is : v / 8 ≡ 1 = omega arith in
        let byte_is : v % 8 ≡ v - 8 = omega arith in
        let e : 8 + (v - 8) ≡ v = omega arith in
        rw (word_is, byte_is) (g (v - 8) (omega arith) ∙ ap (λ n. get_or bytes n 0) e)
    go v false x false y =
        let above = ltb-false v 16 y in
        let past : get_or (0 ∷ 0 ∷ 0 ∷ 0 ∷ low ∷ high ∷ []) (4 + v / 8) 0 ≡ 0 =
        get_or-eq_default (0 ∷ 0 ∷ 0 ∷ 0 ∷ low ∷ high ∷ []) 0 {n = 4 + v / 8} (omega arith) in
        rw past (ap (λ n. n % 256) (zero-div (2 ^ (8 * (v % 8)))))
