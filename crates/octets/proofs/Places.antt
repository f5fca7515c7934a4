-- What a search for a byte says of its place.
use Rattle.std.proofs.Common.{ℕ, ◌≡◌, List, Option, Some, None, length, arith}
use Rattle.std.specs.Option.{unwrap_or}
use Rattle.std.proofs.lemmas.List.Sums.{position_or_len_is}
use Rattle.std.proofs.lemmas.Bool.{false_from_ne_true}
use Rattle.memchr.specs.Find.{IsFirstByte, is_byte}
use Rattle.octets.specs.Octets.{index_of}

-- what `memchr` answers is the place; the length stands for none
pub place_is : (c : ℕ) (s : List ℕ) (r : Option ℕ) → IsFirstByte (is_byte c) s r → index_of c s ≡ unwrap_or r (length s)
place_is c s None h =
    position_or_len_is (is_byte c) s (length s) 0 (omega arith) (λ k b. false_from_ne_true _ (h k (omega arith) b)) (λ b. absurd (omega arith))
place_is c s (Some k) h =
    position_or_len_is (is_byte c) s k 0 (omega (arith, h.0.high)) (λ j b. false_from_ne_true _ (h.0.before j (omega arith) b)) (λ b. h.1)
