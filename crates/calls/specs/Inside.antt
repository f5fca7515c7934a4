-- What the contracts of this crate's private functions cite, and the laws of its words; no public contract does.
use Rattle.std.specs.Prelude.{ℕ, ◌≡◌, ◌≤◌, ◌<◌, refl, length, Bool, ◌&&◌, leb, ltb, eqb, MatchOption}
use Rattle.std.proofs.Common.{Option}
use Rattle.calls.specs.Words.{hex_byte, hex_number}

-- a text is n numbers long, `whole` bytes, and a room has place for them
unfoldable pub fitting : ℕ → ℕ → ℕ → ℕ → Bool
fitting long n whole most = ltb 0 n && (eqb whole long && leb n most)

-- an answer that is a value below a limit, or none if the value is none such
abbrev pub Below : ℕ → ℕ → Option ℕ → Type 0
Below limit value r = MatchOption r (limit ≤ value) (λ v. (v ≡ value) × (v < limit))

-- a byte takes two digits, a row's number four
pub two_digits : (b : ℕ) → length (hex_byte b) ≡ 2
unfolding hex_byte
two_digits b = refl

pub four_digits : (n : ℕ) → length (hex_number n) ≡ 4
unfolding hex_number hex_byte
four_digits n = refl
