-- Lists of bytes that stand at a place of a longer one.
use Prim.Native.Nat.{ℕ, ◌+◌, ◌/◌, ◌%◌, ◌<◌}
use mathlib.Core.Path.{◌≡◌, ap, ◌∙◌}
use mathlib.Core.List.{List, ◌∷◌, ◌++◌}
use native.Mathlib.Omega.{arith}
use native.Mathlib.Nat.{add-zero, zero-add, div-add-mod'}
use lib.ListN.{length, length-append, get_or-append}
use lib.Seq.{get_or-append-add}
use Rattle.table.specs.Records.{byte, word}

-- w stands in t from byte b on
pub record Has (t : List ℕ) (b : ℕ) (w : List ℕ) : Type 0 where
  pub at : (k : ℕ) → k < length w → byte t (b + k) ≡ byte w k

pub has_all : (t : List ℕ) → Has t 0 t
has_all t = record { at = λ k l. ap (byte t) (zero-add k) }

pub front : {t : List ℕ} {b : ℕ} (u v : List ℕ) → Has t b (u ++ v) → Has t b u
front u v h = record { at = λ k l. h.at k (simp length-append (omega arith)) ∙ get_or-append u v 0 k l }

pub behind : {t : List ℕ} {b c : ℕ} (u v : List ℕ) → b + length u ≡ c → Has t b (u ++ v) → Has t c v
behind {t} {b} {c} u v e h =
    record {
      at =
          λ k l.
          let place : c + k ≡ b + (length u + k) = omega arith in
          ap (byte t) place ∙ (h.at (length u + k) (simp length-append (omega arith)) ∙ get_or-append-add u v k 0);
    }

-- the number of 16 bits there
pub word_there : {t w : List ℕ} {b : ℕ} (n : ℕ) → Has t b ((n / 256) ∷ (n % 256) ∷ w) → word t b ≡ n
word_there {t} {w} {b} n h =
    let first = rw (add-zero b) at (h.at 0 (omega arith)) in
    let second = h.at 1 (omega arith) in
    rw (first, second) (div-add-mod' n 256)
