-- Labelling the nodes that follow one another as second children.
use Prim.Native.Nat.{ℕ, zero, suc, ◌+◌, ◌*◌, ◌≤◌, ◌<◌}
use mathlib.Core.Path.{◌≡◌, refl, sym, ◌∙◌}
use mathlib.Core.List.{List, [], ◌∷◌, ◌++◌, append_assoc}
use native.Mathlib.Nat.{add-zero}
use native.Mathlib.Omega.{arith}
use borrow.Author.Tests.{ne_eqb}
use lib.ListN.{length, set, length-append, length-set, get_or-eq_default}
use lib.Seq.{get_or-append-add, get_or-append_seam, set-append_seam}
use Rattle.junior.specs.Program.{Program, size}
use Rattle.table.specs.Records.{byte, word}
use Rattle.form.specs.Made.{big, nodes_from}
use Rattle.form.proofs.MadeLength.{nodes_length}
use Rattle.builder.specs.Building.{spread, labelled}
use Rattle.builder.proofs.WrittenSizes.{size_there, word_behind}

-- the second list is the first with kind k for each node that has none
pub data Spine (k : ℕ) : List ℕ → List ℕ → Type 0 where
  ends : {l : List ℕ} → byte l 0 < 16 → Spine k l l
  goes :
      (n j : ℕ) (p : Program) {l l' : List ℕ}
      → Spine k l l'
      → Spine k (255 ∷ 0 ∷ 0 ∷ 0 ∷ (big n ++ (nodes_from j p ++ l))) (k ∷ 0 ∷ 0 ∷ 0 ∷ (big n ++ (nodes_from j p ++ l')))

-- the byte behind a list
byte_behind : (a x : List ℕ) → byte (a ++ x) (length a) ≡ byte x 0
byte_behind a x = rw add-zero at (get_or-append-add a x 0 0)

-- fuel for each node is enough
spreads :
    {k : ℕ} {l l' : List ℕ}
    → Spine k l l'
    → (f : ℕ)
    → length l ≤ f
    → (a : List ℕ)
    → spread f k (length a) (a ++ l) ≡ a ++ l'
unfolding spread
spreads (ends {l = l} h) zero le a = refl
spreads (ends {l = l} h) (suc f) le a = rw (byte_behind a l, ne_eqb (byte l 0) 255 (λ e. omega arith))
spreads (goes n j p s) zero le a = absurd (omega arith)
spreads {k} (goes n j p {l = l} {l' = l'} s) (suc f) le a =
    let b : List ℕ = k ∷ 0 ∷ 0 ∷ 0 ∷ (big n ++ nodes_from j p) in
    let r : List ℕ = 0 ∷ 0 ∷ 0 ∷ (big n ++ (nodes_from j p ++ l)) in
    let w : word (a ++ (255 ∷ r)) (length a + 10) ≡ size p = word_behind a (255 ∷ r) (length a) 10 refl ∙ size_there j p l in
    let at : length a + 6 + 6 * size p ≡ length (a ++ b) = simp length-append (omega (arith, nodes_length j p)) in
    let few : length l ≤ f = omega (arith, length-append (nodes_from j p) l) in
    let front : (x : List ℕ) → a ++ (k ∷ 0 ∷ 0 ∷ 0 ∷ (big n ++ (nodes_from j p ++ x))) ≡ (a ++ b) ++ x = λ x. sym (append_assoc a b x) in
    rw (get_or-append_seam a 255 r 0, w, set-append_seam a 255 r k, at, front l, front l') (spreads s f few (a ++ b))

pub labels : {k : ℕ} {l l' : List ℕ} → Spine k l l' → labelled k l ≡ l'
labels {l = l} s = spreads s (length l) (omega arith) []

-- the labelling of l₀ is under way: l is what it is now, and byte `at` comes next
pub record Spreading (k : ℕ) (l₀ l : List ℕ) (at : ℕ) : Type 0 where
  pub fuel : ℕ
  pub same : spread fuel k at l ≡ labelled k l₀
  pub enough : length l ≤ fuel + at
  pub long : length l ≡ length l₀
  pub near : at ≤ 500000

pub spreading_starts : (k : ℕ) (l : List ℕ) → Spreading k l l 0
spreading_starts k l = record { fuel = length l; same = refl; enough = omega arith; long = refl; near = omega arith }

module _ {k : ℕ} {l₀ l : List ℕ} {at : ℕ} (g : Spreading k l₀ l at) where
  pub spreading_on :
      (first : ℕ)
      → at < length l
      → length l ≤ 32778
      → byte l at ≡ 255
      → first ≡ word l (at + 10)
      → first < 65536
      → Spreading k l₀ (set l at k) (at + 6 + 6 * first)
  unfolding spread
  spreading_on first h n e w b = go g.fuel g.same g.enough
    where
      go :
          (f : ℕ)
          → spread f k at l ≡ labelled k l₀
          → length l ≤ f + at
          → Spreading k l₀ (set l at k) (at + 6 + 6 * first)
      go zero s o = absurd (omega arith)
      go (suc f) s o =
          record {
            fuel = f;
            same = rw w (rw e at s);
            enough = rw (length-set l at k) (omega arith);
            long = length-set l at k ∙ g.long;
            near = omega arith;
          }

  pub spreading_stops : (byte l at ≡ 255 → ⊥) → l ≡ labelled k l₀
  unfolding spread
  spreading_stops e = go g.fuel g.same
    where
      go : (f : ℕ) → spread f k at l ≡ labelled k l₀ → l ≡ labelled k l₀
      go zero s = s
      go (suc f) s = rw (ne_eqb (byte l at) 255 e) at s

  pub spreading_ends : length l ≤ at → l ≡ labelled k l₀
  spreading_ends h = spreading_stops (λ e. let z = get_or-eq_default l 0 h in omega arith)
