-- What is left to judge of a record whose kind is known: its zero byte, its argument and its layout.
use Prim.Native.Nat.{ℕ, zero, suc, ◌+◌, ◌*◌, ◌≤◌, ◌<◌}
use mathlib.Core.Bool.{Bool, true, false, ◌&&◌, ◌||◌, and-true, and-false}
use mathlib.Core.Path.{◌≡◌, refl, ap₂, sym, ◌∙◌}
use mathlib.Core.List.{List, [], ◌∷◌}
use native.Mathlib.Omega.{arith}
use lib.Dec.{eqb, ltb}
use lib.ListN.{get_or, get_or-eq_default}
use borrow.Author.Tests.{lt-ltb, le-ltb, le-leb, eq-eqb, leb-true, eqb-true}
use Rattle.table.specs.Records.{nodes, configurations, events, kind_at, zero_at, argument_at, size_at}
use Rattle.table.specs.Good.{known, child_counts, children, argument_limits, argument_limit, is_laid_out, good_node}
use Rattle.table.proofs.Laid.{both}
use Rattle.table.specs.Inside.Weighing.{SizedWhole, Within, HeadIs}
use Rattle.table.specs.declared.kinds.Kind.{Kind}
use Rattle.table.specs.Kinds.{kind_number}
use Rattle.table.proofs.ByNumber.{at_most_15}

root_fine : (t : List ℕ) (n i : ℕ) → size_at t 0 ≡ n → n ≡ nodes t → (ltb 0 i || eqb (size_at t i) (nodes t)) ≡ true
root_fine t n zero e f = rw (eq-eqb _ _ (e ∙ f))
root_fine t n (suc i) e f = rw (lt-ltb 0 (suc i) (omega arith))

pub good_head : (t : List ℕ) (i : ℕ) → good_node t i ≡ true → (kind_at t i ≤ 15) × (zero_at t i ≡ 0)
unfolding good_node
good_head t i g =
    let h = both g in
    let z = both {a = eqb (zero_at t i) 0} h.1 in
    (leb-true _ _ h.0, eqb-true _ _ z.0)

pub not_good : (t : List ℕ) (i : ℕ) → 15 < kind_at t i + 256 * zero_at t i → good_node t i ≡ false
not_good t i h = go (good_node t i) refl
  where
    go : (b : Bool) → good_node t i ≡ b → b ≡ false
    go true g = let k = good_head t i g in absurd (omega arith)
    go false g = refl

-- the kinds that there are
pub known_so : (k : ℕ) → k ≤ 15 → known k ≡ true
known_so k h = le-leb k 15 h

-- the layout, by how many children there are and by the tests that pass
module _ (written : ℕ → ℕ) (n i count : ℕ) where
  pub laid_none : count ≡ 0 → eqb (written i) 1 ≡ is_laid_out written n i count
  unfolding is_laid_out
  laid_none c = rw c

  pub bad_first : (count ≡ 0 → ⊥) → n ≤ i + 1 → false ≡ is_laid_out written n i count
  unfolding is_laid_out
  bad_first c l = go count c
    where
      go : (count : ℕ) → (count ≡ 0 → ⊥) → false ≡ is_laid_out written n i count
      go zero c = absurd (c refl)
      go (suc zero) c = rw (le-ltb (i + 1) n l)
      go (suc (suc count)) c = rw (le-ltb (i + 1) n l)

  pub laid_one : count ≡ 1 → i + 1 < n → eqb (written i) (1 + written (i + 1)) ≡ is_laid_out written n i count
  unfolding is_laid_out
  laid_one c l = rw (c, lt-ltb (i + 1) n l)

  module _ (c : count ≡ 0 → ⊥) (d : count ≡ 1 → ⊥) (l : i + 1 < n) where
    laid_more : is_laid_out written n i count
        ≡ (ltb (i + 1 + written (i + 1)) n
        && eqb (written i) (1 + written (i + 1) + written (i + 1 + written (i + 1))))
    unfolding is_laid_out
    laid_more = go count c d
      where
        go : (count : ℕ) → (count ≡ 0 → ⊥) → (count ≡ 1 → ⊥)
            → is_laid_out written n i count
            ≡ (ltb (i + 1 + written (i + 1)) n
            && eqb (written i) (1 + written (i + 1) + written (i + 1 + written (i + 1))))
        go zero c d = absurd (c refl)
        go (suc zero) c d = absurd (d refl)
        go (suc (suc count)) c d = rw (lt-ltb (i + 1) n l)

    pub bad_second : n ≤ i + 1 + written (i + 1) → false ≡ is_laid_out written n i count
    bad_second h = rw (laid_more, le-ltb _ _ h)

    pub laid_two : i + 1 + written (i + 1) < n
        → eqb (written i) (1 + written (i + 1) + written (i + 1 + written (i + 1))) ≡ is_laid_out written n i count
    laid_two h = rw (laid_more, lt-ltb _ _ h)

pub within_of : {t : List ℕ} {n m v : ℕ} → SizedWhole t n m v → (i : ℕ) → i < n → Within t n i
within_of P i l =
    let F = P.framed in
    record { long = omega arith; n_is = F.n_is; n_most = F.n_most; whole = P.whole; here = l }

-- node i is of a kind, its zero byte is zero, and what its kind says of its argument and its children
pub record Headed (t : List ℕ) (i limit count : ℕ) : Type 0 where
  pub known_kind : known (kind_at t i) ≡ true
  pub zero_is : zero_at t i ≡ 0
  pub limit_is : argument_limit t (kind_at t i) ≡ limit
  pub count_is : children (kind_at t i) ≡ count

-- what the head is the number of is the kind
pub own_kind : (t : List ℕ) (i : ℕ) (k : Kind) → HeadIs t i k → kind_number k ≡ kind_at t i
own_kind t i k e = let l = at_most_15 k in omega arith

pub as_head : (t : List ℕ) (i : ℕ) (k : Kind) {limit count : ℕ} → HeadIs t i k → argument_limit t (kind_number k) ≡ limit
    → children (kind_number k) ≡ count → Headed t i limit count
as_head t i k e limited counted =
    let same = own_kind t i k e in
    let l = at_most_15 k in
    record {
      known_kind = known_so _ (omega arith);
      zero_is = omega arith;
      limit_is = rw same at limited;
      count_is = rw same at counted;
    }

-- all of a list are at most b
abbrev pub Most : ℕ → List ℕ → Type 0
Most b [] = Unit {0}
Most b (x ∷ l) = (x ≤ b) × Most b l

pub most_at : (b : ℕ) (l : List ℕ) (d : ℕ) → Most b l → d ≤ b → (k : ℕ) → get_or l k d ≤ b
most_at b [] d m h k = h
most_at b (x ∷ l) d m h zero = m.0
most_at b (x ∷ l) d m h (suc k) = most_at b l d m.1 h k

-- other kinds have no children and no argument
pub no_children : (k : ℕ) → 16 ≤ k → children k ≡ 0
unfolding children
no_children k h = get_or-eq_default child_counts 0 h

pub limit_by : (t : List ℕ) {m v : ℕ} (k : ℕ) → m ≡ configurations t → v ≡ events t
    → argument_limit t k ≡ get_or (argument_limits v m) k 0
unfolding argument_limit
limit_by t k e f = ap₂ (λ v m. get_or (argument_limits v m) k 0) (sym f) (sym e)

pub no_argument : (t : List ℕ) (k : ℕ) → 16 ≤ k → argument_limit t k ≡ 0
unfolding argument_limit
no_argument t k h = get_or-eq_default (argument_limits (events t) (configurations t)) 0 h

module _ {t : List ℕ} {n i limit count : ℕ} (w : Within t n i) (k : Headed t i limit count) where
  judged : good_node t i ≡ (eqb (zero_at t i) 0 && (ltb (argument_at t i) limit && is_laid_out (size_at t) n i count))
  unfolding good_node
  judged =
      rw (
        k.known_kind,
        k.limit_is,
        k.count_is,
        root_fine t n i w.whole w.n_is,
        and-true (is_laid_out (size_at t) (nodes t) i count),
        ← w.n_is,
      )

  pub bad_argument : limit ≤ argument_at t i → false ≡ good_node t i
  bad_argument h = rw (judged, le-ltb _ _ h, and-false (eqb (zero_at t i) 0))

  pub as_laid : argument_at t i < limit → is_laid_out (size_at t) n i count ≡ good_node t i
  as_laid a = rw (judged, eq-eqb _ _ k.zero_is, lt-ltb _ _ a)
