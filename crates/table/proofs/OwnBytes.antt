-- A configuration's own goodness by the bytes at its place: its kind and event, its size and its parts' sizes.
use Prim.Native.Nat.{ℕ, zero, suc, ◌+◌, ◌-◌, ◌*◌, ◌/◌, ◌≤◌, ◌<◌}
use mathlib.Core.Bool.{Bool, true, false, cond, ◌&&◌}
use mathlib.Core.Path.{◌≡◌, refl, sym, ap, ◌∙◌}
use mathlib.Core.List.{List}
use native.Mathlib.Omega.{arith}
use lib.ListN.{length}
use lib.Dec.{eqb, leb, ltb}
use borrow.Author.Tests.{lt-ltb, le-ltb, lt-leb, le-leb, ne_eqb, ltb-true, ltb-false}
use Rattle.table.specs.Records.{byte, word, configurations, events, configuration_at, kind_byte, part_kind, part_event, part_size}
use Rattle.table.specs.Good.{is_laid_out, parts, good_but_height}
use Rattle.table.specs.Inside.{Framed, Begins}
use Rattle.table.proofs.Laid.{size_of}

-- the configuration at byte c is laid out with that many parts, the configurations ending ten bytes before the table
abbrev pub laid_at : List ℕ → ℕ → ℕ → Bool
laid_at t c zero = eqb (part_size t c) 1
laid_at t c (suc zero) = ltb (c + 4) (length t - 10) && eqb (part_size t c) (1 + part_size t (c + 4))
laid_at t c (suc (suc more)) =
    ltb (c + 4) (length t - 10)
    && (ltb (c + 4 + 4 * part_size t (c + 4)) (length t - 10)
    && eqb (part_size t c) (1 + part_size t (c + 4) + part_size t (c + 4 + 4 * part_size t (c + 4))))

abbrev pub own_good : List ℕ → ℕ → Bool
own_good t c =
    ltb (kind_byte t c) 64
    && (leb (part_kind t c) 3
    && (ltb (part_event t c) (cond (eqb (part_kind t c) 0) (events t) 1) && laid_at t c (parts (part_kind t c))))

-- how many parts the configuration at byte c has, 0 if it isn't good but for its height
abbrev pub parts_at : List ℕ → ℕ → ℕ
parts_at t c = cond (own_good t c) (parts (part_kind t c)) 0

either : (b : Bool) → cond {A = ℕ} b 0 0 ≡ 0
either true = refl
either false = refl

-- a not, an and, an or by the number of its two bytes, as it is laid out
pub some_parts : (t : List ℕ) (c k : ℕ) → 1 ≤ k → k ≤ 3 → byte t (c + 1) < 256 → word t c ≡ k * 256
    → laid_at t c (parts k) ≡ true → parts_at t c ≡ parts k
some_parts t c k a b l h g =
    let own : kind_byte t c ≡ k = omega arith in
    let d : part_kind t c ≡ k = omega arith in
    let e : part_event t c ≡ 0 = omega arith in
    rw (lt-ltb (kind_byte t c) 64 (omega arith), d, e, le-leb k 3 b, ne_eqb k 0 (λ z. omega arith), g)

pub no_parts : (t : List ℕ) (c : ℕ) → (word t c ≡ 256 → laid_at t c 1 ≡ false)
    → ((k : ℕ) → 2 ≤ k → k ≤ 3 → word t c ≡ k * 256 → laid_at t c 2 ≡ false) → parts_at t c ≡ 0
unfolding parts
no_parts t c f g = within (ltb (kind_byte t c) 64) refl
  where
    -- a kind byte below 64 is its kind, where its event is 0
    is_word : {k : ℕ} → kind_byte t c < 64 → part_kind t c ≡ k → ltb (part_event t c) 1 ≡ true → word t c ≡ k * 256
    is_word {k} l d h =
        let none = ltb-true (part_event t c) 1 h in
        let sixteens : kind_byte t c / 16 ≡ 0 = omega arith in
        let own : kind_byte t c ≡ k = omega arith in
        let low : byte t (c + 1) ≡ 0 = omega arith in
        omega arith

    go : kind_byte t c < 64 → (k : ℕ) → part_kind t c ≡ k → (e : Bool) → ltb (part_event t c) 1 ≡ e → parts_at t c ≡ 0
    go l zero d e h = rw (lt-ltb (kind_byte t c) 64 l, d) (either (ltb (part_event t c) (events t) && eqb (part_size t c) 1))
    go l (suc zero) d true h = rw (lt-ltb (kind_byte t c) 64 l, d, h, f (is_word l d h))
    go l (suc zero) d false h = rw (lt-ltb (kind_byte t c) 64 l, d, h)
    go l (suc (suc zero)) d true h = rw (lt-ltb (kind_byte t c) 64 l, d, h, g 2 (omega arith) (omega arith) (is_word l d h))
    go l (suc (suc zero)) d false h = rw (lt-ltb (kind_byte t c) 64 l, d, h)
    go l (suc (suc (suc zero))) d true h = rw (lt-ltb (kind_byte t c) 64 l, d, h, g 3 (omega arith) (omega arith) (is_word l d h))
    go l (suc (suc (suc zero))) d false h = rw (lt-ltb (kind_byte t c) 64 l, d, h)
    go l (suc (suc (suc (suc k)))) d e h = rw (lt-ltb (kind_byte t c) 64 l, d, lt-leb (suc (suc (suc (suc k)))) 3 (omega arith))

    within : (b : Bool) → ltb (kind_byte t c) 64 ≡ b → parts_at t c ≡ 0
    within true b = go (ltb-true (kind_byte t c) 64 b) (part_kind t c) refl (ltb (part_event t c) 1) refl
    within false b = rw b

-- an event whose number isn't below V is no good one, whatever its kind byte
pub not_lone : (t : List ℕ) (c : ℕ) → part_kind t c ≡ 0 → events t ≤ 16 * kind_byte t c + byte t (c + 1)
    → (eqb (part_kind t c) 0 && own_good t c) ≡ false
not_lone t c d h = go (ltb (kind_byte t c) 64) refl
  where
    go : (b : Bool) → ltb (kind_byte t c) 64 ≡ b → (eqb (part_kind t c) 0 && own_good t c) ≡ false
    go true b =
        let l = ltb-true (kind_byte t c) 64 b in
        rw (b, d, le-ltb (part_event t c) (events t) (omega arith))
    go false b = rw (b, d)

same_test : (a b x y : ℕ) → (a < b → x < y) → (b ≤ a → y ≤ x) → ltb a b ≡ ltb x y
same_test a b x y f g = go (ltb a b) refl
  where
    go : (r : Bool) → ltb a b ≡ r → ltb a b ≡ ltb x y
    go true e = e ∙ sym (lt-ltb x y (f (ltb-true a b e)))
    go false e = e ∙ sym (le-ltb x y (g (ltb-false a b e)))

pub framed_begins : {t : List ℕ} {n m v j : ℕ} → Framed t n m v → j < m → Begins t (6 * n + 4 * j) j
framed_begins f l =
    record { at = omega arith; among = omega arith; long = omega arith }

-- where the parts of configuration j begin
module _ (t : List ℕ) (c j : ℕ) (e : c ≡ configuration_at t j) where
  pub first_at : c + 4 ≡ configuration_at t (j + 1)
  first_at = omega arith

  pub second_at : c + 4 + 4 * part_size t (c + 4) ≡ configuration_at t (j + 1 + size_of t (j + 1))
  second_at = let s = ap (part_size t) first_at in omega arith

module _ (t : List ℕ) (c j : ℕ) (b : Begins t c j) where
  within : (k d : ℕ) → d ≡ configuration_at t k → ltb k (configurations t) ≡ ltb d (length t - 10)
  within k d e =
      same_test k (configurations t) d (length t - 10) (λ h. omega arith) (λ h. omega arith)

  laid_there : (p : ℕ) → is_laid_out (size_of t) (configurations t) j p ≡ laid_at t c p
  unfolding is_laid_out
  laid_there zero = ap (λ (x : ℕ). eqb (part_size t x) 1) (sym b.at)
  laid_there (suc zero) =
      let f = first_at t c j b.at in
      let one = within _ _ f in
      cc
  laid_there (suc (suc more)) =
      let f = first_at t c j b.at in
      let s = second_at t c j b.at in
      let one = within _ _ f in
      let two = within _ _ s in
      let own = ap (part_size t) b.at in
      let first = ap (part_size t) f in
      let second = ap (part_size t) s in
      cc

  pub own : good_but_height t j ≡ own_good t c
  unfolding good_but_height
  own = rw (← b.at, laid_there (parts (part_kind t c)))
