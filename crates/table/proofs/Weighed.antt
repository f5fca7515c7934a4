-- What a program weighs by what its parts weigh: the law of figures, once over the own weights, and each kind's case.
use Prim.Native.Nat.{ℕ, zero, suc, ◌+◌, ◌*◌, ◌≤◌, ◌<◌, min, max}
use mathlib.Core.Bool.{Bool, true, false, cond, ◌&&◌, ◌||◌}
use mathlib.Core.Path.{◌≡◌, refl, ap, sym, ◌∙◌}
use native.Mathlib.Nat.{zero-mul, suc-mul, mul-le-mul}
use native.Mathlib.Omega.{arith}
use mir.Val.{bool_byte}
use lib.Bits.{bit_and, bit_or}
use lib.Dec.{eqb}
use borrow.Author.Tests.{ne_eqb, le-leb}
use Rattle.junior.specs.Program.{Program, kind, Leaf, One, Two, size}
use Rattle.junior.specs.Figures.{stops, figure, times, parking}
use Rattle.table.specs.declared.weights.Weight.{Weight}
use Rattle.table.specs.Inside.Early.{Tests}
use Rattle.table.specs.Inside.Weighing.{Counts, Figure, Weighs, counted, once_more, repeatedly}
use Rattle.table.specs.Inside.Weighing.{either, together}
use Rattle.table.specs.Spells.{cap_in}
use Rattle.table.proofs.Little.{below_or}
use Rattle.table.proofs.Parts.{often, chooses, of_none, of_one, of_two, figures_of_none, FiguresOfOne, figures_of_one, figures_of_two}

counted_exact : (c x f : ℕ) → min x 65536 ≡ min f 65536 → min (counted c x) 65536 ≡ min (c * f) 65536
counted_exact zero x f e = rw (zero-mul (min x 65536), zero-mul f) (omega arith)
counted_exact (suc c) x f e =
    below_or
    f
    65536
    (λ l. let s : min x 65536 ≡ f = omega arith in rw s (omega arith))
    (λ l.
    let s : min x 65536 ≡ 65536 = omega arith in
    rw (s, suc-mul c 65536, suc-mul c f) (omega arith))

larger_capped : (x y : ℕ) → min (max x y) 65536 ≡ max (min x 65536) (min y 65536)
larger_capped x y = omega arith

larger_exact : (x y f g : ℕ) → min x 65536 ≡ min f 65536 → min y 65536 ≡ min g 65536
    → min (max x y) 65536 ≡ min (max f g) 65536
larger_exact x y f g a b = rw (larger_capped x y, larger_capped f g, a, b)

module _ {k : Program → ℕ} where
  pub alone : {p : Program} → Leaf p → (x : ℕ) → x ≡ k p → x ≤ 1 → Figure k p x
  alone v x e l =
      let s = (of_none v).size_is in
      record { exact = rw ((figures_of_none {e = 0} v).figure_is k, e); small = omega arith }

  pub under : {a : ℕ} {p q : Program} → One p q → FiguresOfOne a p q → often (kind p) a (stops q) ≡ 1 → (x z : ℕ)
      → k p ≤ 65537 → z ≡ x + k p → Figure k q x → Figure k p z
  under u v o x z l e f =
      let s = (of_one u).size_is in
      record { exact = rw (v.figure_is k, o) (omega arith); small = omega arith }

  pub over : {a : ℕ} {p q : Program} → One p q → FiguresOfOne a p q → (c : ℕ) → often (kind p) a (stops q) ≡ c
      → (x z : ℕ) → k p ≤ 1 → z ≡ counted c x + k p → Figure k q x → Figure k p z
  over {q = q} u v c o x z l e f =
      let s = (of_one u).size_is in
      let g = counted_exact c x (figure k q) f.exact in
      record { exact = rw (v.figure_is k, o) (omega arith); small = omega arith }

  pub added : {p q r : Program} → Two p q r → chooses (kind p) ≡ false → (x y z : ℕ) → k p ≤ 1 → z ≡ x + y + k p
      → Figure k q x → Figure k r y → Figure k p z
  added v o x y z l e f g =
      let s = (of_two v).size_is in
      record { exact = rw ((figures_of_two {e = 0} v).figure_is k, o) (omega arith); small = omega arith }

  pub larger : {p q r : Program} → Two p q r → chooses (kind p) ≡ true → (x y z : ℕ) → k p ≤ 1 → z ≡ max x y + k p
      → Figure k q x → Figure k r y → Figure k p z
  larger {q = q} {r = r} v o x y z l e f g =
      let s = (of_two v).size_is in
      let a = larger_exact x y (figure k q) (figure k r) f.exact g.exact in
      let b = f.small in
      let c = g.small in
      record { exact = rw ((figures_of_two {e = 0} v).figure_is k, o) (omega arith); small = omega arith }

-- the product that counts
pub product_fits : (c y : ℕ) → c < 65536 → y ≤ 65536 → c * y < 4294967296
product_fits c y h l =
    let b : c ≤ 65535 = omega arith in
    let m = mul-le-mul b l in
    omega arith

pub single_stops : (k e : ℕ) {p : Program} → Leaf p → k ≡ kind p → Tests e p → bool_byte (cond (eqb k 8) (eqb e 0) (eqb k 1)) ≡ bool_byte (stops p)
single_stops k e v same h = rw (same, (figures_of_none v).stops_is h)

pub single_weighs : (k s : ℕ) {p : Program} → Leaf p → k ≡ kind p → s ≡ bool_byte (stops p)
    → Weighs (record { generations = cond (eqb k 7) 1 0; atoms = cond (eqb k 2) 1 0; nodes = 1; parked = 0; height = 1; stops = s }) p
single_weighs k s {p} v e h =
    rw
    e
    (record {
      generations_are = alone v _ refl (bit_small (eqb (kind p) 7));
      atoms_are = alone v _ refl (bit_small (eqb (kind p) 2));
      nodes_are = alone v _ refl (omega arith);
      parked_are = alone v _ (sym (figures_of_none {e = 0} v).no_parking) (omega arith);
      height_is = sym (of_none v).height_is;
      stops_is = h;
    })
  where
    bit_small : (b : Bool) → cond b 1 0 ≤ 1
    bit_small true = omega arith
    bit_small false = omega arith

no_times : (b : Bool) → times 0 b ≡ 0
no_times true = refl
no_times false = refl

bit_back : (b : Bool) → eqb (bool_byte b) 1 ≡ b
bit_back true = refl
bit_back false = refl

bits_and : (a b : Bool) → bit_and (bool_byte a) (bool_byte b) ≡ bool_byte (a && b)
bits_and true true = refl
bits_and true false = refl
bits_and false true = refl
bits_and false false = refl

bits_or : (a b : Bool) → bit_or (bool_byte a) (bool_byte b) ≡ bool_byte (a || b)
bits_or true true = refl
bits_or true false = refl
bits_or false true = refl
bits_or false false = refl

module _ {x : Weight} {a : ℕ} {p q : Program} (v : One p q) (n : Counts a p) where
  repeats : (c s : ℕ) → often (kind p) a (stops q) ≡ c → parking p ≡ 0 → s ≡ bool_byte (stops p) → Weighs x q
      → Weighs (repeatedly c x s) p
  repeats c s m none e w =
      let o = figures_of_one v n in
      let h = (of_one v).height_is in
      record {
        generations_are = over v o c m x.generations _ (omega arith) (omega arith) w.generations_are;
        atoms_are = over v o c m x.atoms _ (omega arith) (omega arith) w.atoms_are;
        nodes_are = over v o c m x.nodes _ (omega arith) refl w.nodes_are;
        parked_are = over v o c m x.parked _ (omega arith) (omega arith) w.parked_are;
        height_is = omega arith;
        stops_is = e;
      }

  pub loop_weighs : kind p ≡ 5 → Weighs x q → Weighs (repeatedly 2 x 1) p
  loop_weighs e w = repeats 2 1 (rw e) (rw e) (rw ((figures_of_one v n).stops_is, e)) w

  pub never_weighs : kind p ≡ 6 → a ≡ 0 → Weighs x q → Weighs (repeatedly 0 x 0) p
  never_weighs e z w = repeats 0 0 (rw (e, z) (no_times (stops q))) (rw e) (rw ((figures_of_one v n).stops_is, e, z)) w

  pub repeat_weighs : kind p ≡ 6 → (a ≡ 0 → ⊥) → (c : ℕ) → c ≡ times a (eqb x.stops 1) → Weighs x q
      → Weighs (repeatedly c x x.stops) p
  repeat_weighs e z c m w =
      repeats
      c
      x.stops
      (rw e (sym (m ∙ ap (times a) (ap (λ n. eqb n 1) w.stops_is ∙ bit_back (stops q)))))
      (rw e)
      (rw ((figures_of_one v n).stops_is, e, le-leb 1 a (omega arith)) w.stops_is)
      w

  pub capped_weighs : kind p ≡ 15 → (c : ℕ) → c ≡ times (cap_in a) (eqb x.stops 1) → Weighs x q → Weighs (repeatedly c x 0) p
  capped_weighs e c m w =
      repeats
      c
      0
      (rw e (sym (m ∙ ap (times (cap_in a)) (ap (λ n. eqb n 1) w.stops_is ∙ bit_back (stops q)))))
      (rw e)
      (rw ((figures_of_one v n).stops_is, e))
      w

  once : (own s : ℕ) → often (kind p) a (stops q) ≡ 1 → own ≡ parking p → own ≤ 16384 → s ≡ bool_byte (stops p) → Weighs x q
      → Weighs (once_more x own s) p
  once own s m parks few e w =
      let o = figures_of_one v n in
      let h = (of_one v).height_is in
      record {
        generations_are = under v o m x.generations _ (omega arith) (omega arith) w.generations_are;
        atoms_are = under v o m x.atoms _ (omega arith) (omega arith) w.atoms_are;
        nodes_are = under v o m x.nodes _ (omega arith) refl w.nodes_are;
        parked_are = under v o m x.parked _ (omega arith) (omega arith) w.parked_are;
        height_is = omega arith;
        stops_is = e;
      }

  -- "a Freezable weighs 4 plus 4 for each node of its body"
  pub freezable_weighs : kind p ≡ 13 → (own : ℕ) → own ≡ 4 * size p → own ≤ 16384 → Weighs x q → Weighs (once_more x own 0) p
  freezable_weighs e own is few w = once own 0 (rw e) (rw e is) few (rw ((figures_of_one v n).stops_is, e)) w

  pub under_weighs : (kind p ≡ 5 → ⊥) → (kind p ≡ 6 → ⊥) → (kind p ≡ 15 → ⊥) → (kind p ≡ 13 → ⊥) → Weighs x q
      → Weighs (once_more x 0 x.stops) p
  under_weighs e f g h w =
      let five = ne_eqb (kind p) 5 e in
      let six = ne_eqb (kind p) 6 f in
      let fifteen = ne_eqb (kind p) 15 g in
      let thirteen = ne_eqb (kind p) 13 h in
      once
      0
      x.stops
      (rw (five, six, fifteen))
      (rw thirteen)
      (omega arith)
      (rw ((figures_of_one v n).stops_is, five, six, fifteen, thirteen) w.stops_is)
      w

-- the stops of When and Until from those of their parts, and from when their test can be decided early
when_stops : (a b c d : Bool) → bit_and (bit_or (bool_byte a) (bool_byte b)) (bit_or (bool_byte c) (bool_byte d)) ≡ bool_byte ((a || b) && (c || d))
when_stops a b c d = rw (bits_or a b, bits_or c d) (bits_and (a || b) (c || d))

until_stops : (a b c : Bool) → bit_and (bool_byte a) (bit_or (bool_byte b) (bool_byte c)) ≡ bool_byte (a && (b || c))
until_stops a b c = rw (bits_or b c) (bits_and a (b || c))

module _ {x y : Weight} {p q r : Program} where
  larger_weighs : Two p q r → chooses (kind p) ≡ true → (s : ℕ) → s ≡ bool_byte (stops p) → Weighs x q → Weighs y r → Weighs (either x y s) p
  larger_weighs v n s t w u =
      let o = figures_of_two {e = 0} v in
      let h = (of_two v).height_is in
      let i = w.height_is in
      let j = u.height_is in
      record {
        generations_are =
            larger v n x.generations y.generations _ (omega arith) (omega arith)
            w.generations_are u.generations_are;
        atoms_are = larger v n x.atoms y.atoms _ (omega arith) (omega arith) w.atoms_are u.atoms_are;
        nodes_are = larger v n x.nodes y.nodes _ (omega arith) refl w.nodes_are u.nodes_are;
        parked_are = larger v n x.parked y.parked _ (omega arith) (omega arith) w.parked_are u.parked_are;
        height_is = omega arith;
        stops_is = t;
      }

  pub when_weighs : {e : ℕ} → Two p q r → kind p ≡ 9 → Tests e p → Weighs x q → Weighs y r
      → Weighs (either x y (bit_and (bit_or x.stops (bool_byte (eqb e 0))) (bit_or y.stops (bool_byte (eqb e 2))))) p
  when_weighs {e} v k t w u =
      larger_weighs
      v
      (rw k)
      _
      (rw (w.stops_is, u.stops_is, (figures_of_two v).stops_is t, k) (when_stops (stops q) (eqb e 0) (stops r) (eqb e 2)))
      w
      u

  pub if_weighs : {e : ℕ} → Two p q r → kind p ≡ 14 → Tests e p → Weighs x q → Weighs y r
      → Weighs (either x y (bit_and x.stops y.stops)) p
  if_weighs v k t w u =
      larger_weighs v (rw k) _ (rw (w.stops_is, u.stops_is, (figures_of_two v).stops_is t, k) (bits_and (stops q) (stops r))) w u

  together_weighs : Two p q r → (kind p ≡ 9 → ⊥) → (kind p ≡ 14 → ⊥) → (s : ℕ) → s ≡ bool_byte (stops p) → Weighs x q → Weighs y r
      → Weighs (together x y s) p
  together_weighs v k j s t w u =
      let o = figures_of_two {e = 0} v in
      let n : chooses (kind p) ≡ false = rw (ne_eqb (kind p) 9 k, ne_eqb (kind p) 14 j) in
      let h = (of_two v).height_is in
      record {
        generations_are =
            added v n x.generations y.generations _ (omega arith) (omega arith)
            w.generations_are u.generations_are;
        atoms_are = added v n x.atoms y.atoms _ (omega arith) (omega arith) w.atoms_are u.atoms_are;
        nodes_are = added v n x.nodes y.nodes _ (omega arith) refl w.nodes_are u.nodes_are;
        parked_are = added v n x.parked y.parked _ (omega arith) (omega arith) w.parked_are u.parked_are;
        height_is = omega arith;
        stops_is = t;
      }

  pub until_weighs : {e : ℕ} → Two p q r → kind p ≡ 10 → Tests e p → Weighs x q → Weighs y r
      → Weighs (together x y (bit_and x.stops (bit_or y.stops (bool_byte (eqb e 0))))) p
  until_weighs {e} v k t w u =
      together_weighs
      v
      (λ z. omega arith)
      (λ z. omega arith)
      _
      (rw (w.stops_is, u.stops_is, (figures_of_two v).stops_is t, k) (until_stops (stops q) (stops r) (eqb e 0)))
      w
      u

  pub sum_weighs : {e : ℕ} → Two p q r → (kind p ≡ 9 → ⊥) → (kind p ≡ 10 → ⊥) → (kind p ≡ 14 → ⊥) → Tests e p → Weighs x q → Weighs y r
      → Weighs (together x y (bit_or x.stops y.stops)) p
  sum_weighs v k l m t w u =
      together_weighs
      v
      k
      m
      _
      (rw
      (w.stops_is, u.stops_is, (figures_of_two v).stops_is t, ne_eqb (kind p) 9 k, ne_eqb (kind p) 10 l, ne_eqb (kind p) 14 m)
      (bits_or (stops q) (stops r)))
      w
      u
