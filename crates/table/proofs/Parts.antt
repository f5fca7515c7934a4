-- What a program of a kind with no part, one or two is made of: its size, its nodes in order, its figures, whether it stops.
use Prim.Native.Nat.{ℕ, zero, suc, ◌+◌, ◌*◌, ◌≤◌, max}
use mathlib.Core.Bool.{Bool, true, false, cond, not, ◌&&◌, ◌||◌}
use mathlib.Core.Path.{◌≡◌, refl, ap, ◌∙◌}
use mathlib.Core.List.{List, [], ◌∷◌, ◌++◌}
use native.Mathlib.Omega.{arith}
use lib.Dec.{eqb, leb, eqb-suc-zero}
use borrow.Author.Tests.{le-leb}
use Rattle.junior.specs.Configuration.{Config, early_true, early_false}
use Rattle.junior.specs.Program.{Program, Loop}
use Rattle.junior.specs.Program.{Argument, no_argument, number, event, configuration, value, capped, argument, kind}
use Rattle.junior.specs.Values.{exactly, asked}
use Rattle.junior.specs.Program.{Leaf, nothing, stop, atom, generate, await, One, loop, repeat, control, local, freezable}
use Rattle.junior.specs.Program.{Two, seq, par, when, until, if, Parts, no_part, one_part, two_parts, parts, size_of, size}
use Rattle.junior.specs.Figures.{only_if, stops, LoopsStop, figure, times, per, parking}
use Rattle.junior.proofs.Parts.{parts_none, parts_one, parts_two, only_parts}
use Rattle.table.specs.Records.{configurations, events}
use Rattle.table.specs.Good.{known, children, argument_limit}
use Rattle.table.specs.Spells.{cap_in}
use Rattle.table.specs.Verdict.{Node, parts_in_order, preorder, endless_parts, endless_loop}
use Rattle.table.specs.Inside.Early.{Earliness, Tests}
use Rattle.table.specs.Inside.Weighing.{Counts, levels, height}

abbrev pub part_count : {p : Program} → Parts p → ℕ
part_count (no_part f) = 0
part_count (one_part f q) = 1
part_count (two_parts f q r) = 2

-- what an argument is below
abbrev pub limit_of : List ℕ → Argument → ℕ
limit_of t no_argument = 1
limit_of t (number n) = 65536
limit_of t (event s) = events t
limit_of t (configuration c) = configurations t
limit_of t (value v) = 16
limit_of t (capped v cap) = 4096

-- what a program's kind says of it
pub record ByKind (p : Program) : Type 0 where
  pub known_kind : known (kind p) ≡ true
  pub count_is : children (kind p) ≡ part_count (parts p)
  pub limit_is : (t : List ℕ) → argument_limit t (kind p) ≡ limit_of t (argument p)

abbrev node : ℕ → Program → Node
node d p = record { depth = d; part = p }

-- how often a figure counts the part of a program of kind k, a being its argument
abbrev pub often : ℕ → ℕ → Bool → ℕ
often k a part_stops = cond (eqb k 5) 2 (cond (eqb k 6) (times a part_stops) (cond (eqb k 15) (times (cap_in a) part_stops) 1))

-- a program of kind k with one part never counts as stopping
abbrev pub never_stops : ℕ → Bool
never_stops k = eqb k 13 || eqb k 15

-- a program of kind k runs one of its two parts
abbrev pub chooses : ℕ → Bool
chooses k = eqb k 9 || eqb k 14

-- the figures of each form, and whether it stops, by its kind; e says when its test can be decided early
pub record FiguresOfNone (e : ℕ) (p : Program) : Type 0 where
  pub figure_is : (k : Program → ℕ) → figure k p ≡ k p
  pub stops_is : Tests e p → stops p ≡ cond (eqb (kind p) 8) (eqb e 0) (eqb (kind p) 1)
  pub no_parking : parking p ≡ 0

pub record FiguresOfOne (a : ℕ) (p q : Program) : Type 0 where
  pub figure_is : (k : Program → ℕ) → figure k p ≡ k p + often (kind p) a (stops q) * figure k q
  pub stops_is : stops p ≡ cond (eqb (kind p) 5) true (cond (eqb (kind p) 6) (leb 1 a && stops q) (cond (never_stops (kind p)) false (stops q)))
  pub no_generation : per 7 p ≡ 0
  pub no_atom : per 2 p ≡ 0

pub record FiguresOfTwo (e : ℕ) (p q r : Program) : Type 0 where
  pub figure_is : (k : Program → ℕ)
      → figure k p ≡ k p + cond (chooses (kind p)) (max (figure k q) (figure k r)) (figure k q + figure k r)
  pub stops_is : Tests e p
      → stops p
      ≡ cond
      (eqb (kind p) 9)
      ((stops q || eqb e 0) && (stops r || eqb e 2))
      (cond (eqb (kind p) 10) (stops q && (stops r || eqb e 0)) (cond (eqb (kind p) 14) (stops q && stops r) (stops q || stops r)))
  pub no_generation : per 7 p ≡ 0
  pub no_atom : per 2 p ≡ 0
  pub no_parking : parking p ≡ 0

-- never true early, never false early: then that branch needn't stop
never_true : (e : ℕ) → not (leb 1 e) ≡ eqb e 0
never_true zero = refl
never_true (suc e) = rw (le-leb 1 (suc e) (omega arith), eqb-suc-zero e)

spared : (never stops_too : Bool) → (never || stops_too) ≡ (stops_too || never)
spared true true = refl
spared true false = refl
spared false true = refl
spared false false = refl

never_false : (e : ℕ) → e ≤ 2 → not (leb e 1) ≡ eqb e 2
never_false zero h = refl
never_false (suc zero) h = refl
never_false (suc (suc zero)) h = refl
never_false (suc (suc (suc e))) h = absurd (omega arith)

then_spared : {e : ℕ} {c : Config} (s : Bool) → Earliness e c → only_if (early_true c) s ≡ (s || eqb e 0)
then_spared {e} s h = rw (h.true_is, never_true e) (spared (eqb e 0) s)

else_spared : {e : ℕ} {c : Config} (s : Bool) → Earliness e c → only_if (early_false c) s ≡ (s || eqb e 2)
else_spared {e} s h = rw (h.false_is, never_false e h.most) (spared (eqb e 2) s)

-- all that is said of each form, by its parts: what its kind says, its figures, that its Loops stop, and that it weighs nothing
record NoneForm (p : Program) : Type 0 where
  its_kind : ByKind p
  figures : (e : ℕ) → FiguresOfNone e p
  loops : LoopsStop p

record OneForm (p q : Program) : Type 0 where
  its_kind : ByKind p
  figures : (a : ℕ) → Counts a p → FiguresOfOne a p q
  loop_is : kind p ≡ 5 → p ≡ Loop q
  loops : (kind p ≡ 5 → stops q ≡ true) → LoopsStop q → LoopsStop p
  weightless : (k : Program → ℕ) → k p ≡ 0 → figure k q ≡ 0 → figure k p ≡ 0

record TwoForm (p q r : Program) : Type 0 where
  its_kind : ByKind p
  figures : (e : ℕ) → FiguresOfTwo e p q r
  loops : LoopsStop q → LoopsStop r → LoopsStop p
  weightless : (k : Program → ℕ) → k p ≡ 0 → figure k q ≡ 0 → figure k r ≡ 0 → figure k p ≡ 0

none_form : {p : Program} → Leaf p → NoneForm p
unfolding figure stops kind children argument_limit LoopsStop
none_form nothing =
    record {
      its_kind = record { known_kind = refl; count_is = refl; limit_is = λ t. refl };
      figures = λ e. record { figure_is = λ k. refl; stops_is = λ h. refl; no_parking = refl };
      loops = tt;
    }
none_form stop =
    record {
      its_kind = record { known_kind = refl; count_is = refl; limit_is = λ t. refl };
      figures = λ e. record { figure_is = λ k. refl; stops_is = λ h. refl; no_parking = refl };
      loops = tt;
    }
none_form (atom a) =
    record {
      its_kind = record { known_kind = refl; count_is = refl; limit_is = λ t. refl };
      figures = λ e. record { figure_is = λ k. refl; stops_is = λ h. refl; no_parking = refl };
      loops = tt;
    }
none_form (generate s) =
    record {
      its_kind = record { known_kind = refl; count_is = refl; limit_is = λ t. refl };
      figures = λ e. record { figure_is = λ k. refl; stops_is = λ h. refl; no_parking = refl };
      loops = tt;
    }
none_form (await c) =
    record {
      its_kind = record { known_kind = refl; count_is = refl; limit_is = λ t. refl };
      figures = λ e. record {
        figure_is = λ k. refl;
        stops_is = λ h. rw (h.early (omega arith) (omega arith) c refl).true_is (never_true e);
        no_parking = refl;
      };
      loops = tt;
    }

one_form : {p q : Program} → One p q → OneForm p q
unfolding figure stops kind children argument_limit LoopsStop
one_form (loop p) =
    record {
      its_kind = record { known_kind = refl; count_is = refl; limit_is = λ t. refl };
      figures = λ a e. record { figure_is = λ k. refl; stops_is = refl; no_generation = refl; no_atom = refl };
      loop_is = λ e. refl;
      loops = λ s l. (s refl, l);
      weightless = λ k o z. rw (o, z) (omega arith);
    }
one_form (repeat (exactly n) p) =
    record {
      its_kind = record { known_kind = refl; count_is = refl; limit_is = λ t. refl };
      figures = λ a e. rw (e.same n refl) (record { figure_is = λ k. refl; stops_is = refl; no_generation = refl; no_atom = refl });
      loop_is = λ e. absurd (omega arith);
      loops = λ s l. l;
      weightless = λ k o z. rw (o, z) (omega arith);
    }
one_form (repeat (asked v m) p) =
    record {
      its_kind = record { known_kind = refl; count_is = refl; limit_is = λ t. refl };
      figures = λ a e. rw (← e.cap_is v m refl) (record { figure_is = λ k. refl; stops_is = refl; no_generation = refl; no_atom = refl });
      loop_is = λ e. absurd (omega arith);
      loops = λ s l. l;
      weightless = λ k o z. rw (o, z) (omega arith);
    }
one_form (control s p) =
    record {
      its_kind = record { known_kind = refl; count_is = refl; limit_is = λ t. refl };
      figures = λ a e. record { figure_is = λ k. omega arith; stops_is = refl; no_generation = refl; no_atom = refl };
      loop_is = λ e. absurd (omega arith);
      loops = λ s l. l;
      weightless = λ k o z. rw (o, z) (omega arith);
    }
one_form (local s p) =
    record {
      its_kind = record { known_kind = refl; count_is = refl; limit_is = λ t. refl };
      figures = λ a e. record { figure_is = λ k. omega arith; stops_is = refl; no_generation = refl; no_atom = refl };
      loop_is = λ e. absurd (omega arith);
      loops = λ s l. l;
      weightless = λ k o z. rw (o, z) (omega arith);
    }
one_form (freezable s p) =
    record {
      its_kind = record { known_kind = refl; count_is = refl; limit_is = λ t. refl };
      figures = λ a e. record { figure_is = λ k. omega arith; stops_is = refl; no_generation = refl; no_atom = refl };
      loop_is = λ e. absurd (omega arith);
      loops = λ s l. l;
      weightless = λ k o z. rw (o, z) (omega arith);
    }

two_form : {p q r : Program} → Two p q r → TwoForm p q r
unfolding figure stops kind children argument_limit LoopsStop
two_form (seq p q) =
    record {
      its_kind = record { known_kind = refl; count_is = refl; limit_is = λ t. refl };
      figures = λ e. record { figure_is = λ k. refl; stops_is = λ h. refl; no_generation = refl; no_atom = refl; no_parking = refl };
      loops = λ l m. (l, m);
      weightless = λ k o y z. rw (o, y, z) (omega arith);
    }
two_form (par p q) =
    record {
      its_kind = record { known_kind = refl; count_is = refl; limit_is = λ t. refl };
      figures = λ e. record { figure_is = λ k. refl; stops_is = λ h. refl; no_generation = refl; no_atom = refl; no_parking = refl };
      loops = λ l m. (l, m);
      weightless = λ k o y z. rw (o, y, z) (omega arith);
    }
two_form (if v p q) =
    record {
      its_kind = record { known_kind = refl; count_is = refl; limit_is = λ t. refl };
      figures = λ e. record { figure_is = λ k. refl; stops_is = λ h. refl; no_generation = refl; no_atom = refl; no_parking = refl };
      loops = λ l m. (l, m);
      weightless = λ k o y z. rw (o, y, z) (omega arith);
    }
two_form (when c p q) =
    record {
      its_kind = record { known_kind = refl; count_is = refl; limit_is = λ t. refl };
      figures = λ e. record {
        figure_is = λ k. refl;
        stops_is = λ h. let w = h.early (omega arith) (omega arith) c refl in rw (then_spared (stops p) w, else_spared (stops q) w);
        no_generation = refl;
        no_atom = refl;
        no_parking = refl;
      };
      loops = λ l m. (l, m);
      weightless = λ k o y z. rw (o, y, z) (omega arith);
    }
two_form (until c p q) =
    record {
      its_kind = record { known_kind = refl; count_is = refl; limit_is = λ t. refl };
      figures = λ e. record {
        figure_is = λ k. refl;
        stops_is = λ h. let w = h.early (omega arith) (omega arith) c refl in rw (then_spared (stops q) w);
        no_generation = refl;
        no_atom = refl;
        no_parking = refl;
      };
      loops = λ l m. (l, m);
      weightless = λ k o y z. rw (o, y, z) (omega arith);
    }

kind_parts : {p : Program} → Parts p → ByKind p
kind_parts (no_part f) = (none_form f).its_kind
kind_parts (one_part f v) = (one_form f).its_kind
kind_parts (two_parts f v w) = (two_form f).its_kind

pub by_kind : (p : Program) → ByKind p
by_kind p = kind_parts (parts p)

pub children_are : {p : Program} (v : Parts p) → children (kind p) ≡ part_count v
children_are {p} v = (by_kind p).count_is ∙ ap part_count (only_parts v)

pub figures_of_none : {e : ℕ} {p : Program} → Leaf p → FiguresOfNone e p
figures_of_none {e} f = (none_form f).figures e

pub figures_of_one : {a : ℕ} {p q : Program} → One p q → Counts a p → FiguresOfOne a p q
figures_of_one {a} f e = (one_form f).figures a e

pub figures_of_two : {e : ℕ} {p q r : Program} → Two p q r → FiguresOfTwo e p q r
figures_of_two {e} f = (two_form f).figures e

-- a program of kind 5 is a Loop
pub loop_of_kind : {p q : Program} → One p q → kind p ≡ 5 → p ≡ Loop q
loop_of_kind f = (one_form f).loop_is

-- every Loop's body stops, if those of the parts do, and if it is a Loop its own
pub loops_of_none : {p : Program} → Leaf p → LoopsStop p
loops_of_none f = (none_form f).loops

pub loops_of_one : {p q : Program} → One p q → (kind p ≡ 5 → stops q ≡ true) → LoopsStop q → LoopsStop p
loops_of_one f = (one_form f).loops

pub loops_of_two : {p q r : Program} → Two p q r → LoopsStop q → LoopsStop r → LoopsStop p
loops_of_two f = (two_form f).loops

-- it weighs nothing, if its node and its parts don't
pub weightless_one : {p q : Program} → One p q → (k : Program → ℕ) → k p ≡ 0 → figure k q ≡ 0 → figure k p ≡ 0
weightless_one f = (one_form f).weightless

pub weightless_two : {p q r : Program} → Two p q r → (k : Program → ℕ) → k p ≡ 0 → figure k q ≡ 0 → figure k r ≡ 0 → figure k p ≡ 0
weightless_two f = (two_form f).weightless

-- what goes by the parts alone
pub record OfNone (p : Program) : Type 0 where
  pub size_is : size p ≡ 1
  pub height_is : height p ≡ 1
  pub nodes_are : (d : ℕ) → preorder d p ≡ node d p ∷ []
  pub endless_is : endless_loop p ≡ false

pub record OfOne (p q : Program) : Type 0 where
  pub size_is : size p ≡ 1 + size q
  pub height_is : height p ≡ 1 + height q
  pub nodes_are : (d : ℕ) → preorder d p ≡ node d p ∷ preorder (suc d) q
  pub endless_is : endless_loop p ≡ (eqb (kind p) 5 && not (stops q))

pub record OfTwo (p q r : Program) : Type 0 where
  pub size_is : size p ≡ 1 + size q + size r
  pub height_is : height p ≡ 1 + max (height q) (height r)
  pub nodes_are : (d : ℕ) → preorder d p ≡ node d p ∷ (preorder (suc d) q ++ preorder (suc d) r)
  pub endless_is : endless_loop p ≡ false

pub of_none : {p : Program} → Leaf p → OfNone p
unfolding size height preorder
of_none f =
    let e = parts_none f in
    record { size_is = ap size_of e; height_is = ap levels e; nodes_are = λ d. ap (parts_in_order d) e; endless_is = ap endless_parts e }

pub of_one : {p q : Program} → One p q → OfOne p q
unfolding size height preorder
of_one f =
    let e = parts_one f in
    record { size_is = ap size_of e; height_is = ap levels e; nodes_are = λ d. ap (parts_in_order d) e; endless_is = ap endless_parts e }

pub of_two : {p q r : Program} → Two p q r → OfTwo p q r
unfolding size height preorder
of_two f =
    let e = parts_two f in
    record { size_is = ap size_of e; height_is = ap levels e; nodes_are = λ d. ap (parts_in_order d) e; endless_is = ap endless_parts e }
