-- The program of an accepted table is in form, and its tests have height at most 16.
use Prim.Native.Nat.{ℕ, zero, suc, ◌+◌, ◌≤◌, ◌<◌}
use mathlib.Core.Bool.{true, false≢true}
use mathlib.Core.Path.{◌≡◌, refl, sym, ap, ◌∙◌}
use mathlib.Core.List.{List}
use native.Mathlib.Omega.{arith}
use Rattle.junior.specs.Configuration.{Config, Event, Not, And, Or}
use Rattle.junior.specs.Program.{Program, Argument, no_argument, number, event, configuration, value, capped, argument, kind}
use Rattle.junior.specs.Program.{Parts as PartsOf, no_part, one_part, two_parts, parts as taken_apart}
use Rattle.table.specs.Records.{nodes, configurations, argument_at, size_at, second_child, configuration_at}
use Rattle.table.specs.Records.{part_kind, second_part}
use Rattle.table.specs.Good.{parts, height_at_most}
use Rattle.table.specs.Spells.{Configured, Argues, SpellsParts, Spells, tested, tree_of}
use Rattle.table.specs.Inside.{Loaded}
use Rattle.table.proofs.Laid.{both, Laid, one_inside, two_inside, size_of}
use Rattle.table.proofs.Laid
use Rattle.table.proofs.OwnBytes.{first_at, second_at}
use Rattle.table.proofs.Heights.{height_good}
use Rattle.table.proofs.Spelled.{own_good_lem}
use Rattle.table.proofs.Parts.{part_count, children_are, limit_of, by_kind}
use Rattle.table.proofs.Grown.{fine}
use Rattle.table.proofs.Tree.{own}
use Rattle.table.proofs.Loaded.{whole_placed}
use Rattle.form.specs.InForm.{TestInForm, ArgumentInForm, PartsInForm, InForm}
use Rattle.form.proofs.MadeHeights.{tall, LowArgument, LowParts, LowTests}

-- a configuration in form, of height at most h
record TestForm (h : ℕ) (d : Config) : Type 0 where
  in_form : TestInForm d
  low : tall d ≤ h

-- a program in form, its tests low
pub record Formed (p : Program) : Type 0 where
  pub in_form : InForm p
  pub low : LowTests p

module _ {t : List ℕ} (a : Loaded t) where
  -- so is d wherever it stands as a configuration of the table of height at most h
  abbrev FormWhere : ℕ → Config → Type 0
  FormWhere h d =
      (c j : ℕ) → c ≡ configuration_at t j → j < configurations t → height_at_most t h j ≡ true → Configured t c d → TestForm h d

  -- the parts of an and, an or
  both_form : (h c j k : ℕ) (d e : Config) → c ≡ configuration_at t j → j < configurations t → part_kind t c ≡ k → parts k ≡ 2
      → height_at_most t (suc h) j ≡ true → FormWhere h d → FormWhere h e → Configured t (c + 4) d → Configured t (second_part t c) e
      → TestForm h d × TestForm h e
  both_form h c j k d e z m o p l first second x y =
      let g = (own_good_lem t a.configurations_good j m).0 in
      let own_kind : part_kind t (configuration_at t j) ≡ k = sym (ap (part_kind t) z) ∙ o in
      let inside = two_inside (rw p at (Laid.fine t j k own_kind g).laid_out) in
      let low = both {a = height_at_most t h (j + 1)} (sym (height_good t h j 2 g (ap parts own_kind ∙ p)) ∙ l) in
      let f = first (c + 4) (j + 1) (first_at t c j z) inside.0 low.0 x in
      let s = second (second_part t c) (j + 1 + size_of t (j + 1)) (second_at t c j z) inside.1 low.1 y in
      (f, s)

  test_form : (h : ℕ) (d : Config) → FormWhere h d
  unfolding Configured tall parts height_at_most
  test_form zero d c j z m l x = absurd (false≢true l)
  test_form (suc h) (Event s) c j z m l (k, w, e) =
      let own_kind : part_kind t (configuration_at t j) ≡ 0 = sym (ap (part_kind t) z) ∙ k in
      let below = rw (← z) at (Laid.fine t j 0 own_kind (own_good_lem t a.configurations_good j m).0).event_below in
      record { in_form = omega (arith, a.framed.v_most); low = omega arith }
  test_form (suc h) (Not d) c j z m l (k, w, x) =
      let g = (own_good_lem t a.configurations_good j m).0 in
      let own_kind : part_kind t (configuration_at t j) ≡ 1 = sym (ap (part_kind t) z) ∙ k in
      let inside = one_inside (Laid.fine t j 1 own_kind g).laid_out in
      let f = test_form h d (c + 4) (j + 1) (first_at t c j z) inside (sym (height_good t h j 1 g (ap parts own_kind)) ∙ l) x in
      record { in_form = f.in_form; low = omega (arith, f.low) }
  test_form (suc h) (And d e) c j z m l (k, w, x, y) =
      let (f, g) = both_form h c j 2 d e z m k refl l (test_form h d) (test_form h e) x y in
      record { in_form = (f.in_form, g.in_form); low = omega (arith, f.low, g.low) }
  test_form (suc h) (Or d e) c j z m l (k, w, x, y) =
      let (f, g) = both_form h c j 3 d e z m k refl l (test_form h d) (test_form h e) x y in
      record { in_form = (f.in_form, g.in_form); low = omega (arith, f.low, g.low) }

  -- what node i tests
  tested_form : (i : ℕ) (c : Config) → argument_at t i < configurations t → Configured t (tested t i) c → TestForm 16 c
  tested_form i c l x = test_form 16 c (tested t i) (argument_at t i) refl l (own_good_lem t a.configurations_good (argument_at t i) l).1 x

  argument_form : (i : ℕ) (x : Argument) → argument_at t i < limit_of t x → Argues t i x → ArgumentInForm x × LowArgument x
  argument_form i no_argument l h = (tt, tt)
  argument_form i (number n) l h = (omega arith, tt)
  argument_form i (event s) l h = (omega (arith, a.framed.v_most), tt)
  argument_form i (configuration c) l h = let f = tested_form i c l h in (f.in_form, f.low)
  argument_form i (value v) l h = (omega arith, tt)
  argument_form i (capped v cap) l (h, g) = ((omega arith, omega arith), tt)

  own_form : (i : ℕ) {p : Program} (v : PartsOf p) → i < nodes t → SpellsParts t i v
      → ArgumentInForm (argument p) × LowArgument (argument p)
  own_form i {p} v l h =
      let (o, x) = own t i v h in
      argument_form i (argument p) (rw ((by_kind p).limit_is t) at (fine t i (kind p) o.0 (a.nodes_good i l)).argument_below) x

  inside : (i : ℕ) {p : Program} (v : PartsOf p) → i < nodes t → SpellsParts t i v → Laid (size_at t) (nodes t) i (part_count v)
  inside i {p} v l h = rw (children_are v) at (fine t i (kind p) (own t i v h).0.0 (a.nodes_good i l)).laid_out

  form : {p : Program} (v : PartsOf p) (i : ℕ) → i < nodes t → SpellsParts t i v → PartsInForm v × LowParts v
  form (no_part g) i l h = let (x, y) = own_form i (no_part g) l h in (x, (y, tt))
  form (one_part g q) i l h =
      let (x, y) = own_form i (one_part g q) l h in
      let (u, w) = form q (i + 1) (one_inside (inside i (one_part g q) l h)) h.2 in
      ((x, u), (y, w))
  form (two_parts g q r) i l h =
      let (x, y) = own_form i (two_parts g q r) l h in
      let (m, n) = two_inside (inside i (two_parts g q r) l h) in
      let (u, w) = form q (i + 1) m h.2 in
      let (u', w') = form r (second_child t i) n h.3 in
      ((x, u, u'), (y, (w, w')))

  pub accepted_form : Formed (tree_of t)
  unfolding Spells LowTests
  accepted_form =
      let (x, y) = form (taken_apart (tree_of t)) 0 a.framed.n_least (whole_placed a).spelled in
      record { in_form = x; low = y }
