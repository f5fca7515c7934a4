-- A term at rest stands in a state's bytes if no node is to blame.
use Prim.Native.Nat.{ℕ, ◌+◌, ◌-◌, ◌*◌, ◌≤◌, ◌<◌}
use mathlib.Core.Bool.{Bool, true, false, cond, not, ◌&&◌, ◌||◌}
use mathlib.Core.Path.{◌≡◌, refl, sym, ap, ap₂, ◌∙◌, subst}
use mathlib.Core.List.{List, ◌++◌}
use native.Mathlib.Omega.{arith}
use lib.ListN.{length, get_or, take, replicate}
use lib.Dec.{eqb, ltb}
use borrow.Author.Tests.{eqb-true, ltb-true, not-false}
use Rattle.events.proofs.Events.{before_lowest}
use Rattle.junior.specs.declared.Flag.{Flag}
use Rattle.junior.specs.declared.Flag.TheVariants.{SUSP, TERM}
use Rattle.junior.specs.Values.{Times, exactly, asked, most}
use Rattle.junior.specs.Program.{Program, Par, Loop, Repeat, When, If, Leaf, nothing, stop, atom, generate, await, One, loop, repeat}
use Rattle.junior.specs.Program.{control, local, freezable, Two, seq, par, when, until, if, Parts, no_part, one_part, two_parts, parts, size, kind}
use Rattle.junior.specs.Term.{Term, done, prog, fresh}
use Rattle.junior.specs.AtRest.{AtRest, Over}
use Rattle.junior.proofs.Fresh.{prog_fresh, fresh_at_rest}
use Rattle.table.specs.Records.{byte, nodes, kind_at, argument_at, second_child}
use Rattle.table.specs.Spells.{Spells, tree_of}
use Rattle.table.specs.Inside.{Placed}
use Rattle.table.proofs.Parts as Table
use Rattle.table.proofs.Parts.{of_none}
use Rattle.table.proofs.Tree.{size_pos, kind_is, written, spells_one, spells_two, second_is, second}
use Rattle.table.proofs.Laid.{both}
use Rattle.table.proofs.Loaded.{all_nodes}
use Rattle.state.specs.Kinds.{par_kind, repeat_kind, repeat_ext_kind}
use Rattle.state.specs.StateBytes.{Own, code, head, before, in_phase, below, state_bytes}
use Rattle.state.specs.Resting.{phase_at, flags_at, count_at, zero_nodes, first_zero, second_zero, below_zero, phase_rests}
use Rattle.state.specs.Resting.{branch_rests, repeats, most_runs, flags_rest, count_rests, rests, blamed}
use Rattle.state.proofs.Little.{either_true}
use Rattle.state.proofs.Parts.{blank, blank_below, blank_both, fresh_zeros, own_phase}
use Rattle.state.proofs.Shape.{Shape, is_done, is_local, shape_by, no_sign}
use Rattle.state.proofs.Frames.{Frame, size_in, seq_first, seq_second, loop_body, repeat_body, when_first, when_second}
use Rattle.state.proofs.Frames.{until_first, until_second, if_first, if_second, control_body, local_body, freezable_body}
use Rattle.state.proofs.Zeros.{Owns}
use Rattle.state.proofs.NodeBytes.{bytes_at, both_parts, node_bytes_lem, zero_bytes, first_byte}

-- the term u, at rest, stands at node i; some term of p does
record Rests (s : List ℕ) (i : ℕ) (u : Term) : Type 0 where
  bytes : bytes_at s i (size (prog u)) ≡ state_bytes u
  at_rest : AtRest u

record TermAt (s : List ℕ) (i : ℕ) (p : Program) : Type 0 where
  term : Term
  of_program : prog term ≡ p
  rests_so : Rests s i term

stand : {s : List ℕ} {i : ℕ} (u : Term) → bytes_at s i (size (prog u)) ≡ state_bytes u → AtRest u → TermAt s i (prog u)
stand u b a = record { term = u; of_program = refl; rests_so = record { bytes = b; at_rest = a } }

-- only a term that reads as Nothing has phase 3
over : (x : Term) → (head x).phase ≡ 3 → Over TERM x
over x e = go (shape_by x refl e)
  where
    go : {x : Term} {k : ℕ} → Shape x k 3 → Over TERM x
    go (is_done p h) = (p, refl)
    go (is_local b s t h) = absurd (no_sign b h)

abbrev flagged : ℕ → Own
flagged n = record { phase = 0; flags = n; count = 0 }

-- a node that isn't to blame and isn't in phase 3
record Active (t s : List ℕ) (i k : ℕ) : Type 0 where
  phases : phase_rests t s i k (phase_at s i) ≡ true
  flags : cond (eqb k 4) (flags_rest t s i (flags_at s i)) (eqb (flags_at s i) 0) ≡ true
  counts : count_rests t i k (phase_at s i) (count_at s i) ≡ true

module _ (t s : List ℕ) (small : (i : ℕ) → byte s i < 256) (long : 4 * nodes t ≤ length s) (all : (i : ℕ) → i < nodes t → rests t s i ≡ true) where
  none : (i n : ℕ) → i + n ≤ nodes t → zero_nodes s i n ≡ true → bytes_at s i n ≡ blank n
  none i n h e = zero_bytes s small i n (omega arith) e

  node : (i n : ℕ) → i < nodes t → (o : Own) → Owns s i o → bytes_at s i (1 + n) ≡ before o (bytes_at s (i + 1) n)
  node i n h o e = node_bytes_lem s small i n (omega arith) o e

  -- phase 3 first, of any program
  split : (p : Program) (i : ℕ) → Spells t i p → i + size p ≤ nodes t → (Active t s i (kind p) → TermAt s i p) → TermAt s i p
  unfolding rests prog AtRest below
  split p i sp h f = go (eqb (phase_at s i) 3) refl (all i (omega (arith, size_pos p)))
    where
      go : (b : Bool)
          → eqb (phase_at s i) 3 ≡ b
          → cond b (eqb (flags_at s i) 0 && (eqb (count_at s i) 0 && below_zero t s i))
          (phase_rests t s i (kind_at t i) (phase_at s i)
          && (cond (eqb (kind_at t i) par_kind) (flags_rest t s i (flags_at s i)) (eqb (flags_at s i) 0)
          && count_rests t i (kind_at t i) (phase_at s i) (count_at s i)))
          ≡ true
          → TermAt s i p
      go true e r =
          let (a, r1) = both r in
          let (b, c) = both r1 in
          let own : Owns s i (in_phase 3) = (eqb-true _ 3 e, eqb-true _ 0 a, eqb-true _ 0 b) in
          let m : size p ≡ 1 + (size p - 1) = omega (arith, size_pos p) in
          let n : 4 * (size p - 1) ≡ 4 * size p - 4 = omega arith in
          let z = none (i + 1) (size p - 1) (omega (arith, size_pos p)) (rw (written t i p sp) at c) in
          let z' : bytes_at s (i + 1) (size p - 1) ≡ replicate (4 * size p - 4) 0 = z ∙ ap (λ k. replicate k 0) n in
          stand (done p) (ap (bytes_at s i) m ∙ (node i (size p - 1) (omega (arith, size_pos p)) (in_phase 3) own ∙ ap (λ l. before (in_phase 3) l) z')) tt
      go false e r =
          let (a, r1) = both (rw (kind_is t i p sp) at r) in
          let (b, c) = both r1 in
          f (record { phases = a; flags = b; counts = c })

  plain : (i : ℕ) → eqb (flags_at s i) 0 ≡ true → eqb (count_at s i) 0 ≡ true → (n : ℕ) → eqb (phase_at s i) n ≡ true → Owns s i (in_phase n)
  plain i f g n e = (eqb-true _ n e, eqb-true _ 0 f, eqb-true _ 0 g)

  -- all zero: a fresh term
  at_start : (p : Program) (i m : ℕ) → size p ≡ 1 + m → i + size p ≤ nodes t → Owns s i (in_phase 0) → bytes_at s (i + 1) m ≡ blank m
      → TermAt s i p
  at_start p i m e h o b =
      let w = node i m (omega arith) (in_phase 0) o ∙ (ap (λ l. before (in_phase 0) l) b ∙ blank_below m) in
      let z : bytes_at s i (size p) ≡ state_bytes (fresh p) = rw e w ∙ (ap blank (sym e) ∙ sym (fresh_zeros p)) in
      record { term = fresh p; of_program = prog_fresh p; rests_so = record { bytes = rw (prog_fresh p) z; at_rest = fresh_at_rest p } }

  -- a node around a term that stands there
  around : {own : Own} {ahead behind : ℕ} {f : Term → Term} → Frame own ahead behind f → (i : ℕ) {j : ℕ} {u : Term} → Rests s j u
      → j ≡ i + 1 + ahead
      → Owns s i own
      → bytes_at s (i + 1) ahead ≡ blank ahead
      → bytes_at s (j + size (prog u)) behind ≡ blank behind
      → i + size (prog (f u)) ≤ nodes t
      → AtRest (f u)
      → TermAt s i (prog (f u))
  around {own} {ahead} {behind} {f} o i {j} {u} x at owns front back h a =
      let n = size (prog u) in
      let m : size (prog (f u)) ≡ 1 + (ahead + (n + behind)) = omega (arith, size_in o u) in
      let later = both_parts s j n behind ∙ ap₂ ◌++◌ x.bytes back in
      let below = both_parts s (i + 1) ahead (n + behind) ∙ ap₂ ◌++◌ front (rw at at later) in
      stand (f u) (rw m (node i (ahead + (n + behind)) (omega arith) own owns ∙ rw (below, o.head_is u, o.below_is u))) a

  phase_3 : {j : ℕ} {u : Term} → Rests s j u → eqb (phase_at s j) 3 ≡ true → Over TERM u
  phase_3 {j} {u} x e =
      over u (sym (ap own_phase x.bytes) ∙ (first_byte s j (size (prog u)) (size_pos (prog u)) ∙ eqb-true _ 3 e))

  -- the count of a Repeat or a RepeatExt, by its phase
  counted : (i k ph n : ℕ) → repeats k ≡ true → most_runs k (argument_at t i) ≡ n → phase_at s i ≡ ph
      → count_rests t i k (phase_at s i) (count_at s i) ≡ true
      → cond (eqb ph 1) (ltb (count_at s i) n) (eqb (count_at s i) 0) ≡ true
  unfolding count_rests
  counted i k ph n r a e c = rw (r, a, e) at c

  -- a form without parts
  of_leaf : (i : ℕ) {p : Program} → Leaf p → Active t s i (kind p) → Owns s i (in_phase 0)
  unfolding kind phase_rests count_rests
  of_leaf i nothing c = plain i c.flags c.counts 0 c.phases
  of_leaf i stop c = plain i c.flags c.counts 0 c.phases
  of_leaf i (atom a) c = plain i c.flags c.counts 0 c.phases
  of_leaf i (generate e) c = plain i c.flags c.counts 0 c.phases
  of_leaf i (await b) c = plain i c.flags c.counts 0 c.phases

  -- a form around u, and around u and v, that stand there; a part that has not begun or that the reading leaves out is zero
  module _ (i : ℕ) {u : Term} (x : Rests s (i + 1) u) (a : Spells t (i + 1) (prog u)) where
    none₁ : i + 1 + size (prog u) ≤ nodes t → first_zero t s i ≡ true → bytes_at s (i + 1) (size (prog u)) ≡ blank (size (prog u))
    none₁ h e = none (i + 1) (size (prog u)) h (rw (written t (i + 1) (prog u) a) at e)

    -- a Repeat or a RepeatExt
    repeated : (n : Times) → i + (1 + size (prog u)) ≤ nodes t
        → ((eqb (phase_at s i) 0 && first_zero t s i) || eqb (phase_at s i) 1) ≡ true
        → eqb (flags_at s i) 0 ≡ true
        → ((ph : ℕ) → eqb (phase_at s i) ph ≡ true → cond (eqb ph 1) (ltb (count_at s i) (most n)) (eqb (count_at s i) 0) ≡ true)
        → TermAt s i (Repeat n (prog u))
    unfolding size prog AtRest
    repeated n h phases flags ct =
        either_true _ _ phases
        (λ e. let (ph, z) = both e in at_start (Repeat n (prog u)) i (size (prog u)) refl h (plain i flags (ct 0 ph) 0 ph) (none₁ (omega arith) z))
        (λ ph.
        around (repeat_body n (count_at s i)) i x (omega arith) (eqb-true _ 1 ph, eqb-true _ 0 flags, refl) refl refl h
        (ltb-true _ (most n) (ct 1 ph), x.at_rest))

    of_one : {p : Program} → One p (prog u) → Spells t i p → i + size p ≤ nodes t → Active t s i (kind p) → TermAt s i p
    unfolding Spells size kind prog AtRest phase_rests count_rests
    of_one (loop q) sp h c =
        let own = plain i c.flags c.counts in
        either_true _ _ c.phases
        (λ e. let (ph, z) = both e in at_start (Loop q) i (size q) refl h (own 0 ph) (none₁ (omega arith) z))
        (λ ph. around loop_body i x (omega arith) (own 1 ph) refl refl h x.at_rest)
    of_one (repeat (exactly n) q) sp h c =
        repeated (exactly n) h c.phases c.flags (λ ph e. counted i repeat_kind ph n refl sp.1 (eqb-true _ ph e) c.counts)
    of_one (repeat (asked v m) q) sp h c =
        repeated (asked v m) h c.phases c.flags (λ ph e. counted i repeat_ext_kind ph m refl sp.1.1 (eqb-true _ ph e) c.counts)
    of_one (control e q) sp h c =
        around (control_body e) i x (omega arith) (plain i c.flags c.counts 0 c.phases) refl refl h x.at_rest
    of_one (local e q) sp h c =
        around (local_body false e) i x (omega arith) (plain i c.flags c.counts 0 c.phases) refl refl h (refl, x.at_rest)
    of_one (freezable e q) sp h c =
        around (freezable_body e) i x (omega arith) (plain i c.flags c.counts 0 c.phases) refl refl h x.at_rest

    module _ {v : Term} (y : Rests s (i + 1 + size (prog u)) v) (b : Spells t (second_child t i) (prog v)) where
      none₂ : i + 1 + size (prog u) + size (prog v) ≤ nodes t → second_zero t s i ≡ true
          → bytes_at s (i + 1 + size (prog u)) (size (prog v)) ≡ blank (size (prog v))
      none₂ h e =
          none (i + 1 + size (prog u)) (size (prog v)) h (rw (written t (second_child t i) (prog v) b, written t (i + 1) (prog u) a) at e)

      -- a Par, by its flags
      joined : (α β : Flag) → Owns s i (flagged (code α + 4 * code β)) → i + (1 + size (prog u) + size (prog v)) ≤ nodes t
          → AtRest (Term.par α β u v)
          → TermAt s i (Par (prog u) (prog v))
      unfolding size prog below
      joined α β o h r =
          let e : 1 + size (prog u) + size (prog v) ≡ 1 + (size (prog u) + size (prog v)) = omega arith in
          let w = both_parts s (i + 1) (size (prog u)) (size (prog v)) ∙ ap₂ ◌++◌ x.bytes y.bytes in
          stand (Term.par α β u v) (rw e (node i (size (prog u) + size (prog v)) (omega arith) (flagged (code α + 4 * code β)) o ∙ rw w)) r

      -- a When or an If, f being its first branch and g its second
      branched : {f g : Term → Term} (p : Program) → Frame (in_phase 1) 0 (size (prog v)) f → Frame (in_phase 2) (size (prog u)) 0 g
          → prog (f u) ≡ p
          → prog (g v) ≡ p
          → size p ≡ 1 + size (prog u) + size (prog v)
          → i + size p ≤ nodes t
          → AtRest (f u)
          → AtRest (g v)
          → ((n : ℕ) → eqb (phase_at s i) n ≡ true → Owns s i (in_phase n))
          → branch_rests t s i (phase_at s i) ≡ true
          → TermAt s i p
      branched p f g f_is g_is n h f_rests g_rests own phases =
          let m = size (prog u) in
          let k = size (prog v) in
          either_true _ _ phases
          (λ e.
          let (ph, zs) = both e in
          let (z₁, z₂) = both zs in
          let w = ap₂ ◌++◌ (none₁ (omega arith) z₁) (none₂ (omega arith) z₂) ∙ blank_both m k in
          at_start p i (m + k) (omega arith) h (own 0 ph) (both_parts s (i + 1) m k ∙ w))
          (λ e'. either_true _ _ e'
          (λ e.
          let (ph, z) = both e in
          subst (TermAt s i) f_is (around f i x (omega arith) (own 1 ph) refl (none₂ (omega arith) z) (rw f_is h) f_rests))
          (λ e.
          let (ph, z) = both e in
          subst (TermAt s i) g_is (around g i y refl (own 2 ph) (none₁ (omega arith) z) refl (rw g_is h) g_rests)))

      of_two : {p : Program} → Two p (prog u) (prog v) → i + size p ≤ nodes t → Active t s i (kind p) → TermAt s i p
      unfolding size kind prog AtRest phase_rests count_rests flags_rest
      of_two (seq q r) h c =
          let own = plain i c.flags c.counts in
          either_true _ _ c.phases
          (λ e. let (ph, z) = both e in around (seq_first r) i x (omega arith) (own 0 ph) refl (none₂ (omega arith) z) h x.at_rest)
          (λ e. let (ph, z) = both e in around (seq_second q) i y refl (own 2 ph) (none₁ (omega arith) z) refl h y.at_rest)
      of_two (par q r) h c =
          let own : (n : ℕ) → eqb (flags_at s i) n ≡ true → Owns s i (flagged n) =
          λ n e. (eqb-true _ 0 c.phases, eqb-true _ n e, eqb-true _ 0 c.counts) in
          either_true _ _ c.flags
          (λ e. joined SUSP SUSP (own 0 e) h (tt, tt, tt, x.at_rest, y.at_rest))
          (λ e'. either_true _ _ e'
          (λ e. let (f, d) = both e in joined TERM SUSP (own 2 f) h (tt, phase_3 x d, tt, x.at_rest, y.at_rest))
          (λ e.
          let (f, d) = both e in
          joined SUSP TERM (own 8 f) h (tt, tt, phase_3 y (rw (second_is t i q a) at d), x.at_rest, y.at_rest)))
      of_two (when k q r) h c =
          branched (When k q r) (when_first k r) (when_second k q) refl refl refl h x.at_rest y.at_rest (plain i c.flags c.counts) c.phases
      of_two (until k q r) h c =
          let own = plain i c.flags c.counts in
          either_true _ _ c.phases
          (λ e. let (ph, z) = both e in around (until_first k r) i x (omega arith) (own 0 ph) refl (none₂ (omega arith) z) h x.at_rest)
          (λ e. let (ph, z) = both e in around (until_second k q) i y refl (own 2 ph) (none₁ (omega arith) z) refl h y.at_rest)
      of_two (if k q r) h c =
          branched (If k q r) (if_first k r) (if_second k q) refl refl refl h x.at_rest y.at_rest (plain i c.flags c.counts) c.phases

  find : {p : Program} → Parts p → (i : ℕ) → Spells t i p → i + size p ≤ nodes t → TermAt s i p
  find {p} (no_part f) i sp h = split p i sp h (λ c. at_start p i 0 (of_none f).size_is h (of_leaf i f c) refl)
  find {p} (one_part f v) i sp h =
      let a = spells_one t i f sp in
      let x = find v (i + 1) a (omega (arith, (Table.of_one f).size_is)) in
      split p i sp h (of_one i x.rests_so (rw x.of_program a) (rw x.of_program f) sp h)
  find {p} (two_parts {q = q} {r = r} f v w) i sp h =
      let (a, b) = spells_two t i f sp in
      let x = find v (i + 1) a (omega (arith, (Table.of_two f).size_is)) in
      let y = find w (i + 1 + size q) (second t i q r a b) (omega (arith, (Table.of_two f).size_is)) in
      let y_rests : Rests s (i + 1 + size (prog x.term)) y.term = rw x.of_program y.rests_so in
      split p i sp h (of_two i x.rests_so (rw x.of_program a) y_rests (rw y.of_program b) (rw (x.of_program, y.of_program) f) h)

pub standing : (t s : List ℕ) → Placed t 0 (tree_of t) → ((i : ℕ) → get_or s i 0 < 256) → 4 * nodes t ≤ length s → blamed t s ≡ nodes t
    → (x : Term) × (prog x ≡ tree_of t) × (take (4 * nodes t) s ≡ state_bytes x) × AtRest x
standing t s p b h r =
    let none : (i : ℕ) → i < nodes t → rests t s i ≡ true =
    λ i l. not-false _ (before_lowest (nodes t) (λ j. not (rests t s j)) i (rw r l)) in
    let f = find t s b h none (parts (tree_of t)) 0 p.spelled p.inside in
    let e : size (tree_of t) ≡ nodes t = all_nodes p in
    (f.term, f.of_program, rw (f.of_program, e) at f.rests_so.bytes, f.rests_so.at_rest)
