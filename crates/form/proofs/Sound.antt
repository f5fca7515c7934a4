-- What the reading machine accepts has a reading.
use Prim.Native.Nat.{ℕ, suc, ◌+◌, ◌-◌, ◌/◌, ◌%◌, ◌≤◌, ◌<◌}
use mathlib.Core.Bool.{Bool, true, false, cond, ◌&&◌, false≢true}
use mathlib.Core.Path.{◌≡◌, refl, ap, sym, subst, ◌∙◌}
use mathlib.Core.List.{List, [], ◌∷◌, ◌++◌, append_assoc, append-nil}
use native.Mathlib.Omega.{arith}
use lib.Dec.{eqb, leb}
use borrow.Author.Tests.{eqb-true, eqb-false, leb-true}
use Rattle.letters.specs.Decimal.{decimal}
use Rattle.letters.specs.Text.{bytes}
use Rattle.letters.proofs.Decimal.{decimal_digit, decimal_more}
use Rattle.junior.specs.Configuration.{Config, Event, Not, And, Or}
use Rattle.junior.specs.Program.{Program, Nothing, Stop, Atom, Seq, Par, Loop, Repeat, Generate, Await, When, Until}
use Rattle.junior.specs.Program.{Control, Local, Freezable, If}
use Rattle.junior.specs.Values.{exactly, asked}
use Rattle.form.specs.Names.{form_of, opening}
use Rattle.form.specs.Form.{SaysTest, says_event, says_not, says_and, says_or, whole, later_seq, later_par}
use Rattle.form.specs.Form.{Says, says_nothing, says_stop, says_atom, says_seq, last_of_seq, more_of_seq}
use Rattle.form.specs.Form.{says_par, last_of_par, more_of_par, says_loop, says_repeat, says_generate}
use Rattle.form.specs.Form.{says_await, says_when, says_until, says_control, says_local, says_freezable, says_if, says_repeat_ext}
use Rattle.form.specs.Inside.Rows.{form_row, form_count, name_end, codes, in_name, first_name, home, letters, place_of}
use Rattle.form.specs.Inside.Machine.{End, close, comma, space, end_byte, Number, event, plain, value, cap, limit, is_digit_byte}
use Rattle.form.specs.Inside.Machine.{grown, Sym, Stack, byte, prog, name, parts, conf}
use Rattle.form.specs.Inside.Machine.{inner, joint, num, tail, syms, ways, Next, dead, on}
use Rattle.form.specs.Inside.Machine.{choose, then, run}
use Rattle.form.proofs.ComputedTests.{both, Each, each_at}
use Rattle.form.proofs.NamesRead.{home_in, name_on, name_code, column, letters_on, Read, read, opened}
use Rattle.form.proofs.Digits.{digit_is}
use Rattle.form.proofs.Meaning.{After, Means, Reads, reads_split, taken}

only : (s : Sym) (u : List ℕ) → Reads (s ∷ []) u → Means s u
only s u (v, x, e, m, r) = let k : u ≡ v = simp (e, r, append-nil) in subst (Means s) (sym k) m

-- two or more programs
abbrev Several : List ℕ → Type 0
Several u =
    (p : Program) × (v : List ℕ) × (w : List ℕ) × Says (whole p) v × (u ≡ v ++ (bytes ", " ++ w))
    × ((q : Program) × Says (later_seq q) w) × ((q : Program) × Says (later_par q) w)

several_reads : (u : List ℕ) → Reads (prog ∷ byte 44 ∷ byte 32 ∷ prog ∷ parts ∷ []) u → Several u
several_reads u (v, x, e, (p, d), (u1, v1, e1, m1, (u2, v2, e2, m2, (w, x3, e3, (q, d3), (t, x4, e4, m4, r))))) =
    (p, v, w ++ t, d, simp (e, e1, m1, e2, m2, e3, e4, r, append-nil), m4.0 q w d3, m4.1 q w d3)

-- a number and a program
abbrev Numbered : Number → List ℕ → Type 0
Numbered n u =
    (a : ℕ) × (p : Program) × (v : List ℕ) × (a ≤ limit n) × Says (whole p) v
    × (u ≡ decimal a ++ (bytes ", " ++ (v ++ bytes ")")))

is_numbered : (n : Number) (u : List ℕ) → Reads (num n comma ∷ byte 32 ∷ prog ∷ byte 41 ∷ []) u → Numbered n u
is_numbered n u (t, x, e, (a, l, k), (u1, v1, e1, m1, (v, v2, e2, (p, d), (u3, v3, e3, m3, r)))) =
    (a, p, v, l, d, simp (e, k, append_assoc, e1, m1, e2, e3, m3, r))

-- one program
abbrev Closed : List ℕ → Type 0
Closed u = (p : Program) × (v : List ℕ) × Says (whole p) v × (u ≡ v ++ bytes ")")

is_closed : (u : List ℕ) → Reads (prog ∷ byte 41 ∷ []) u → Closed u
is_closed u (v, x, e, (p, d), (u1, v1, e1, m1, r)) = (p, v, d, simp (e, e1, m1, r))

-- a configuration and two programs
abbrev Branched : List ℕ → Type 0
Branched u =
    (c : Config) × (p : Program) × (q : Program) × (t : List ℕ) × (v : List ℕ) × (w : List ℕ)
    × SaysTest c t × Says (whole p) v × Says (whole q) w
    × (u ≡ t ++ (bytes ", " ++ (v ++ (bytes ", " ++ (w ++ bytes ")")))))

is_branched : (u : List ℕ) → Reads (conf comma ∷ byte 32 ∷ prog ∷ byte 44 ∷ byte 32 ∷ prog ∷ byte 41 ∷ []) u → Branched u
is_branched u (s, x, e, (c, t, d, k), (u1, v1, e1, m1, (v, v2, e2, (p, d2), (u3, v3, e3, m3, y)))) =
    let (u4, v4, e4, m4, (w, v5, e5, (q, d5), (u6, v6, e6, m6, r))) = y in
    (c, p, q, t, v, w, d, d2, d5, simp (e, k, append_assoc, e1, m1, e2, e3, m3, e4, m4, e5, e6, m6, r))

-- a value's number and two programs
abbrev Valued : List ℕ → Type 0
Valued u =
    (a : ℕ) × (p : Program) × (q : Program) × (v : List ℕ) × (w : List ℕ) × (a ≤ 15) × Says (whole p) v × Says (whole q) w
    × (u ≡ decimal a ++ (bytes ", " ++ (v ++ (bytes ", " ++ (w ++ bytes ")")))))

is_valued : (u : List ℕ) → Reads (num value comma ∷ byte 32 ∷ prog ∷ byte 44 ∷ byte 32 ∷ prog ∷ byte 41 ∷ []) u → Valued u
is_valued u (s, x, e, (a, l, k), (u1, v1, e1, m1, (v, v2, e2, (p, d2), (u3, v3, e3, m3, y)))) =
    let (u4, v4, e4, m4, (w, v5, e5, (q, d5), (u6, v6, e6, m6, r))) = y in
    (a, p, q, v, w, l, d2, d5, simp (e, k, append_assoc, e1, m1, e2, e3, m3, e4, m4, e5, e6, m6, r))

-- a value's number, a cap and a program
abbrev Capped : List ℕ → Type 0
Capped u =
    (a : ℕ) × (c : ℕ) × (p : Program) × (v : List ℕ) × (a ≤ 15) × (c ≤ 255) × Says (whole p) v
    × (u ≡ decimal a ++ (bytes ", " ++ (decimal c ++ (bytes ", " ++ (v ++ bytes ")")))))

is_capped : (u : List ℕ) → Reads (num value comma ∷ byte 32 ∷ num cap comma ∷ byte 32 ∷ prog ∷ byte 41 ∷ []) u → Capped u
is_capped u (s, x, e, (a, l, k), (u1, v1, e1, m1, (s2, v2, e2, (c, h, k2), (u3, v3, e3, m3, y)))) =
    let (v, v4, e4, (p, d), (u5, v5, e5, m5, r)) = y in
    (a, c, p, v, l, h, d, simp (e, k, append_assoc, e1, m1, e2, k2, e3, m3, e4, e5, m5, r))

-- each way on gives the goal back
abbrev Backs : List (Bool × Stack) → List ℕ → Type 0 → Type 0
Backs [] w R = Unit {0}
Backs ((t, τ) ∷ l) w R = (t ≡ true → Reads τ w → R) × Backs l w R

pub dead≢on : {τ : Stack} → dead ≡ on τ → ⊥
dead≢on e = let z : ◌≡◌ {A = ℕ} 0 1 = cc in omega arith

backs : (l : List (Bool × Stack)) (w : List ℕ) (R : Type 0) → Backs l w R
    → (τ : Stack) → choose l ≡ on τ → Reads τ w → R
unfolding choose
backs [] w R k τ e r = absurd (dead≢on e)
backs ((true, σ) ∷ l) w R k τ e r = let z : τ ≡ σ = cc in k.0 refl (subst (λ ρ. Reads ρ w) z r)
backs ((false, σ) ∷ l) w R k τ e r = backs l w R k.1 τ e r

-- a digit is within every limit
small : (n : Number) (d : ℕ) → d < 10 → d ≤ limit n
small event d h = omega arith
small plain d h = omega arith
small value d h = omega arith
small cap d h = omega arith

-- a digit b and the rest of its number are a number
begun : (n : Number) (e : End) (b : ℕ) (u : List ℕ) → is_digit_byte b ≡ true
    → Means (tail n (b - 48) e) u → Means (num n e) (b ∷ u)
begun n e b u t m =
    let k = digit_is b t in
    let l = m (small n (b - 48) (omega arith)) in
    let z : 48 + (b - 48) ≡ b = omega arith in
    (l.0, l.1, (rw (decimal_digit (b - 48) (omega arith), z) at l.2))

-- the same of a configuration
of_digit : (e : End) (σ : Stack) (b : ℕ) (w : List ℕ) → is_digit_byte b ≡ true
    → Reads (tail event (b - 48) e ∷ σ) w → Reads (conf e ∷ σ) (b ∷ w)
of_digit e σ b w t (u, v, k, m, r) =
    let o = begun event e b u t m in
    (b ∷ u, v, ap (λ x. b ∷ x) k, (Event o.0, decimal o.0, says_event {s = o.0} (omega (arith, o.1)), o.2), r)

-- and of one that is the first part of another
of_first_digit : (σ : Stack) (b : ℕ) (w : List ℕ) → is_digit_byte b ≡ true
    → Reads (tail event (b - 48) space ∷ joint ∷ σ) w → Reads (inner ∷ σ) (b ∷ w)
of_first_digit σ b w t (u, v, k, m, (u1, v1, k1, m1, r)) =
    let o = begun event space b u t m in
    let f = m1 (Event o.0) (decimal o.0) (says_event {s = o.0} (omega (arith, o.1))) in
    let z : decimal o.0 ++ (32 ∷ u1) ≡ b ∷ (u ++ u1) =
    sym (append_assoc (decimal o.0) (32 ∷ []) u1) ∙ ap (λ x. x ++ u1) (sym o.2) in
    (b ∷ (u ++ u1), v1, simp (k, k1, append_assoc), (f.0, rw z at f.1), r)

-- a number grows by a digit
grows : (n : Number) (v : ℕ) (e : End) (b : ℕ) (u : List ℕ)
    → (is_digit_byte b && (leb 1 v && leb (grown v b) (limit n))) ≡ true
    → Means (tail n (grown v b) e) u
    → (a : ℕ) × (a ≤ limit n) × (decimal v ++ (b ∷ u) ≡ decimal a ++ (end_byte e ∷ []))
grows n v e b u t m =
    let k = both {a = is_digit_byte b} t in
    let j = both {a = leb 1 v} k.1 in
    let d = digit_is b k.0 in
    let o = m (leb-true (grown v b) (limit n) j.1) in
    let f = leb-true 1 v j.0 in
    let rest : grown v b / 10 ≡ v = omega arith in
    let last : 48 + grown v b % 10 ≡ b = omega arith in
    let g : decimal (grown v b) ≡ decimal v ++ (b ∷ []) = rw (rest, last) at (decimal_more (grown v b) (omega arith)) in
    (o.0, o.1, sym (append_assoc (decimal v) (b ∷ []) u) ∙ (ap (λ x. x ++ u) (sym g) ∙ o.2))

-- each form by what stands behind its name
of_atom : (u : List ℕ) → Means (num plain close) u → After (bytes "Jr.Atom(") u
of_atom u (a, l, e) = (Atom a, rw e (says_atom l))

of_seq : (u : List ℕ) → Several u → After (bytes "Jr.Seq(") u
of_seq u (p, v, w, d, e, (q, k), o) = (Seq p q, rw e (says_seq d k))

of_par : (u : List ℕ) → Several u → After (bytes "Jr.Par(") u
of_par u (p, v, w, d, e, o, (q, k)) = (Par p q, rw e (says_par d k))

of_loop : (u : List ℕ) → Closed u → After (bytes "Jr.Loop(") u
of_loop u (p, v, d, e) = (Loop p, rw e (says_loop d))

of_repeat : (u : List ℕ) → Numbered plain u → After (bytes "Jr.Repeat(") u
of_repeat u (a, p, v, l, d, e) = (Repeat (exactly a) p, rw e (says_repeat l d))

of_generate : (u : List ℕ) → Means (num event close) u → After (bytes "Jr.Generate(") u
of_generate u (a, l, e) = (Generate a, rw e (says_generate {s = a} (omega arith)))

of_await : (u : List ℕ) → Means (conf close) u → After (bytes "Jr.Await(") u
of_await u (c, v, d, e) = (Await c, rw e (says_await d))

of_when : (u : List ℕ) → Branched u → After (bytes "Jr.When(") u
of_when u (c, p, q, t, v, w, d, d1, d2, e) = (When c p q, rw e (says_when d d1 d2))

of_until : (u : List ℕ) → Branched u → After (bytes "Jr.Until(") u
of_until u (c, p, q, t, v, w, d, d1, d2, e) = (Until c p q, rw e (says_until d d1 d2))

of_control : (u : List ℕ) → Numbered event u → After (bytes "Jr.Control(") u
of_control u (a, p, v, l, d, e) = (Control a p, rw e (says_control {s = a} (omega arith) d))

of_local : (u : List ℕ) → Numbered event u → After (bytes "Jr.Local(") u
of_local u (a, p, v, l, d, e) = (Local a p, rw e (says_local {s = a} (omega arith) d))

of_freezable : (u : List ℕ) → Numbered event u → After (bytes "Jr.Freezable(") u
of_freezable u (a, p, v, l, d, e) = (Freezable a p, rw e (says_freezable {s = a} (omega arith) d))

of_if : (u : List ℕ) → Valued u → After (bytes "Jr.If(") u
of_if u (a, p, q, v, w, l, d, k, e) = (If a p q, rw e (says_if l d k))

of_repeat_ext : (u : List ℕ) → Capped u → After (bytes "Jr.RepeatExt(") u
of_repeat_ext u (a, c, p, v, l, h, d, e) = (Repeat (asked a c) p, rw e (says_repeat_ext l h d))

-- the same of a configuration's bracket
of_not : (u : List ℕ) → Means (conf close) u → Means inner (bytes "not " ++ u)
of_not u (c, v, d, e) = (Not c, rw e (says_not d))

of_and : (u : List ℕ) → Means (conf close) u → Means joint (bytes "and " ++ u)
of_and u (d, v, k, e) c w h = (And c d, rw e (says_and h k))

of_or : (u : List ℕ) → Means (conf close) u → Means joint (bytes "or " ++ u)
of_or u (d, v, k, e) c w h = (Or c d, rw e (says_or h k))

of_inner : (e : End) (u : List ℕ) → Reads (inner ∷ byte (end_byte e) ∷ []) u → Means (conf e) (bytes "(" ++ u)
of_inner e u (v, x, k, (c, d), (v1, x1, k1, m1, r)) = (c, 40 ∷ v, d, simp (k, k1, m1, r))

of_first : (u : List ℕ) → Reads (inner ∷ byte 32 ∷ joint ∷ []) u → Means inner (bytes "(" ++ u)
of_first u (v, x, k, (c, d), (v1, x1, k1, m1, (v2, x2, k2, m2, r))) =
    let o = m2 c (40 ∷ v) d in
    let z : u ≡ v ++ (32 ∷ v2) = simp (k, k1, m1, k2, r, append-nil) in
    (o.0, rw z o.1)

-- and behind a later part
of_last : (u : List ℕ) → u ≡ [] → Means parts (bytes ")" ++ u)
of_last u e = (λ p w d. (p, rw e (last_of_seq d)), λ p w d. (p, rw e (last_of_par d)))

of_more : (u : List ℕ) → Reads (prog ∷ parts ∷ []) u → Means parts (bytes ", " ++ u)
of_more u (v, x, e, (q, k), (v1, x1, e1, m, r)) =
    let z : u ≡ v ++ v1 = simp (e, e1, r, append-nil) in (
      λ p w d. let o = m.0 q v k in (Seq p o.0, rw z (more_of_seq d o.1)),
      λ p w d. let o = m.1 q v k in (Par p o.0, rw z (more_of_par d o.1)),
    )

-- one way's answer and the others'
infixr 4 ◌or◌
◌or◌ : {A B : Type 0} → A → B → A × B
a or b = (a, b)

-- nothing stands in the brackets
is_shut : (u : List ℕ) → Reads (byte 41 ∷ []) u → u ≡ bytes ")"
is_shut u (v, x, e, m, r) = simp (e, m, r)

-- what stands behind the name of a form says a program of it
abbrev Said : ℕ → Type 0
Said k = (u : List ℕ) → Reads (syms false (codes (name_end (form_row k)))) u → After (opening k) u

each_said : Each form_count 0 Said
unfolding syms codes name_end opening
each_said =
    (λ u r. (Nothing, rw (is_shut u r) says_nothing))
    or (λ u r. (Stop, rw (is_shut u r) says_stop))
    or (λ u r. of_atom u (only (num plain close) u r))
    or (λ u r. of_seq u (several_reads u r))
    or (λ u r. of_par u (several_reads u r))
    or (λ u r. of_loop u (is_closed u r))
    or (λ u r. of_repeat u (is_numbered plain u r))
    or (λ u r. of_generate u (only (num event close) u r))
    or (λ u r. of_await u (only (conf close) u r))
    or (λ u r. of_when u (is_branched u r))
    or (λ u r. of_until u (is_branched u r))
    or (λ u r. of_control u (is_numbered event u r))
    or (λ u r. of_local u (is_numbered event u r))
    or (λ u r. of_freezable u (is_numbered event u r))
    or (λ u r. of_if u (is_valued u r))
    or (λ u r. of_repeat_ext u (is_capped u r))
    or tt

-- a byte in a name: a letter more, or the bracket
module _ (p b : ℕ) (w : List ℕ) (σ : Stack) where
  abbrev q : ℕ
  q = place_of (home p) b

  module _ (o : Read (home p) b q) where
    letter_back : (b ≡ 40 → ⊥) → Reads (name (suc q) ∷ σ) w → Reads (name p ∷ σ) (b ∷ w)
    letter_back n (u, v, e, m, r) =
        let i : in_name (suc q) ≡ true = name_on q o.within_name (λ z. n (sym o.code_is ∙ z)) in
        let l : letters (suc q) ≡ letters (home p) ++ (b ∷ []) =
        letters_on q (column q (name_code q o.within_name)) ∙ rw (o.letters_are, o.code_is) in
        let k : After (bytes "Jr." ++ (letters (home p) ++ (b ∷ []))) u = rw (i, l) at m in
        (b ∷ u, v, ap (λ x. b ∷ x) e, (k.0, rw (append_assoc (letters (home p)) (b ∷ []) u) at k.1), r)

    bracket_back : b ≡ 40 → (u v : List ℕ) → w ≡ u ++ v → Reads (syms false (codes (suc q))) u → Reads σ v → Reads (name p ∷ σ) (b ∷ w)
    unfolding opening
    bracket_back f u v e m t =
        let c = opened q (o.code_is ∙ f) in
        let i : Reads (syms false (codes (name_end (form_row c.form)))) u = subst (λ (x : ℕ). Reads (syms false (codes x)) u) c.end_is m in
        let k : After (opening c.form) u = each_at Said form_count 0 each_said c.form (omega arith) c.known u i in
        let n : (form_of c.form).name ≡ letters (home p) = sym c.name_is ∙ o.letters_are in
        let d : Says (whole k.0) (bytes "Jr." ++ (letters (home p) ++ (40 ∷ u))) =
        rw (n, append_assoc (letters (home p)) (40 ∷ []) u) at k.1 in
        let z : After (bytes "Jr." ++ letters (home p)) (b ∷ u) =
        subst (λ (x : ℕ). After (bytes "Jr." ++ letters (home p)) (x ∷ u)) (sym f) (k.0, d) in
        (b ∷ u, v, ap (λ x. b ∷ x) e, z, t)

  by_name : cond (eqb q 0) false true ≡ true → Reads (cond (eqb b 40) (syms false (codes (suc q)) ++ σ) (name (suc q) ∷ σ)) w
      → Reads (name p ∷ σ) (b ∷ w)
  by_name t = go (eqb q 0) refl (eqb b 40) refl t
    where
      go : (y : Bool) → eqb q 0 ≡ y → (z : Bool) → eqb b 40 ≡ z → cond y false true ≡ true
          → Reads (cond z (syms false (codes (suc q)) ++ σ) (name (suc q) ∷ σ)) w → Reads (name p ∷ σ) (b ∷ w)
      go true e z f g r = absurd (false≢true g)
      go false e true f g r =
          let k = reads_split (syms false (codes (suc q))) σ w r in
          bracket_back (read (home p) b (home_in p) (eqb-false q 0 e)) (eqb-true b 40 f) k.0 k.1 k.2 k.3 k.4
      go false e false f g r = letter_back (read (home p) b (home_in p) (eqb-false q 0 e)) (eqb-false b 40 f) r

first_name_lem : (u : List ℕ) → Reads (name first_name ∷ []) u → Means prog (bytes "Jr." ++ u)
unfolding in_name letters
first_name_lem u r = only (name first_name) u r

step_back : (s : Sym) (σ : Stack) (b : ℕ) (w : List ℕ) → Backs (ways s σ b) w (Reads (s ∷ σ) (b ∷ w))
unfolding ways
step_back (byte c) σ b w = (λ t r. (c ∷ [], w, ap (λ x. x ∷ w) (eqb-true b c t), refl, r)) or tt
step_back prog σ b w = taken prog σ b 74 (bytes "r.") (name first_name ∷ []) w first_name_lem or tt
step_back (name p) σ b w = by_name p b w σ or tt
step_back parts σ b w =
    taken parts σ b 41 [] [] w of_last or taken parts σ b 44 (bytes " ") (prog ∷ parts ∷ []) w of_more or tt
step_back (conf e) σ b w =
    taken (conf e) σ b 40 [] (inner ∷ byte (end_byte e) ∷ []) w (of_inner e) or of_digit e σ b w or tt
step_back inner σ b w =
    taken inner σ b 110 (bytes "ot ") (conf close ∷ []) w (λ u r. of_not u (only (conf close) u r))
    or taken inner σ b 40 [] (inner ∷ byte 32 ∷ joint ∷ []) w of_first
    or of_first_digit σ b w
    or tt
step_back joint σ b w =
    taken joint σ b 97 (bytes "nd ") (conf close ∷ []) w (λ u r. of_and u (only (conf close) u r))
    or taken joint σ b 111 (bytes "r ") (conf close ∷ []) w (λ u r. of_or u (only (conf close) u r))
    or tt
step_back (num n e) σ b w = (λ t (u, v, k, m, r). (b ∷ u, v, ap (λ x. b ∷ x) k, begun n e b u t m, r)) or tt
step_back (tail n v e) σ b w =
    (λ t r. (b ∷ [], w, refl, λ l. (v, l, ap (λ x. decimal v ++ (x ∷ [])) (eqb-true b (end_byte e) t)), r))
    or (λ t (u, x, k, m, r). (b ∷ u, x, ap (λ z. b ∷ z) k, λ l. grows n v e b u t m, r))
    or tt

pub cons≢nil : {s : Sym} {σ : Stack} → on (s ∷ σ) ≡ on [] → ⊥
cons≢nil e = let z : ◌≡◌ {A = ℕ} 0 1 = cc in omega arith

reads_run : (w : List ℕ) (σ : Stack) → run σ w ≡ on [] → Reads σ w
unfolding run
reads_run [] [] e = refl
reads_run [] (s ∷ σ) e = absurd (cons≢nil e)
reads_run (b ∷ w) [] e = absurd (dead≢on e)
reads_run (b ∷ w) (s ∷ σ) e = go (choose (ways s σ b)) refl e (λ τ k. reads_run w τ k)
  where
    go : (n : Next) → choose (ways s σ b) ≡ n → then n (λ τ. run τ w) ≡ on []
        → ((τ : Stack) → run τ w ≡ on [] → Reads τ w) → Reads (s ∷ σ) (b ∷ w)
    go dead h k f = absurd (dead≢on k)
    go (on τ) h k f = backs (ways s σ b) w _ (step_back s σ b w) τ h (f τ k)

pub has_reading : (w : List ℕ) → run (prog ∷ []) w ≡ on [] → (p : Program) × Says (whole p) w
has_reading w e = only prog w (reads_run w (prog ∷ []) e)
