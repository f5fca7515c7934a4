-- What an instant parks (specs/Parked.antt), for every order of branches: each piece is the body of a Freezable that the program reaches, its state
-- at rest, since rule 41 parks only what answered STOP; the bytes parked are at most F; and what is reached weighs no more than the whole.
use Prim.Native.Nat.{ℕ, suc, ◌+◌, ◌*◌, ◌≤◌}
use mathlib.Core.Bool.{Bool, true, false}
use mathlib.Core.Path.{◌≡◌, refl, subst}
use mathlib.Core.List.{List, [], ◌∷◌, ◌++◌}
use native.Mathlib.Omega.{arith}
use native.Mathlib.Nat.{le_trans, mul-le-mul_right}
use Rattle.junior.specs.Configuration.{Env}
use Rattle.junior.specs.Program.{Program, Freezable, One, loop, repeat, control, local, freezable, Two, seq, par, when, until, if}
use Rattle.junior.specs.Program.{kind, size}
use Rattle.junior.specs.Values.{most}
use Rattle.junior.specs.Term.{Term, prog}
use Rattle.junior.specs.Trace.{Place, Act, did_atom, did_generate, did_park, decided, waits, scope_answered, piece_of, collect}
use Rattle.junior.specs.Trace.{parks}
use Rattle.junior.specs.Rules.{Allowed, Result, Rewrites, r1, r1_on, r2, r3, r4, r4_on, r5, r8, r9, r10, r11, r12, r13, r4_loop, r5_loop}
use Rattle.junior.specs.Rules.{r14, r15, r4_repeat, r5_repeat, r16, r17, r17_on, r18, r19, r19_on, r20, r21, r22, r23, r24, r25, r26, r27, r28}
use Rattle.junior.specs.Rules.{r29, r30, r31, r31_on, r32, r33, r34, r35_39, r40, r41, r42, r43, r44, r45, if_true, if_true_on, if_false}
use Rattle.junior.specs.Rules.{if_false_on}
use Rattle.junior.specs.Instant.{Instant, r47, r48, r49}
use Rattle.junior.specs.Figures.{stops, times, LoopsStop, figure, parking, F}
use Rattle.junior.specs.AtRest.{AtRest}
use Rattle.junior.specs.Inside.{Controlled, Going}
use Rattle.junior.specs.Parked.{SomeRuns, Reached, itself, in_part, in_first, in_second, Parked, All, no_more, next, Parks}
use Rattle.junior.specs.Parked.{together, stored_length}
use Rattle.junior.proofs.Little.{collect-++, collect_last}
use Rattle.junior.proofs.Times.{below_most}
use Rattle.junior.proofs.Fresh.{prog_fresh}
use Rattle.junior.proofs.Kept.{prog_again, kept}
use Rattle.junior.proofs.Verdicts.{present}
use Rattle.junior.proofs.Grows.{grows}
use Rattle.junior.proofs.Going.{fresh_going, going_more, again_going, stands}
use Rattle.junior.proofs.Figures.{cost, within_figure}
use Rattle.junior.proofs.Instants.{goes_on}

pub all-++ : {A : Type 0} {So : A → Type 0} {l k : List A} → All So l → All So k → All So (l ++ k)
all-++ no_more b = b
all-++ (next h a) b = next h (all-++ a b)

pub all_so : {A : Type 0} {So As : A → Type 0} {l : List A} → ((x : A) → So x → As x) → All So l → All As l
all_so f no_more = no_more
all_so f (next {x = x} h a) = next (f x h) (all_so f a)

-- acts one behind the other
both : {p : Program} {n : ℕ} (l k : List Act) → Parks p n l → Parks p n k → Parks p n (l ++ k)
both l k a b = rw (collect-++ piece_of l k) (all-++ a b)

-- what a part parks its node parks
of_part : {p q : Program} {n : ℕ} (f : One p q) → SomeRuns f → (l : List Act) → Parks q (suc n) l → Parks p n l
of_part {p} {q} {n} f c l a =
    all_so
    (λ x h. record { place = 1 + h.place; freezable = in_part f c h.freezable; node_is = omega (arith, h.node_is); at_rest = h.at_rest })
    a

of_first : {p q r : Program} {n : ℕ} (f : Two p q r) (l : List Act) → Parks q (suc n) l → Parks p n l
of_first {p} {q} {r} {n} f l a =
    all_so
    (λ x h. record { place = 1 + h.place; freezable = in_first f h.freezable; node_is = omega (arith, h.node_is); at_rest = h.at_rest })
    a

of_second : {p q r : Program} {n : ℕ} (f : Two p q r) (l : List Act) → Parks r (suc n + size q) l → Parks p n l
of_second {p} {q} {r} {n} f l a =
    all_so
    (λ x h. record {
      place = 1 + size q + h.place;
      freezable = in_second f h.freezable;
      node_is = omega (arith, h.node_is);
      at_rest = h.at_rest;
    })
    a

-- a pending Freezable of s at node n parks its body
parks_body : (s n : ℕ) (t : Term) → AtRest t → Parked (Freezable s (prog t)) n (record { event = s; node = suc n; state = t })
parks_body s n t a = record { place = 0; freezable = itself; node_is = omega arith; at_rest = a }

pub pieces_of : {free : Allowed} {P : Place} {t : Term} {E : Env} {r : Result}
    → Rewrites free P t E r
    → Going E.now t
    → Parks (prog t) P.node r.acts
unfolding Going prog collect
pieces_of r1 g = no_more
pieces_of r1_on g = no_more
pieces_of r2 g = no_more
pieces_of r3 g = no_more
pieces_of (r4 {t = t} {q = q} {l = l} {r = r} d e) g =
    let b = rw (prog_fresh q) at (pieces_of e (fresh_going _ q)) in
    both l r.acts (of_first (seq (prog t) q) l (pieces_of d g)) (of_second (seq (prog t) q) r.acts b)
pieces_of (r4_on {p = p} {t = t} {r = r} d) g = of_second (seq p (prog t)) r.acts (pieces_of d g)
pieces_of (r5 {t = t} {q = q} {r = r} d h) g = of_first (seq (prog t) q) r.acts (pieces_of d g)
pieces_of (r8 {t = t} {u = u} {r = r} {s = s} d e) g =
    let f = par (prog t) (prog u) in
    both r.acts s.acts
    (of_first f r.acts (pieces_of d g.1))
    (of_second f s.acts (pieces_of e (going_more u (grows d) g.2)))
pieces_of (r9 {t = t} {u = u} {r = r} {s = s} o e d) g =
    let f = par (prog t) (prog u) in
    both s.acts r.acts
    (of_second f s.acts (pieces_of e g.2))
    (of_first f r.acts (pieces_of d (going_more t (grows e) g.1)))
pieces_of (r10 {t = t} {u = u} {r = r} h d) g = of_first (par (prog t) (prog u)) r.acts (pieces_of d g.1)
pieces_of (r11 {t = t} {u = u} {r = r} h d) g = of_second (par (prog t) (prog u)) r.acts (pieces_of d g.2)
pieces_of (r12 {p = p} {r = r} d h) g = of_part (loop p) tt r.acts (rw (prog_fresh p) at (pieces_of d (fresh_going _ p)))
pieces_of (r13 {p = p} {l = l} {r = r} o d e) g =
    both l r.acts (of_part (loop p) tt l (rw (prog_fresh p) at (pieces_of d (fresh_going _ p)))) (pieces_of e tt)
pieces_of (r4_loop {t = t} {l = l} {r = r} d e) g =
    both l r.acts (of_part (loop (prog t)) tt l (pieces_of d g)) (pieces_of e tt)
pieces_of (r5_loop {t = t} {r = r} d h) g = of_part (loop (prog t)) tt r.acts (pieces_of d g)
pieces_of (r14 h) g = no_more
pieces_of (r15 {n = n} {p = p} h d) g = rw (prog_fresh p) at (pieces_of d (below_most _ n h, fresh_going _ p))
pieces_of (r4_repeat {n = n} {k = k} {t = t} {l = l} {r = r} d e) g =
    let b = rw (prog_again n k (prog t)) at (pieces_of e (again_going _ n k (prog t) g.0)) in
    both l r.acts (of_part (repeat n (prog t)) (omega (arith, g.0)) l (pieces_of d g.1)) b
pieces_of (r5_repeat {n = n} {t = t} {r = r} d h) g =
    of_part (repeat n (prog t)) (omega (arith, g.0)) r.acts (pieces_of d g.1)
pieces_of r16 g = no_more
pieces_of (r17 {c = c} {p = p} {q = q} {r = r} v h d) g =
    of_first (when c p q) r.acts (rw (prog_fresh p) at (pieces_of d (fresh_going _ p)))
pieces_of (r17_on {c = c} {t = t} {q = q} {r = r} d) g = of_first (when c (prog t) q) r.acts (pieces_of d g)
pieces_of (r18 v h) g = no_more
pieces_of (r19 {c = c} {p = p} {q = q} {r = r} v h d) g =
    of_second (when c p q) r.acts (rw (prog_fresh q) at (pieces_of d (fresh_going _ q)))
pieces_of (r19_on {c = c} {p = p} {t = t} {r = r} d) g = of_second (when c p (prog t)) r.acts (pieces_of d g)
pieces_of (r20 v h) g = no_more
pieces_of (r21 v) g = no_more
pieces_of (r22 v h) g = no_more
pieces_of (r23 v h) g = no_more
pieces_of (r24 v) g = no_more
pieces_of (r25 v) g = no_more
pieces_of (r26 {E = E} {s = s} {t = t} {r = r} v d) g =
    let g' = subst (λ b. Controlled b (Going E.now t) t) (present s E v) g in
    of_part (control s (prog t)) tt r.acts (pieces_of d g')
pieces_of (r27 v) g = no_more
pieces_of (r28 v) g = no_more
pieces_of (r29 {c = c} {t = t} {q = q} {r = r} d h) g = of_first (until c (prog t) q) r.acts (pieces_of d g)
pieces_of (r30 {c = c} {t = t} {q = q} {l = l} {r = r} d e) g =
    both l r.acts (of_first (until c (prog t) q) l (pieces_of d g)) (rw (kept d) at (pieces_of e (stands d g)))
pieces_of (r31 {c = c} {t = t} {q = q} {r = r} v h d) g =
    of_second (until c (prog t) q) r.acts (rw (prog_fresh q) at (pieces_of d (fresh_going _ q)))
pieces_of (r31_on {c = c} {p = p} {t = t} {r = r} d) g = of_second (until c p (prog t)) r.acts (pieces_of d g)
pieces_of (r32 v h) g = no_more
pieces_of (r33 v) g = no_more
pieces_of (r34 v) g = no_more
pieces_of (r35_39 {s = s} {t = t} {r = r} d) g =
    rw (collect_last piece_of r.acts _ refl) (of_part (local s (prog t)) tt r.acts (pieces_of d g))
pieces_of (r40 {s = s} {t = t} {r = r} d h) g = of_part (freezable s (prog t)) tt r.acts (pieces_of d g)
pieces_of (r41 {s = s} {t = t} {l = l} {r = r} d e) g =
    both l r.acts (of_part (freezable s (prog t)) tt l (pieces_of d g)) (rw (kept d) at (pieces_of e (stands d g)))
pieces_of (r42 {P = P} {s = s} {t = t} v h) g = next (parks_body s P.node t g) no_more
pieces_of (r43 {P = P} {s = s} {t = t} v h) g = next (parks_body s P.node t g) no_more
pieces_of (r44 v) g = no_more
pieces_of (r45 v) g = no_more
pieces_of (if_true {v = v} {p = p} {q = q} {r = r} h d) g =
    of_first (if v p q) r.acts (rw (prog_fresh p) at (pieces_of d (fresh_going _ p)))
pieces_of (if_true_on {v = v} {t = t} {q = q} {r = r} d) g = of_first (if v (prog t) q) r.acts (pieces_of d g)
pieces_of (if_false {v = v} {p = p} {q = q} {r = r} h d) g =
    of_second (if v p q) r.acts (rw (prog_fresh q) at (pieces_of d (fresh_going _ q)))
pieces_of (if_false_on {v = v} {p = p} {t = t} {r = r} d) g = of_second (if v p (prog t)) r.acts (pieces_of d g)

pub parks_pieces : {free : Allowed} {t : Term} {E : Env} {n : ℕ} {r : Result}
    → Instant free t E n r
    → Going E.now t
    → Parks (prog t) 0 r.acts
parks_pieces (r47 d h) g = pieces_of d g
parks_pieces (r48 {r = r} {s = s} d h m i) g =
    both r.acts s.acts (pieces_of d g) (rw (kept d) at (parks_pieces i (goes_on d g h)))
parks_pieces (r49 {r = r} {s = s} d h m i) g =
    both r.acts s.acts (pieces_of d g) (rw (kept d) at (parks_pieces i (goes_on d g h)))

-- what a piece weighs is its length in the store
pub cost-F : (l : List Act) → cost parking l ≡ together stored_length (parks l)
unfolding cost collect kind size together
cost-F [] = refl
cost-F (did_atom a ∷ l) = omega (arith, cost-F l)
cost-F (did_generate s ∷ l) = omega (arith, cost-F l)
cost-F (did_park x ∷ l) = omega (arith, cost-F l)
cost-F (decided P c b E ∷ l) = omega (arith, cost-F l)
cost-F (waits P c E ∷ l) = omega (arith, cost-F l)
cost-F (scope_answered n α b ∷ l) = omega (arith, cost-F l)

-- "A fourth figure F sums the bytes one instant can park"
pub at_most-F : {free : Allowed} {t : Term} {E : Env} {n : ℕ} {r : Result}
    → Instant free t E n r
    → LoopsStop (prog t)
    → AtRest t
    → together stored_length (parks r.acts) ≤ F (prog t)
at_most-F {r = r} i o a = rw (← cost-F r.acts) (within_figure parking i o a)

-- a part that runs weighs no more than its node
some_times : (n : ℕ) (b : Bool) → 1 ≤ n → 1 ≤ times n b
some_times n true h = omega arith
some_times n false h = omega arith

module _ (k : Program → ℕ) where
  part_weighs : {p q : Program} (f : One p q) → SomeRuns f → figure k q ≤ figure k p
  unfolding figure
  part_weighs (loop p) c = omega arith
  part_weighs (repeat n p) c =
      let a : 1 * figure k p ≤ times (most n) (stops p) * figure k p = mul-le-mul_right (figure k p) (some_times (most n) (stops p) (omega (arith, c))) in
      omega arith
  part_weighs (control s p) c = omega arith
  part_weighs (local s p) c = omega arith
  part_weighs (freezable s p) c = omega arith

  first_weighs : {p q r : Program} → Two p q r → figure k q ≤ figure k p
  unfolding figure
  first_weighs (seq p q) = omega arith
  first_weighs (par p q) = omega arith
  first_weighs (when c p q) = omega arith
  first_weighs (until c p q) = omega arith
  first_weighs (if v p q) = omega arith

  second_weighs : {p q r : Program} → Two p q r → figure k r ≤ figure k p
  unfolding figure
  second_weighs (seq p q) = omega arith
  second_weighs (par p q) = omega arith
  second_weighs (when c p q) = omega arith
  second_weighs (until c p q) = omega arith
  second_weighs (if v p q) = omega arith

  pub reached_weighs : {p x : Program} {j : ℕ} → Reached p j x → figure k x ≤ figure k p
  reached_weighs itself = omega arith
  reached_weighs (in_part f c h) = le_trans (reached_weighs h) (part_weighs f c)
  reached_weighs (in_first f h) = le_trans (reached_weighs h) (first_weighs f)
  reached_weighs (in_second f h) = le_trans (reached_weighs h) (second_weighs f)
