-- The rules of a pass: 000, rules 1 to 5 and 8 to 39, as 01, "Rules of a pass", settles them, rules 40 to 45 (L8: "Add Freezable as 000, rules 40 to
-- 45"), and 001's rules for If and RepeatExt (L14). A constructor carries the number of its rule, 001's, which have none, its name; one that ends in
-- -on runs a node that was rewritten into its part earlier, by the part's own rule.
use Rattle.std.specs.Prelude.{ℕ, zero, suc, Bool, true, false, ◌≡◌, ◌≢◌, List, [], ◌∷◌, ◌++◌}
use Rattle.junior.specs.declared.Flag.{Flag}
use Rattle.junior.specs.declared.Flag.TheVariants.{SUSP, STOP, TERM}
use Rattle.junior.specs.Flags.{γ, δ₁, δ₂}
use Rattle.junior.specs.Configuration.{Config, Event, Env, with_event, generated, sat, unsat, unknown}
use Rattle.junior.specs.Values.{Values, nonzero, Times, runs_of}
use Rattle.junior.specs.Program.{Program, Nothing, Stop, Atom, Repeat, Generate, Await, Freezable}
use Rattle.junior.specs.Term.{Term, done, nothing, stop, atom, generate, await, seq0, seq2, par, loop0, loop1}
use Rattle.junior.specs.Term.{repeat0, repeat1, when0, when1, when2, until0, until*, until2, control, local, freezable0, freezable*, if0, if1}
use Rattle.junior.specs.Term.{if2, prog, fresh, leave}
use Rattle.junior.specs.Trace.{Place, first, second, inside, Act, piece, did_atom, did_generate, did_park, decided, waits}
use Rattle.junior.specs.Trace.{scope_answered}

-- t, E —flag→ to, env, doing acts
pub record Result : Type 0 where
  pub flag : Flag
  pub to : Term
  pub env : Env
  pub acts : List Act

abbrev pub answers : Flag → Term → Env → List Act → Result
answers α t E l = record { flag = α; to = t; env = E; acts = l }

-- what a part answered, as the answer of the node f around it
abbrev pub under : (Term → Term) → Result → Result
under f r = answers r.flag (leave r.flag (f r.to)) r.env r.acts

-- an answer, with what was done before it
abbrev pub after : List Act → Result → Result
after l r = answers r.flag r.to r.env (l ++ r.acts)

-- a Par whose branches now stand at t and u and have answered α and β
abbrev pub joined : Flag → Flag → Term → Term → Env → List Act → Result
joined α β t u E l = answers (γ α β) (leave (γ α β) (par (δ₁ α β) (δ₂ α β) t u)) E l

-- a Repeat(n) when k more runs are due: Nothing (rule 14), or Seq(body, Repeat(k-1)) (rule 15)
abbrev pub again : Times → ℕ → Program → Term
again n zero p = done (Repeat n p)
again n (suc k) p = repeat1 n k (fresh p)

-- the sign that a Local leaves: its own, its body's flag, whether its event is present now
abbrev pub sign : Bool → Flag → Bool → Bool
sign false SUSP present = present  -- 35, 36
sign true SUSP present = true  -- 37
sign b STOP present = false  -- 38, 39
sign b TERM present = false  -- 38, 39

-- a Local of s in E whose body ran: the event is again as it was outside
abbrev pub left_scope : Place → Bool → ℕ → Env → Result → Result
left_scope P b s E r =
    answers
    r.flag
    (leave r.flag (local (sign b r.flag (r.env.now s)) s r.to))
    (with_event s (E.now s) r.env)
    (r.acts ++ (scope_answered P.node r.flag (r.env.now s) ∷ []))

-- a pending Freezable of s at P finds its event present, and its body, which stopped in t, is parked
abbrev pub freezes : Place → ℕ → Term → Env → List Act
freezes P s t E = decided P (Event s) true E ∷ did_park (piece s (first P).node t) ∷ []

-- what a pass is given: which of two rules it may use, 9, a Par runs its right branch first, and 13, a Loop's body that ends in the pass that begins
-- it begins again; and the box's values
pub record Allowed : Type 1 where
  pub rule_9 : Type 0
  pub rule_13 : Type 0
  pub value : Values

-- the kernel's rules: a Par runs its left branch first (01)
abbrev pub left_first : Values → Allowed
left_first value = record { rule_9 = ⊥; rule_13 = Unit {0}; value = value }

-- a Par runs either branch first
abbrev pub either_first : Values → Allowed
either_first value = record { rule_9 = Unit {0}; rule_13 = Unit {0}; value = value }

-- the same, without rule 13; with other values
abbrev pub without_13 : Allowed → Allowed
without_13 free = record { rule_9 = free.rule_9; rule_13 = ⊥; value = free.value }

abbrev pub with_values : Values → Allowed → Allowed
with_values value free = record { rule_9 = free.rule_9; rule_13 = free.rule_13; value = value }

-- `free` says which of the two may be used, and what the values are
pub data Rewrites (free : Allowed) : Place → Term → Env → Result → Type 0 where
  r1 : {P : Place} {E : Env} → Rewrites free P nothing E (answers TERM (done Nothing) E [])
  r1_on : {P : Place} {E : Env} {p : Program} → Rewrites free P (done p) E (answers TERM (done p) E [])
  r2 : {P : Place} {E : Env} → Rewrites free P stop E (answers STOP (done Stop) E [])
  r3 : {P : Place} {E : Env} {a : ℕ} → Rewrites free P (atom a) E (answers TERM (done (Atom a)) E (did_atom a ∷ []))
  r4 : {P : Place} {E E' : Env} {t t' : Term} {q : Program} {l : List Act} {r : Result}
      → Rewrites free (first P) t E (answers TERM t' E' l) → Rewrites free (second P (prog t)) (fresh q) E' r
      → Rewrites free P (seq0 t q) E (after l (under (seq2 (prog t)) r))
  r4_on : {P : Place} {E : Env} {p : Program} {t : Term} {r : Result}
      → Rewrites free (second P p) t E r
      → Rewrites free P (seq2 p t) E (under (seq2 p) r)
  r5 : {P : Place} {E : Env} {t : Term} {q : Program} {r : Result}
      → Rewrites free (first P) t E r → r.flag ≢ TERM
      → Rewrites free P (seq0 t q) E (under (λ x. seq0 x q) r)
  r8 : {P : Place} {E : Env} {t u : Term} {r s : Result}
      → Rewrites free (first P) t E r → Rewrites free (second P (prog t)) u r.env s
      → Rewrites free P (par SUSP SUSP t u) E (joined r.flag s.flag r.to s.to s.env (r.acts ++ s.acts))
  r9 : {P : Place} {E : Env} {t u : Term} {r s : Result}
      → free.rule_9 → Rewrites free (second P (prog t)) u E s → Rewrites free (first P) t s.env r
      → Rewrites free P (par SUSP SUSP t u) E (joined r.flag s.flag r.to s.to r.env (s.acts ++ r.acts))
  r10 : {P : Place} {E : Env} {β : Flag} {t u : Term} {r : Result}
      → β ≢ SUSP → Rewrites free (first P) t E r
      → Rewrites free P (par SUSP β t u) E (joined r.flag β r.to u r.env r.acts)
  r11 : {P : Place} {E : Env} {α : Flag} {t u : Term} {r : Result}
      → α ≢ SUSP → Rewrites free (second P (prog t)) u E r
      → Rewrites free P (par α SUSP t u) E (joined α r.flag t r.to r.env r.acts)
  r12 : {P : Place} {E : Env} {p : Program} {r : Result}
      → Rewrites free (first P) (fresh p) E r → r.flag ≢ TERM
      → Rewrites free P (loop0 p) E (under loop1 r)
  r13 : {P : Place} {E E' : Env} {p : Program} {t : Term} {l : List Act} {r : Result}
      → free.rule_13 → Rewrites free (first P) (fresh p) E (answers TERM t E' l) → Rewrites free P (loop0 p) E' r
      → Rewrites free P (loop0 p) E (after l r)
  -- rules 4 and 5 at Seq(rest of body, Loop)
  r4_loop : {P : Place} {E E' : Env} {t t' : Term} {l : List Act} {r : Result}
      → Rewrites free (first P) t E (answers TERM t' E' l) → Rewrites free P (loop0 (prog t)) E' r
      → Rewrites free P (loop1 t) E (after l r)
  r5_loop : {P : Place} {E : Env} {t : Term} {r : Result}
      → Rewrites free (first P) t E r → r.flag ≢ TERM
      → Rewrites free P (loop1 t) E (under loop1 r)
  -- rules 14 and 15 of a RepeatExt too, once its number of runs is known: "The semantics of an extended repeat is the one of a standard repeat after
  -- evaluation of a Java integer expression" (001). So the value is "read when it begins".
  r14 : {P : Place} {E : Env} {n : Times} {p : Program}
      → runs_of free.value n ≡ 0
      → Rewrites free P (repeat0 n p) E (answers TERM (done (Repeat n p)) E [])
  r15 : {P : Place} {E : Env} {n : Times} {k : ℕ} {p : Program} {r : Result}
      → runs_of free.value n ≡ suc k → Rewrites free P (repeat1 n k (fresh p)) E r
      → Rewrites free P (repeat0 n p) E r
  -- rules 4 and 5 at Seq(rest, Repeat(k))
  r4_repeat : {P : Place} {E E' : Env} {n : Times} {k : ℕ} {t t' : Term} {l : List Act} {r : Result}
      → Rewrites free (first P) t E (answers TERM t' E' l) → Rewrites free P (again n k (prog t)) E' r
      → Rewrites free P (repeat1 n k t) E (after l r)
  r5_repeat : {P : Place} {E : Env} {n : Times} {k : ℕ} {t : Term} {r : Result}
      → Rewrites free (first P) t E r → r.flag ≢ TERM
      → Rewrites free P (repeat1 n k t) E (under (repeat1 n k) r)
  r16 : {P : Place} {E : Env} {s : ℕ}
      → Rewrites free P (generate s) E (answers TERM (done (Generate s)) (generated s E) (did_generate s ∷ []))
  r17 : {P : Place} {E : Env} {c : Config} {p q : Program} {r : Result}
      → sat c E → E.eoi ≡ false → Rewrites free (first P) (fresh p) E r
      → Rewrites free P (when0 c p q) E (after (decided P c true E ∷ []) (under (λ x. when1 c x q) r))
  r17_on : {P : Place} {E : Env} {c : Config} {t : Term} {q : Program} {r : Result}
      → Rewrites free (first P) t E r
      → Rewrites free P (when1 c t q) E (under (λ x. when1 c x q) r)
  r18 : {P : Place} {E : Env} {c : Config} {p q : Program}
      → sat c E → E.eoi ≡ true
      → Rewrites free P (when0 c p q) E (answers STOP (when1 c (fresh p) q) E (decided P c true E ∷ []))
  r19 : {P : Place} {E : Env} {c : Config} {p q : Program} {r : Result}
      → unsat c E → E.eoi ≡ false → Rewrites free (second P p) (fresh q) E r
      → Rewrites free P (when0 c p q) E (after (decided P c false E ∷ []) (under (when2 c p) r))
  r19_on : {P : Place} {E : Env} {c : Config} {p : Program} {t : Term} {r : Result}
      → Rewrites free (second P p) t E r
      → Rewrites free P (when2 c p t) E (under (when2 c p) r)
  r20 : {P : Place} {E : Env} {c : Config} {p q : Program}
      → unsat c E → E.eoi ≡ true
      → Rewrites free P (when0 c p q) E (answers STOP (when2 c p (fresh q)) E (decided P c false E ∷ []))
  r21 : {P : Place} {E : Env} {c : Config} {p q : Program}
      → unknown c E
      → Rewrites free P (when0 c p q) E (answers SUSP (when0 c p q) E (waits P c E ∷ []))
  r22 : {P : Place} {E : Env} {c : Config}
      → sat c E → E.eoi ≡ false
      → Rewrites free P (await c) E (answers TERM (done (Await c)) E (decided P c true E ∷ []))
  r23 : {P : Place} {E : Env} {c : Config}
      → sat c E → E.eoi ≡ true
      → Rewrites free P (await c) E (answers STOP (done (Await c)) E (decided P c true E ∷ []))
  r24 : {P : Place} {E : Env} {c : Config}
      → unsat c E
      → Rewrites free P (await c) E (answers STOP (await c) E (decided P c false E ∷ []))
  r25 : {P : Place} {E : Env} {c : Config}
      → unknown c E
      → Rewrites free P (await c) E (answers SUSP (await c) E (waits P c E ∷ []))
  -- 26 keeps the body's environment (001; 000 prints the old one)
  r26 : {P : Place} {E : Env} {s : ℕ} {t : Term} {r : Result}
      → sat (Event s) E → Rewrites free (first P) t E r
      → Rewrites free P (control s t) E (after (decided P (Event s) true E ∷ []) (under (control s) r))
  r27 : {P : Place} {E : Env} {s : ℕ} {t : Term}
      → unsat (Event s) E
      → Rewrites free P (control s t) E (answers STOP (control s t) E (decided P (Event s) false E ∷ []))
  r28 : {P : Place} {E : Env} {s : ℕ} {t : Term}
      → unknown (Event s) E
      → Rewrites free P (control s t) E (answers SUSP (control s t) E (waits P (Event s) E ∷ []))
  r29 : {P : Place} {E : Env} {c : Config} {t : Term} {q : Program} {r : Result}
      → Rewrites free (first P) t E r → r.flag ≢ STOP
      → Rewrites free P (until0 c t q) E (under (λ x. until0 c x q) r)
  r30 : {P : Place} {E E' : Env} {c : Config} {t t' : Term} {q : Program} {l : List Act} {r : Result}
      → Rewrites free (first P) t E (answers STOP t' E' l) → Rewrites free P (until* c t' q) E' r
      → Rewrites free P (until0 c t q) E (after l r)
  r31 : {P : Place} {E : Env} {c : Config} {t : Term} {q : Program} {r : Result}
      → sat c E → E.eoi ≡ false → Rewrites free (second P (prog t)) (fresh q) E r
      → Rewrites free P (until* c t q) E (after (decided P c true E ∷ []) (under (until2 c (prog t)) r))
  r31_on : {P : Place} {E : Env} {c : Config} {p : Program} {t : Term} {r : Result}
      → Rewrites free (second P p) t E r
      → Rewrites free P (until2 c p t) E (under (until2 c p) r)
  r32 : {P : Place} {E : Env} {c : Config} {t : Term} {q : Program}
      → sat c E → E.eoi ≡ true
      → Rewrites free P (until* c t q) E (answers STOP (until2 c (prog t) (fresh q)) E (decided P c true E ∷ []))
  -- 33 holds whether or not the end is declared (001; 000 has no rule before the end)
  r33 : {P : Place} {E : Env} {c : Config} {t : Term} {q : Program}
      → unsat c E
      → Rewrites free P (until* c t q) E (answers STOP (until0 c t q) E (decided P c false E ∷ []))
  r34 : {P : Place} {E : Env} {c : Config} {t : Term} {q : Program}
      → unknown c E
      → Rewrites free P (until* c t q) E (answers SUSP (until* c t q) E (waits P c E ∷ []))
  -- 35 to 39: the body runs with its own event as the sign says; `sign` has the five rules' signs
  r35_39 : {P : Place} {E : Env} {b : Bool} {s : ℕ} {t : Term} {r : Result}
      → Rewrites free (inside s P) t (with_event s b E) r
      → Rewrites free P (local b s t) E (left_scope P b s E r)
  r40 : {P : Place} {E : Env} {s : ℕ} {t : Term} {r : Result}
      → Rewrites free (first P) t E r → r.flag ≢ STOP
      → Rewrites free P (freezable0 s t) E (under (freezable0 s) r)
  r41 : {P : Place} {E E' : Env} {s : ℕ} {t t' : Term} {l : List Act} {r : Result}
      → Rewrites free (first P) t E (answers STOP t' E' l) → Rewrites free P (freezable* s t') E' r
      → Rewrites free P (freezable0 s t) E (after l r)
  -- 42 to 45 ask whether the event is in E and whether the end is declared: its configuration is sat, unsat or unknown
  r42 : {P : Place} {E : Env} {s : ℕ} {t : Term}
      → sat (Event s) E → E.eoi ≡ false
      → Rewrites free P (freezable* s t) E (answers TERM (done (Freezable s (prog t))) E (freezes P s t E))
  -- L8: "Once the end is declared, a pending form whose event is present still parks its piece, but answers STOP and leaves Nothing"
  r43 : {P : Place} {E : Env} {s : ℕ} {t : Term}
      → sat (Event s) E → E.eoi ≡ true
      → Rewrites free P (freezable* s t) E (answers STOP (done (Freezable s (prog t))) E (freezes P s t E))
  r44 : {P : Place} {E : Env} {s : ℕ} {t : Term}
      → unsat (Event s) E
      → Rewrites free P (freezable* s t) E (answers STOP (freezable0 s t) E (decided P (Event s) false E ∷ []))
  r45 : {P : Place} {E : Env} {s : ℕ} {t : Term}
      → unknown (Event s) E
      → Rewrites free P (freezable* s t) E (answers SUSP (freezable* s t) E (waits P (Event s) E ∷ []))
  -- 001, "Boolean Test": "the first branch is immediately run if evaluation returns true"; "the second branch is immediately run if evaluation
  -- returns false". L14: "If is chosen when reached".
  if_true : {P : Place} {E : Env} {v : ℕ} {p q : Program} {r : Result}
      → nonzero (free.value v) ≡ true → Rewrites free (first P) (fresh p) E r
      → Rewrites free P (if0 v p q) E (under (λ x. if1 v x q) r)
  if_true_on : {P : Place} {E : Env} {v : ℕ} {t : Term} {q : Program} {r : Result}
      → Rewrites free (first P) t E r
      → Rewrites free P (if1 v t q) E (under (λ x. if1 v x q) r)
  if_false : {P : Place} {E : Env} {v : ℕ} {p q : Program} {r : Result}
      → nonzero (free.value v) ≡ false → Rewrites free (second P p) (fresh q) E r
      → Rewrites free P (if0 v p q) E (under (if2 v p) r)
  if_false_on : {P : Place} {E : Env} {v : ℕ} {p : Program} {t : Term} {r : Result}
      → Rewrites free (second P p) t E r
      → Rewrites free P (if2 v p t) E (under (if2 v p) r)
