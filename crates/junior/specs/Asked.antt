-- Which values an instant depends on (L14): the program's own, and of these only such as an If or a RepeatExt names that it begins.
use Rattle.std.specs.Prelude.{ℕ, ◌≡◌, List, [], ◌∷◌, ◌++◌}
use Rattle.junior.specs.Configuration.{Env}
use Rattle.junior.specs.Values.{Values, Times, exactly, asked}
use Rattle.junior.specs.Program.{Program, Nothing, Stop, Atom, Seq, Par, Loop, Repeat, Generate, Await, When, Until}
use Rattle.junior.specs.Program.{Control, Local, Freezable, If}
use Rattle.junior.specs.Term.{Term, prog}
use Rattle.junior.specs.Trace.{Place}
use Rattle.junior.specs.Rules.{Allowed, with_values, Result, Rewrites, r1, r1_on, r2, r3, r4, r4_on, r5, r8, r9, r10, r11, r12}
use Rattle.junior.specs.Rules.{r13, r4_loop, r5_loop, r14, r15, r4_repeat, r5_repeat, r16, r17, r17_on, r18}
use Rattle.junior.specs.Rules.{r19, r19_on, r20, r21, r22, r23, r24, r25, r26, r27, r28, r29, r30, r31, r31_on}
use Rattle.junior.specs.Rules.{r32, r33, r34, r35_39, r40, r41, r42, r43, r44, r45, if_true, if_true_on, if_false, if_false_on}
use Rattle.junior.specs.Instant.{Instant, r47, r48, r49}
use Rattle.junior.specs.Waited.{before_the_end}

-- the value that a repetition asks for when it begins, if it does
abbrev pub asked_by : Times → List ℕ
asked_by (exactly n) = []
asked_by (asked v cap) = v ∷ []

-- the values that the Ifs and RepeatExts which a pass begins name, in the order in which it begins them
unfoldable pub asks : {free : Allowed} {P : Place} {t : Term} {E : Env} {r : Result} → Rewrites free P t E r → List ℕ
asks r1 = []
asks r1_on = []
asks r2 = []
asks r3 = []
asks (r4 d e) = asks d ++ asks e
asks (r4_on d) = asks d
asks (r5 d h) = asks d
asks (r8 d e) = asks d ++ asks e
asks (r9 f e d) = asks e ++ asks d
asks (r10 h d) = asks d
asks (r11 h d) = asks d
asks (r12 d h) = asks d
asks (r13 f d e) = asks d ++ asks e
asks (r4_loop d e) = asks d ++ asks e
asks (r5_loop d h) = asks d
asks (r14 {n = n} h) = asked_by n
asks (r15 {n = n} h d) = asked_by n ++ asks d
asks (r4_repeat d e) = asks d ++ asks e
asks (r5_repeat d h) = asks d
asks r16 = []
asks (r17 s h d) = asks d
asks (r17_on d) = asks d
asks (r18 s h) = []
asks (r19 s h d) = asks d
asks (r19_on d) = asks d
asks (r20 s h) = []
asks (r21 s) = []
asks (r22 s h) = []
asks (r23 s h) = []
asks (r24 s) = []
asks (r25 s) = []
asks (r26 s d) = asks d
asks (r27 s) = []
asks (r28 s) = []
asks (r29 d h) = asks d
asks (r30 d e) = asks d ++ asks e
asks (r31 s h d) = asks d
asks (r31_on d) = asks d
asks (r32 s h) = []
asks (r33 s) = []
asks (r34 s) = []
asks (r35_39 d) = asks d
asks (r40 d h) = asks d
asks (r41 d e) = asks d ++ asks e
asks (r42 s h) = []
asks (r43 s h) = []
asks (r44 s) = []
asks (r45 s) = []
asks (if_true {v = v} h d) = v ∷ asks d
asks (if_true_on d) = asks d
asks (if_false {v = v} h d) = v ∷ asks d
asks (if_false_on d) = asks d

unfoldable pub asks_in_all : {free : Allowed} {t : Term} {E : Env} {n : ℕ} {r : Result} → Instant free t E n r → List ℕ
asks_in_all (r47 d h) = asks d
asks_in_all (r48 d h m i) = asks d ++ asks_in_all i
asks_in_all (r49 d h m i) = asks d ++ asks_in_all i

-- all of these values are so
unfoldable pub Each : (ℕ → Type 0) → List ℕ → Type 0
Each so [] = Unit {0}
Each so (v ∷ l) = so v × Each so l

-- all values that a program names are so
unfoldable pub EachNamed : (ℕ → Type 0) → Program → Type 0
EachNamed so Nothing = Unit {0}
EachNamed so Stop = Unit {0}
EachNamed so (Atom a) = Unit {0}
EachNamed so (Seq p q) = EachNamed so p × EachNamed so q
EachNamed so (Par p q) = EachNamed so p × EachNamed so q
EachNamed so (Loop p) = EachNamed so p
EachNamed so (Repeat n p) = Each so (asked_by n) × EachNamed so p
EachNamed so (Generate s) = Unit {0}
EachNamed so (Await c) = Unit {0}
EachNamed so (When c p q) = EachNamed so p × EachNamed so q
EachNamed so (Until c p q) = EachNamed so p × EachNamed so q
EachNamed so (Control s p) = EachNamed so p
EachNamed so (Local s p) = EachNamed so p
EachNamed so (Freezable s p) = EachNamed so p
EachNamed so (If v p q) = so v × EachNamed so p × EachNamed so q

-- it has no If and no RepeatExt
abbrev pub NamesNone : Program → Type 0
NamesNone p = EachNamed (λ v. ⊥) p

-- with these values instead, the instant i is there too, and before the end was declared it did the same
abbrev pub AlsoWith : {free : Allowed} {t : Term} {E : Env} {n : ℕ} {r : Result} → Values → Instant free t E n r → Type 0
AlsoWith {free} {t} {E} {n} {r} value i = (j : Instant (with_values value free) t E n r) × (before_the_end j ≡ before_the_end i)

pub record Asked : Type 1 where
  -- with other values, the same but for such as aren't asked for, the instant is the same, pass by pass
  pub only_what_is_begun : {free : Allowed} {t : Term} {E : Env} {n : ℕ} {r : Result} (i : Instant free t E n r) (value : Values)
      → Each (λ v. free.value v ≡ value v) (asks_in_all i)
      → AlsoWith value i
  -- what is asked for is named in the program
  pub only_what_is_named : {free : Allowed} {t : Term} {E : Env} {n : ℕ} {r : Result} (so : ℕ → Type 0) (i : Instant free t E n r)
      → EachNamed so (prog t)
      → Each so (asks_in_all i)
  -- so an instant of a program without the two forms doesn't depend on the values
  pub without_the_forms : {free : Allowed} {t : Term} {E : Env} {n : ℕ} {r : Result} (i : Instant free t E n r) (value : Values)
      → NamesNone (prog t)
      → AlsoWith value i
