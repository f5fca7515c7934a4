-- Which values an instant depends on: the statements of specs/Asked.antt.
use Prim.Native.Nat.{ℕ, min}
use mathlib.Core.Path.{◌≡◌, refl, ap, sym, ◌∙◌}
use mathlib.Core.List.{List, [], ◌∷◌, ◌++◌}
use Rattle.junior.specs.Configuration.{Env}
use Rattle.junior.specs.Values.{Values, nonzero, Times, exactly, asked, runs_of}
use Rattle.junior.specs.Program.{Program}
use Rattle.junior.specs.Term.{Term, prog, fresh}
use Rattle.junior.specs.Trace.{Place}
use Rattle.junior.specs.Rules.{Allowed, with_values, Result, Rewrites, r1, r1_on, r2, r3, r4, r4_on, r5, r8, r9, r10, r11, r12, r13, r4_loop}
use Rattle.junior.specs.Rules.{r5_loop, r14, r15, r4_repeat, r5_repeat, r16, r17, r17_on, r18, r19, r19_on, r20, r21, r22, r23, r24, r25, r26}
use Rattle.junior.specs.Rules.{r27, r28, r29, r30, r31, r31_on, r32, r33, r34, r35_39, r40, r41, r42, r43, r44, r45, if_true, if_true_on}
use Rattle.junior.specs.Rules.{if_false, if_false_on}
use Rattle.junior.specs.Instant.{Instant, r47, r48, r49}
use Rattle.junior.specs.Waited.{before_the_end}
use Rattle.junior.specs.Asked.{asked_by, asks, asks_in_all, Each, EachNamed, AlsoWith, Asked}
use Rattle.junior.proofs.Fresh.{prog_fresh}
use Rattle.junior.proofs.Kept.{prog_again, kept}

-- lists of values
module _ (so : ℕ → Type 0) where
  each-++ : (l k : List ℕ) → Each so (l ++ k) → Each so l × Each so k
  unfolding Each
  each-++ [] k a = (tt, a)
  each-++ (v ∷ l) k a = let (b, c) = each-++ l k a.1 in ((a.0, b), c)

  each_both : (l k : List ℕ) → Each so l → Each so k → Each so (l ++ k)
  unfolding Each
  each_both [] k a b = b
  each_both (v ∷ l) k a b = (a.0, each_both l k a.1 b)

  none_asked : (l : List ℕ) → Each (λ v. ⊥) l → Each so l
  unfolding Each
  none_asked [] a = tt
  none_asked (v ∷ l) a = absurd a.0

-- other values, the same where they are asked for
module _ (free : Allowed) (value : Values) where
  abbrev Same : ℕ → Type 0
  Same v = free.value v ≡ value v

  -- so a repetition begins with as many runs
  same_runs : (n : Times) → Each Same (asked_by n) → runs_of value n ≡ runs_of free.value n
  unfolding Each
  same_runs (exactly n) a = refl
  same_runs (asked v m) a = ap (min m) (sym a.0)

  alike : {P : Place} {t : Term} {E : Env} {r : Result} (d : Rewrites free P t E r)
      → Each Same (asks d)
      → Rewrites (with_values value free) P t E r
  unfolding asks Each
  alike r1 a = r1
  alike r1_on a = r1_on
  alike r2 a = r2
  alike r3 a = r3
  alike (r4 d e) a = let (b, c) = each-++ Same (asks d) (asks e) a in r4 (alike d b) (alike e c)
  alike (r4_on d) a = r4_on (alike d a)
  alike (r5 d h) a = r5 (alike d a) h
  alike (r8 d e) a = let (b, c) = each-++ Same (asks d) (asks e) a in r8 (alike d b) (alike e c)
  alike (r9 f e d) a = let (b, c) = each-++ Same (asks e) (asks d) a in r9 f (alike e b) (alike d c)
  alike (r10 h d) a = r10 h (alike d a)
  alike (r11 h d) a = r11 h (alike d a)
  alike (r12 d h) a = r12 (alike d a) h
  alike (r13 f d e) a = let (b, c) = each-++ Same (asks d) (asks e) a in r13 f (alike d b) (alike e c)
  alike (r4_loop d e) a = let (b, c) = each-++ Same (asks d) (asks e) a in r4_loop (alike d b) (alike e c)
  alike (r5_loop d h) a = r5_loop (alike d a) h
  alike (r14 {n = n} h) a = r14 (same_runs n a ∙ h)
  alike (r15 {n = n} h d) a = let (b, c) = each-++ Same (asked_by n) (asks d) a in r15 (same_runs n b ∙ h) (alike d c)
  alike (r4_repeat d e) a = let (b, c) = each-++ Same (asks d) (asks e) a in r4_repeat (alike d b) (alike e c)
  alike (r5_repeat d h) a = r5_repeat (alike d a) h
  alike r16 a = r16
  alike (r17 s h d) a = r17 s h (alike d a)
  alike (r17_on d) a = r17_on (alike d a)
  alike (r18 s h) a = r18 s h
  alike (r19 s h d) a = r19 s h (alike d a)
  alike (r19_on d) a = r19_on (alike d a)
  alike (r20 s h) a = r20 s h
  alike (r21 s) a = r21 s
  alike (r22 s h) a = r22 s h
  alike (r23 s h) a = r23 s h
  alike (r24 s) a = r24 s
  alike (r25 s) a = r25 s
  alike (r26 s d) a = r26 s (alike d a)
  alike (r27 s) a = r27 s
  alike (r28 s) a = r28 s
  alike (r29 d h) a = r29 (alike d a) h
  alike (r30 d e) a = let (b, c) = each-++ Same (asks d) (asks e) a in r30 (alike d b) (alike e c)
  alike (r31 s h d) a = r31 s h (alike d a)
  alike (r31_on d) a = r31_on (alike d a)
  alike (r32 s h) a = r32 s h
  alike (r33 s) a = r33 s
  alike (r34 s) a = r34 s
  alike (r35_39 d) a = r35_39 (alike d a)
  alike (r40 d h) a = r40 (alike d a) h
  alike (r41 d e) a = let (b, c) = each-++ Same (asks d) (asks e) a in r41 (alike d b) (alike e c)
  alike (r42 s h) a = r42 s h
  alike (r43 s h) a = r43 s h
  alike (r44 s) a = r44 s
  alike (r45 s) a = r45 s
  alike (if_true h d) a = if_true (ap nonzero (sym a.0) ∙ h) (alike d a.1)
  alike (if_true_on d) a = if_true_on (alike d a)
  alike (if_false h d) a = if_false (ap nonzero (sym a.0) ∙ h) (alike d a.1)
  alike (if_false_on d) a = if_false_on (alike d a)

  alike_in_all : {t : Term} {E : Env} {n : ℕ} {r : Result} (i : Instant free t E n r)
      → Each Same (asks_in_all i)
      → AlsoWith value i
  unfolding asks_in_all before_the_end
  alike_in_all (r47 d h) a = (r47 (alike d a) h, refl)
  alike_in_all (r48 d h m i) a =
      let (b, c) = each-++ Same (asks d) (asks_in_all i) a in
      (r48 (alike d b) h m (alike_in_all i c).0, refl)
  alike_in_all (r49 d h m i) a =
      let (b, c) = each-++ Same (asks d) (asks_in_all i) a in
      let (j, same) = alike_in_all i c in
      (r49 (alike d b) h m j, same)

-- what is asked for is named
module _ (so : ℕ → Type 0) where
  named_fresh : (p : Program) → EachNamed so p → EachNamed so (prog (fresh p))
  named_fresh p o = rw (prog_fresh p) o

  named : {free : Allowed} {P : Place} {t : Term} {E : Env} {r : Result} (d : Rewrites free P t E r)
      → EachNamed so (prog t)
      → Each so (asks d)
  unfolding asks Each EachNamed prog
  named r1 o = tt
  named r1_on o = tt
  named r2 o = tt
  named r3 o = tt
  named (r4 {q = q} d e) o = each_both so (asks d) (asks e) (named d o.0) (named e (named_fresh q o.1))
  named (r4_on d) o = named d o.1
  named (r5 d h) o = named d o.0
  named (r8 d e) o = each_both so (asks d) (asks e) (named d o.0) (named e o.1)
  named (r9 f e d) o = each_both so (asks e) (asks d) (named e o.1) (named d o.0)
  named (r10 h d) o = named d o.0
  named (r11 h d) o = named d o.1
  named (r12 {p = p} d h) o = named d (named_fresh p o)
  named (r13 {p = p} f d e) o = each_both so (asks d) (asks e) (named d (named_fresh p o)) (named e o)
  named (r4_loop d e) o = each_both so (asks d) (asks e) (named d o) (named e o)
  named (r5_loop d h) o = named d o
  named (r14 h) o = o.0
  named (r15 {n = n} {p = p} h d) o = each_both so (asked_by n) (asks d) o.0 (named d (o.0, named_fresh p o.1))
  named (r4_repeat {n = n} {k = k} {t = t} d e) o = each_both so (asks d) (asks e) (named d o.1) (named e (rw (prog_again n k (prog t)) o))
  named (r5_repeat d h) o = named d o.1
  named r16 o = tt
  named (r17 {p = p} s h d) o = named d (named_fresh p o.0)
  named (r17_on d) o = named d o.0
  named (r18 s h) o = tt
  named (r19 {q = q} s h d) o = named d (named_fresh q o.1)
  named (r19_on d) o = named d o.1
  named (r20 s h) o = tt
  named (r21 s) o = tt
  named (r22 s h) o = tt
  named (r23 s h) o = tt
  named (r24 s) o = tt
  named (r25 s) o = tt
  named (r26 s d) o = named d o
  named (r27 s) o = tt
  named (r28 s) o = tt
  named (r29 d h) o = named d o.0
  named (r30 d e) o = each_both so (asks d) (asks e) (named d o.0) (named e (rw (kept d) o))
  named (r31 {q = q} s h d) o = named d (named_fresh q o.1)
  named (r31_on d) o = named d o.1
  named (r32 s h) o = tt
  named (r33 s) o = tt
  named (r34 s) o = tt
  named (r35_39 d) o = named d o
  named (r40 d h) o = named d o
  named (r41 d e) o = each_both so (asks d) (asks e) (named d o) (named e (rw (kept d) o))
  named (r42 s h) o = tt
  named (r43 s h) o = tt
  named (r44 s) o = tt
  named (r45 s) o = tt
  named (if_true {p = p} h d) o = (o.0, named d (named_fresh p o.1))
  named (if_true_on d) o = named d o.1
  named (if_false {q = q} h d) o = (o.0, named d (named_fresh q o.2))
  named (if_false_on d) o = named d o.2

  named_in_all : {free : Allowed} {t : Term} {E : Env} {n : ℕ} {r : Result} (i : Instant free t E n r)
      → EachNamed so (prog t)
      → Each so (asks_in_all i)
  unfolding asks_in_all
  named_in_all (r47 d h) o = named d o
  named_in_all (r48 d h m i) o = each_both so (asks d) (asks_in_all i) (named d o) (named_in_all i (rw (kept d) o))
  named_in_all (r49 d h m i) o = each_both so (asks d) (asks_in_all i) (named d o) (named_in_all i (rw (kept d) o))

pub asked_only : Asked
asked_only = record {
  only_what_is_begun = λ {free} i value a. alike_in_all free value i a;
  only_what_is_named = λ so i o. named_in_all so i o;
  without_the_forms = λ {free} i value o. alike_in_all free value i (none_asked _ (asks_in_all i) (named_in_all (λ v. ⊥) i o));
}
