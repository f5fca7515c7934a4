-- Read as 000 and 001 write terms, a rewriting is one by the printed rules that does the same in the same order and freezes what is parked, and
-- an instant an instant by them. The table of frozen instructions that it begins with is free: empty it is rule 46's, carried on it is the store.
use Prim.Native.Nat.{ℕ, zero, suc, ◌-◌}
use native.Mathlib.Numerals.{sub-one}
use native.Mathlib.Omega.{arith}
use mathlib.Core.Bool.{Bool, true, false}
use mathlib.Core.Path.{◌≡◌, refl, ap, ◌∙◌, subst⁻¹}
use mathlib.Core.Logic.{◌≢◌, inl, inr}
use mathlib.Core.List.{List, [], ◌∷◌, ◌++◌, append-nil}
use Rattle.junior.specs.declared.Flag.{Flag}
use Rattle.junior.specs.declared.Flag.TheVariants.{SUSP, STOP, TERM}
use Rattle.junior.specs.declared.Verdict.TheVariants.{Unknown}
use Rattle.junior.specs.Configuration.{Env, verdict}
use Rattle.junior.specs.Program.{Program}
use Rattle.junior.specs.Values.{Values, Times, exactly, asked, runs_of}
use Rattle.junior.specs.Term.{Term, local, prog, leave}
use Rattle.junior.specs.Trace.{Place, Piece, Act, did_atom, did_generate, did_park, decided, waits, scope_answered}
use Rattle.junior.specs.Trace.{piece_of, collect, parks}
use Rattle.junior.specs.Rules.{left_first, Result, again, sign, Rewrites, r1, r1_on, r2, r3, r4, r4_on, r5, r8, r9, r10, r11}
use Rattle.junior.specs.Rules.{r12, r13, r4_loop, r5_loop, r14, r15, r4_repeat, r5_repeat, r16, r17, r17_on}
use Rattle.junior.specs.Rules.{r18, r19, r19_on, r20, r21, r22, r23, r24, r25, r26, r27, r28, r29, r30, r31}
use Rattle.junior.specs.Rules.{r31_on, r32, r33, r34, r35_39, r40, r41, r42, r43, r44, r45, if_true, if_true_on, if_false, if_false_on}
use Rattle.junior.specs.Instant.{Instant, r47, r48, r49}
use Rattle.junior.specs.Printed.{Abstract, Seq, Repeat, repetition, leaves, tr, reads, Deed}
use Rattle.junior.specs.Printed.{does, generates, finds, deeds, World, world, with_event, froze}
use Rattle.junior.specs.Printed.{◌⊢◌∣◌—[◌doing◌]→◌∣◌, ◌⊢◌∣◌—[◌doing◌]—◌passes→◌∣◌, rule1, rule2, rule3, rule4, rule5, rule8}
use Rattle.junior.specs.Printed.{rule10, rule11, rule12, rule13, rule14, rule15, rule16, rule17, rule18, rule19}
use Rattle.junior.specs.Printed.{rule20, rule21, rule22, rule23, rule24, rule25, rule26, rule27, rule28, rule29}
use Rattle.junior.specs.Printed.{rule30, rule31, rule32, rule33, rule34, rule35, rule36, rule37, rule38, rule39}
use Rattle.junior.specs.Printed.{rule40, rule41, rule42, rule43, rule44, rule45, rule47, rule48, rule49}
use Rattle.junior.specs.Printed.{if_true as if_true_printed, if_false as if_false_printed, repeat_ext}
use Rattle.junior.proofs.Little.{collect-++, collect_last}
use Rattle.junior.proofs.Fresh.{prog_fresh, reads_fresh}
use Rattle.junior.proofs.Kept.{kept}
use Rattle.junior.proofs.Verdicts.{present, absent, unsat_at_end, not_yet}

pub reads_leave : (α : Flag) (t : Term) → reads (leave α t) ≡ leaves α (reads t)
unfolding reads leave leaves
reads_leave SUSP t = refl
reads_leave STOP t = refl
reads_leave TERM t = refl

leaves_on : (α : Flag) (t : Abstract) → α ≢ TERM → leaves α t ≡ t
unfolding leaves
leaves_on SUSP t h = refl
leaves_on STOP t h = refl
leaves_on TERM t h = absurd (h refl)

leaves_twice : (α : Flag) (t : Abstract) → leaves α (leaves α t) ≡ leaves α t
unfolding leaves
leaves_twice SUSP t = refl
leaves_twice STOP t = refl
leaves_twice TERM t = refl

-- by the printed rules too, what answers TERM leaves Nothing
pub leaves_nothing : {eval : Values} {t t' : Abstract} {E E' : World} {α : Flag} {l : List Deed} → eval ⊢ t ∣ E —[ α doing l ]→ t' ∣ E'
    → leaves α t' ≡ t'
unfolding leaves
leaves_nothing rule1 = refl
leaves_nothing rule2 = refl
leaves_nothing rule3 = refl
leaves_nothing (rule4 d e) = leaves_nothing e
leaves_nothing (rule5 d h) = leaves_on _ _ h
leaves_nothing (rule8 d e) = rw leaves_twice
leaves_nothing (rule10 h d) = rw leaves_twice
leaves_nothing (rule11 h d) = rw leaves_twice
leaves_nothing (rule12 d h) = leaves_on _ _ h
leaves_nothing (rule13 d e) = leaves_nothing e
leaves_nothing (rule14 h) = refl
leaves_nothing (rule15 h d) = leaves_nothing d
leaves_nothing rule16 = refl
leaves_nothing (rule17 s h d) = leaves_nothing d
leaves_nothing (rule18 s h) = refl
leaves_nothing (rule19 s h d) = leaves_nothing d
leaves_nothing (rule20 s h) = refl
leaves_nothing (rule21 s) = refl
leaves_nothing (rule22 s h) = refl
leaves_nothing (rule23 s h) = refl
leaves_nothing (rule24 s) = refl
leaves_nothing (rule25 s) = refl
leaves_nothing (rule26 s d) = rw leaves_twice
leaves_nothing (rule27 s) = refl
leaves_nothing (rule28 s) = refl
leaves_nothing (rule29 d h) = rw leaves_twice
leaves_nothing (rule30 d e) = leaves_nothing e
leaves_nothing (rule31 s h d) = leaves_nothing d
leaves_nothing (rule32 s h) = refl
leaves_nothing (rule33 s) = refl
leaves_nothing (rule34 s) = refl
leaves_nothing (rule35 d h) = refl
leaves_nothing (rule36 d h) = refl
leaves_nothing (rule37 d) = refl
leaves_nothing (rule38 d h) = rw leaves_twice
leaves_nothing (rule39 d h) = rw leaves_twice
leaves_nothing (rule40 d h) = rw leaves_twice
leaves_nothing (rule41 d e) = leaves_nothing e
leaves_nothing (rule42 s h) = refl
leaves_nothing (rule43 s h) = refl
leaves_nothing (rule44 s h) = refl
leaves_nothing (rule45 s h) = refl
leaves_nothing (if_true_printed h d) = leaves_nothing d
leaves_nothing (if_false_printed h d) = leaves_nothing d
leaves_nothing (repeat_ext h d) = leaves_nothing d

deeds-++ : (l m : List Act) → deeds (l ++ m) ≡ deeds l ++ deeds m
unfolding deeds
deeds-++ [] m = refl
deeds-++ (did_atom a ∷ l) m = ap (λ k. does a ∷ k) (deeds-++ l m)
deeds-++ (did_generate s ∷ l) m = ap (λ k. generates s ∷ k) (deeds-++ l m)
deeds-++ (did_park x ∷ l) m = deeds-++ l m
deeds-++ (decided P c b E ∷ l) m = ap (λ k. finds c (verdict true b) ∷ k) (deeds-++ l m)
deeds-++ (waits P c E ∷ l) m = ap (λ k. finds c Unknown ∷ k) (deeds-++ l m)
deeds-++ (scope_answered n α b ∷ l) m = deeds-++ l m

-- that a scope answered is no deed
deeds_scope : (l : List Act) (n : ℕ) (α : Flag) (b : Bool) → deeds (l ++ (scope_answered n α b ∷ [])) ≡ deeds l
unfolding deeds
deeds_scope l n α b = deeds-++ l _ ∙ append-nil (deeds l)

-- pieces parked one after the other
froze_both : (l m : List Piece) (T : ℕ → Abstract) → froze (l ++ m) T ≡ froze m (froze l T)
unfolding froze
froze_both [] m T = refl
froze_both (x ∷ l) m T = froze_both l m _

froze-++ : (l m : List Act) (T : ℕ → Abstract) → froze (parks (l ++ m)) T ≡ froze (parks m) (froze (parks l) T)
froze-++ l m T = ap (λ k. froze k T) (collect-++ piece_of l m) ∙ froze_both (parks l) (parks m) T

-- that a scope answered parks nothing
froze_scope : (l : List Act) (n : ℕ) (α : Flag) (b : Bool) (T : ℕ → Abstract)
    → froze (parks (l ++ (scope_answered n α b ∷ []))) T ≡ froze (parks l) T
froze_scope l n α b T = ap (λ k. froze k T) (collect_last piece_of l _ refl)

-- what is left of a Repeat when k more runs are due answers as Repeat(k)
runs_due : {eval : Values} (n : Times) (k : ℕ) (p : Program) {x : Abstract} {E F : World} {α : Flag} {l : List Deed}
    → eval ⊢ reads (again n k p) ∣ E —[ α doing l ]→ x ∣ F
    → eval ⊢ Repeat k (tr p) ∣ E —[ α doing l ]→ x ∣ F
unfolding reads
runs_due n zero p rule1 = rule14 {n = 0} (omega arith)
runs_due {eval} n (suc k) p {x} {E} {F} {α} {l} d =
    let e = simp (reads_fresh p, prog_fresh p) at d in
    let e' : eval ⊢ Seq (tr p) (Repeat (suc k - 1) (tr p)) ∣ E —[ α doing l ]→ x ∣ F = rw sub-one e in
    rule15 {n = suc k} (omega arith) e'

-- a repetition answers as Repeat(k), k being how often it runs
repeats : {eval : Values} (n : Times) (t : Abstract) {k : ℕ} {x : Abstract} {E F : World} {α : Flag} {l : List Deed}
    → runs_of eval n ≡ k
    → eval ⊢ Repeat k t ∣ E —[ α doing l ]→ x ∣ F
    → eval ⊢ repetition n t ∣ E —[ α doing l ]→ x ∣ F
repeats {eval} (exactly n) t {x = x} {E} {F} {α} {l} h d = subst⁻¹ (λ k. eval ⊢ Repeat k t ∣ E —[ α doing l ]→ x ∣ F) h d
repeats (asked v cap) t h d = repeat_ext h d

-- rules 35 to 39, by sign, flag and whether the event is present
scope_as_printed : {eval : Values} (b : Bool) (α : Flag) (present : Bool) (s : ℕ) (t t' : Term) {E F : World} {l : List Deed}
    → F.now s ≡ present
    → eval ⊢ reads t ∣ with_event s b E —[ α doing l ]→ reads t' ∣ F
    → eval ⊢ reads (local b s t) ∣ E —[ α doing l ]→ reads (leave α (local (sign b α present) s t')) ∣ with_event s (E.now s) F
unfolding reads leave leaves
scope_as_printed false SUSP false s t t' h d = rule35 d h
scope_as_printed false SUSP true s t t' h d = rule36 d h
scope_as_printed true SUSP present s t t' h d = rule37 d
scope_as_printed false STOP present s t t' h d = rule38 d (inr refl)
scope_as_printed true STOP present s t t' h d = rule39 d (inr refl)
scope_as_printed false TERM present s t t' h d = rule38 d (inl refl)
scope_as_printed true TERM present s t t' h d = rule39 d (inl refl)

pub as_printed : {eval : Values} {P : Place} {t : Term} {E : Env} {r : Result}
    → Rewrites (left_first eval) P t E r
    → (T : ℕ → Abstract)
    → eval ⊢ reads t ∣ world E T —[ r.flag doing deeds r.acts ]→ reads r.to ∣ world r.env (froze (parks r.acts) T)
unfolding reads deeds froze collect
as_printed r1 T = rule1
as_printed r1_on T = rule1
as_printed r2 T = rule2
as_printed r3 T = rule3
as_printed (r4 {l = l} {r = r} d e) T =
    rw (deeds-++, froze-++ l r.acts T, reads_leave, leaves_nothing (as_printed e T))
    (rule4 (as_printed d T) (rw reads_fresh at (as_printed e (froze (parks l) T))))
as_printed (r4_on d) T = rw (reads_leave, leaves_nothing (as_printed d T)) (as_printed d T)
as_printed (r5 d h) T = rw (reads_leave, leaves_on) (rule5 (as_printed d T) h)
as_printed (r8 {r = r} {s = s} d e) T =
    rw (deeds-++, froze-++ r.acts s.acts T, reads_leave) (rule8 (as_printed d T) (as_printed e (froze (parks r.acts) T)))
as_printed (r9 x _ _) T = elim x [ ]
as_printed (r10 h d) T = rw reads_leave (rule10 h (as_printed d T))
as_printed (r11 h d) T = rw reads_leave (rule11 h (as_printed d T))
as_printed (r12 d h) T =
    rw (reads_leave, leaves_on, kept d, prog_fresh) (rule12 (rw reads_fresh at (as_printed d T)) h)
as_printed (r13 {l = l} {r = r} f d e) T =
    rw (deeds-++, froze-++ l r.acts T) (rule13 (rw reads_fresh at (as_printed d T)) (as_printed e (froze (parks l) T)))
as_printed (r4_loop {l = l} {r = r} d e) T =
    rw (deeds-++, froze-++ l r.acts T) (rule4 (as_printed d T) (as_printed e (froze (parks l) T)))
as_printed (r5_loop d h) T = rw (reads_leave, leaves_on, kept d) (rule5 (as_printed d T) h)
as_printed (r14 {n = n} {p = p} h) T = repeats n (tr p) h (rule14 (omega arith))
as_printed (r15 {n = n} {k = k} {p = p} h d) T = repeats n (tr p) h (runs_due n (suc k) p (as_printed d T))
as_printed (r4_repeat {n = n} {k = k} {t = t} {l = l} {r = r} d e) T =
    rw (deeds-++, froze-++ l r.acts T) (rule4 (as_printed d T) (runs_due n k (prog t) (as_printed e (froze (parks l) T))))
as_printed (r5_repeat d h) T = rw (reads_leave, leaves_on, kept d) (rule5 (as_printed d T) h)
as_printed r16 T = rule16
as_printed (r17 s h d) T =
    rw (reads_leave, leaves_nothing (as_printed d T)) (rule17 s h (rw reads_fresh at (as_printed d T)))
as_printed (r17_on d) T = rw (reads_leave, leaves_nothing (as_printed d T)) (as_printed d T)
as_printed (r18 s h) T = rw reads_fresh (rule18 s h)
as_printed (r19 s h d) T =
    rw (reads_leave, leaves_nothing (as_printed d T)) (rule19 s h (rw reads_fresh at (as_printed d T)))
as_printed (r19_on d) T = rw (reads_leave, leaves_nothing (as_printed d T)) (as_printed d T)
as_printed (r20 s h) T = rw reads_fresh (rule20 s h)
as_printed (r21 s) T = rule21 s
as_printed (r22 s h) T = rule22 s h
as_printed (r23 s h) T = rule23 s h
as_printed (r24 s) T = rule24 s
as_printed (r25 s) T = rule25 s
as_printed (r26 s d) T = rw reads_leave (rule26 s (as_printed d T))
as_printed (r27 s) T = rule27 s
as_printed (r28 s) T = rule28 s
as_printed (r29 d h) T = rw reads_leave (rule29 (as_printed d T) h)
as_printed (r30 {l = l} {r = r} d e) T =
    rw (deeds-++, froze-++ l r.acts T) (rule30 (as_printed d T) (as_printed e (froze (parks l) T)))
as_printed (r31 s h d) T =
    rw (reads_leave, leaves_nothing (as_printed d T)) (rule31 s h (rw reads_fresh at (as_printed d T)))
as_printed (r31_on d) T = rw (reads_leave, leaves_nothing (as_printed d T)) (as_printed d T)
as_printed (r32 s h) T = rw reads_fresh (rule32 s h)
as_printed (r33 s) T = rule33 s
as_printed (r34 s) T = rule34 s
as_printed (r35_39 {b = b} {s = s} {t = t} {r = r} d) T =
    rw (deeds_scope, froze_scope r.acts _ _ _ T) (scope_as_printed b r.flag (r.env.now s) s t r.to refl (as_printed d T))
as_printed (r40 d h) T = rw reads_leave (rule40 (as_printed d T) h)
as_printed (r41 {l = l} {r = r} d e) T =
    rw (deeds-++, froze-++ l r.acts T) (rule41 (as_printed d T) (as_printed e (froze (parks l) T)))
as_printed (r42 {E = E} {s = s} v h) T = rule42 (present s E v) h
as_printed (r43 {E = E} {s = s} v h) T = rule43 (present s E v) h
as_printed (r44 {E = E} {s = s} v) T = rule44 (absent s E v) (unsat_at_end s E v)
as_printed (r45 {E = E} {s = s} v) T = rule45 (not_yet s E v).0 (not_yet s E v).1
as_printed (if_true h d) T = rw (reads_leave, leaves_nothing (as_printed d T)) (if_true_printed h (rw reads_fresh at (as_printed d T)))
as_printed (if_true_on d) T = rw (reads_leave, leaves_nothing (as_printed d T)) (as_printed d T)
as_printed (if_false h d) T = rw (reads_leave, leaves_nothing (as_printed d T)) (if_false_printed h (rw reads_fresh at (as_printed d T)))
as_printed (if_false_on d) T = rw (reads_leave, leaves_nothing (as_printed d T)) (as_printed d T)

pub instant_as_printed : {eval : Values} {t : Term} {E : Env} {n : ℕ} {r : Result}
    → Instant (left_first eval) t E n r
    → (T : ℕ → Abstract)
    → eval ⊢ reads t ∣ world E T —[ r.flag doing deeds r.acts ]— n passes→ reads r.to ∣ world r.env (froze (parks r.acts) T)
instant_as_printed (r47 d h) T = rule47 (as_printed d T) h
instant_as_printed (r48 {r = r} {s = s} d f m i) T =
    rw (deeds-++, froze-++ r.acts s.acts T) (rule48 (rw f at (as_printed d T)) m (instant_as_printed i (froze (parks r.acts) T)))
instant_as_printed (r49 {r = r} {s = s} d f m i) T =
    rw (deeds-++, froze-++ r.acts s.acts T) (rule49 (rw f at (as_printed d T)) m (instant_as_printed i (froze (parks r.acts) T)))
