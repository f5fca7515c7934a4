-- What answers SUSP has a test that waits; what answers STOP or TERM has none.
use Prim.Native.Nat.{ℕ}
use mathlib.Core.Bool.{Bool, true, false, ◌||◌, or-false, or_comm}
use mathlib.Core.Path.{◌≡◌, refl, ap, ap₂, sym, ◌∙◌}
use mathlib.Core.Logic.{◌≢◌}
use mathlib.Core.List.{List, [], ◌∷◌, ◌++◌}
use mathlib.Core.Option.{Option, none, some}
use Rattle.junior.specs.declared.Flag.{Flag}
use Rattle.junior.specs.declared.Flag.TheVariants.{SUSP, STOP, TERM}
use Rattle.junior.specs.Flags.{γ}
use Rattle.junior.specs.Configuration.{Config, Event, Env, unknown}
use Rattle.junior.specs.Term.{Term}
use Rattle.junior.specs.Trace.{Place, Act, did_atom, did_generate, did_park, decided, waits, scope_answered}
use Rattle.junior.specs.Rules.{Allowed, Result, Rewrites, r1, r1_on, r2, r3, r4, r4_on, r5, r8, r9, r10, r11, r12, r13, r4_loop, r5_loop, r14}
use Rattle.junior.specs.Rules.{r15, r4_repeat, r5_repeat, r16, r17, r17_on, r18, r19, r19_on, r20, r21, r22, r23, r24, r25, r26, r27, r28, r29}
use Rattle.junior.specs.Rules.{r30, r31, r31_on, r32, r33, r34, r35_39, r40, r41, r42, r43, r44, r45, if_true, if_true_on, if_false}
use Rattle.junior.specs.Rules.{if_false_on}
use Rattle.junior.specs.Waited.{lower, lacks, Wait, waits_for, first_wait}
use Rattle.junior.proofs.Lower.{found, found_some, found_none, lower_none, lower_found, lower_assoc}
use Rattle.junior.proofs.Lacking.{lacks_found}

-- of two waits the one at the lower node
abbrev pub earlier : Option Wait → Option Wait → Option Wait
earlier v w = lower (λ x. x.node) v w

pub first_wait-++ : (l k : List Act) → first_wait (l ++ k) ≡ earlier (first_wait l) (first_wait k)
unfolding first_wait
first_wait-++ [] k = refl
first_wait-++ (did_atom a ∷ l) k = first_wait-++ l k
first_wait-++ (did_generate s ∷ l) k = first_wait-++ l k
first_wait-++ (did_park x ∷ l) k = first_wait-++ l k
first_wait-++ (decided P c b E ∷ l) k = first_wait-++ l k
first_wait-++ (waits P c E ∷ l) k =
    let w = waits_for P.node (lacks c E.now) in
    ap (earlier w) (first_wait-++ l k) ∙ sym (lower_assoc (λ x. x.node) w (first_wait l) (first_wait k))
first_wait-++ (scope_answered n α b ∷ l) k = first_wait-++ l k

-- a Local's answer behind its body's acts is no test
pub first_wait_scope : (l : List Act) (n : ℕ) (α : Flag) (b : Bool)
    → first_wait (l ++ (scope_answered n α b ∷ [])) ≡ first_wait l
unfolding first_wait
first_wait_scope l n α b = first_wait-++ l _ ∙ lower_none (λ x. x.node) (first_wait l)

pub first_wait_one : (P : Place) (c : Config) (E : Env)
    → first_wait (waits P c E ∷ []) ≡ waits_for P.node (lacks c E.now)
unfolding first_wait
first_wait_one P c E = lower_none (λ x. x.node) (waits_for P.node (lacks c E.now))

abbrev pub suspended : Flag → Bool
suspended SUSP = true
suspended STOP = false
suspended TERM = false

γ-suspended : (α β : Flag) → suspended (γ α β) ≡ (suspended α || suspended β)
γ-suspended SUSP SUSP = refl
γ-suspended SUSP STOP = refl
γ-suspended SUSP TERM = refl
γ-suspended STOP SUSP = refl
γ-suspended STOP STOP = refl
γ-suspended STOP TERM = refl
γ-suspended TERM SUSP = refl
γ-suspended TERM STOP = refl
γ-suspended TERM TERM = refl

pub unsuspended : (α : Flag) → α ≢ SUSP → suspended α ≡ false
unsuspended SUSP h = absurd (h refl)
unsuspended STOP h = refl
unsuspended TERM h = refl

-- one list of acts after the other, by the flags that they were answered with
chained : (l k : List Act) {a b : Bool} → found (first_wait l) ≡ a → found (first_wait k) ≡ b → found (first_wait (l ++ k)) ≡ (a || b)
chained l k h j = ap found (first_wait-++ l k) ∙ (lower_found (λ x. x.node) (first_wait l) (first_wait k) ∙ ap₂ ◌||◌ h j)

-- a branch alone, the other not being suspended
alone : (α β : Flag) → β ≢ SUSP → suspended α ≡ suspended (γ α β)
alone α β h = sym (or-false (suspended α)) ∙ (ap (λ b. suspended α || b) (sym (unsuspended β h)) ∙ sym (γ-suspended α β))

waiting : (P : Place) (c : Config) (E : Env) → unknown c E → found (first_wait (waits P c E ∷ [])) ≡ true
waiting P c E v = ap found (first_wait_one P c E) ∙ go (lacks c E.now) (lacks_found c E v)
  where
    go : (o : Option ℕ) → found o ≡ true → found (waits_for P.node o) ≡ true
    go none h = h
    go (some e) h = refl

pub waits_exactly : {free : Allowed} {P : Place} {t : Term} {E : Env} {r : Result} → Rewrites free P t E r
    → found (first_wait r.acts) ≡ suspended r.flag
unfolding first_wait
waits_exactly r1 = refl
waits_exactly r1_on = refl
waits_exactly r2 = refl
waits_exactly r3 = refl
waits_exactly (r4 {l = l} {r = r} d e) = chained l r.acts (waits_exactly d) (waits_exactly e)
waits_exactly (r4_on d) = waits_exactly d
waits_exactly (r5 d h) = waits_exactly d
waits_exactly (r8 {r = r} {s = s} d e) =
    chained r.acts s.acts (waits_exactly d) (waits_exactly e) ∙ sym (γ-suspended r.flag s.flag)
waits_exactly (r9 {r = r} {s = s} f e d) =
    chained s.acts r.acts (waits_exactly e) (waits_exactly d)
    ∙ (or_comm (suspended s.flag) (suspended r.flag) ∙ sym (γ-suspended r.flag s.flag))
waits_exactly (r10 {β = β} {r = r} h d) = waits_exactly d ∙ alone r.flag β h
waits_exactly (r11 {α = α} {r = r} h d) =
    waits_exactly d ∙ (ap (λ b. b || suspended r.flag) (sym (unsuspended α h)) ∙ sym (γ-suspended α r.flag))
waits_exactly (r12 d h) = waits_exactly d
waits_exactly (r13 {l = l} {r = r} f d e) = chained l r.acts (waits_exactly d) (waits_exactly e)
waits_exactly (r4_loop {l = l} {r = r} d e) = chained l r.acts (waits_exactly d) (waits_exactly e)
waits_exactly (r5_loop d h) = waits_exactly d
waits_exactly (r14 h) = refl
waits_exactly (r15 h d) = waits_exactly d
waits_exactly (r4_repeat {l = l} {r = r} d e) = chained l r.acts (waits_exactly d) (waits_exactly e)
waits_exactly (r5_repeat d h) = waits_exactly d
waits_exactly r16 = refl
waits_exactly (r17 v h d) = waits_exactly d
waits_exactly (r17_on d) = waits_exactly d
waits_exactly (r18 v h) = refl
waits_exactly (r19 v h d) = waits_exactly d
waits_exactly (r19_on d) = waits_exactly d
waits_exactly (r20 v h) = refl
waits_exactly (r21 {P = P} {E = E} {c = c} v) = waiting P c E v
waits_exactly (r22 v h) = refl
waits_exactly (r23 v h) = refl
waits_exactly (r24 v) = refl
waits_exactly (r25 {P = P} {E = E} {c = c} v) = waiting P c E v
waits_exactly (r26 v d) = waits_exactly d
waits_exactly (r27 v) = refl
waits_exactly (r28 {P = P} {E = E} {s = s} v) = waiting P (Event s) E v
waits_exactly (r29 d h) = waits_exactly d
waits_exactly (r30 {l = l} {r = r} d e) = chained l r.acts (waits_exactly d) (waits_exactly e)
waits_exactly (r31 v h d) = waits_exactly d
waits_exactly (r31_on d) = waits_exactly d
waits_exactly (r32 v h) = refl
waits_exactly (r33 v) = refl
waits_exactly (r34 {P = P} {E = E} {c = c} v) = waiting P c E v
waits_exactly (r35_39 {P = P} {s = s} {r = r} d) =
    ap found (first_wait_scope r.acts P.node r.flag (r.env.now s)) ∙ waits_exactly d
waits_exactly (r40 d h) = waits_exactly d
waits_exactly (r41 {l = l} {r = r} d e) = chained l r.acts (waits_exactly d) (waits_exactly e)
waits_exactly (r42 v h) = refl
waits_exactly (r43 v h) = refl
waits_exactly (r44 v) = refl
waits_exactly (r45 {P = P} {E = E} {s = s} v) = waiting P (Event s) E v
waits_exactly (if_true h d) = waits_exactly d
waits_exactly (if_true_on d) = waits_exactly d
waits_exactly (if_false h d) = waits_exactly d
waits_exactly (if_false_on d) = waits_exactly d

module _ {free : Allowed} {P : Place} {t : Term} {E : Env} {r : Result} (d : Rewrites free P t E r) where
  pub suspended_waits : r.flag ≡ SUSP → (w : Wait) × (first_wait r.acts ≡ some w)
  suspended_waits f = found_some (first_wait r.acts) (waits_exactly d ∙ ap suspended f)

  pub answered_waits_not : r.flag ≢ SUSP → first_wait r.acts ≡ none
  answered_waits_not f = found_none (first_wait r.acts) (waits_exactly d ∙ unsuspended r.flag f)
