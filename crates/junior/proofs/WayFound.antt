-- What the way down finds: where a pass answered SUSP and moved nothing, the first test that waits is found in the term and the events that it left, by
-- going one way down from the node. So the running code looks for it once an instant, when the end is declared, and passes keep no record.
use Prim.Native.Nat.{ℕ, suc, ◌+◌}
use mathlib.Core.Bool.{Bool, true, false, cond, false≢true}
use mathlib.Core.Path.{◌≡◌, refl, ap, sym, subst, ◌∙◌}
use mathlib.Core.Logic.{◌≢◌}
use mathlib.Core.List.{[], ◌∷◌, ◌++◌}
use mathlib.Core.Option.{Option, none, some}
use Rattle.events.specs.Events.{Events}
use Rattle.junior.specs.declared.Flag.{Flag}
use Rattle.junior.specs.declared.Flag.TheVariants.{SUSP, STOP, TERM}
use Rattle.junior.specs.Flags.{γ, δ₁, δ₂}
use Rattle.junior.specs.Configuration.{Event, Env}
use Rattle.junior.specs.Program.{size}
use Rattle.junior.specs.Term.{Term, par}
use Rattle.junior.specs.Term.{control, prog}
use Rattle.junior.specs.Trace.{Place, event_of, collect, generations}
use Rattle.junior.specs.Rules.{Allowed, Result, Rewrites, r1, r1_on, r2, r3, r4, r4_on, r5, r8, r9, r10, r11, r12, r13, r4_loop, r5_loop, r14}
use Rattle.junior.specs.Rules.{r15, r4_repeat, r5_repeat, r16, r17, r17_on, r18, r19, r19_on, r20, r21, r22, r23, r24, r25, r26, r27, r28, r29}
use Rattle.junior.specs.Rules.{r30, r31, r31_on, r32, r33, r34, r35_39, r40, r41, r42, r43, r44, r45, if_true, if_true_on, if_false}
use Rattle.junior.specs.Rules.{if_false_on}
use Rattle.junior.specs.Waited.{lacks, Wait, waits_for, first_wait}
use Rattle.junior.proofs.Little.{STOP≢SUSP, TERM≢SUSP, collect_none, put_at}
use Rattle.junior.proofs.Kept.{kept}
use Rattle.junior.proofs.Verdicts.{known_present, present}
use Rattle.junior.proofs.Grows.{unchanged, quiet, quiet_unchanged}
use Rattle.junior.proofs.End.{leave_susp, sign_kept}
use Rattle.junior.proofs.Lower.{found}
use Rattle.junior.proofs.Waits.{earlier, first_wait-++, first_wait_scope, first_wait_one}
use Rattle.junior.proofs.Waits.{answered_waits_not, suspended_waits, suspended, waits_exactly}
use Rattle.junior.proofs.WayDown.{waiting_in, Within, within_none, inside, or_else, met_in_order, met_exchanged}

-- what a part that answered α and stands at node i as t found: what the way down finds, if it is suspended
record Finds (α : Flag) (i : ℕ) (t : Term) (X : Events) (v : Option Wait) : Type 0 where
  pub there : α ≡ SUSP → found v ≡ true
  pub waits : α ≡ SUSP → waiting_in i t X ≡ v
  pub none_else : α ≢ SUSP → v ≡ none

finds_within : {α : Flag} {i : ℕ} {t : Term} {X : Events} {v : Option Wait} → Finds α i t X v → Within i (i + size (prog t)) v
finds_within {α} {i} {t} {X} {v} a = go α a
  where
    go : (α : Flag) → Finds α i t X v → Within i (i + size (prog t)) v
    go SUSP a = subst (Within i (i + size (prog t))) (a.waits refl) (inside t i X)
    go STOP a = rw (a.none_else STOP≢SUSP) within_none
    go TERM a = rw (a.none_else TERM≢SUSP) within_none

-- a Par that answers SUSP goes down as its first branch if that one is suspended, else as its second
par_finds : (α β : Flag) (i : ℕ) (t u : Term) (X : Events) (v w : Option Wait) → γ α β ≡ SUSP
    → Finds α (suc i) t X v
    → Finds β (suc i + size (prog t)) u X w
    → waiting_in i (par (δ₁ α β) (δ₂ α β) t u) X ≡ or_else v w
unfolding waiting_in
par_finds SUSP β i t u X none w f a b = absurd (false≢true (a.there refl))
par_finds SUSP β i t u X (some x) w f a b = a.waits refl
par_finds STOP SUSP i t u X v w f a b = rw (a.none_else STOP≢SUSP) (b.waits refl)
par_finds STOP STOP i t u X v w f a b = absurd (STOP≢SUSP f)
par_finds STOP TERM i t u X v w f a b = absurd (STOP≢SUSP f)
par_finds TERM SUSP i t u X v w f a b = rw (a.none_else TERM≢SUSP) (b.waits refl)
par_finds TERM STOP i t u X v w f a b = absurd (STOP≢SUSP f)
par_finds TERM TERM i t u X v w f a b = absurd (TERM≢SUSP f)

pub or_else_none : (v : Option Wait) → or_else v none ≡ v
or_else_none none = refl
or_else_none (some x) = refl

at_node : {α : Flag} {i j : ℕ} {t : Term} {X : Events} {v : Option Wait} → i ≡ j → Finds α i t X v → Finds α j t X v
at_node {α} {t = t} {X = X} {v = v} n a = subst (λ k. Finds α k t X v) n a

in_env : {α : Flag} {i : ℕ} {t : Term} {E F : Env} {v : Option Wait} → F ≡ E → Finds α i t F.now v → Finds α i t E.now v
in_env {α} {i} {t} {v = v} e a = subst (λ G. Finds α i t G.now v) e a

-- a branch that doesn't run
at_rest : {β : Flag} {i : ℕ} {t : Term} {X : Events} → β ≢ SUSP → Finds β i t X none
at_rest h = record { there = λ g. absurd (h g); waits = λ g. absurd (h g); none_else = λ g. refl }

module _ {free : Allowed} {P : Place} {t : Term} {E : Env} {r : Result} (d : Rewrites free P t E r) where
  part : (r.flag ≡ SUSP → waiting_in P.node r.to E.now ≡ first_wait r.acts)
      → Finds r.flag P.node r.to E.now (first_wait r.acts)
  part g = record { there = λ f. waits_exactly d ∙ ap suspended f; waits = g; none_else = answered_waits_not d }

  -- a part that ended or stopped, with another behind it that stands at node i
  behind : r.flag ≢ SUSP → (s : Result) (i : ℕ) → generations (r.acts ++ s.acts) ≡ []
      → (generations s.acts ≡ [] → waiting_in i s.to r.env.now ≡ first_wait s.acts)
      → waiting_in i s.to E.now ≡ first_wait (r.acts ++ s.acts)
  behind n s i q g =
      let (a, b) = collect_none event_of r.acts s.acts q in
      subst (λ F. waiting_in i s.to F.now ≡ first_wait s.acts) (unchanged d a) (g b)
      ∙ sym (first_wait-++ r.acts s.acts ∙ ap (λ v. earlier v (first_wait s.acts)) (answered_waits_not d n))

-- a Control whose event is absent waits itself
pub control_waits : (i s : ℕ) (t : Term) (E : Env) → E.now s ≢ true
    → waiting_in i (control s t) E.now ≡ waits_for i (lacks (Event s) E.now)
unfolding waiting_in lacks
control_waits i s t E = go (E.now s)
  where
    go : (b : Bool) → b ≢ true
        → cond b (waiting_in (suc i) t E.now) (some (record { node = i; event = s })) ≡ waits_for i (cond b none (some s))
    go true n = absurd (n refl)
    go false n = refl

-- a pass that generates nothing and answers SUSP
pub finds : {free : Allowed} {P : Place} {t : Term} {E : Env} {r : Result} → Rewrites free P t E r
    → generations r.acts ≡ []
    → r.flag ≡ SUSP
    → waiting_in P.node r.to E.now ≡ first_wait r.acts
unfolding waiting_in first_wait collect
finds r1 q f = absurd (TERM≢SUSP f)
finds r1_on q f = absurd (TERM≢SUSP f)
finds r2 q f = absurd (STOP≢SUSP f)
finds r3 q f = absurd (TERM≢SUSP f)
finds (r4 {r = r} d e) q f = rw leave_susp (behind d TERM≢SUSP r _ q (λ k. finds e k f))
finds (r4_on d) q f = rw leave_susp (finds d q f)
finds (r5 d h) q f = rw leave_susp (finds d q f)
finds (r8 {P = P} {E = E} {r = r} {s = s} d e) q f =
    let (a, b) = collect_none event_of r.acts s.acts q in
    let x = part d (λ g. finds d a g) in
    let y = at_node (ap (λ p. suc P.node + size p) (sym (kept d))) (in_env (unchanged d a) (part e (λ g. finds e b g))) in
    rw leave_susp
    (par_finds r.flag s.flag P.node r.to s.to E.now _ _ f x y
    ∙ sym (first_wait-++ r.acts s.acts ∙ met_in_order _ _ (finds_within x) (finds_within y)))
finds (r9 {P = P} {E = E} {r = r} {s = s} o e d) q f =
    let (b, a) = collect_none event_of s.acts r.acts q in
    let x = in_env (unchanged e b) (part d (λ g. finds d a g)) in
    let y = at_node (ap (λ p. suc P.node + size p) (sym (kept d))) (part e (λ g. finds e b g)) in
    rw leave_susp
    (par_finds r.flag s.flag P.node r.to s.to E.now _ _ f x y
    ∙ sym (first_wait-++ s.acts r.acts ∙ met_exchanged _ _ (finds_within x) (finds_within y)))
finds (r10 {P = P} {E = E} {β = β} {u = u} {r = r} h d) q f =
    rw leave_susp
    (par_finds r.flag β P.node r.to u E.now _ _ f (part d (λ g. finds d q g)) (at_rest h)
    ∙ or_else_none (first_wait r.acts))
finds (r11 {P = P} {E = E} {α = α} {t = t} {r = r} h d) q f =
    rw leave_susp (par_finds α r.flag P.node t r.to E.now _ _ f (at_rest h) (part d (λ g. finds d q g)))
finds (r12 d h) q f = rw leave_susp (finds d q f)
finds (r13 {P = P} {r = r} o d e) q f = behind d TERM≢SUSP r P.node q (λ k. finds e k f)
finds (r4_loop {P = P} {r = r} d e) q f = behind d TERM≢SUSP r P.node q (λ k. finds e k f)
finds (r5_loop d h) q f = rw leave_susp (finds d q f)
finds (r14 h) q f = absurd (TERM≢SUSP f)
finds (r15 h d) q f = finds d q f
finds (r4_repeat {P = P} {r = r} d e) q f = behind d TERM≢SUSP r P.node q (λ k. finds e k f)
finds (r5_repeat d h) q f = rw leave_susp (finds d q f)
finds r16 q f = absurd (TERM≢SUSP f)
finds (r17 v h d) q f = rw leave_susp (finds d q f)
finds (r17_on d) q f = rw leave_susp (finds d q f)
finds (r18 v h) q f = absurd (STOP≢SUSP f)
finds (r19 v h d) q f = rw leave_susp (finds d q f)
finds (r19_on d) q f = rw leave_susp (finds d q f)
finds (r20 v h) q f = absurd (STOP≢SUSP f)
finds (r21 {P = P} {E = E} {c = c} v) q f = sym (first_wait_one P c E)
finds (r22 v h) q f = absurd (TERM≢SUSP f)
finds (r23 v h) q f = absurd (STOP≢SUSP f)
finds (r24 v) q f = absurd (STOP≢SUSP f)
finds (r25 {P = P} {E = E} {c = c} v) q f = sym (first_wait_one P c E)
finds (r26 {E = E} {s = s} v d) q f = rw (leave_susp, present s E v) (finds d q f)
finds (r27 v) q f = absurd (STOP≢SUSP f)
finds (r28 {P = P} {E = E} {s = s} {t = t} v) q f =
    control_waits P.node s t E (λ x. known_present s E x v) ∙ sym (first_wait_one P (Event s) E)
finds (r29 d h) q f = rw leave_susp (finds d q f)
finds (r30 {P = P} {r = r} d e) q f = behind d STOP≢SUSP r P.node q (λ k. finds e k f)
finds (r31 v h d) q f = rw leave_susp (finds d q f)
finds (r31_on d) q f = rw leave_susp (finds d q f)
finds (r32 v h) q f = absurd (STOP≢SUSP f)
finds (r33 v) q f = absurd (STOP≢SUSP f)
finds (r34 {P = P} {E = E} {c = c} v) q f = sym (first_wait_one P c E)
finds (r35_39 {P = P} {E = E} {b = b} {s = s} {r = r} d) q f =
    let k = (collect_none event_of r.acts (_ ∷ []) q).0 in
    let same : r.env.now s ≡ b = ap (λ F. F.now s) (unchanged d k) ∙ put_at s b E.now in
    rw (leave_susp, sign_kept b (r.env.now s) r.flag same f)
    (finds d k f ∙ sym (first_wait_scope r.acts P.node r.flag (r.env.now s)))
finds (r40 d h) q f = rw leave_susp (finds d q f)
finds (r41 {P = P} {r = r} d e) q f = behind d STOP≢SUSP r P.node q (λ k. finds e k f)
finds (r42 v h) q f = absurd (TERM≢SUSP f)
finds (r43 v h) q f = absurd (STOP≢SUSP f)
finds (r44 v) q f = absurd (STOP≢SUSP f)
finds (r45 {P = P} {E = E} {s = s} v) q f = sym (first_wait_one P (Event s) E)
finds (if_true h d) q f = rw leave_susp (finds d q f)
finds (if_true_on d) q f = rw leave_susp (finds d q f)
finds (if_false h d) q f = rw leave_susp (finds d q f)
finds (if_false_on d) q f = rw leave_susp (finds d q f)

-- the quiet pass of rule 48: in what it left
pub way_down : {free : Allowed} {P : Place} {t : Term} {E : Env} {r : Result} → Rewrites free P t E r
    → r.flag ≡ SUSP
    → r.env.move ≡ false
    → first_wait r.acts ≡ waiting_in P.node r.to r.env.now
way_down d f m = rw (quiet_unchanged d m) (sym (finds d (quiet d m) f))

-- which does wait
pub way_leads : {free : Allowed} {P : Place} {t : Term} {E : Env} {r : Result} → Rewrites free P t E r
    → r.flag ≡ SUSP
    → r.env.move ≡ false
    → (w : Wait) × (waiting_in P.node r.to r.env.now ≡ some w) × (first_wait r.acts ≡ some w)
way_leads d f m =
    let (w, e) = suspended_waits d f in
    (w, sym (way_down d f m) ∙ e, e)
