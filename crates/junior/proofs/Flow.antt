-- One induction for every law about what a pass does to its environment and which acts it does: the law has to hold of each act
-- alone, of two passes one after the other, and of a Local if it holds of its body.
use Prim.Native.Nat.{ℕ}
use mathlib.Core.Bool.{Bool, true}
use mathlib.Core.Path.{◌≡◌}
use mathlib.Core.List.{List, [], ◌∷◌, ◌++◌}
use Rattle.junior.specs.declared.Flag.{Flag}
use Rattle.junior.specs.Configuration.{Env, Config, with_event, generated, verdict, test, unknown}
use Rattle.junior.specs.Term.{Term}
use Rattle.junior.specs.Trace.{Place, Act, Piece, did_atom, did_generate, did_park, decided, waits, scope_answered}
use Rattle.junior.specs.Rules.{Allowed, Result, Rewrites, r1, r1_on, r2, r3, r4, r4_on, r5, r8, r9, r10, r11, r12, r13, r4_loop, r5_loop, r14}
use Rattle.junior.specs.Rules.{r15, r4_repeat, r5_repeat, r16, r17, r17_on, r18, r19, r19_on, r20, r21, r22, r23, r24, r25, r26, r27, r28, r29}
use Rattle.junior.specs.Rules.{r30, r31, r31_on, r32, r33, r34, r35_39, r40, r41, r42, r43, r44, r45, if_true, if_true_on, if_false}
use Rattle.junior.specs.Rules.{if_false_on}

-- what makes R a law of every pass, R E F l being said of acts l that lead from E to F
pub record Flows (R : Env → Env → List Act → Type 0) : Type 0 where
  pub none : {E : Env} → R E E []
  pub acted : {E : Env} {a : ℕ} → R E E (did_atom a ∷ [])
  pub raised : {E : Env} {s : ℕ} → R E (generated s E) (did_generate s ∷ [])
  pub parked : {E : Env} {x : Piece} → R E E (did_park x ∷ [])
  pub read : {E : Env} {P : Place} {c : Config} {b : Bool} → test c E ≡ verdict true b → R E E (decided P c b E ∷ [])
  pub waited : {E : Env} {P : Place} {c : Config} → unknown c E → R E E (waits P c E ∷ [])
  pub chained : {E F G : Env} {l k : List Act} → R E F l → R F G k → R E G (l ++ k)
  pub scoped : {E F : Env} {l : List Act} (b : Bool) (s n : ℕ) (α : Flag)
      → R (with_event s b E) F l
      → R E (with_event s (E.now s) F) (l ++ (scope_answered n α (F.now s) ∷ []))

module _ (R : Env → Env → List Act → Type 0) (law : Flows R) where
  pub flow : {free : Allowed} {P : Place} {t : Term} {E : Env} {r : Result}
      → Rewrites free P t E r
      → R E r.env r.acts
  flow r1 = law.none
  flow r1_on = law.none
  flow r2 = law.none
  flow r3 = law.acted
  flow (r4 d e) = law.chained (flow d) (flow e)
  flow (r4_on d) = flow d
  flow (r5 d h) = flow d
  flow (r8 d e) = law.chained (flow d) (flow e)
  flow (r9 f e d) = law.chained (flow e) (flow d)
  flow (r10 h d) = flow d
  flow (r11 h d) = flow d
  flow (r12 d h) = flow d
  flow (r13 f d e) = law.chained (flow d) (flow e)
  flow (r4_loop d e) = law.chained (flow d) (flow e)
  flow (r5_loop d h) = flow d
  flow (r14 h) = law.none
  flow (r15 h d) = flow d
  flow (r4_repeat d e) = law.chained (flow d) (flow e)
  flow (r5_repeat d h) = flow d
  flow r16 = law.raised
  flow (r17 v h d) = law.chained (law.read v) (flow d)
  flow (r17_on d) = flow d
  flow (r18 v h) = law.read v
  flow (r19 v h d) = law.chained (law.read v) (flow d)
  flow (r19_on d) = flow d
  flow (r20 v h) = law.read v
  flow (r21 v) = law.waited v
  flow (r22 v h) = law.read v
  flow (r23 v h) = law.read v
  flow (r24 v) = law.read v
  flow (r25 v) = law.waited v
  flow (r26 v d) = law.chained (law.read v) (flow d)
  flow (r27 v) = law.read v
  flow (r28 v) = law.waited v
  flow (r29 d h) = flow d
  flow (r30 d e) = law.chained (flow d) (flow e)
  flow (r31 v h d) = law.chained (law.read v) (flow d)
  flow (r31_on d) = flow d
  flow (r32 v h) = law.read v
  flow (r33 v) = law.read v
  flow (r34 v) = law.waited v
  flow (r35_39 {P = P} {b = b} {s = s} {r = r} d) = law.scoped b s P.node r.flag (flow d)
  flow (r40 d h) = flow d
  flow (r41 d e) = law.chained (flow d) (flow e)
  flow (r42 v h) = law.chained (law.read v) law.parked
  flow (r43 v h) = law.chained (law.read v) law.parked
  flow (r44 v) = law.read v
  flow (r45 v) = law.waited v
  flow (if_true h d) = flow d
  flow (if_true_on d) = flow d
  flow (if_false h d) = flow d
  flow (if_false_on d) = flow d
