-- With the left branch first, the tests that wait in a pass stand in its trace in the order of their nodes, so that the first in node order is
-- the first that the pass meets; and what answers STOP or TERM has none. The reason: a node's acts come before those of its parts only where
-- it tests itself, the first part's before the second's; and where a node goes on after a part, that part has ended or stopped.
use Prim.Native.Nat.{ℕ, suc, ◌+◌, ◌≤◌, ◌<◌}
use mathlib.Core.Path.{◌≡◌, refl, ap, ◌∙◌}
use mathlib.Core.Logic.{◌≢◌}
use mathlib.Core.List.{List, [], ◌∷◌, ◌++◌}
use mathlib.Core.Option.{Option, none, some}
use native.Mathlib.Omega.{arith}
use Rattle.junior.specs.declared.Flag.{Flag}
use Rattle.junior.specs.declared.Flag.TheVariants.{SUSP, STOP, TERM}
use Rattle.junior.specs.Flags.{γ}
use Rattle.junior.specs.Configuration.{Env}
use Rattle.junior.specs.Program.{size}
use Rattle.junior.specs.Values.{Values}
use Rattle.junior.specs.Term.{Term, prog}
use Rattle.junior.specs.Trace.{Place, Act, did_atom, did_generate, did_park, decided, waits, scope_answered, collect}
use Rattle.junior.specs.Rules.{left_first, Result, Rewrites, r1, r1_on, r2, r3, r4, r4_on, r5, r8, r9, r10, r11, r12, r13, r4_loop, r5_loop}
use Rattle.junior.specs.Rules.{r14, r15, r4_repeat, r5_repeat, r16, r17, r17_on, r18, r19, r19_on, r20, r21, r22, r23, r24, r25, r26, r27, r28}
use Rattle.junior.specs.Rules.{r29, r30, r31, r31_on, r32, r33, r34, r35_39, r40, r41, r42, r43, r44, r45, if_true, if_true_on, if_false}
use Rattle.junior.specs.Rules.{if_false_on}
use Rattle.junior.specs.Waited.{lacks, Wait, waits_for, first_wait}
use Rattle.junior.proofs.Little.{STOP≢SUSP, TERM≢SUSP, collect-++, collect_last}
use Rattle.junior.proofs.Fresh.{prog_fresh}
use Rattle.junior.proofs.Kept.{prog_again, kept}
use Rattle.junior.proofs.Waits.{earlier}
use Rattle.junior.proofs.WayDown.{Within, within_none, within_own, widen, or_else, met_in_order}

-- the nodes of the tests that wait in these acts
abbrev pub node_that_waits : Act → List ℕ
node_that_waits (did_atom a) = []
node_that_waits (did_generate s) = []
node_that_waits (did_park x) = []
node_that_waits (decided P c b E) = []
node_that_waits (waits P c E) = P.node ∷ []
node_that_waits (scope_answered n α b) = []

abbrev pub nodes_that_wait : List Act → List ℕ
nodes_that_wait l = collect node_that_waits l

-- from i up to j, each above those before it
unfoldable pub Rise : ℕ → ℕ → List ℕ → Type 0
Rise i j [] = Unit {0}
Rise i j (n ∷ l) = ((i ≤ n) × (n < j)) × Rise (suc n) j l

rise_wider : (i i' j j' : ℕ) (l : List ℕ) → i ≤ i' → j' ≤ j → Rise i' j' l → Rise i j l
unfolding Rise
rise_wider i i' j j' [] h k a = tt
rise_wider i i' j j' (n ∷ l) h k a =
    ((omega arith, omega arith), rise_wider (suc n) (suc n) j j' l (omega arith) k a.1)

rise-++ : (i j k : ℕ) (l m : List ℕ) → i ≤ j → j ≤ k → Rise i j l → Rise j k m → Rise i k (l ++ m)
unfolding Rise
rise-++ i j k [] m h o a b = rise_wider i j k k m h (omega arith) b
rise-++ i j k (n ∷ l) m h o a b =
    let (lo, hi) = a.0 in
    ((lo, omega arith), rise-++ (suc n) j k l m (omega arith) o a.1 b)

-- a node i, which has n nodes with all below it, answered α doing l: its tests that wait are in order; there are none if it isn't suspended
pub record InOrder (α : Flag) (i n : ℕ) (l : List Act) : Type 0 where
  pub rise : Rise i (i + n) (nodes_that_wait l)
  pub none_waits : α ≢ SUSP → nodes_that_wait l ≡ []

none_wait : {α : Flag} {i n : ℕ} {l : List Act} → nodes_that_wait l ≡ [] → InOrder α i n l
unfolding Rise
none_wait e = record { rise = rw e tt; none_waits = λ f. e }

one_waits : {i n : ℕ} {l : List Act} → 0 < n → nodes_that_wait l ≡ i ∷ [] → InOrder SUSP i n l
unfolding Rise
one_waits h e = record { rise = rw e ((omega arith, omega arith), tt); none_waits = λ f. absurd (f refl) }

-- the acts of a part, as the node's around it
within : {α : Flag} {i i' n n' : ℕ} {l : List Act} → (i ≤ i') × (i' + n' ≤ i + n) → InOrder α i' n' l → InOrder α i n l
within {l = l} h a =
    record { rise = rise_wider _ _ _ _ (nodes_that_wait l) h.0 h.1 a.rise; none_waits = a.none_waits }

same_nodes : {α : Flag} {i n : ℕ} {l m : List Act} → nodes_that_wait m ≡ nodes_that_wait l → InOrder α i n l → InOrder α i n m
same_nodes e a = record { rise = rw e a.rise; none_waits = λ f. e ∙ a.none_waits f }

-- behind a part that has ended or stopped
behind : {α β : Flag} {i j n k : ℕ} {l m : List Act} → InOrder β j k l → β ≢ SUSP → InOrder α i n m → InOrder α i n (l ++ m)
behind {l = l} {m = m} a h b = same_nodes (rw (collect-++ node_that_waits l m, a.none_waits h)) b

γ-answered : (α β : Flag) → γ α β ≢ SUSP → (α ≢ SUSP) × (β ≢ SUSP)
γ-answered SUSP SUSP h = absurd (h refl)
γ-answered SUSP STOP h = absurd (h refl)
γ-answered SUSP TERM h = absurd (h refl)
γ-answered STOP SUSP h = absurd (h refl)
γ-answered STOP STOP h = (STOP≢SUSP, STOP≢SUSP)
γ-answered STOP TERM h = (STOP≢SUSP, TERM≢SUSP)
γ-answered TERM SUSP h = absurd (h refl)
γ-answered TERM STOP h = (TERM≢SUSP, STOP≢SUSP)
γ-answered TERM TERM h = (TERM≢SUSP, TERM≢SUSP)

-- the acts of one branch alone
answers_as : {α β : Flag} {i n : ℕ} {l : List Act} → (β ≢ SUSP → α ≢ SUSP) → InOrder α i n l → InOrder β i n l
answers_as h a = record { rise = a.rise; none_waits = λ f. a.none_waits (h f) }

branches : (α β : Flag) {i a b : ℕ} {l m : List Act} → InOrder α (suc i) a l → InOrder β (suc i + a) b m
    → InOrder (γ α β) i (1 + a + b) (l ++ m)
branches α β {i} {a} {b} {l} {m} x y =
    record {
      rise = rw (collect-++ node_that_waits l m)
          (rise_wider i (suc i) _ _ (nodes_that_wait l ++ nodes_that_wait m) (omega arith) (omega arith)
          (rise-++ _ _ _ (nodes_that_wait l) (nodes_that_wait m) (omega arith) (omega arith) x.rise y.rise));
      none_waits = λ f.
          let (g, h) = γ-answered α β f in rw (collect-++ node_that_waits l m, x.none_waits g, y.none_waits h);
    }

pub in_order : {value : Values} {P : Place} {t : Term} {E : Env} {r : Result} → Rewrites (left_first value) P t E r
    → InOrder r.flag P.node (size (prog t)) r.acts
unfolding size prog collect
in_order r1 = none_wait refl
in_order r1_on = none_wait refl
in_order r2 = none_wait refl
in_order r3 = none_wait refl
in_order (r4 {q = q} d e) =
    behind (in_order d) TERM≢SUSP (within (omega (arith, ap size (prog_fresh q))) (in_order e))
in_order (r4_on d) = within (omega arith) (in_order d)
in_order (r5 d h) = within (omega arith) (in_order d)
in_order (r8 {r = r} {s = s} d e) = branches r.flag s.flag (in_order d) (in_order e)
in_order (r9 f e d) = absurd f
in_order (r10 {β = β} {r = r} h d) =
    within (omega arith) (answers_as (λ f. (γ-answered r.flag β f).0) (in_order d))
in_order (r11 {α = α} {r = r} h d) =
    within (omega arith) (answers_as (λ f. (γ-answered α r.flag f).1) (in_order d))
in_order (r12 {p = p} d h) = within (omega (arith, ap size (prog_fresh p))) (in_order d)
in_order (r13 f d e) = behind (in_order d) TERM≢SUSP (in_order e)
in_order (r4_loop d e) = behind (in_order d) TERM≢SUSP (in_order e)
in_order (r5_loop d h) = within (omega arith) (in_order d)
in_order (r14 h) = none_wait refl
in_order (r15 {p = p} h d) = within (omega (arith, ap size (prog_fresh p))) (in_order d)
in_order (r4_repeat {n = n} {k = k} {t = t} d e) =
    behind (in_order d) TERM≢SUSP (within (omega (arith, ap size (prog_again n k (prog t)))) (in_order e))
in_order (r5_repeat d h) = within (omega arith) (in_order d)
in_order r16 = none_wait refl
in_order (r17 {p = p} v h d) = same_nodes refl (within (omega (arith, ap size (prog_fresh p))) (in_order d))
in_order (r17_on d) = within (omega arith) (in_order d)
in_order (r18 v h) = none_wait refl
in_order (r19 {q = q} v h d) = same_nodes refl (within (omega (arith, ap size (prog_fresh q))) (in_order d))
in_order (r19_on d) = within (omega arith) (in_order d)
in_order (r20 v h) = none_wait refl
in_order (r21 v) = one_waits (omega arith) refl
in_order (r22 v h) = none_wait refl
in_order (r23 v h) = none_wait refl
in_order (r24 v) = none_wait refl
in_order (r25 v) = one_waits (omega arith) refl
in_order (r26 v d) = same_nodes refl (within (omega arith) (in_order d))
in_order (r27 v) = none_wait refl
in_order (r28 v) = one_waits (omega arith) refl
in_order (r29 d h) = within (omega arith) (in_order d)
in_order (r30 d e) = behind (in_order d) STOP≢SUSP (within (omega (arith, ap size (kept d))) (in_order e))
in_order (r31 {q = q} v h d) = same_nodes refl (within (omega (arith, ap size (prog_fresh q))) (in_order d))
in_order (r31_on d) = within (omega arith) (in_order d)
in_order (r32 v h) = none_wait refl
in_order (r33 v) = none_wait refl
in_order (r34 v) = one_waits (omega arith) refl
in_order (r35_39 {r = r} d) =
    same_nodes (collect_last node_that_waits r.acts _ refl) (within (omega arith) (in_order d))
in_order (r40 d h) = within (omega arith) (in_order d)
in_order (r41 d e) = behind (in_order d) STOP≢SUSP (within (omega (arith, ap size (kept d))) (in_order e))
in_order (r42 v h) = none_wait refl
in_order (r43 v h) = none_wait refl
in_order (r44 v) = none_wait refl
in_order (r45 v) = one_waits (omega arith) refl
in_order (if_true {p = p} h d) = within (omega (arith, ap size (prog_fresh p))) (in_order d)
in_order (if_true_on d) = within (omega arith) (in_order d)
in_order (if_false {q = q} h d) = within (omega (arith, ap size (prog_fresh q))) (in_order d)
in_order (if_false_on d) = within (omega arith) (in_order d)

-- the first test that waits in these acts
unfoldable pub first_met : List Act → Option Wait
first_met [] = none
first_met (did_atom a ∷ l) = first_met l
first_met (did_generate s ∷ l) = first_met l
first_met (did_park x ∷ l) = first_met l
first_met (decided P c b E ∷ l) = first_met l
first_met (waits P c E ∷ l) = or_else (waits_for P.node (lacks c E.now)) (first_met l)
first_met (scope_answered n α b ∷ l) = first_met l

own_wait : (i j n x : ℕ) → (i ≤ n) × (n < j) → Within i j (some (record { node = n; event = x }))
own_wait i j n x h = widen h (within_own (some x) (omega arith))

-- where the nodes rise the first met is the first in node order, and all are at nodes from i on
met_from : (i j : ℕ) (l : List Act) → Rise i j (nodes_that_wait l) → (first_wait l ≡ first_met l) × Within i j (first_wait l)
unfolding first_wait first_met collect Rise
met_from i j [] a = (refl, within_none)
met_from i j (did_atom n ∷ l) a = met_from i j l a
met_from i j (did_generate s ∷ l) a = met_from i j l a
met_from i j (did_park x ∷ l) a = met_from i j l a
met_from i j (decided P c b E ∷ l) a = met_from i j l a
met_from i j (waits P c E ∷ l) a = go (lacks c E.now) (met_from (suc P.node) j l a.1)
  where
    go : (o : Option ℕ) → (first_wait l ≡ first_met l) × Within (suc P.node) j (first_wait l)
        → (earlier (waits_for P.node o) (first_wait l) ≡ or_else (waits_for P.node o) (first_met l))
        × Within i j (earlier (waits_for P.node o) (first_wait l))
    go none (e, b) = (e, widen (omega arith) b)
    go (some x) (e, b) =
        let own = own_wait P.node (suc P.node) P.node x (omega arith) in
        let first = met_in_order _ (first_wait l) own b in
        (first, rw first (own_wait i j P.node x a.0))
met_from i j (scope_answered n α b ∷ l) a = met_from i j l a

pub meets_first : {value : Values} {P : Place} {t : Term} {E : Env} {r : Result} → Rewrites (left_first value) P t E r
    → first_wait r.acts ≡ first_met r.acts
meets_first {P = P} {t} {r = r} d = (met_from P.node _ r.acts (in_order d).rise).0
