-- The way down to a test that waits: from a node through the suspended part of each form, in the events that stand there. The node that it names is one
-- of the program's, so of two that wait apart the first is the one at the lower node.
use Prim.Native.Nat.{ℕ, suc, ◌+◌, ◌≤◌, ◌<◌}
use mathlib.Core.Bool.{Bool, true, false, cond}
use mathlib.Core.Path.{◌≡◌, refl}
use mathlib.Core.Logic.{◌≢◌}
use mathlib.Core.Option.{Option, none, some}
use native.Mathlib.Omega.{arith}
use Rattle.events.specs.Events.{Events, put}
use Rattle.junior.specs.declared.Flag.{Flag}
use Rattle.junior.specs.declared.Flag.TheVariants.{SUSP, STOP, TERM}
use Rattle.junior.specs.Configuration.{Event}
use Rattle.junior.specs.Program.{size}
use Rattle.junior.specs.Term.{Term, done, nothing, stop, atom, generate, await, seq0, seq2, par, loop0, loop1, repeat0, repeat1, when0, when1}
use Rattle.junior.specs.Term.{when2, until0, until*, until2, control, local, freezable0, freezable*, if0, if1, if2, prog}
use Rattle.junior.specs.Waited.{lacks, Wait, waits_for}
use Rattle.junior.proofs.Lower.{lower_none, lower_left, lower_right}
use Rattle.junior.proofs.Waits.{earlier}

-- a Par's first branch if it is suspended, else its second
abbrev pub branch_that_waits : Flag → Option Wait → Option Wait → Option Wait
branch_that_waits SUSP first second = first
branch_that_waits STOP first second = second
branch_that_waits TERM first second = second

pub second_waits : (α : Flag) (v w : Option Wait) → α ≢ SUSP → branch_that_waits α v w ≡ w
second_waits SUSP v w h = absurd (h refl)
second_waits STOP v w h = refl
second_waits TERM v w h = refl

-- t stands at node i, the events X being present
unfoldable pub waiting_in : ℕ → Term → Events → Option Wait
waiting_in i (done p) X = none
waiting_in i nothing X = none
waiting_in i stop X = none
waiting_in i (atom a) X = none
waiting_in i (generate s) X = none
waiting_in i (await c) X = waits_for i (lacks c X)
waiting_in i (seq0 t q) X = waiting_in (suc i) t X
waiting_in i (seq2 p t) X = waiting_in (suc i + size p) t X
waiting_in i (par α β t u) X = branch_that_waits α (waiting_in (suc i) t X) (waiting_in (suc i + size (prog t)) u X)
waiting_in i (loop0 p) X = none
waiting_in i (loop1 t) X = waiting_in (suc i) t X
waiting_in i (repeat0 n p) X = none
waiting_in i (repeat1 n k t) X = waiting_in (suc i) t X
waiting_in i (when0 c p q) X = waits_for i (lacks c X)
waiting_in i (when1 c t q) X = waiting_in (suc i) t X
waiting_in i (when2 c p t) X = waiting_in (suc i + size p) t X
waiting_in i (until0 c t q) X = waiting_in (suc i) t X
waiting_in i (until* c t q) X = waits_for i (lacks c X)
waiting_in i (until2 c p t) X = waiting_in (suc i + size p) t X
waiting_in i (control s t) X = cond (X s) (waiting_in (suc i) t X) (some (record { node = i; event = s }))
waiting_in i (local b s t) X = waiting_in (suc i) t (put s b X)
waiting_in i (freezable0 s t) X = waiting_in (suc i) t X
waiting_in i (freezable* s t) X = waits_for i (lacks (Event s) X)
waiting_in i (if0 v p q) X = none
waiting_in i (if1 v t q) X = waiting_in (suc i) t X
waiting_in i (if2 v p t) X = waiting_in (suc i + size p) t X

-- a wait, if there is one, is at a node from i up to j
pub record Within (i j : ℕ) (o : Option Wait) : Type 0 where
  pub nodes : (w : Wait) → o ≡ some w → (i ≤ w.node) × (w.node < j)

pub widen : {i i' j j' : ℕ} {o : Option Wait} → (i ≤ i') × (j' ≤ j) → Within i' j' o → Within i j o
widen h a = record { nodes = λ w e. let (lo, hi) = a.nodes w e in (omega arith, omega arith) }

pub within_none : {i j : ℕ} → Within i j none
within_none = record { nodes = λ w e. let z : ◌≡◌ {A = ℕ} 0 1 = cc in (omega arith, omega arith) }

pub within_own : {i j : ℕ} (o : Option ℕ) → i < j → Within i j (waits_for i o)
within_own none h = within_none
within_own {i} {j} (some e) h =
    record { nodes = λ w q. let z : i ≡ w.node = cc in (omega arith, omega arith) }

within_branch : {i j : ℕ} (α : Flag) (v w : Option Wait) → Within i j v → Within i j w → Within i j (branch_that_waits α v w)
within_branch SUSP v w a b = a
within_branch STOP v w a b = b
within_branch TERM v w a b = b

within_cond : {i j : ℕ} (q : Bool) (v w : Option Wait) → Within i j v → Within i j w → Within i j (cond q v w)
within_cond true v w a b = a
within_cond false v w a b = b

-- so the node that is named is one of the program's
pub inside : (t : Term) (i : ℕ) (X : Events) → Within i (i + size (prog t)) (waiting_in i t X)
unfolding waiting_in size prog
inside (done p) i X = within_none
inside nothing i X = within_none
inside stop i X = within_none
inside (atom a) i X = within_none
inside (generate s) i X = within_none
inside (await c) i X = within_own (lacks c X) (omega arith)
inside (seq0 t q) i X = widen (omega arith) (inside t _ X)
inside (seq2 p t) i X = widen (omega arith) (inside t _ X)
inside (par α β t u) i X =
    within_branch α _ _ (widen (omega arith) (inside t _ X)) (widen (omega arith) (inside u _ X))
inside (loop0 p) i X = within_none
inside (loop1 t) i X = widen (omega arith) (inside t _ X)
inside (repeat0 n p) i X = within_none
inside (repeat1 n k t) i X = widen (omega arith) (inside t _ X)
inside (when0 c p q) i X = within_own (lacks c X) (omega arith)
inside (when1 c t q) i X = widen (omega arith) (inside t _ X)
inside (when2 c p t) i X = widen (omega arith) (inside t _ X)
inside (until0 c t q) i X = widen (omega arith) (inside t _ X)
inside (until* c t q) i X = within_own (lacks c X) (omega arith)
inside (until2 c p t) i X = widen (omega arith) (inside t _ X)
inside (control s t) i X = within_cond (X s) _ _ (widen (omega arith) (inside t _ X)) (within_own (some s) (omega arith))
inside (local b s t) i X = widen (omega arith) (inside t _ (put s b X))
inside (freezable0 s t) i X = widen (omega arith) (inside t _ X)
inside (freezable* s t) i X = within_own (lacks (Event s) X) (omega arith)
inside (if0 v p q) i X = within_none
inside (if1 v t q) i X = widen (omega arith) (inside t _ X)
inside (if2 v p t) i X = widen (omega arith) (inside t _ X)

-- the first of two if there is one, else the second
abbrev pub or_else : Option Wait → Option Wait → Option Wait
or_else none w = w
or_else (some x) w = some x

-- of two waits at nodes apart the one at the lower node is the first, in whichever order they are met
pub met_in_order : {i j k : ℕ} (v w : Option Wait) → Within i j v → Within j k w → earlier v w ≡ or_else v w
met_in_order none w a b = refl
met_in_order (some x) none a b = refl
met_in_order (some x) (some y) a b =
    lower_left (λ z. z.node) x y (omega (arith, (a.nodes x refl).1, (b.nodes y refl).0))

pub met_exchanged : {i j k : ℕ} (v w : Option Wait) → Within i j v → Within j k w → earlier w v ≡ or_else v w
met_exchanged none w a b = lower_none (λ z. z.node) w
met_exchanged (some x) none a b = refl
met_exchanged (some x) (some y) a b =
    lower_right (λ z. z.node) y x (omega (arith, (a.nodes x refl).1, (b.nodes y refl).0))
