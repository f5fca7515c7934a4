-- Visits: which nodes a pass runs, by own weights k, a node being counted every time that it is run, in phase 3 too.
use Rattle.std.specs.Prelude.{ℕ, ◌+◌, ◌≤◌, true, ◌≡◌, List, [], ◌∷◌}
use Rattle.events.specs.Events.{Events, none, put}
use Rattle.junior.specs.Configuration.{Env, Event, Not, handed_in}
use Rattle.junior.specs.Program.{Program, Stop, Atom, Seq, Par, Loop, Repeat, Generate, Await, Until, Freezable}
use Rattle.junior.specs.Values.{zeros, exactly}
use Rattle.junior.specs.Term.{Term, prog, fresh}
use Rattle.junior.specs.Trace.{Place}
use Rattle.junior.specs.Rules.{Allowed, left_first, Result, Rewrites, r1, r1_on, r2, r3, r4, r4_on, r5, r8, r9, r10, r11, r12, r13}
use Rattle.junior.specs.Rules.{r4_loop, r5_loop, r14, r15, r4_repeat, r5_repeat, r16, r17, r17_on, r18, r19}
use Rattle.junior.specs.Rules.{r19_on, r20, r21, r22, r23, r24, r25, r26, r27, r28, r29, r30, r31, r31_on, r32}
use Rattle.junior.specs.Rules.{r33, r34, r35_39, r40, r41, r42, r43, r44, r45, if_true, if_true_on, if_false, if_false_on}
use Rattle.junior.specs.Instant.{Instant, r47, r48, r49}
use Rattle.junior.specs.Figures.{every}

module _ (k : Program → ℕ) where
  -- What a node's run runs below it: of each part that is run, the part's own node and what that runs below it. Where a node goes on
  -- as itself (a Loop or Repeat whose body has ended, an Until or Freezable whose body has stopped) that is no other run of it: the Repeat counts
  -- once, its body once a repetition.
  unfoldable pub below : {free : Allowed} {P : Place} {t : Term} {E : Env} {r : Result} → Rewrites free P t E r → ℕ
  below r1 = 0
  below r1_on = 0
  below r2 = 0
  below r3 = 0
  below (r4 {t = t} {q = q} d e) = k (prog t) + below d + (k q + below e)
  below (r4_on {t = t} d) = k (prog t) + below d
  below (r5 {t = t} d h) = k (prog t) + below d
  below (r8 {t = t} {u = u} d e) = k (prog t) + below d + (k (prog u) + below e)
  below (r9 {t = t} {u = u} f e d) = k (prog u) + below e + (k (prog t) + below d)
  below (r10 {t = t} h d) = k (prog t) + below d
  below (r11 {u = u} h d) = k (prog u) + below d
  below (r12 {p = p} d h) = k p + below d
  below (r13 {p = p} f d e) = k p + below d + below e
  below (r4_loop {t = t} d e) = k (prog t) + below d + below e
  below (r5_loop {t = t} d h) = k (prog t) + below d
  below (r14 h) = 0
  below (r15 h d) = below d
  below (r4_repeat {t = t} d e) = k (prog t) + below d + below e
  below (r5_repeat {t = t} d h) = k (prog t) + below d
  below r16 = 0
  below (r17 {p = p} s h d) = k p + below d
  below (r17_on {t = t} d) = k (prog t) + below d
  below (r18 s h) = 0
  below (r19 {q = q} s h d) = k q + below d
  below (r19_on {t = t} d) = k (prog t) + below d
  below (r20 s h) = 0
  below (r21 s) = 0
  below (r22 s h) = 0
  below (r23 s h) = 0
  below (r24 s) = 0
  below (r25 s) = 0
  below (r26 {t = t} s d) = k (prog t) + below d
  below (r27 s) = 0
  below (r28 s) = 0
  below (r29 {t = t} d h) = k (prog t) + below d
  below (r30 {t = t} d e) = k (prog t) + below d + below e
  below (r31 {q = q} s h d) = k q + below d
  below (r31_on {t = t} d) = k (prog t) + below d
  below (r32 s h) = 0
  below (r33 s) = 0
  below (r34 s) = 0
  below (r35_39 {t = t} d) = k (prog t) + below d
  below (r40 {t = t} d h) = k (prog t) + below d
  below (r41 {t = t} d e) = k (prog t) + below d + below e
  below (r42 s h) = 0
  below (r43 s h) = 0
  below (r44 s) = 0
  below (r45 s) = 0
  below (if_true {p = p} h d) = k p + below d
  below (if_true_on {t = t} d) = k (prog t) + below d
  below (if_false {q = q} h d) = k q + below d
  below (if_false_on {t = t} d) = k (prog t) + below d

  -- what a pass runs
  abbrev pub visits : {free : Allowed} {P : Place} {t : Term} {E : Env} {r : Result} → Rewrites free P t E r → ℕ
  visits {t = t} d = k (prog t) + below d

  -- what the passes of an instant run, pass by pass
  unfoldable pub visits_by_pass : {free : Allowed} {t : Term} {E : Env} {n : ℕ} {r : Result} → Instant free t E n r → List ℕ
  visits_by_pass (r47 d h) = visits d ∷ []
  visits_by_pass (r48 d h m i) = visits d ∷ visits_by_pass i
  visits_by_pass (r49 d h m i) = visits d ∷ visits_by_pass i

-- each at most w; all of them together
unfoldable pub EachAtMost : ℕ → List ℕ → Type 0
EachAtMost w [] = Unit {0}
EachAtMost w (n ∷ l) = (n ≤ w) × EachAtMost w l

unfoldable pub sum : List ℕ → ℕ
sum [] = 0
sum (n ∷ l) = n + sum l

-- from t the instants with these events handed in run so many nodes, pass by pass, each from the state that the one before left
pub data Visited : Term → List (Events × List ℕ) → Type 0 where
  no_more : {t : Term} → Visited t []
  next : {t : Term} {X : Events} {counts : List ℕ} {n : ℕ} {r : Result} {l : List (Events × List ℕ)}
      (i : Instant (left_first zeros) t (handed_in X) n r)
      → visits_by_pass every i ≡ counts
      → Visited r.to l
      → Visited t ((X, counts) ∷ l)

-- K3's and K7's programs (01), and the set of event 0 alone
abbrev pub P : Program
P = Par (Seq (Await (Event 0)) (Seq (Atom 7) (Generate 1))) (Await (Event 1))

abbrev pub preempted : Program
preempted = Until (Not (Event 0)) Stop (Atom 5)

abbrev pub just_0 : Events
just_0 = put 0 true none

-- How it is counted. P: Par, Seq and both Awaits, twice; all seven; then Par, in phase 3. A Repeat: itself and three Atoms. A begun
-- Loop: itself, Seq, the Stop in phase 3, and again Seq, Await and, with the event, Stop. An Until or a Freezable that tests goes on as itself.
pub record CountedSo : Type 0 where
  pub of-P : Visited (fresh P) ((none, 4 ∷ 4 ∷ []) ∷ (just_0, 7 ∷ []) ∷ (none, 1 ∷ []) ∷ [])
  pub of-Repeat : Visited (fresh (Repeat (exactly 3) (Atom 4))) ((none, 4 ∷ []) ∷ [])
  pub of-Loop : Visited (fresh (Loop (Seq (Await (Event 0)) Stop))) ((just_0, 4 ∷ []) ∷ (just_0, 6 ∷ []) ∷ (none, 5 ∷ 3 ∷ []) ∷ [])
  pub of-Until : Visited (fresh preempted) ((none, 2 ∷ 1 ∷ []) ∷ (none, 2 ∷ []) ∷ [])
  pub of-Freezable : Visited (fresh (Freezable 0 Stop)) ((none, 2 ∷ 1 ∷ []) ∷ (just_0, 2 ∷ []) ∷ [])
