-- A When: testing, rules 17 to 21; and a When or an If in its first branch.
use Prim.Native.Nat.{ℕ, ◌+◌, ◌-◌, ◌*◌, ◌<◌}
use mathlib.Core.Bool.{true, false}
use mathlib.Core.Path.{◌≡◌, refl, ap, sym, ◌∙◌}
use mathlib.Core.Logic.{inl, inr}
use mathlib.Core.List.{List, [], ◌∷◌, ◌++◌}
use native.Mathlib.Omega.{arith}
use lib.Dec.{ltb}
use lib.ListN.{length, drop, set}
use borrow.Rule.Slice.PartMut.{mid_of, put_mid}
use Rattle.events.specs.Events.{Events}
use Rattle.junior.specs.declared.Flag.{Flag}
use Rattle.junior.specs.declared.Flag.TheVariants.{SUSP, STOP}
use Rattle.junior.specs.declared.Verdict.{Verdict}
use Rattle.junior.specs.declared.Verdict.TheVariants.{Sat, Unsat, Unknown}
use Rattle.junior.specs.Configuration.{Config, Env, sat, unsat, test}
use Rattle.junior.specs.Values.{Values}
use Rattle.junior.specs.Program.{Program, When, size, kind}
use Rattle.junior.specs.Term.{Term, when0, when1, when2, prog, fresh}
use Rattle.junior.specs.Trace.{Place, decided, first, collect}
use Rattle.junior.specs.Rules.{left_first, Result, under, after, Rewrites, r17, r17_on, r18, r19, r19_on, r20, r21, if_true_on}
use Rattle.junior.specs.Inside.{Going, pot}
use Rattle.junior.proofs.Fresh.{prog_fresh, fresh_at_rest}
use Rattle.junior.proofs.Going.{rest_going}
use Rattle.junior.proofs.Figures.{pot_fresh}
use Rattle.table.specs.Records.{size_at}
use Rattle.table.specs.Spells.{Spells}
use Rattle.state.specs.Kinds.{when_kind, if_kind}
use Rattle.state.specs.StateBytes.{in_phase, zeros, below, state_bytes}
use Rattle.state.proofs.Parts.{fresh_zeros}
use Rattle.state.proofs.Shape.{Shape, is_when0, is_when1, is_if1, shape_by}
use Rattle.state.proofs.Frames.{Frame, when_first, if_first}
use Rattle.steps.specs.Running.{Rooms, Ready, Ran, Live, Runs, Any, KindPhase, phase_after, env_of, end_declared}
use Rattle.steps.specs.Kinds.{InSecond}
use Rattle.runner.proofs.Stages.{InThen}
use Rattle.steps.specs.Running.{HasTest, TestRead}
use Rattle.steps.proofs.Children.{at_node, falling, first_cut, asks, child_ran, next_index, first_at}
use Rattle.steps.proofs.Done.{same_lengths, ready_as, room_for, ran_alone, ran_by, ran_long, back_in, phase_left, ran_phase}
use Rattle.steps.proofs.LoadedNode.{when_test}

-- a node x in its first branch: its rule there is the branch's
pub data Then : Term → Type 0 where
  in_then : {f : Term → Term} (q : Program) (o : Frame (in_phase 1) 0 (size q) f) (x : Term)
      → ((X : Events) → Going X (f x) → Going X x)
      → ((value : Values) (P : Place) (E : Env) (r : Result) → Rewrites (left_first value) (first P) x E r
      → Rewrites (left_first value) P (f x) E (under f r))
      → Then (f x)

then_when : {t : Term} → Shape t when_kind 1 → Then t
unfolding Going
then_when (is_when1 c x q) = in_then q (when_first c q) x (λ X g. g) (λ value P E r d. r17_on d)

then_if : {t : Term} → Shape t if_kind 1 → Then t
unfolding Going
then_if (is_if1 v x q) = in_then q (if_first v q) x (λ X g. g) (λ value P E r d. if_true_on d)

pub then_by : (t : Term) → InThen t → Then t
then_by t (inl e, p) = then_when (shape_by t e p)
then_by t (inr e, p) = then_if (shape_by t e p)

module _ {table : List ℕ} {i : ℕ} {state words : List ℕ} {rooms : Rooms} {tally : List ℕ} {n : ℕ} (m : n ≡ size_at table (i + 1)) where
  pub then_asks : {t : Term} → Then t → Ready 1 table i state words rooms tally t
      → {k : ℕ} (rank : ℕ) → falling table i rank ≡ k
      → (falling table (i + 1) 3 < k) × Live 0 Any table (i + 1) (mid_of 4 (4 + 4 * n - 4) state) words rooms tally
  then_asks (in_then q o x g d) h rank falls =
      asks o h (first_cut h o m) (omega arith) rank falls (next_index i) h.wide (g _ h.going)

  module _ {s words' : List ℕ} {rooms' : Rooms} {tally' : List ℕ} {α : Flag}
      (run : Runs 0 Any table (i + 1) (mid_of 4 (4 + 4 * n - 4) state) words rooms tally s words' rooms' tally' α) where
    branch_ran : {f : Term → Term} (q : Program) (o : Frame (in_phase 1) 0 (size q) f) (x : Term)
        → ((X : Events) → Going X (f x) → Going X x)
        → Ready 1 table i state words rooms tally (f x)
        → (P : Place)
        → P.node ≡ i
        → Ran (first P) x words rooms tally s words' rooms' tally' α
    branch_ran q o x g h P at =
        child_ran o h (first_cut h o m) (omega arith) (next_index i) h.wide (g _ h.going) run (first P) (first_at at)

    pub then_writes : {t : Term} → Then t → Ready 1 table i state words rooms tally t → 0 < length (put_mid 4 (4 + 4 * n - 4) state s)
    then_writes (in_then q o x g d) h =
        back_in o h (first_cut h o m) s (omega arith) (ran_long (branch_ran q o x g h (at_node i) refl)) 0 (omega arith)

    pub then_ran : {t : Term} → Then t → Ready 1 table i state words rooms tally t
        → {ph : ℕ}
        → ph ≡ phase_after α 1
        → (P : Place)
        → P.node ≡ i
        → Ran P t words rooms tally (set (put_mid 4 (4 + 4 * n - 4) state s) 0 ph) words' rooms' tally' α
    then_ran (in_then q o x g d) h after P at =
        let u = first_cut h o m in
        let r = branch_ran q o x g h P at in
        ran_phase o h u r r.lengths (omega arith) refl o (phase_left α 1 ∙ ap in_phase (sym after)) (d _ _ _ _ r.rewrites) refl

-- a When that tests
pub data When0 : Term → Type 0 where
  testing : (c : Config) (p q : Program) → When0 (when0 c p q)

when0_of : {t : Term} → Shape t when_kind 0 → When0 t
when0_of (is_when0 c p q) = testing c p q

pub when0_by : (t : Term) → KindPhase when_kind 0 t → When0 t
when0_by t (e, p) = when0_of (shape_by t e p)

-- a branch begins: the test is in front of what the branch does
then_begins : {value : Values} {P : Place} {c : Config} {p q : Program} {E : Env} {r : Result}
    → sat c E
    → E.eoi ≡ false
    → Rewrites (left_first value) P (when1 c (fresh p) q) E r
    → Rewrites (left_first value) P (when0 c p q) E (after (decided P c true E ∷ []) r)
then_begins s e (r17_on d) = r17 s e d

else_begins : {value : Values} {P : Place} {c : Config} {p q : Program} {E : Env} {r : Result}
    → unsat c E
    → E.eoi ≡ false
    → Rewrites (left_first value) P (when2 c p (fresh q)) E r
    → Rewrites (left_first value) P (when0 c p q) E (after (decided P c false E ∷ []) r)
else_begins s e (r19_on d) = r19 s e d

module _ {table : List ℕ} {i : ℕ} {state words : List ℕ} {rooms : Rooms} {tally : List ℕ} where
  pub when_has : {t : Term} → When0 t → Ready 0 table i state words rooms tally t → HasTest table i tally
  unfolding prog
  when_has (testing c p q) h = when_test h.tallied h.placed

  -- its bytes, the branch's zeros being its fresh state; the phase is written anew, or not looked at
  then_bytes : (c : Config) (p q : Program) → Ready 0 table i state words rooms tally (when0 c p q)
      → (ph : ℕ) → set state 0 ph ≡ ph ∷ drop 1 (state_bytes (when1 c (fresh p) q))
  unfolding below
  then_bytes c p q h ph =
      ap (λ l. set l 0 ph) h.bytes ∙ ap (λ l. ph ∷ 0 ∷ 0 ∷ 0 ∷ (l ++ zeros q)) (sym (fresh_zeros p))

  else_bytes : (c : Config) (p q : Program) → Ready 0 table i state words rooms tally (when0 c p q)
      → (ph : ℕ) → set state 0 ph ≡ ph ∷ drop 1 (state_bytes (when2 c p (fresh q)))
  unfolding below
  else_bytes c p q h ph =
      ap (λ l. set l 0 ph) h.bytes ∙ ap (λ l. ph ∷ 0 ∷ 0 ∷ 0 ∷ (zeros p ++ l)) (sym (fresh_zeros q))

  then_ready : (c : Config) (p q : Program) → Ready 0 table i state words rooms tally (when0 c p q)
      → Ready 1 table i state words rooms tally (when1 c (fresh p) q)
  unfolding Going prog below pot kind
  then_ready c p q h =
      ready_as h (ap (λ x. When c x q) (prog_fresh p)) refl (same_lengths words tally)
      (ap (drop 1) h.bytes ∙ ap (λ l. 0 ∷ 0 ∷ 0 ∷ (l ++ zeros q)) (sym (fresh_zeros p)))
      (rest_going _ (fresh p) (fresh_at_rest p))
      (room_for h (λ k. simp (prog_fresh p) (omega (arith, pot_fresh k p))))

  else_ready : (c : Config) (p q : Program) → Ready 0 table i state words rooms tally (when0 c p q)
      → Ready 1 table i state words rooms tally (when2 c p (fresh q))
  unfolding Going prog below pot kind
  else_ready c p q h =
      ready_as h (ap (When c p) (prog_fresh q)) refl (same_lengths words tally)
      (ap (drop 1) h.bytes ∙ ap (λ l. 0 ∷ 0 ∷ 0 ∷ (zeros p ++ l)) (sym (fresh_zeros q)))
      (rest_going _ (fresh q) (fresh_at_rest q))
      (room_for h (λ k. simp (prog_fresh q) (omega (arith, pot_fresh k q))))

  pub then_live : {t : Term} → When0 t → Ready 0 table i state words rooms tally t → Live 1 InThen table i state words rooms tally
  unfolding kind prog
  then_live (testing c p q) h = (when1 c (fresh p) q, (inl refl, refl), then_ready c p q h)

  pub else_live : {t : Term} → When0 t → Ready 0 table i state words rooms tally t → Live 1 InSecond table i state words rooms tally
  else_live (testing c p q) h = (when2 c p (fresh q), refl, else_ready c p q h)

  module _ {v : Verdict} (read : TestRead table i words tally v) where
    -- what the When's own configuration is read as
    own_test : (c : Config) (p q : Program) → Ready 0 table i state words rooms tally (when0 c p q) → {w : Verdict} → v ≡ w
        → test c (env_of words tally) ≡ w
    unfolding prog Spells
    own_test c p q h e = sym (read c h.placed.spelled.1) ∙ e

    pub when_waits : {t : Term} → When0 t → Ready 0 table i state words rooms tally t → v ≡ Unknown → (P : Place) → P.node ≡ i
        → Ran P t words rooms tally state words rooms tally SUSP
    unfolding collect
    when_waits (testing c p q) h e P at = ran_alone (r21 (own_test c p q h e)) refl h.bytes

    pub then_goes : {t : Term} → When0 t → Ready 0 table i state words rooms tally t → v ≡ Sat → ltb 0 (end_declared tally) ≡ false
        → {state' words' : List ℕ} {rooms' : Rooms} {tally' : List ℕ} {α : Flag}
        → Runs 1 InThen table i state words rooms tally state' words' rooms' tally' α
        → (P : Place)
        → P.node ≡ i
        → Ran P t words rooms tally state' words' rooms' tally' α
    unfolding kind prog collect
    then_goes (testing c p q) h e f run P at =
        let k = run (when1 c (fresh p) q) (inl refl, refl) (then_ready c p q h) P at in
        ran_by k (then_begins (own_test c p q h e) f k.rewrites) refl

    pub then_later : {t : Term} → When0 t → Ready 0 table i state words rooms tally t → v ≡ Sat → ltb 0 (end_declared tally) ≡ true
        → (P : Place)
        → P.node ≡ i
        → Ran P t words rooms tally (set state 0 1) words rooms tally STOP
    unfolding collect
    then_later (testing c p q) h e f P at = ran_alone (r18 (own_test c p q h e) f) refl (then_bytes c p q h 1)

    pub else_goes : {t : Term} → When0 t → Ready 0 table i state words rooms tally t → v ≡ Unsat → ltb 0 (end_declared tally) ≡ false
        → {state' words' : List ℕ} {rooms' : Rooms} {tally' : List ℕ} {α : Flag}
        → Runs 1 InSecond table i state words rooms tally state' words' rooms' tally' α
        → (P : Place)
        → P.node ≡ i
        → Ran P t words rooms tally state' words' rooms' tally' α
    unfolding collect
    else_goes (testing c p q) h e f run P at =
        let k = run (when2 c p (fresh q)) refl (else_ready c p q h) P at in
        ran_by k (else_begins (own_test c p q h e) f k.rewrites) refl

    pub else_later : {t : Term} → When0 t → Ready 0 table i state words rooms tally t → v ≡ Unsat → ltb 0 (end_declared tally) ≡ true
        → (P : Place)
        → P.node ≡ i
        → Ran P t words rooms tally (set state 0 2) words rooms tally STOP
    unfolding collect
    else_later (testing c p q) h e f P at = ran_alone (r20 (own_test c p q h e) f) refl (else_bytes c p q h 2)
