-- Demand 1: each call's outcome is that of the first of its checks that fails; a refusal writes nothing; what runs is the whole table.
use Prim.Native.Nat.{ℕ, ◌-◌}
use mathlib.Core.Bool.{Bool, true, false, cond, not, false≢true}
use mathlib.Core.Path.{◌≡◌, refl, ap, sym, ◌∙◌}
use mathlib.Core.Logic.{◌≢◌, inl, inr}
use mathlib.Core.List.{List, [], ◌∷◌, ◌++◌}
use native.Mathlib.Omega.{arith}
use lib.Dec.{ltb}
use lib.ListN.{get_or, replicate}
use Rattle.events.specs.Events.{Events, none, lowest}
use Rattle.events.specs.Members.{places}
use Rattle.junior.specs.Program.{size}
use Rattle.junior.specs.Figures.{G, A, W, F}
use Rattle.std.specs.Prelude.{Ok, Err}
use Rattle.table.specs.declared.TableRefusal.TheVariants.{BadLength, BadCounts, BadDistances, BadConfiguration, BadNode}
use Rattle.table.specs.declared.TableRefusal.TheVariants.{TooDeep, EndlessLoop, TooHeavy}
use Rattle.table.specs.Records.{nodes, configurations}
use Rattle.table.specs.Good.{good_configuration, good_node}
use Rattle.table.specs.Spells.{tree_of}
use Rattle.table.specs.Inside.{Loaded}
use Rattle.table.specs.Verdict.{Verdict, accepted_with, number_of, index_of, length_good, counts_good, distances_good, preorder, first_such, deep}
use Rattle.table.specs.Verdict.{endless, light, program_verdict, nodes_verdict, records_verdict, verdict_of}
use Rattle.state.specs.Resting.{blamed}
use Rattle.kernel.specs.declared.Refusal.TheVariants.{Table, StateRoom, NotAtRest}
use Rattle.kernel.specs.Answer.{Outcome, Rooms, Bytes, outcome_number, outcome_index, on_accepted, has_room, start_outcome, started_room}
use Rattle.kernel.specs.Answer.{unlisted, store_outcome, instant_outcome}
use Rattle.kernel.specs.Demand1.{Handed, handed, no_rooms, Check, its_length, its_counts, its_distances}
use Rattle.kernel.specs.Demand1.{its_configurations}
use Rattle.kernel.specs.Demand1.{its_nodes, its_depth, its_loops, its_figures, state_room, state_at_rest}
use Rattle.kernel.specs.Demand1.{listed_events, atom_room, good_store, parking_room, number, Passes, FirstToFail, AllPassed}
use Rattle.kernel.specs.Demand1.{ByFirstCheck, checks_of_table, checks_of_start, checks_of_instant, WholeTable}
use Rattle.kernel.specs.Demand1.{Demand1}
use Rattle.kernel.proofs.Accepted.{Admitted, admitted}
use Rattle.kernel.proofs.Outcomes.{accepted, started_table, all_passed}
use Rattle.kernel.proofs.FreePart.{good_fits, few_in_use}
use Rattle.kernel.proofs.Replies.{same_numbers, kept}
use Rattle.kernel.proofs.Checks.{ok, refusal, numbered, Shown, fails, failing}

-- the refusal of the first check of a list whose test is false, or what comes if none is
found : List Check → Handed → Outcome → Outcome
found [] h o = o
found (c ∷ l) h o = cond (ok c h) (found l h o) (refusal c h)

-- a check's number is its own
by_number : List Check
by_number =
    checks_of_start
    ++ (state_at_rest ∷ listed_events ∷ atom_room ∷ parking_room ∷ (replicate 11 its_length ++ (good_store ∷ [])))

check_at : (c : Check) → get_or by_number (number c - 1) its_length ≡ c
unfolding by_number
check_at its_length = refl
check_at its_counts = refl
check_at its_distances = refl
check_at its_configurations = refl
check_at its_nodes = refl
check_at its_depth = refl
check_at its_loops = refl
check_at its_figures = refl
check_at state_room = refl
check_at state_at_rest = refl
check_at listed_events = refl
check_at atom_room = refl
check_at good_store = refl
check_at parking_room = refl

same_check : (c d : Check) → number c ≡ number d → c ≡ d
same_check c d e = sym (check_at c) ∙ (ap (λ n. get_or by_number (n - 1) its_length) e ∙ check_at d)

no_check_0 : (c : Check) → number c ≢ 0
no_check_0 its_length e = omega arith
no_check_0 its_counts e = omega arith
no_check_0 its_distances e = omega arith
no_check_0 its_configurations e = omega arith
no_check_0 its_nodes e = omega arith
no_check_0 its_depth e = omega arith
no_check_0 its_loops e = omega arith
no_check_0 its_figures e = omega arith
no_check_0 state_room e = omega arith
no_check_0 state_at_rest e = omega arith
no_check_0 listed_events e = omega arith
no_check_0 atom_room e = omega arith
no_check_0 good_store e = omega arith
no_check_0 parking_room e = omega arith

-- each check is asked for what the ones before it have shown
Asked : List Check → Handed → Type 0
Asked [] h = Unit {0}
Asked (d ∷ l) h = Shown d h × (ok d h ≡ true → Asked l h)

-- those that need nothing shown
Plain : List Check → Type 0
Plain [] = Unit {0}
Plain (d ∷ l) = ((h : Handed) → Shown d h) × Plain l

module _ (h : Handed) where
  -- a check is passed exactly if its test is true
  passes : (c : Check) → Shown c h → ok c h ≡ true → Passes c h
  passes c s e i f = false≢true (sym (failing c h s i f).0 ∙ e)

  tested : (c : Check) → Shown c h → Passes c h → ok c h ≡ true
  tested c s p = go (ok c h) refl
    where
      go : (b : Bool) → ok c h ≡ b → ok c h ≡ true
      go true e = e
      go false e = absurd (p _ (fails c h s e))

  -- what comes behind plain checks is asked once these are passed
  asked_behind : (l m : List Check) → Plain l → (found l h (Ok tt) ≡ Ok tt → Asked m h) → Asked (l ++ m) h
  unfolding Asked Plain found
  asked_behind [] m p k = k refl
  asked_behind (d ∷ l) m (s, p) k = (s h, λ e. asked_behind l m p (λ z. k (rw e z)))

  plainly : (l : List Check) → Plain l → Asked l h
  unfolding Asked Plain
  plainly [] p = tt
  plainly (d ∷ l) (s, p) = (s h, λ e. plainly l p)

  found_refused : (l : List Check) → Asked l h → (c : Check) (j : ℕ) → FirstToFail l h c j
      → (outcome_number (found l h (Ok tt)) ≡ number c) × (outcome_index (found l h (Ok tt)) ≡ j)
  unfolding Asked found FirstToFail
  found_refused [] a c j f = absurd f
  found_refused (d ∷ l) (s, a) c j (inl (e, f)) =
      let (untrue, i) = failing d h s j f in rw untrue (numbered d h ∙ ap number e, sym i)
  found_refused (d ∷ l) (s, a) c j (inr (p, f)) = let t = tested d s p in rw t (found_refused l (a t) c j f)

  found_only_then : (l : List Check) → Asked l h → (c : Check) → outcome_number (found l h (Ok tt)) ≡ number c
      → FirstToFail l h c (outcome_index (found l h (Ok tt)))
  unfolding Asked found FirstToFail
  found_only_then [] a c e = no_check_0 c (sym e)
  found_only_then (d ∷ l) (s, a) c e = go (ok d h) refl (λ t. found_only_then l (a t) c) e
    where
      go : (b : Bool) → ok d h ≡ b
          → (ok d h ≡ true → outcome_number (found l h (Ok tt)) ≡ number c → FirstToFail l h c (outcome_index (found l h (Ok tt))))
          → outcome_number (cond b (found l h (Ok tt)) (refusal d h)) ≡ number c
          → FirstToFail (d ∷ l) h c (outcome_index (cond b (found l h (Ok tt)) (refusal d h)))
      go true y f e = inr (passes d s y, f y e)
      go false y f e = inl (same_check d c (sym (numbered d h) ∙ e), fails d h s y)

  found_taken : (l : List Check) → Asked l h → AllPassed l h → found l h (Ok tt) ≡ Ok tt
  unfolding Asked found AllPassed
  found_taken [] a p = refl
  found_taken (d ∷ l) (s, a) (p, q) = let t = tested d s p in rw t (found_taken l (a t) q)

  -- number 0 is what ran
  found_ran : (l : List Check) → outcome_number (found l h (Ok tt)) ≡ 0 → found l h (Ok tt) ≡ Ok tt
  unfolding found
  found_ran [] e = refl
  found_ran (d ∷ l) e = go (ok d h) (found_ran l) e
    where
      go : (b : Bool) → (outcome_number (found l h (Ok tt)) ≡ 0 → found l h (Ok tt) ≡ Ok tt)
          → outcome_number (cond b (found l h (Ok tt)) (refusal d h)) ≡ 0
          → cond b (found l h (Ok tt)) (refusal d h) ≡ Ok tt
      go true f e = f e
      go false f e = absurd (no_check_0 d (sym (numbered d h) ∙ e))

  found_only_so : (l : List Check) → Asked l h → outcome_number (found l h (Ok tt)) ≡ 0 → AllPassed l h
  unfolding Asked found AllPassed
  found_only_so [] a e = tt
  found_only_so (d ∷ l) (s, a) e = go (ok d h) refl (λ t. found_only_so l (a t)) e
    where
      go : (b : Bool) → ok d h ≡ b → (ok d h ≡ true → outcome_number (found l h (Ok tt)) ≡ 0 → AllPassed l h)
          → outcome_number (cond b (found l h (Ok tt)) (refusal d h)) ≡ 0
          → AllPassed (d ∷ l) h
      go true y f e = (passes d s y, f y e)
      go false y f e = absurd (no_check_0 d (sym (numbered d h) ∙ e))

  by_first : (l : List Check) → Asked l h → (n i : ℕ) → n ≡ outcome_number (found l h (Ok tt)) → i ≡ outcome_index (found l h (Ok tt))
      → ByFirstCheck l h n i
  by_first l asked n i a b =
      record {
        refused = λ c j f. let (x, y) = found_refused l asked c j f in (a ∙ x, b ∙ y);
        only_then = λ c e. rw b (found_only_then l asked c (sym a ∙ e));
        taken = λ p. let e = found_taken l asked p in (a ∙ ap outcome_number e, b ∙ ap outcome_index e);
        only_so = λ e. found_only_so l asked (sym a ∙ e);
      }

-- the verdict's checks, one after the other
verdict_checks : (go : ℕ → ℕ → Outcome) (c₁ c₂ c₃ f₄ f₅ f₆ f₇ c₈ : Bool) (j i d l g a w f : ℕ)
    → on_accepted
    (cond c₁
    (cond c₂
    (cond c₃
    (cond f₄ (Err (BadConfiguration j))
    (cond f₅ (Err (BadNode i)) (cond f₆ (Err (TooDeep d)) (cond f₇ (Err (EndlessLoop l)) (cond c₈ (accepted_with g a w f) (Err TooHeavy))))))
    (Err BadDistances))
    (Err BadCounts))
    (Err BadLength))
    go
    ≡ cond c₁
    (cond c₂
    (cond c₃
    (cond (not f₄)
    (cond (not f₅)
    (cond (not f₆) (cond (not f₇) (cond c₈ (go a f) (Err (Table TooHeavy))) (Err (Table (EndlessLoop l)))) (Err (Table (TooDeep d))))
    (Err (Table (BadNode i))))
    (Err (Table (BadConfiguration j))))
    (Err (Table BadDistances)))
    (Err (Table BadCounts)))
    (Err (Table BadLength))
verdict_checks go false c₂ c₃ f₄ f₅ f₆ f₇ c₈ j i d l g a w f = refl
verdict_checks go true false c₃ f₄ f₅ f₆ f₇ c₈ j i d l g a w f = refl
verdict_checks go true true false f₄ f₅ f₆ f₇ c₈ j i d l g a w f = refl
verdict_checks go true true true true f₅ f₆ f₇ c₈ j i d l g a w f = refl
verdict_checks go true true true false true f₆ f₇ c₈ j i d l g a w f = refl
verdict_checks go true true true false false true f₇ c₈ j i d l g a w f = refl
verdict_checks go true true true false false false true c₈ j i d l g a w f = refl
verdict_checks go true true true false false false false false j i d l g a w f = refl
verdict_checks go true true true false false false false true j i d l g a w f = refl

table_checks : (go : ℕ → ℕ → Outcome) (h : Handed)
    → on_accepted (verdict_of h.table) go ≡ found checks_of_table h (go (A (tree_of h.table)) (F (tree_of h.table)))
unfolding found verdict_of records_verdict nodes_verdict program_verdict
table_checks go h =
    let t = h.table in
    let j = lowest (configurations t) (λ j. not (good_configuration t j)) in
    let i = lowest (nodes t) (λ i. not (good_node t i)) in
    let p = tree_of t in
    let d = first_such deep (preorder 1 p) in
    let l = first_such endless (preorder 1 p) in
    verdict_checks go (length_good t) (counts_good t) (distances_good t) (ltb j (configurations t)) (ltb i (nodes t)) (ltb d (size p))
    (ltb l (size p)) (light p) j i d l (G p) (A p) (W p) (F p)

start_checks : (t s : List ℕ) → start_outcome t s ≡ found checks_of_start (handed t s none no_rooms) (Ok tt)
unfolding start_outcome found
start_checks t s = table_checks (λ a f. cond (has_room t s) (Ok tt) (Err StateRoom)) (handed t s none no_rooms)

swap : (b : Bool) (x y : Outcome) → cond b x y ≡ cond (not b) y x
swap true x y = refl
swap false x y = refl

instant_checks : (t s : List ℕ) (X : Events) (lent : Rooms) → instant_outcome t s X lent ≡ found checks_of_instant (handed t s X lent) (Ok tt)
unfolding instant_outcome store_outcome found
instant_checks t s X lent =
    table_checks _ (handed t s X lent)
    ∙ ap
    (λ o. found checks_of_table (handed t s X lent) (cond (has_room t s) o (Err StateRoom)))
    (swap (ltb (blamed t s) (nodes t)) _ _
    ∙ ap (λ o. cond (not (ltb (blamed t s) (nodes t))) o (Err (NotAtRest (blamed t s)))) (swap (ltb (unlisted t X) places) _ _))

-- a table that passes its checks is loaded
loaded_by : (h : Handed) → found checks_of_table h (Ok tt) ≡ Ok tt → Loaded h.table
loaded_by h e =
    let (g, a, w, f, v, go) = accepted (verdict_of h.table) (λ a f. (Ok tt)) (table_checks (λ a f. (Ok tt)) h ∙ e) in
    (admitted h.table v).loaded

plain_table : Plain checks_of_table
unfolding Plain
plain_table = ((λ h. tt), ((λ h. tt), ((λ h. tt), ((λ h. tt), ((λ h. tt), ((λ h. tt), ((λ h. tt), ((λ h. tt), tt))))))))

plain_start : Plain checks_of_start
unfolding Plain
plain_start = ((λ h. tt), ((λ h. tt), ((λ h. tt), ((λ h. tt), ((λ h. tt), ((λ h. tt), ((λ h. tt), ((λ h. tt), ((λ h. tt), tt)))))))))

asked_of_instant : (h : Handed) → Bytes h.store → Asked checks_of_instant h
unfolding Asked
asked_of_instant h low =
    asked_behind h checks_of_table (state_room ∷ state_at_rest ∷ listed_events ∷ atom_room ∷ good_store ∷ parking_room ∷ []) plain_table
    (λ e. (
      tt,
      λ a. (
        tt,
        λ b. (tt, λ c. (tt, λ d. ((loaded_by h e, low), λ good. ((good_fits h.table h.store good, few_in_use h.store low), λ z. tt)))),
      ),
    ))

-- an answer of check, as an outcome
as_outcome : (c : Verdict)
    → (number_of c ≡ outcome_number (on_accepted c (λ a f. (Ok tt)))) × (index_of c ≡ outcome_index (on_accepted c (λ a f. (Ok tt))))
unfolding number_of index_of
as_outcome (Ok x) = (refl, refl)
as_outcome (Err why) = (refl, refl)

unrefused : (r : Outcome) (t s : List ℕ) → outcome_number r ≢ 0 → started_room r t s ≡ s
unfolding started_room
unrefused (Ok done) t s n = absurd (n refl)
unrefused (Err why) t s n = refl

whole : (t : List ℕ) (g a w f : ℕ) → Admitted t g a w f → WholeTable t
whole t g a w f o = record { spelled = o.placed.spelled; all_records = o.whole }

pub demand_1 : Demand1
demand_1 =
    record {
      checked = λ t r e.
          let h = handed t [] none no_rooms in
          let c = table_checks (λ a f. (Ok tt)) h in
          let (n, i) = as_outcome (verdict_of t) in
          by_first h checks_of_table (plainly h checks_of_table plain_table) (number_of r) (index_of r)
          (ap number_of e ∙ (n ∙ ap outcome_number c)) (ap index_of e ∙ (i ∙ ap outcome_index c));
      started = λ {t} {s} {s'} {r} o.
          let h = handed t s none no_rooms in
          let e = o.outcome_is ∙ start_checks t s in
          by_first h checks_of_start (plainly h checks_of_start plain_start) (outcome_number r) (outcome_index r)
          (ap outcome_number e) (ap outcome_index e);
      answered = λ {t} {s} {X} {value} {lent} {s'} {left} {r} low o.
          let h = handed t s X lent in
          let e = o.outcome_is ∙ instant_checks t s X lent in
          let (n, i) = same_numbers r in
          by_first h checks_of_instant (asked_of_instant h low) (outcome_number r) (outcome_index r)
          (n ∙ ap outcome_number e) (i ∙ ap outcome_index e);
      start_writes_nothing = λ {t} {s} {s'} {r} o n. o.room_is ∙ unrefused r t s n;
      instant_writes_nothing = λ {r = r} o n. kept r o (λ e. n ((same_numbers r).0 ∙ ap outcome_number e));
      starts_whole = λ {t} {s} {s'} {r} o e.
          let all = start_checks t s in
          let ran = all ∙ found_ran (handed t s none no_rooms) checks_of_start (ap outcome_number (sym (o.outcome_is ∙ all)) ∙ e) in
          let (g, a, w, f, v) = started_table t s ran in
          whole t g a w f (admitted t v);
      runs_whole = λ {t} {s} {X} {value} {lent} {r = r} o e.
          let all = instant_checks t s X lent in
          let ran = all ∙ found_ran (handed t s X lent) checks_of_instant (ap outcome_number (sym (o.outcome_is ∙ all)) ∙ (sym (same_numbers r).0 ∙ e)) in
          let p = all_passed t s X lent ran in
          whole t _ _ _ _ (admitted t p.verdict);
    }
