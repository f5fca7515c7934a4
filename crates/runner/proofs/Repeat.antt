-- A Repeat or a RepeatExt, rules 14 and 15 when it begins, 4 and 5 in the rest of a run of its body, k runs being still to begin.
use Prim.Native.Nat.{ℕ, zero, suc, ◌+◌, ◌-◌, ◌/◌, ◌%◌, ◌≤◌, ◌<◌, min}
use mathlib.Core.Path.{◌≡◌, refl, ap, ap₂, sym, subst, ◌∙◌}
use mathlib.Core.Logic.{◌≢◌, ◌⊎◌, inl, inr}
use mathlib.Core.List.{List, [], ◌++◌, append-nil}
use native.Mathlib.Omega.{arith}
use native.Mathlib.Nat.{div-add-mod'}
use lib.ListN.{length, get_or, drop, set}
use borrow.Author.Tests.{eq-eqb, ne_eqb}
use borrow.Rule.Slice.PartMut.{mid_of, put_mid}
use Rattle.junior.specs.declared.Flag.{Flag}
use Rattle.junior.specs.declared.Flag.TheVariants.{TERM}
use Rattle.junior.specs.Values.{Values, Times as Number, exactly, asked, runs_of, most}
use Rattle.junior.specs.Program.{Program, Repeat, size, kind}
use Rattle.junior.specs.Term.{Term, repeat0, repeat1, prog, fresh}
use Rattle.junior.specs.Trace.{Place, first, collect}
use Rattle.junior.specs.Rules.{again, r1_on, r14, r15, r4_repeat, r5_repeat}
use Rattle.junior.specs.Figures.{LoopsStop, figure}
use Rattle.junior.specs.AtRest.{AtRest}
use Rattle.junior.specs.Inside.{Going, pot}
use Rattle.junior.proofs.Times.{below_most}
use Rattle.junior.proofs.Fresh.{prog_fresh, fresh_at_rest}
use Rattle.junior.proofs.Held.{ends_unheld}
use Rattle.junior.proofs.Going.{rest_going}
use Rattle.junior.proofs.Figures.{pot_at_rest, pot_again}
use Rattle.table.specs.Records.{word, kind_at, argument_at}
use Rattle.table.specs.Spells.{value_in, cap_in, Spells}
use Rattle.table.proofs.Loaded.{kind_parts}
use Rattle.state.specs.Kinds.{repeat_kind, repeat_ext_kind}
use Rattle.state.specs.StateBytes.{head, below, zeros}
use Rattle.state.proofs.Parts.{fresh_zeros, blank_below, own_of, own_phase, own_flags}
use Rattle.state.proofs.Shape.{Shape, is_done, is_repeat0, is_repeat1, is_ext0, is_ext1, shape_by}
use Rattle.state.proofs.Frames.{repeat_body}
use Rattle.steps.specs.Running.{Rooms, Ready, Ran, Live, Runs, Any, Times, values_in, times_at}
use Rattle.steps.specs.Kinds.{Repetition}
use Rattle.steps.proofs.LoadedNode.{repeat_below}
use Rattle.steps.proofs.Children.{at_node, falling, byte_is, only_cut, put_back, first_at, phase_is, unseen}
use Rattle.steps.proofs.Done.{later, same_lengths, ready_as, room_for, room_after, few, ran_flag, ran_zeros, ran_long, ran_alone}
use Rattle.steps.proofs.Done.{ran_by}
use Rattle.steps.proofs.Done.{ran_then, ran_around}
use Rattle.steps.proofs.Done.{back_long, back_in, own_stays}
use Rattle.runner.proofs.Only.{only_asks, only_ran}

-- one not begun, which runs a times by the values
pub data Unbegun (value : Values) (a : ℕ) : Term → Type 0 where
  unbegun : (n : Number) (p : Program) → runs_of value n ≡ a → Unbegun value a (repeat0 n p)

-- its kind
repeating : (n : Number) (p : Program) → (kind (Repeat n p) ≡ repeat_kind) ⊎ (kind (Repeat n p) ≡ repeat_ext_kind)
unfolding kind
repeating (exactly n) p = inl refl
repeating (asked v m) p = inr refl

-- the run that begins
begun_times : (a : ℕ) (n : Number) (p : Program) → Times (a - 1) (repeat1 n (a - 1) (fresh p))
unfolding prog
begun_times a n p = (repeating n (prog (fresh p)), refl, refl)

begun_below : (value : Values) (a : ℕ) (n : Number) → runs_of value n ≡ a → a ≢ 0 → a - 1 < most n
begun_below value a n e z = let one_more : a ≡ suc (a - 1) = omega arith in below_most value n (e ∙ one_more)

-- once begun it can run no more than before
pot_begun : (weight : Program → ℕ) (n : Number) (k : ℕ) (p : Program) → k < most n → pot weight (repeat1 n k (fresh p)) ≤ pot weight (repeat0 n p)
unfolding pot figure prog AtRest
pot_begun weight n k p h =
    let t = repeat1 n k (fresh p) in
    let l = pot_at_rest weight t (h, fresh_at_rest p) in
    subst (λ (q : Program). pot weight t ≤ figure weight (Repeat n q)) (prog_fresh p) l

module _ {table : List ℕ} {i : ℕ} {state words : List ℕ} {rooms : Rooms} {tally : List ℕ} where
  repeat_of : {t : Term} → Shape t repeat_kind 0 → Ready 0 table i state words rooms tally t → Unbegun (values_in tally) (argument_at table i) t
  unfolding prog Spells
  repeat_of (is_repeat0 n p) h = unbegun (exactly n) p (sym h.placed.spelled.1)

  ext_of : {t : Term} → Shape t repeat_ext_kind 0 → Ready 0 table i state words rooms tally t
      → Unbegun (values_in tally) (min (cap_in (argument_at table i)) (values_in tally (value_in (argument_at table i)))) t
  unfolding prog Spells
  ext_of (is_ext0 v m p) h =
      let (v_is, m_is) = h.placed.spelled.1 in
      unbegun (asked v m) p (ap₂ (λ m v. min m (values_in tally v)) (sym m_is) (sym v_is))

  -- it runs as often as the table says at its kind
  pub begins : {t : Term} → Repetition t → Ready 0 table i state words rooms tally t → own_phase state ≡ 0
      → Unbegun (values_in tally) (times_at table i tally) t
  begins {t} (inl e) h z =
      rw (eq-eqb (kind_at table i) repeat_kind (kind_parts h.placed ∙ e)) (repeat_of (shape_by t e (sym (phase_is h) ∙ z)) h)
  begins {t} (inr e) h z =
      let ext : kind_at table i ≡ repeat_ext_kind = kind_parts h.placed ∙ e in
      rw (ne_eqb (kind_at table i) repeat_kind (λ k. omega arith)) (ext_of (shape_by t e (sym (phase_is h) ∙ z)) h)

  -- the first of its runs: the same bytes but for the node's own
  first_run : (n : Number) (k : ℕ) (p : Program) → k < most n → Ready 0 table i state words rooms tally (repeat0 n p)
      → Ready 4 table i state words rooms tally (repeat1 n k (fresh p))
  unfolding prog below Going
  first_run n k p l h =
      ready_as h (ap (Repeat n) (prog_fresh p)) refl (same_lengths words tally) (ap (drop 4) h.bytes ∙ sym (fresh_zeros p))
      (l, rest_going _ (fresh p) (fresh_at_rest p))
      (room_for h (λ weight. pot_begun weight n k p l))

  module _ {a : ℕ} where
    pub repeat_ends : {t : Term} → Unbegun (values_in tally) a t → Ready 0 table i state words rooms tally t → a ≡ 0 → (P : Place)
        → Ran P t words rooms tally state words rooms tally TERM
    unfolding prog size below collect
    repeat_ends (unbegun n p e) h z P = ran_alone (r14 (e ∙ z)) refl (h.bytes ∙ blank_below (size p))

    -- what a turn asks, one run less being then to begin, and that it is the repetition's own run
    pub repeat_asks : {t : Term} → Unbegun (values_in tally) a t → Ready 0 table i state words rooms tally t → a ≢ 0
        → Live 4 (Times (a - 1)) table i state words rooms tally × (own_flags state ≡ 0)
    repeat_asks (unbegun n p e) h z =
        ((repeat1 n (a - 1) (fresh p), begun_times a n p, first_run n (a - 1) p (begun_below _ a n e z) h), byte_is h 1 (omega arith))

    pub repeat_ran : {t : Term} → Unbegun (values_in tally) a t → Ready 0 table i state words rooms tally t → a ≢ 0
        → {state' words' : List ℕ} {rooms' : Rooms} {tally' : List ℕ} {α : Flag}
        → Runs 4 (Times (a - 1)) table i state words rooms tally state' words' rooms' tally' α
        → (P : Place)
        → P.node ≡ i
        → Ran P t words rooms tally state' words' rooms' tally' α
    repeat_ran (unbegun n p e) h z run P at =
        let k = run (repeat1 n (a - 1) (fresh p)) (begun_times a n p) (first_run n (a - 1) p (begun_below _ a n e z) h) P at in
        let one_more : a ≡ suc (a - 1) = omega arith in
        ran_by k (r15 (e ∙ one_more) k.rewrites) refl

-- one in a run of its body, k runs being still to begin
pub data InRun : ℕ → Term → Type 0 where
  in_run : (n : Number) (k : ℕ) (x : Term) → InRun k (repeat1 n k x)

in_run_of : {t : Term} {k : ℕ} → Shape t repeat_kind 1 → (head t).count ≡ k → InRun k t
in_run_of (is_repeat1 n j x) e = subst (λ (k : ℕ). InRun k (repeat1 (exactly n) j x)) e (in_run (exactly n) j x)

ext_run_of : {t : Term} {k : ℕ} → Shape t repeat_ext_kind 1 → (head t).count ≡ k → InRun k t
ext_run_of (is_ext1 v m j x) e = subst (λ (k : ℕ). InRun k (repeat1 (asked v m) j x)) e (in_run (asked v m) j x)

pub in_run_by : (t : Term) {k : ℕ} → Times k t → InRun k t
in_run_by t (inl e, ph, c) = in_run_of (shape_by t e ph) c
in_run_by t (inr e, ph, c) = ext_run_of (shape_by t e ph) c

in_phase_1 : {t : Term} {ph : ℕ} → Shape t repeat_kind ph → ph ≢ 3 → ph ≢ 0 → ph ≡ 1
in_phase_1 (is_repeat1 n j x) a b = refl
in_phase_1 (is_repeat0 n p) a b = absurd (b refl)
in_phase_1 (is_done p e) a b = absurd (a refl)

ext_phase_1 : {t : Term} {ph : ℕ} → Shape t repeat_ext_kind ph → ph ≢ 3 → ph ≢ 0 → ph ≡ 1
ext_phase_1 (is_ext1 v m j x) a b = refl
ext_phase_1 (is_ext0 v m p) a b = absurd (b refl)
ext_phase_1 (is_done p e) a b = absurd (a refl)

begun_phase : (t : Term) → Repetition t → (head t).phase ≢ 3 → (head t).phase ≢ 0 → (head t).phase ≡ 1
begun_phase t (inl e) a b = in_phase_1 (shape_by t e refl) a b
begun_phase t (inr e) a b = ext_phase_1 (shape_by t e refl) a b

no_flags : {t : Term} {k : ℕ} → InRun k t → (head t).flags ≡ 0
no_flags (in_run n k x) = refl

module _ {table : List ℕ} {i : ℕ} {state words : List ℕ} {rooms : Rooms} {tally : List ℕ} where
  -- the rest of a run, and then what is still due
  run_then : {n : Number} {k : ℕ} {x : Term} {P : Place} → Ready 4 table i state words rooms tally (repeat1 n k x)
      → {s words' : List ℕ} {rooms' : Rooms} {tally' : List ℕ} → Ran (first P) x words rooms tally s words' rooms' tally' TERM
      → {state'' words'' : List ℕ} {rooms'' : Rooms} {tally'' : List ℕ} {α : Flag} → Ran P (again n k (prog x)) words' rooms' tally' state'' words'' rooms'' tally'' α
      → Ran P (repeat1 n k x) words rooms tally state'' words'' rooms'' tally'' α
  run_then h g r = ran_then h g r (r4_repeat g.rewrites (later g.lengths r.rewrites))

  module _ {t : Term} (w : Repetition t × ((head t).phase ≢ 3)) (h : Ready 0 table i state words rooms tally t) (begun : own_phase state ≢ 0)
      {k : ℕ}
      (is : k ≡ word state 2) where
    -- the count is what the bytes say
    pub counts : Times k t
    counts = (
      w.0,
      begun_phase t w.0 w.1 (λ e. begun (phase_is h ∙ e)),
      sym (is ∙ rw (byte_is h 2 (omega arith), byte_is h 3 (omega arith)) (div-add-mod' (head t).count 256)),
    )

    pub counts_asks : Live 4 (Times k) table i state words rooms tally × (own_flags state ≡ 0)
    counts_asks = ((t, counts, unseen h 4), byte_is h 1 (omega arith) ∙ no_flags (in_run_by t counts))

  pub times_asks : {t : Term} {k : ℕ} → InRun k t → Ready 4 table i state words rooms tally t → {m : ℕ} → falling table i 0 ≡ m
      → (falling table (i + 1) 3 < m) × Live 0 Any table (i + 1) (mid_of 4 (length state - 4) state) words rooms tally
  unfolding Going
  times_asks (in_run n k x) h falls = only_asks (repeat_body n k) h (omega arith) h.wide h.going.1 0 falls

  pub times_below : {t : Term} {k : ℕ} → InRun k t → Ready 4 table i state words rooms tally t → k < 65536
  unfolding Going prog
  times_below (in_run n k x) h = omega (arith, h.going.0, repeat_below n h.placed)

  module _ {s words' : List ℕ} {rooms' : Rooms} {tally' : List ℕ} {α : Flag}
      (run : Runs 0 Any table (i + 1) (mid_of 4 (length state - 4) state) words rooms tally s words' rooms' tally' α) where
    rest_ran : (n : Number) (k : ℕ) (x : Term) → Ready 4 table i state words rooms tally (repeat1 n k x) → (P : Place) → P.node ≡ i
        → Ran (first P) x words rooms tally s words' rooms' tally' α
    unfolding Going
    rest_ran n k x h P at = only_ran (repeat_body n k) h (omega arith) h.wide h.going.1 run (first P) (first_at at)

    pub times_writes : {t : Term} {k : ℕ} → InRun k t → Ready 4 table i state words rooms tally t
        → 4 ≤ length (put_mid 4 (length state - 4) state s)
    times_writes (in_run n k x) h =
        let o = repeat_body n k in
        back_in o h (only_cut h o) s (omega arith) (ran_long (rest_ran n k x h (at_node i) refl)) 3 (omega arith)

    back : (n : Number) (k : ℕ) (x : Term) → Ready 4 table i state words rooms tally (repeat1 n k x)
        → put_mid 4 (length state - 4) state s ≡ own_of state (s ++ [])
    back n k x h = put_back (repeat_body n k) h (only_cut h (repeat_body n k)) (omega arith) s

    -- it waits
    pub times_waits : {t : Term} {k : ℕ} → InRun k t → Ready 4 table i state words rooms tally t → own_flags state ≡ 0 → α ≢ TERM
        → {state' : List ℕ} → state' ≡ set (set (set (put_mid 4 (length state - 4) state s) 0 1) 2 (k / 256)) 3 (k % 256)
        → (P : Place)
        → P.node ≡ i
        → Ran P t words rooms tally state' words' rooms' tally' α
    times_waits (in_run n k x) h z w e P at =
        let g = rest_ran n k x h P at in
        ran_around (repeat_body n k) g g.lengths (r5_repeat g.rewrites w) refl
        (e ∙ rw (back n k x h, z, own_stays α {o = record { phase = 1; flags = 0; count = k }} w))

    -- it has ended, and was the last
    pub times_ends : {t : Term} {k : ℕ} → InRun k t → Ready 4 table i state words rooms tally t → own_flags state ≡ 0 → α ≡ TERM → k ≡ 0
        → {state' : List ℕ} → state' ≡ set (set (set (put_mid 4 (length state - 4) state s) 0 0) 2 0) 3 0
        → (P : Place)
        → P.node ≡ i
        → Ran P t words rooms tally state' words' rooms' tally' TERM
    unfolding prog size collect
    times_ends (in_run n zero x) h z a l {state'} e P at =
        let g = ran_flag a (rest_ran n zero x h P at) in
        let b : state' ≡ zeros (Repeat n (prog x)) = e ∙ rw (back n zero x h, z, append-nil s, ran_zeros g) (blank_below (size (prog x))) in
        run_then h g (ran_alone r1_on refl b)
    times_ends (in_run n (suc k) x) h z a l e P at = absurd (omega arith)

    -- it has ended, and the next begins
    next : (n : Number) (k : ℕ) (x : Term) → Ready 4 table i state words rooms tally (repeat1 n (suc k) x) → α ≡ TERM
        → Ready 4 table i (put_mid 4 (length state - 4) state s) words' rooms' tally' (repeat1 n k (fresh (prog x)))
    unfolding Going prog below pot LoopsStop
    next n k x h z =
        let o = repeat_body n (suc k) in
        let g = ran_flag z (rest_ran n (suc k) x h (at_node i) refl) in
        ready_as h (ap (Repeat n) (prog_fresh (prog x))) (back_long o h (only_cut h o) s (omega arith) (ran_long g)) g.lengths
        (ap (drop 4) (back n (suc k) x h) ∙ (append-nil s ∙ (ran_zeros g ∙ sym (fresh_zeros (prog x)))))
        (omega (arith, h.going.0), rest_going _ (fresh (prog x)) (fresh_at_rest (prog x)))
        (room_after h g (repeat1 n k (fresh (prog x)))
        (λ weight. simp (ends_unheld g.rewrites) (omega (arith, few weight g h.loops, pot_again weight n (suc k) (prog x)))))

    pub next_live : {t : Term} {k : ℕ} → InRun k t → Ready 4 table i state words rooms tally t → α ≡ TERM → k ≢ 0
        → Live 4 (Times (k - 1)) table i (put_mid 4 (length state - 4) state s) words' rooms' tally'
    unfolding prog
    next_live (in_run n zero x) h a l = absurd (l refl)
    next_live (in_run n (suc k) x) h a l =
        (repeat1 n k (fresh (prog x)), (repeating n (prog (fresh (prog x))), refl, omega arith), next n k x h a)

    pub next_flags : {t : Term} {k : ℕ} → InRun k t → Ready 4 table i state words rooms tally t → own_flags state ≡ 0
        → get_or (put_mid 4 (length state - 4) state s) 1 0 ≡ 0
    next_flags (in_run n k x) h z = ap own_flags (back n k x h) ∙ z

    pub times_again : {t : Term} {k : ℕ} → InRun k t → Ready 4 table i state words rooms tally t → α ≡ TERM → k ≢ 0
        → {state'' words'' : List ℕ} {rooms'' : Rooms} {tally'' : List ℕ} {β : Flag}
        → Runs 4 (Times (k - 1)) table i (put_mid 4 (length state - 4) state s) words' rooms' tally' state'' words'' rooms'' tally'' β
        → (P : Place)
        → P.node ≡ i
        → Ran P t words rooms tally state'' words'' rooms'' tally'' β
    unfolding prog
    times_again (in_run n zero x) h a l then P at = absurd (l refl)
    times_again (in_run n (suc k) x) h a l then P at =
        let g = ran_flag a (rest_ran n (suc k) x h P at) in
        run_then h g (then (repeat1 n k (fresh (prog x))) (repeating n (prog (fresh (prog x))), refl, omega arith) (next n k x h a) P at)
