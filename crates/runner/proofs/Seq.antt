-- A Seq in its first child, rules 4 and 5, and any node that has gone over into its second.
use Prim.Native.Nat.{ℕ, ◌+◌, ◌*◌, ◌≤◌, ◌<◌}
use mathlib.Core.Bool.{true, false}
use mathlib.Core.Path.{◌≡◌, refl, ap, sym, ◌∙◌}
use mathlib.Core.Logic.{◌≢◌}
use mathlib.Core.List.{List, ◌∷◌, ◌++◌}
use native.Mathlib.Omega.{arith}
use lib.ListN.{length, drop, set}
use Rattle.events.specs.Events.{Events}
use Rattle.junior.specs.declared.Flag.{Flag}
use Rattle.junior.specs.declared.Flag.TheVariants.{TERM}
use Rattle.junior.specs.Configuration.{Env}
use Rattle.junior.specs.Values.{Values}
use Rattle.junior.specs.Program.{Program, Seq, size, kind}
use Rattle.junior.specs.Term.{Term, seq0, seq2, prog, fresh}
use Rattle.junior.specs.Trace.{Place, Act, first, second}
use Rattle.junior.specs.Rules.{left_first, Result, answers, under, after, Rewrites, r4, r4_on, r5, r19_on, r31_on, if_false_on}
use Rattle.junior.specs.Figures.{LoopsStop}
use Rattle.junior.specs.Inside.{Going, pot}
use Rattle.junior.proofs.Fresh.{prog_fresh, fresh_at_rest}
use Rattle.junior.proofs.Going.{rest_going}
use Rattle.junior.proofs.Figures.{pot_fresh}
use Rattle.table.specs.Records.{size_at}
use Rattle.table.specs.Spells.{Spells}
use Rattle.table.specs.Inside.{Placed}
use Rattle.table.proofs.Tree.{written}
use Rattle.state.specs.Kinds.{seq_kind}
use Rattle.state.specs.StateBytes.{in_phase, zeros, below}
use Rattle.state.proofs.Parts.{first_of, with_first, rest_of, with_rest, fresh_zeros, own_phase}
use Rattle.state.proofs.Shape.{Shape, is_done, is_seq0, is_seq2, is_when2, is_until2, is_if2, is_local, shape_by}
use Rattle.state.proofs.Frames.{Frame, size_in, seq_first, seq_second, when_second, until_second, if_second}
use Rattle.steps.specs.Running.{Rooms, Ready, Ran, Live, Runs, Any, Kind, phase_after}
use Rattle.steps.specs.Kinds.{InSecond}
use Rattle.steps.proofs.Children.{at_node, falling, first_cut, second_cut, asks, child_ran, next_index}
use Rattle.steps.proofs.Children.{first_at, second_at, phase_is, next_in_table, till_in}
use Rattle.steps.proofs.Done.{later, ready_as, room_after, few, ran_flag, ran_zeros, ran_long, ran_then}
use Rattle.steps.proofs.Done.{back_kept, back_long, back_in, own_stays, phase_left, ran_kept, ran_phase}

-- a node x in its second child: its rule there is the child's
pub data Second : Term → Type 0 where
  in_second : {f : Term → Term} (p : Program) (o : Frame (in_phase 2) (size p) 0 f) (x : Term)
      → ((table : List ℕ) (i : ℕ) → Placed table i (prog (f x)) → size_at table (i + 1) ≡ size p)
      → ((X : Events) → Going X (f x) → Going X x)
      → ((value : Values) (P : Place) (E : Env) (r : Result) → Rewrites (left_first value) (second P p) x E r
      → Rewrites (left_first value) P (f x) E (under f r))
      → Second (f x)

second_of : {t : Term} {k : ℕ} → Shape t k 2 → Second t
unfolding Going prog Spells
second_of (is_seq2 p x) =
    in_second p (seq_second p) x (λ table i h. written table (i + 1) p h.spelled.2) (λ X g. g) (λ value P E r d. r4_on d)
second_of (is_when2 c p x) =
    in_second p (when_second c p) x (λ table i h. written table (i + 1) p h.spelled.2) (λ X g. g) (λ value P E r d. r19_on d)
second_of (is_until2 c p x) =
    in_second p (until_second c p) x (λ table i h. written table (i + 1) p h.spelled.2) (λ X g. g) (λ value P E r d. r31_on d)
second_of (is_if2 v p x) =
    in_second p (if_second v p) x (λ table i h. written table (i + 1) p h.spelled.2) (λ X g. g) (λ value P E r d. if_false_on d)
second_of (is_local true s x e) = absurd (omega arith)
second_of (is_local false s x e) = absurd (omega arith)

pub second_by : (t : Term) → InSecond t → Second t
second_by t e = second_of (shape_by t refl e)

pub second_reads : {table : List ℕ} {i : ℕ} {state words : List ℕ} {rooms : Rooms} {tally : List ℕ} {t : Term} → Second t
    → Ready 1 table i state words rooms tally t
    → 6 * (i + 1) + 5 < length table
second_reads (in_second p o x z g d) h = next_in_table o h

module _ {table : List ℕ} {i : ℕ} {state words : List ℕ} {rooms : Rooms} {tally : List ℕ} {n : ℕ} (m : n ≡ size_at table (i + 1)) where
  -- the rest of the state, behind the first child, is the second's
  pub second_fits : {t : Term} → Second t → Ready 1 table i state words rooms tally t → 4 + 4 * n ≤ length state
  second_fits (in_second p o x z g d) h = omega (arith, h.long, size_in o x, z table i h.placed)

  pub second_asks : {t : Term} → Second t → Ready 1 table i state words rooms tally t
      → {k : ℕ} (rank : ℕ) → falling table i rank ≡ k
      → (falling table (i + 1 + n) 3 < k)
      × Live 0 Any table (i + 1 + n) (rest_of state n) words rooms tally
  second_asks (in_second p o x z g d) h rank falls =
      let e = m ∙ z table i h.placed in
      asks o h (second_cut h o e) (omega arith) rank falls (ap (λ k. i + 1 + k) e) h.wide (g _ h.going)

  module _ {s words' : List ℕ} {rooms' : Rooms} {tally' : List ℕ} {α : Flag}
      (run : Runs 0 Any table (i + 1 + n) (rest_of state n) words rooms tally s words' rooms' tally' α) where
    pub second_writes : {t : Term} → Second t → Ready 1 table i state words rooms tally t
        → 0 < length (with_rest state n s)
    second_writes (in_second p o x z g d) h =
        let e = m ∙ z table i h.placed in
        let u = second_cut h o e in
        let at = at_node (i + 1 + n) in
        let r = child_ran o h u (omega arith) (ap (λ k. i + 1 + k) e) h.wide (g _ h.going) run at refl in
        back_in o h u s (omega arith) (ran_long r) 0 (omega arith)

    pub second_ran : {t : Term} → Second t → Ready 1 table i state words rooms tally t
        → {ph : ℕ}
        → ph ≡ phase_after α 2
        → (P : Place)
        → P.node ≡ i
        → Ran P t words rooms tally (set (with_rest state n s) 0 ph) words' rooms' tally' α
    second_ran (in_second p o x z g d) h after P at =
        let e = m ∙ z table i h.placed in
        let u = second_cut h o e in
        let r =
        child_ran o h u (omega arith) (ap (λ k. i + 1 + k) e) h.wide (g _ h.going) run (second P p) (second_at at p e)
        in
        ran_phase o h u r r.lengths (omega arith) refl o (phase_left α 2 ∙ ap in_phase (sym after)) (d _ _ _ _ r.rewrites) refl

-- a Seq in its first child
pub data Seq0 : Term → Type 0 where
  in_first : (x : Term) (q : Program) → Seq0 (seq0 x q)

seq0_of : {t : Term} {ph : ℕ} → Shape t seq_kind ph → ph ≢ 3 → ph ≢ 2 → Seq0 t
seq0_of (is_seq0 x q) a b = in_first x q
seq0_of (is_seq2 p x) a b = absurd (b refl)
seq0_of (is_done p e) a b = absurd (a refl)

pub seq0_by : {table : List ℕ} {i : ℕ} {state words : List ℕ} {rooms : Rooms} {tally : List ℕ} {t : Term} → Kind seq_kind t
    → Ready 0 table i state words rooms tally t
    → own_phase state ≢ 2
    → Seq0 t
seq0_by {t = t} w h n = seq0_of (shape_by t w.0 refl) w.1 (λ e. n (phase_is h ∙ e))

pub first_reads : {table : List ℕ} {i : ℕ} {state words : List ℕ} {rooms : Rooms} {tally : List ℕ} {t : Term} → Seq0 t
    → Ready 0 table i state words rooms tally t
    → 6 * (i + 1) + 5 < length table
first_reads (in_first x q) h = next_in_table (seq_first q) h

-- rule 4, by the rule of the node that has gone over
seq_over : {value : Values} {P : Place} {x x' : Term} {q : Program} {E E' : Env} {l : List Act} {r : Result}
    → Rewrites (left_first value) (first P) x E (answers TERM x' E' l)
    → Rewrites (left_first value) P (seq2 (prog x) (fresh q)) E' r
    → Rewrites (left_first value) P (seq0 x q) E (after l r)
seq_over d (r4_on e) = r4 d e

module _ {table : List ℕ} {i : ℕ} {state words : List ℕ} {rooms : Rooms} {tally : List ℕ} {n : ℕ} (m : n ≡ size_at table (i + 1)) where
  pub first_fits : {t : Term} → Seq0 t → Ready 0 table i state words rooms tally t → 4 + 4 * n ≤ length state
  first_fits (in_first x q) h = till_in (seq_first q) h (first_cut h (seq_first q) m)

  pub first_asks : {t : Term} → Seq0 t → Ready 0 table i state words rooms tally t
      → {k : ℕ} (rank : ℕ) → falling table i rank ≡ k
      → (falling table (i + 1) 3 < k)
      × Live 0 Any table (i + 1) (first_of state n) words rooms tally
  unfolding Going
  first_asks (in_first x q) h rank falls =
      asks (seq_first q) h (first_cut h (seq_first q) m) (omega arith) rank falls (next_index i) h.wide h.going

  module _ {s words' : List ℕ} {rooms' : Rooms} {tally' : List ℕ} {α : Flag}
      (run : Runs 0 Any table (i + 1) (first_of state n) words rooms tally s words' rooms' tally' α) where
    -- the first child at a place
    first_ran : (x : Term) (q : Program) → Ready 0 table i state words rooms tally (seq0 x q) → (P : Place) → P.node ≡ i
        → Ran (first P) x words rooms tally s words' rooms' tally' α
    unfolding Going
    first_ran x q h P at =
        child_ran (seq_first q) h (first_cut h (seq_first q) m) (omega arith) (next_index i) h.wide h.going run (first P)
        (first_at at)

    -- it waits
    pub seq_waits : {t : Term} → Seq0 t → Ready 0 table i state words rooms tally t → α ≢ TERM → (P : Place) → P.node ≡ i
        → Ran P t words rooms tally (with_first state n s) words' rooms' tally' α
    seq_waits (in_first x q) h w P at =
        let g = first_ran x q h P at in
        ran_kept (seq_first q) h (first_cut h (seq_first q) m) g g.lengths refl (own_stays α w) (r5 g.rewrites w) refl

    -- it has ended: the Seq goes over
    over : (x : Term) (q : Program) → Ready 0 table i state words rooms tally (seq0 x q) → α ≡ TERM
        → Ready 1 table i (with_first state n s) words' rooms' tally' (seq2 (prog x) (fresh q))
    unfolding Going prog below pot kind LoopsStop
    over x q h z =
        let u = first_cut h (seq_first q) m in
        let g = ran_flag z (first_ran x q h (at_node i) refl) in
        ready_as h (ap (Seq (prog x)) (prog_fresh q)) (back_long (seq_first q) h u s (omega arith) (ran_long g)) g.lengths
        (ap (drop 1) (back_kept (seq_first q) h u s refl)
        ∙ (ap (λ l. 0 ∷ 0 ∷ 0 ∷ (l ++ zeros q)) (ran_zeros g)
        ∙ ap (λ l. 0 ∷ 0 ∷ 0 ∷ (zeros (prog x) ++ l)) (sym (fresh_zeros q))))
        (rest_going _ (fresh q) (fresh_at_rest q))
        (room_after h g (seq2 (prog x) (fresh q)) (λ k. simp (prog_fresh q) (omega (arith, few k g h.loops.0, pot_fresh k q))))

    pub over_asks : {t : Term} → Seq0 t → Ready 0 table i state words rooms tally t → α ≡ TERM
        → Live 1 InSecond table i (with_first state n s) words' rooms' tally'
    over_asks (in_first x q) h z = (seq2 (prog x) (fresh q), refl, over x q h z)

    pub seq_goes_over : {t : Term} → Seq0 t → Ready 0 table i state words rooms tally t → α ≡ TERM
        → {state'' words'' : List ℕ} {rooms'' : Rooms} {tally'' : List ℕ} {β : Flag}
        → Runs 1 InSecond table i (with_first state n s) words' rooms' tally' state'' words'' rooms'' tally'' β
        → (P : Place)
        → P.node ≡ i
        → Ran P t words rooms tally state'' words'' rooms'' tally'' β
    seq_goes_over (in_first x q) h z then P at =
        let g = ran_flag z (first_ran x q h P at) in
        let k = then (seq2 (prog x) (fresh q)) refl (over x q h z) P at in
        ran_then h g k (seq_over g.rewrites (later g.lengths k.rewrites))
