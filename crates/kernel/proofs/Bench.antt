-- The bench list holds: its tables' verdicts and trees compute, and its instants are computed by the proof that instants exist.
use Prim.Native.Nat.{ℕ, zero, suc, ◌+◌, ◌*◌}
use mathlib.Core.Path.{◌≡◌, refl, ap, sym, subst, ◌∙◌}
use mathlib.Core.Logic.{◌≢◌, ◌⊎◌, inl, inr}
use mathlib.Core.List.{List, [], ◌∷◌, ◌++◌, map}
use native.Mathlib.Omega.{arith}
use lib.ListN.{length, drop, replicate, length-replicate}
use Rattle.events.specs.declared.EventSet.{EventSet}
use Rattle.events.specs.Events.{put, how_many, lowest}
use Rattle.events.specs.Members.{marks, members}
use Rattle.junior.specs.Configuration.{test, fixed, eval, early_true, early_false}
use Rattle.junior.specs.declared.Flag.TheVariants.{SUSP}
use Rattle.junior.specs.Program.{Stop, size, kind}
use Rattle.junior.specs.Term.{Term, atom, par, loop1, done, prog, fresh, leave}
use Rattle.junior.specs.Trace.{collect}
use Rattle.junior.specs.Rules.{left_first}
use Rattle.junior.specs.Figures.{stops, LoopsStop, figure}
use Rattle.junior.specs.AtRest.{AtRest}
use Rattle.junior.specs.Waited.{waited, first_wait, before_the_end, lacks}
use Rattle.junior.proofs.Fresh.{fresh_at_rest, prog_fresh}
use Rattle.junior.proofs.Going.{leaves_rest, program_kept}
use Rattle.junior.proofs.Exists.{goes_by, begins, seq0_runs, loop0_runs, loop1_runs, repeat0_runs, again_runs}
use Rattle.junior.proofs.Exists.{repeat1_runs, await_runs, when0_runs, if0_runs, until*_runs, until0_runs, control_runs}
use Rattle.junior.proofs.Exists.{freezable*_runs, freezable0_runs, pass_exists}
use Rattle.junior.proofs.Figures.{loops_fresh}
use Rattle.junior.proofs.Instants.{ends_by, ends_within, ends}
use Rattle.std.specs.Prelude.{Ok, Err}
use Rattle.table.specs.declared.Figures.{Figures}
use Rattle.table.specs.declared.TableRefusal.{TableRefusal}
use Rattle.table.specs.Records.{nodes}
use Rattle.table.specs.Good.{is_laid_out, children, argument_limit, good_node, parts, good_but_height, height_at_most}
use Rattle.table.specs.Good.{good_configuration}
use Rattle.table.specs.Spells.{form, configuration_of, program_of, tree_of}
use Rattle.table.specs.Verdict.{Verdict, accepted_with, ending, number_of, index_of, no_figures, figures_of, length_good, counts_good, distances_good}
use Rattle.table.specs.Verdict.{preorder, first_such, light, program_verdict, nodes_verdict, records_verdict, verdict_of}
use Rattle.state.specs.StateBytes.{below, state_bytes}
use Rattle.state.proofs.Parts.{fresh_zeros}
use Rattle.state.specs.Resting.{zero_node, zero_nodes, phase_rests, flags_rest, count_rests, rests}
use Rattle.state.specs.Pieces.{pieces_bytes}
use Rattle.store.specs.Store.{is_body, piece_good, pieces_good, store_good, store_room, adding}
use Rattle.table.specs.Part.{part_table}
use Rattle.kernel.specs.declared.Refusal.TheVariants.{Table}
use Rattle.kernel.specs.Answer.{Outcome, no_answer, outcome_number, outcome_index, start_outcome, store_outcome, instant_outcome, started_room}
use Rattle.kernel.specs.Answer.{values_of, Started}
use Rattle.kernel.specs.Bench.{Line, Entry, parking, refused, not_started, not_run, resumed, Checks, Starts, Answers}
use Rattle.kernel.specs.Bench.{Follow, Alone, word_of, words_of, turned_down, asking, storing, Shown, All, phases, K1_to_K12}
use Rattle.kernel.specs.Bench.{more_of_the_forms, loops, resumed_rooms, tests, figures, harmless_loops, waiting_tests, asking_the_box}
use Rattle.kernel.specs.Bench.{parked_pieces, refused_stores}
use Rattle.kernel.specs.Bench.{many_events, refused_tables, refused_rooms, not_at_rest, bench_list}
use Rattle.kernel.proofs.Accepted.{admitted}
use Rattle.kernel.proofs.Replies.{ran_or_not}
use Rattle.kernel.proofs.Outcomes.{start_ran}
use Rattle.kernel.proofs.OneAnswer.{one_start}
use Rattle.kernel.proofs.Lines.{down_from, sought_outcome, sought_is_outcome, signs, fit, whole_is, placed, Seen, seen, seen_run, seen_refused, past_rest}
use Rattle.kernel.proofs.Lines.{outcome_past_rest, only_answers, run_answers, refused_answers}

-- what is seen of the instants of these lines, from the term x at rest with b behind it in the room
told_by : List ℕ → ℕ → ℕ → List ℕ → (x : Term) → LoopsStop (prog x) → AtRest x → (y : Line)
    → (ending y.answer ≡ Ok tt) ⊎ (ending y.answer ≢ Ok tt)
    → ((u : Term) → LoopsStop (prog u) → AtRest u → List Seen)
    → List Seen
told_by t a f b x o r y (inl e) later =
    let (n, u, i) = ends (left_first (values_of y.values)) x o r (members y.handed) in
    seen_run y b (past_rest t a f y) n u (waited i) ∷ later u.to (rw (program_kept i) o) (leaves_rest i r)
told_by t a f b x o r y (inr e) later = seen_refused y (state_bytes x ++ b) (past_rest t a f y) ∷ later x o r

told : List ℕ → ℕ → ℕ → List ℕ → (x : Term) → LoopsStop (prog x) → AtRest x → List Line → List Seen
told t a f b x o r [] = []
told t a f b x o r (y ∷ l) = told_by t a f b x o r y (ran_or_not (ending y.answer)) (λ u p q. told t a f b u p q l)

follows : (t : List ℕ) {g a w f : ℕ} → verdict_of t ≡ accepted_with g a w f → (b : List ℕ) (x : Term) → prog x ≡ tree_of t
    → (o : LoopsStop (prog x)) (r : AtRest x) (l : List Line)
    → told t a f b x o r l ≡ map seen l
    → Follow t (state_bytes x ++ b) l
unfolding told told_by Follow
follows t v b x e o r [] h = tt
follows t {a = a} {f = f} v b x e o r (y ∷ l) h =
    go (ran_or_not (ending y.answer)) (λ u e o r. follows t v b u e o r l) h
  where
    go : (c : (ending y.answer ≡ Ok tt) ⊎ (ending y.answer ≢ Ok tt))
        → ((u : Term) → prog u ≡ tree_of t → (p : LoopsStop (prog u)) (q : AtRest u)
        → told t a f b u p q l ≡ map seen l
        → Follow t (state_bytes u ++ b) l)
        → told_by t a f b x o r y c (λ u p q. told t a f b u p q l) ≡ seen y ∷ map seen l
        → Answers t (state_bytes x ++ b) y × Follow t y.state l
    go (inl ran) later_on h =
        let (n, u, i) = ends (left_first (values_of y.values)) x o r (members y.handed) in
        let now : seen_run y b (past_rest t a f y) n u (waited i) ≡ seen y = cc in
        let later : told t a f b u.to (rw (program_kept i) o) (leaves_rest i r) l ≡ map seen l = cc in (
          run_answers t v b x e r y i ran now,
          subst (λ s. Follow t s l) (ap (λ z. z.state) now) (later_on u.to (program_kept i ∙ e) _ _ later),
        )
    go (inr not) later_on h =
        let now : seen_refused y (state_bytes x ++ b) (past_rest t a f y) ≡ seen y = cc in
        let later : told t a f b x o r l ≡ map seen l = cc in (
          refused_answers t (state_bytes x ++ b) y (past_rest t a f y) (outcome_past_rest t v b x e r y) not now,
          subst (λ s. Follow t s l) (ap (λ z. z.state) now) (later_on x e o r later),
        )

starts_by : {t s s' : List ℕ} {o : Outcome} {n i : ℕ} → Started t s s' o → outcome_number o ≡ n → outcome_index o ≡ i → Starts t s o n i s'
starts_by a n i = record { started = a; only = λ q. one_start q a; number_is = n; index_is = i }

-- the program of an accepted table, fresh
fresh_loops : (t : List ℕ) {g a w f : ℕ} → verdict_of t ≡ accepted_with g a w f → LoopsStop (prog (fresh (tree_of t)))
fresh_loops t v = loops_fresh (tree_of t) (admitted t v).loops

starts : (t : List ℕ) {g a w f : ℕ} → verdict_of t ≡ accepted_with g a w f
    → Starts t (replicate (4 * nodes t + 1) 255) (Ok tt) 0 0 (replicate (4 * nodes t) 0 ++ (255 ∷ []))
unfolding started_room
starts t v =
    let room : List ℕ = replicate (4 * nodes t + 1) 255 in
    let long : length room ≡ 4 * nodes t + 1 = length-replicate {A = ℕ} (4 * nodes t + 1) 255 in
    starts_by (record { outcome_is = start_ran t room v (omega arith); room_is = rw (behind (4 * nodes t)) }) refl refl
  where
    behind : (n : ℕ) → drop {A = ℕ} n (replicate (n + 1) 255) ≡ 255 ∷ []
    behind zero = refl
    behind (suc n) = let e : suc n + 1 ≡ suc (n + 1) = omega arith in rw e (behind n)

-- what is seen of instants that are refused, each in its own room
alone_by : List ℕ → (y : Line) → (ending y.answer ≡ Ok tt) ⊎ (ending y.answer ≢ Ok tt) → List Seen → List Seen
alone_by t y (inl e) later = []
alone_by t y (inr e) later = seen_refused y y.state (sought_outcome t y.state (members y.handed) y.lent) ∷ later

told_alone : List ℕ → List Line → List Seen
told_alone t [] = []
told_alone t (y ∷ l) = alone_by t y (ran_or_not (ending y.answer)) (told_alone t l)

stand_alone : (t : List ℕ) (l : List Line) → told_alone t l ≡ map seen l → Alone t l
unfolding told_alone alone_by Alone
stand_alone t [] h = tt
stand_alone t (y ∷ l) h = go (ran_or_not (ending y.answer)) (stand_alone t l) h
  where
    go : (c : (ending y.answer ≡ Ok tt) ⊎ (ending y.answer ≢ Ok tt))
        → (told_alone t l ≡ map seen l → Alone t l)
        → alone_by t y c (told_alone t l) ≡ seen y ∷ map seen l
        → Answers t y.state y × Alone t l
    go (inl ran) f h = absurd (let z : ◌≡◌ {A = ℕ} 0 1 = cc in omega arith)
    go (inr not) f h =
        let o = sought_outcome t y.state (members y.handed) y.lent in
        let now : seen_refused y y.state o ≡ seen y = cc in
        (refused_answers t y.state y o (sought_is_outcome t y.state (members y.handed) y.lent) not now, f cc)

-- a verdict accepts, or it refuses
abbrev Accepts : Verdict → Type 0
Accepts c = (g : ℕ) × (a : ℕ) × (w : ℕ) × (f : ℕ) × (c ≡ accepted_with g a w f)

abbrev Refuses : Verdict → Type 0
Refuses c = (why : TableRefusal) × (c ≡ Err why)

unfoldable judged : (c : Verdict) → Accepts c ⊎ Refuses c
judged (Ok x) = inl (x.generations, x.atoms, x.nodes, x.parked, refl)
judged (Err why) = inr (why, refl)

-- what is to be seen of an entry: the verdict and the instants; a verdict that refuses, its number, index and figures; the outcome of a
-- start, its number and index, and the room after it; the instants alone
data View : Type 0 where
  of_accepted : Verdict → List Seen → View
  of_refused : Verdict → ℕ → ℕ → Figures → View
  of_start : Outcome → ℕ → ℕ → List ℕ → View
  of_alone : List Seen → View

-- by its table's verdict, where it must be accepted and where it must not; else there is nothing to see
if_accepted : (t : List ℕ) → List Line → Accepts (verdict_of t) ⊎ Refuses (verdict_of t) → View
if_accepted t l (inl (g, a, w, f, v)) =
    of_accepted (accepted_with g a w f) (told t a f (255 ∷ []) (fresh (tree_of t)) (fresh_loops t v) (fresh_at_rest (tree_of t)) l)
if_accepted t l (inr e) = of_alone []

if_refused : (c : Verdict) → Accepts c ⊎ Refuses c → View
if_refused c (inl e) = of_alone []
if_refused c (inr e) = of_refused c (number_of c) (index_of c) (figures_of c)

-- an entry as it computes, and as the list has it; of one from a given room nothing is to be seen without the term that stands there
computed : Entry → View
computed (parking t g a w f l) = if_accepted t l (judged (verdict_of t))
computed (refused t c n i) = if_refused (verdict_of t) (judged (verdict_of t))
computed (not_started t s o n i) =
    let q = start_outcome t s in
    of_start q (outcome_number q) (outcome_index q) (started_room q t s)
computed (not_run t l) = of_alone (told_alone t l)
computed (resumed t s l) = of_alone []

listed : Entry → View
listed (parking t g a w f l) = of_accepted (accepted_with g a w f) (map seen l)
listed (refused t c n i) = of_refused (Err c) n i no_figures
listed (not_started t s o n i) = of_start (Err o) n i s
listed (not_run t l) = of_alone (map seen l)
listed (resumed t s l) = of_start (Ok tt) 0 0 s

-- on a refused table
module _ (t : List ℕ) (c : TableRefusal) {n i : ℕ} (h : Checks t (Err c) n i 0 0 0 0) where
  no_start : (s : List ℕ) → Starts t s (Err (Table c)) n i s
  unfolding start_outcome started_room number_of index_of
  no_start s =
      starts_by (record { outcome_is = rw h.verdict_is refl; room_is = refl }) h.number_is h.index_is

  no_instant : (s : List ℕ) (X : EventSet) (values row store : List ℕ)
      → Answers t s (asking values (storing store store (turned_down X row s (Table c) n i)))
  unfolding instant_outcome number_of index_of fit
  no_instant s X values row store =
      only_answers
      (record { outcome_is = rw h.verdict_is refl; leaves = (refl, refl) })
      (whole_is no_answer.events refl)
      h.number_is
      h.index_is

show_accepted : (t : List ℕ) (g a w f : ℕ) (l : List Line) (c : Accepts (verdict_of t) ⊎ Refuses (verdict_of t))
    → if_accepted t l c ≡ of_accepted (accepted_with g a w f) (map seen l)
    → Shown (parking t g a w f l)
unfolding if_accepted Shown number_of index_of figures_of
show_accepted t g a w f l (inl (g', a', w', f', v)) e =
    let p = tree_of t in
    let lines : told t a' f' (255 ∷ []) (fresh p) (fresh_loops t v) (fresh_at_rest p) l ≡ map seen l = cc in
    let zero_bytes : state_bytes (fresh p) ≡ replicate (4 * nodes t) 0 = fresh_zeros p ∙ ap (λ n. replicate (4 * n) 0) (admitted t v).whole in (
      record { verdict_is = v ∙ cc; number_is = refl; index_is = refl; figures_are = refl },
      starts t v,
      subst (λ z. Follow t (z ++ (255 ∷ [])) l) zero_bytes
          (follows t v (255 ∷ []) (fresh p) (prog_fresh p) (fresh_loops t v) (fresh_at_rest p) l lines),
    )
show_accepted t g a w f l (inr r) e = absurd (let z : ◌≡◌ {A = ℕ} 0 1 = cc in omega arith)

show_refused : (t : List ℕ) (c : TableRefusal) (n i : ℕ) (d : Accepts (verdict_of t) ⊎ Refuses (verdict_of t))
    → if_refused (verdict_of t) d ≡ of_refused (Err c) n i no_figures
    → Shown (refused t c n i)
unfolding if_refused Shown
show_refused t c n i (inl a) e = absurd (let z : ◌≡◌ {A = ℕ} 0 1 = cc in omega arith)
show_refused t c n i (inr r) e =
    let v : verdict_of t ≡ Err c = cc in
    let number : number_of (verdict_of t) ≡ n = cc in
    let index : index_of (verdict_of t) ≡ i = cc in
    let figures : figures_of (verdict_of t) ≡ no_figures = cc in
    let h : Checks t (Err c) n i 0 0 0 0 = record { verdict_is = v; number_is = rw v at number; index_is = rw v at index; figures_are = rw v at figures } in
    (h, no_start t c h, no_instant t c h)

shows : (e : Entry) → computed e ≡ listed e → Shown e
unfolding computed listed Shown
shows (parking t g a w f l) e = show_accepted t g a w f l (judged (verdict_of t)) e
shows (refused t c n i) e = show_refused t c n i (judged (verdict_of t)) e
shows (not_started t s o n i) e =
    let outcome : start_outcome t s ≡ Err o = cc in
    let number : outcome_number (start_outcome t s) ≡ n = cc in
    let index : outcome_index (start_outcome t s) ≡ i = cc in
    let room : started_room (start_outcome t s) t s ≡ s = cc in
    starts_by (record { outcome_is = sym outcome; room_is = sym (rw outcome at room) }) (rw outcome at number) (rw outcome at index)
shows (not_run t l) e = stand_alone t l cc
shows (resumed t s l) e = absurd (let z : ◌≡◌ {A = ℕ} 0 1 = cc in omega arith)

-- one from a given room, by the term x that stands there
resumes : (t : List ℕ) {g a w f : ℕ} → verdict_of t ≡ accepted_with g a w f → (x : Term) → prog x ≡ tree_of t
    → (o : LoopsStop (prog x)) (r : AtRest x) (l : List Line)
    → told t a f (255 ∷ []) x o r l ≡ map seen l
    → All Shown (resumed t (state_bytes x ++ (255 ∷ [])) l ∷ [])
unfolding All Shown
resumes t v x e o r l h = (follows t v (255 ∷ []) x e o r l h, tt)

all_show : (l : List Entry) → map computed l ≡ map listed l → All Shown l
unfolding All
all_show [] e = tt
all_show (x ∷ l) e = (shows x cc, all_show l cc)

and_all : (l m : List Entry) → All Shown l → All Shown m → All Shown (l ++ m)
unfolding All
and_all [] m h k = k
and_all (x ∷ l) m (s, h) k = (s, and_all l m h k)

pub bench : All Shown bench_list
unfolding computed listed if_accepted if_refused judged told told_by told_alone alone_by ran_or_not down_from signs fit placed word_of words_of phases
    verdict_of records_verdict nodes_verdict program_verdict length_good counts_good distances_good preorder first_such light number_of index_of
    figures_of good_node is_laid_out children argument_limit good_configuration good_but_height height_at_most parts configuration_of form program_of
    size kind stops early_true early_false figure start_outcome started_room instant_outcome rests phase_rests flags_rest
    count_rests zero_node zero_nodes lowest how_many marks put test fixed eval prog fresh leave collect below ends ends_within ends_by pass_exists begins goes_by
    seq0_runs loop0_runs loop1_runs repeat0_runs repeat1_runs again_runs await_runs when0_runs if0_runs until0_runs until*_runs control_runs
    LoopsStop AtRest first_wait before_the_end lacks store_outcome store_good pieces_good piece_good is_body store_room adding pieces_bytes part_table
    freezable0_runs freezable*_runs
bench =
    and_all K1_to_K12 _ (all_show K1_to_K12 refl)
    (and_all more_of_the_forms _ (all_show more_of_the_forms refl)
    (and_all loops _ (all_show loops refl)
    (and_all resumed_rooms _ resumed_shown
    (and_all tests _ (all_show tests refl)
    (and_all figures _ (all_show figures refl)
    (and_all harmless_loops _ (all_show harmless_loops refl)
    (and_all waiting_tests _ (all_show waiting_tests refl)
    (and_all many_events _ (all_show many_events refl)
    (and_all asking_the_box _ (all_show asking_the_box refl)
    (and_all parked_pieces _ (all_show parked_pieces refl)
    (and_all refused_stores _ (all_show refused_stores refl)
    (and_all refused_tables _ (all_show refused_tables refl)
    (and_all refused_rooms _ (all_show refused_rooms refl) (all_show not_at_rest refl))))))))))))))
  where
    resumed_shown : All Shown resumed_rooms
    resumed_shown =
        resumes _ refl (loop1 (par SUSP SUSP (atom 1) (done Stop))) refl (refl, (tt, tt)) (tt, tt, tt, tt, tt) _ refl
