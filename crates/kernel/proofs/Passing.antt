-- An instant in the code's hands: what holds before each pass, what a pass that suspends leaves of it, and what one that ends it gives.
use Prim.Native.Nat.{ℕ, suc, ◌+◌, ◌-◌, ◌*◌, ◌≤◌, ◌<◌}
use mathlib.Core.Bool.{Bool, true, false, cond, false≢true, not}
use mathlib.Core.Path.{◌≡◌, refl, ap, sym, subst, ◌∙◌}
use mathlib.Core.Logic.{◌≢◌}
use mathlib.Core.List.{List, [], ◌∷◌, ◌++◌, append_assoc, append-nil}
use mathlib.Core.Option.{Option, none, some}
use native.Mathlib.Nat.{zero-add}
use native.Mathlib.Omega.{arith}
use mir.Val.{bool_byte}
use lib.Dec.{eqb, ltb}
use lib.ListN.{length, get_or, take, drop, set, replicate, length-append, length-set, length-replicate, drop_of_length-le}
use lib.Seq.{take_at, take_all, drop-append-add, drop-drop}
use borrow.Author.Tests.{ltb-true, ltb-false, ne_eqb, eq-eqb}
use denote.Enum.Bare.{sameb}
use Rattle.junior.specs.contracts.Flag.{the_type}
use Rattle.events.specs.declared.EventSet.{EventSet}
use Rattle.events.specs.Events.{Events, how_many, lowest}
use Rattle.events.specs.Members.{places, marks, members}
use Rattle.junior.specs.declared.Flag.{Flag}
use Rattle.junior.specs.declared.Flag.TheVariants.{SUSP, STOP, TERM}
use Rattle.junior.specs.Values.{Values}
use Rattle.junior.specs.Configuration.{Env, handed_in, unmoved, declared_end}
use Rattle.junior.specs.Program.{Program, size}
use Rattle.junior.specs.Term.{Term, prog, done}
use Rattle.junior.specs.Trace.{Act, root, atom_of, piece_of, atoms, parks, collect}
use Rattle.junior.specs.Rules.{left_first, Result, answers, after, Rewrites}
use Rattle.junior.specs.Instant.{Instant, r47, r48, r49}
use Rattle.junior.specs.Figures.{per, parking, G}
use Rattle.junior.specs.Inside.{pot}
use Rattle.junior.specs.Waited.{Wait, first_wait, before_the_end, waited}
use Rattle.junior.proofs.Little.{collect-++}
use Rattle.junior.proofs.Kept.{kept}
use Rattle.junior.proofs.Grows.{end_kept}
use Rattle.junior.proofs.Going.{rest_going, stands}
use Rattle.junior.proofs.End.{ended}
use Rattle.junior.proofs.Figures.{pot_at_rest}
use Rattle.junior.proofs.Instants.{uses_up, goes_on}
use Rattle.junior.proofs.WayFound.{way_leads}
use Rattle.junior.proofs.Waited.{one_waited}
use Rattle.table.specs.Records.{nodes}
use Rattle.table.proofs.Tree.{size_pos}
use Rattle.state.specs.StateBytes.{zeros, below, state_bytes}
use Rattle.state.specs.Pieces.{pieces_bytes}
use Rattle.state.proofs.Parts.{len_bytes}
use Rattle.state.proofs.Pieces.{pieces-++}
use Rattle.store.specs.Store.{two}
use Rattle.steps.specs.Running.{atoms_done, bytes_parked, env_of, values_in, Rooms, rooms_of, Any, Ready, Ran, Wrote, something_moved, end_declared}
use Rattle.steps.specs.Running.{ended as ended_in}
use Rattle.table.specs.Reading.{event_words}
use Rattle.steps.specs.declared.progress.Progress.{Progress}
use Rattle.steps.specs.Progress.{words_of, tally_of, next_progress, Holds}
use Rattle.steps.specs.Kinds.{all_seen}
use Rattle.steps.specs.Lent.{lent, Stands, Went, CanRun, HasRun}
use Rattle.steps.proofs.Done.{few, room_after, values_apart}
use Rattle.steps.proofs.Kept.{still}
use Rattle.steps.proofs.Tally.{byte_read}
use Rattle.kernel.specs.declared.passes.Ending.{Ending}
use Rattle.kernel.specs.Answer.{ended as Ended-by, node_of, event_at}
use Rattle.kernel.specs.Passes.{word_values, Startable, RanFree, NotBegun, Reported, LeadsIfStill, WaitsAfter}
use Rattle.kernel.proofs.FreePart.{begun_empty}
use Rattle.waiting.specs.declared.Wait as W
use Rattle.waiting.specs.Down.{StandsAt, Leads}

-- the tally for the next pass: move false, and the end declared if nothing moved
abbrev pub next_tally : List ℕ → List ℕ
next_tally l = set (set l 2 (bool_byte (eqb (something_moved l) 0))) 1 0

-- the environment for the next pass, by whether something moved
abbrev next_env : Bool → Env → Env
next_env true E = unmoved E
next_env false E = declared_end E

next_is : (words l : List ℕ) → 3 ≤ length l → ltb 0 (end_declared l) ≡ false → (m : Bool) → ltb 0 (something_moved l) ≡ m
    → env_of words (next_tally l) ≡ next_env m (env_of words l)
next_is words [] h e m f = absurd (omega arith)
next_is words (a ∷ []) h e m f = absurd (omega arith)
next_is words (a ∷ b ∷ []) h e m f = absurd (omega arith)
next_is words (a ∷ b ∷ c ∷ l) h e true f =
    let some = ltb-true 0 b f in
    rw (ne_eqb b 0 (λ z. omega arith), e)
next_is words (a ∷ b ∷ c ∷ l) h e false f =
    let none = ltb-false 0 b f in
    let zero_is : b ≡ 0 = omega arith in
    rw (eq-eqb b 0 zero_is, f)

-- which has the same values
next_values : (l : List ℕ) → values_in (next_tally l) ≡ values_in l
next_values l = values_apart (set l 2 _) 1 0 (omega arith) ∙ values_apart l 2 _ (omega arith)

next_done : (l : List ℕ) → atoms_done (next_tally l) ≡ atoms_done l
next_done [] = refl
next_done (a ∷ l) = refl

next_parked : (l : List ℕ) → bytes_parked (next_tally l) ≡ bytes_parked l
next_parked [] = refl
next_parked (a ∷ []) = refl
next_parked (a ∷ b ∷ []) = refl
next_parked (a ∷ b ∷ c ∷ l) = refl

-- numbers written behind others
wrote_on : {xs row row' : List ℕ} {at at' : ℕ} (ys row₀ : List ℕ) → Wrote xs row at row' at' → at ≡ length ys
    → row ≡ ys ++ drop (length ys) row₀
    → row' ≡ (ys ++ xs) ++ drop (length (ys ++ xs)) row₀
wrote_on {xs} {row = row} {at = at} ys row₀ w e f =
    let front : take at row ≡ ys = rw f (take_at ys (drop (length ys) row₀) at (sym e)) in
    let back : drop (at + length xs) row ≡ drop (length (ys ++ xs)) row₀ =
    rw (f, e, drop-append-add ys (drop (length ys) row₀) (length xs), drop-drop (length xs) (length ys) row₀, length-append ys xs) in
    w.row_is ∙ rw (front, back) (sym (append_assoc ys xs (drop (length (ys ++ xs)) row₀)))

-- what ends the instant from t in E ends, after so many passes that did these acts, the whole of it
abbrev Onward : Values → Term → Events → ℕ → List Act → Term → Env → Type 0
Onward value t₀ X passes acts t E =
    (n : ℕ) (r : Result) → Instant (left_first value) t E n r → Instant (left_first value) t₀ (handed_in X) (passes + n) (after acts r)

-- what the whole instant reports: o, once the end is declared in E, else what the instant from t in E will
pub record Tells (value : Values) (t₀ : Term) (X : Events) (t : Term) (E : Env) (o : Option Wait) : Type 0 where
  pub reports : {m n : ℕ} {r s : Result} (j : Instant (left_first value) t₀ (handed_in X) m r) (i : Instant (left_first value) t E n s)
      → waited j ≡ cond E.eoi o (waited i)
  pub undeclared : E.eoi ≡ false → o ≡ none

-- the numbers of an answer name this, or nothing
pub record Names (w : W.Wait) (o : Option Wait) : Type 0 where
  pub node_is : w.node ≡ node_of o
  pub event_is : w.event ≡ event_at o

-- no more passes than generations; one more once the end is declared
abbrev Soon : Term → ℕ → Term → Bool → Type 0
Soon t₀ passes t ended = passes + cond ended 0 (pot (per 7) t) ≤ G (prog t₀) + cond ended 1 0

-- from t₀ with X and these values handed in, over the rooms rooms₀: the state, the words, the rooms and the tally after so many passes
pub record Underway (table : List ℕ) (t₀ : Term) (X : Events) (value : Values) (rooms₀ : Rooms) (state words : List ℕ) (rooms : Rooms)
    (tally : List ℕ) (passes : ℕ) : Type 0 where
  pub term : Term
  pub acts : List Act
  pub ready : Ready 0 table 0 state words rooms tally term
  pub same_program : prog term ≡ prog t₀
  pub same_values : values_in tally ≡ value
  pub onward : Onward value t₀ X passes acts term (env_of words tally)
  pub done_is : atoms_done tally ≡ length (atoms acts)
  pub row_is : rooms.row ≡ atoms acts ++ drop (length (atoms acts)) rooms₀.row
  pub parked_is : bytes_parked tally ≡ length (pieces_bytes (parks acts))
  pub store_is : rooms.store ≡ pieces_bytes (parks acts) ++ drop (length (pieces_bytes (parks acts))) rooms₀.store
  pub still : (env_of words tally).move ≡ false
  pub soon : Soon t₀ passes term (env_of words tally).eoi
  pub named : Option Wait
  pub tells : Tells value t₀ X term (env_of words tally) named

module _ {table : List ℕ} {t₀ : Term} {X : Events} {value : Values} {rooms₀ : Rooms} {state words : List ℕ} {rooms : Rooms} {tally : List ℕ}
    {passes : ℕ} (u : Underway table t₀ X value rooms₀ state words rooms tally passes) where
  pub few_passes : passes ≤ G (prog t₀) + 1
  few_passes = go (env_of words tally).eoi u.soon
    where
      go : (b : Bool) → Soon t₀ passes u.term b → passes ≤ G (prog t₀) + 1
      go true h = omega arith
      go false h = omega arith

  module _ {state' words' : List ℕ} {rooms' : Rooms} {tally' : List ℕ} {α : Flag}
      (ran : Ran root u.term words rooms tally state' words' rooms' tally' α) where
    -- the acts of all passes
    abbrev pub all_acts : List Act
    all_acts = u.acts ++ ran.acts

    all_atoms : atoms all_acts ≡ atoms u.acts ++ atoms ran.acts
    all_atoms = collect-++ atom_of u.acts ran.acts

    pub row_after : rooms'.row ≡ atoms all_acts ++ drop (length (atoms all_acts)) rooms₀.row
    row_after = rw all_atoms (wrote_on (atoms u.acts) rooms₀.row ran.wrote.atoms_in u.done_is u.row_is)

    pub done_after : atoms_done tally' ≡ length (atoms all_acts)
    done_after =
        rw (all_atoms, length-append (atoms u.acts) (atoms ran.acts)) (rw u.done_is at ran.wrote.atoms_in.done_is)

    -- and the pieces
    all_pieces : pieces_bytes (parks all_acts) ≡ pieces_bytes (parks u.acts) ++ pieces_bytes (parks ran.acts)
    all_pieces = ap pieces_bytes (collect-++ piece_of u.acts ran.acts) ∙ pieces-++ (parks u.acts) (parks ran.acts)

    pub store_after : rooms'.store ≡ pieces_bytes (parks all_acts) ++ drop (length (pieces_bytes (parks all_acts))) rooms₀.store
    store_after =
        rw all_pieces (wrote_on (pieces_bytes (parks u.acts)) rooms₀.store ran.wrote.pieces_in u.parked_is u.store_is)

    pub parked_after : bytes_parked tally' ≡ length (pieces_bytes (parks all_acts))
    parked_after =
        rw (all_pieces, length-append (pieces_bytes (parks u.acts)) (pieces_bytes (parks ran.acts)))
        (rw u.parked_is at ran.wrote.pieces_in.done_is)

    -- by the values that were handed in
    by_values : Rewrites (left_first value) root u.term (env_of words tally) (answers α ran.to (env_of words' tally') ran.acts)
    by_values =
        subst
        (λ v. Rewrites (left_first v) root u.term (env_of words tally) (answers α ran.to (env_of words' tally') ran.acts))
        u.same_values
        ran.rewrites

    -- a pass that doesn't suspend ends the instant
    pub ends : α ≢ SUSP → Instant (left_first value) t₀ (handed_in X) (passes + 1) (answers α ran.to (env_of words' tally') all_acts)
    ends h = u.onward 1 _ (r47 by_values h)

    -- and what was named is what it reports
    pub reported : α ≢ SUSP → {m : ℕ} {r : Result} (j : Instant (left_first value) t₀ (handed_in X) m r) → waited j ≡ u.named
    unfolding before_the_end first_wait
    reported h j = u.tells.reports j (r47 by_values h) ∙ go (env_of words tally).eoi refl
      where
        go : (b : Bool) → (env_of words tally).eoi ≡ b → cond b u.named none ≡ u.named
        go true e = refl
        go false e = sym (u.tells.undeclared e)

  -- a pass that suspends leads to the next
  module _ {state' words' : List ℕ} {rooms' : Rooms} {tally' : List ℕ}
      (ran : Ran root u.term words rooms tally state' words' rooms' tally' SUSP) where
    not_ended : (env_of words tally).eoi ≡ false
    not_ended = go (env_of words tally).eoi refl
      where
        go : (b : Bool) → (env_of words tally).eoi ≡ b → (env_of words tally).eoi ≡ false
        go true e = absurd (ended ran.rewrites e refl)
        go false e = e

    ready_again : Ready 0 table 0 state' words' rooms' (next_tally tally') ran.to
    ready_again =
        let left = room_after u.ready ran ran.to (λ k. omega (arith, few k ran u.ready.loops)) in
        record {
          placed = rw (kept ran.rewrites) u.ready.placed;
          loops = rw (kept ran.rewrites) u.ready.loops;
          wide = rw ran.lengths.of_words u.ready.wide;
          tallied = simp length-set (ran.lengths.of_tally ∙ u.ready.tallied);
          long = ap length ran.bytes ∙ len_bytes ran.to;
          bytes = ran.bytes;
          going = goes_on ran.rewrites u.ready.going refl;
          room = rw (next_done tally') left.in_row;
          parking_room = rw (next_parked tally') left.in_store;
        }

    off : (env_of words' tally').eoi ≡ false
    off = end_kept ran.rewrites ∙ not_ended

    -- by whether something moved
    module _ (m : Bool) (moved : (env_of words' tally').move ≡ m) where
      next : env_of words' (next_tally tally') ≡ next_env m (env_of words' tally')
      next = next_is words' tally' (omega (arith, ran.lengths.of_tally, u.ready.tallied)) off m moved

    still_again : (m : Bool) → (env_of words' tally').move ≡ m → (env_of words' (next_tally tally')).move ≡ false
    still_again true e = ap (λ E. E.move) (next true e)
    still_again false e = ap (λ E. E.move) (next false e) ∙ e

    soon_again : (m : Bool) → (env_of words' tally').move ≡ m → Soon t₀ (passes + 1) ran.to (env_of words' (next_tally tally')).eoi
    soon_again true e =
        let before = rw not_ended at u.soon in
        let spent = uses_up ran.rewrites u.ready.loops u.still refl e in
        rw (ap (λ E. E.eoi) (next true e), off) (omega arith)
    soon_again false e =
        let before = rw not_ended at u.soon in
        rw (ap (λ E. E.eoi) (next false e)) (omega arith)

    onward_again : (m : Bool) → (env_of words' tally').move ≡ m
        → Onward value t₀ X (passes + 1) (all_acts ran) ran.to (env_of words' (next_tally tally'))
    onward_again m e n s i =
        let count : passes + suc n ≡ passes + 1 + n = omega arith in
        rw (append_assoc u.acts ran.acts s.acts) (rw count at (u.onward (suc n) _ (on m e (rw (next m e) at i))))
      where
        on : (m : Bool) → (env_of words' tally').move ≡ m → Instant (left_first value) ran.to (next_env m (env_of words' tally')) n s
            → Instant (left_first value) u.term (env_of words tally) (suc n) (after ran.acts s)
        on true e i = r49 (by_values ran) refl e i
        on false e i = r48 (by_values ran) refl e i

    -- what is named after it: what waits in it, if nothing moved
    abbrev pub next_named : Bool → Option Wait
    next_named m = cond m u.named (first_wait ran.acts)

    tells_next : (m : Bool) → (env_of words' tally').move ≡ m → Tells value t₀ X ran.to (next_env m (env_of words' tally')) (next_named m)
    unfolding before_the_end
    tells_next true e = record {
      reports = λ j i.
          u.tells.reports j (r49 (by_values ran) refl e i)
          ∙ (ap (λ b. cond b u.named (waited i)) not_ended ∙ sym (ap (λ b. cond b u.named (waited i)) off));
      undeclared = λ z. u.tells.undeclared not_ended;
    }
    tells_next false e = record {
      reports = λ j i.
          u.tells.reports j (r48 (by_values ran) refl e i) ∙ ap (λ b. cond b u.named (first_wait ran.acts)) not_ended;
      undeclared = λ z. absurd (false≢true (sym z));
    }

    tells_again : (m : Bool) → (env_of words' tally').move ≡ m → Tells value t₀ X ran.to (env_of words' (next_tally tally')) (next_named m)
    tells_again m e = subst (λ F. Tells value t₀ X ran.to F (next_named m)) (sym (next m e)) (tells_next m e)

    pub goes : Underway table t₀ X value rooms₀ state' words' rooms' (next_tally tally') (passes + 1)
    goes = record {
      term = ran.to;
      acts = all_acts ran;
      ready = ready_again;
      same_program = kept ran.rewrites ∙ u.same_program;
      same_values = next_values tally' ∙ (ran.lengths.of_values ∙ u.same_values);
      onward = onward_again _ refl;
      done_is = next_done tally' ∙ done_after ran;
      row_is = row_after ran;
      parked_is = next_parked tally' ∙ parked_after ran;
      store_is = store_after ran;
      still = still_again _ refl;
      soon = soon_again _ refl;
      named = next_named (env_of words' tally').move;
      tells = tells_again _ refl;
    }

    -- where nothing moved, the way down from node 0 leads to what waits
    pub leads : (env_of words' tally').move ≡ false → (w : Wait) × Leads table state' 0 (marks words') w × (first_wait ran.acts ≡ some w)
    leads e =
        let (w, led, first) = way_leads ran.rewrites refl e in
        let stands_there : StandsAt table state' 0 ran.to = record {
          placed = rw (kept ran.rewrites) u.ready.placed;
          rest = [];
          bytes = ran.bytes ∙ sym (append-nil (state_bytes ran.to));
        } in
        (w, record { term = ran.to; stands = stands_there; leads = led }, first)

-- before the first pass
pub begins : {table state row free : List ℕ} (words : List ℕ) (low high : ℕ) (b : Startable table state row free) → 64 * length words ≡ places
    → Underway table b.term (marks words) (word_values low high) (rooms_of row free) state words (rooms_of row free)
    (0 ∷ 0 ∷ 0 ∷ 0 ∷ low ∷ high ∷ []) 0
unfolding collect pieces_bytes
begins words low high b wide =
    let t = b.term in
    record {
      term = t;
      acts = [];
      ready = record {
        placed = b.placed;
        loops = b.loops;
        wide = wide;
        tallied = refl;
        long = ap length b.bytes ∙ len_bytes t;
        bytes = b.bytes;
        going = rest_going (marks words) t b.at_rest;
        room = omega (arith, pot_at_rest (per 2) t b.at_rest, b.room);
        parking_room = omega (arith, pot_at_rest parking t b.at_rest, b.parking_room);
      };
      same_program = refl;
      same_values = refl;
      onward = λ n r i. rw (zero-add n) i;
      done_is = refl;
      row_is = refl;
      parked_is = refl;
      store_is = refl;
      still = refl;
      soon = omega (arith, pot_at_rest (per 7) t b.at_rest);
      named = none;
      tells = record { reports = λ j i. one_waited j i; undeclared = λ z. refl };
    }

-- the bytes of what has ended: all zero, and marked as phase 3
ended_bytes : (p : Program) → set (zeros p) 0 3 ≡ state_bytes (done p)
unfolding below
ended_bytes p = let e : 4 * size p ≡ suc (suc (suc (suc (4 * size p - 4)))) = omega (arith, size_pos p) in ap (λ n. set (replicate n 0) 0 3) e

module _ {table : List ℕ} {t₀ : Term} {X : Events} {value : Values} {rooms₀ : Rooms} {state words : List ℕ} {rooms : Rooms} {tally : List ℕ}
    {passes : ℕ} (u : Underway table t₀ X value rooms₀ state words rooms tally passes) {state' words' : List ℕ} {rooms' : Rooms}
    {tally' : List ℕ} where
  marked_ended : (ran : Ran root u.term words rooms tally state' words' rooms' tally' TERM) → set state' 0 3 ≡ state_bytes ran.to
  unfolding prog
  marked_ended ran =
      let (p, e) = stands ran.rewrites u.ready.going in
      rw (ran.bytes, e) (ended_bytes p)

  -- and so what any pass leaves is the term's bytes, node 0 being marked if it has ended
  pub left_bytes : (α : Flag) (ran : Ran root u.term words rooms tally state' words' rooms' tally' α)
      → ended_in α 0 3 state' ≡ state_bytes ran.to
  left_bytes SUSP ran = ran.bytes
  left_bytes STOP ran = ran.bytes
  left_bytes TERM ran = marked_ended ran

  -- node 0 has bytes
  pub some_bytes : (α : Flag) → Ran root u.term words rooms tally state' words' rooms' tally' α → 0 < length state'
  some_bytes SUSP ran = omega (arith, ap length ran.bytes ∙ len_bytes ran.to, size_pos (prog ran.to))
  some_bytes STOP ran = omega (arith, ap length ran.bytes ∙ len_bytes ran.to, size_pos (prog ran.to))
  some_bytes TERM ran =
      let p = prog ran.to in
      let n = ap length ran.bytes ∙ length-replicate {A = ℕ} (4 * size p) 0 in
      omega (arith, size_pos p)

-- whether the program has finished, by the flag's number
pub finished_by : (α : Flag) {b : Bool} → b ≡ sameb the_type α TERM → b ≡ Ended-by α
finished_by SUSP e = e
finished_by STOP e = e
finished_by TERM e = e

-- the answer of an instant that has ended
pub run_of : {t s row₀ free₀ state words : List ℕ} {rooms : Rooms} {tally : List ℕ} {X : Events} {passes : ℕ} {value : Values}
    (b : Startable t s row₀ free₀) (u : Underway t b.term X value (rooms_of row₀ free₀) state words rooms tally passes)
    {state' words' : List ℕ} {rooms' : Rooms} {tally' : List ℕ} {α : Flag}
    (ran : Ran root u.term words rooms tally state' words' rooms' tally' α)
    → α ≢ SUSP
    → {s' : List ℕ} → s' ≡ state_bytes ran.to
    → {events : EventSet} → events.words ≡ words'
    → {waits : W.Wait} → Names waits u.named
    → {r : Ending} → Reported events (atoms_done tally') (bytes_parked tally') (Ended-by α) (passes + 1) waits r
    → RanFree t s X value row₀ free₀ s' rooms'.row rooms'.store r
run_of {t} {s} {row₀ = row₀} {free₀ = free₀} {words = words} {tally = tally} {X} {value = value} b u {words' = words'} {rooms' = rooms'} {tally'} {α}
    ran h {s'} e w n {r} o =
    let all : take (4 * nodes t) s ≡ s = take_all (4 * nodes t) s (omega (arith, b.long)) in
    let none : drop (4 * nodes t) s ≡ [] = drop_of_length-le s {i = 4 * nodes t} (omega (arith, b.long)) in
    let instant : Instant (left_first value) b.term (handed_in X) r.answer.passes (answers α ran.to (env_of words' tally') (all_acts u ran)) =
    rw o.passes_are (ends u ran h) in
    let told = reported u ran h instant in
    let pieces = pieces_bytes (parks (all_acts u ran)) in
    record {
      run = record {
        term = b.term;
        program = b.program;
        bytes = all ∙ b.bytes;
        at_rest = b.at_rest;
        result = answers α ran.to (env_of words' tally') (all_acts u ran);
        instant = instant;
        events_are = ap members o.events_are ∙ ap marks w;
        count_is = o.count_is ∙ ap (λ l. how_many places (marks l)) w;
        lowest_is = o.lowest_is ∙ ap (λ l. lowest places (marks l)) w;
        atoms_are = o.atoms_are ∙ done_after u ran;
        finished_is = o.finished_is;
        waits_node_is = ap (λ x. x.node) o.waits_are ∙ (n.node_is ∙ ap node_of (sym told));
        waits_event_is = ap (λ x. x.event) o.waits_are ∙ (n.event_is ∙ ap event_at (sym told));
        state_is = e ∙ (sym (append-nil (state_bytes ran.to)) ∙ ap (λ l. state_bytes ran.to ++ l) (sym none));
        row_is = row_after u ran ∙ ap (λ n. atoms (all_acts u ran) ++ drop n row₀) (sym (o.atoms_are ∙ done_after u ran));
        store_is =
            ap (λ (n : ℕ). two n ++ rooms'.store) (o.parked_is ∙ parked_after u ran)
            ∙ (ap (λ (l : List ℕ). two (length pieces) ++ l) (store_after u ran) ∙ sym (begun_empty pieces free₀));
      };
      parked_is = o.parked_is ∙ parked_after u ran;
    }

-- the tally between two passes
next_tallied : (m : Progress) → tally_of (next_progress m) ≡ next_tally (tally_of m)
next_tallied m = ap (λ (b : Bool). set (set (tally_of m) 2 (bool_byte b)) 1 0) (none m.moved)
  where
    none : (b : Bool) → not b ≡ eqb (bool_byte b) 0
    none true = refl
    none false = refl

-- before the first pass
pub begins_by : {table state row free : List ℕ} (b : Startable table state row free) {m : Progress} → NotBegun table m → length (words_of m) ≡ event_words
    → (u : Underway table b.term (marks (words_of m)) (values_in (tally_of m)) (rooms_of row free) state (words_of m) (rooms_of row free) (tally_of m) 0)
    × Holds table m
    × (u.named ≡ none)
unfolding begins
begins_by b {m} n l =
    let low = get_or m.values 0 0 in
    let high = get_or m.values 1 0 in
    rw n (begins (words_of m) low high b (ap (λ n. 64 * n) l), record { long = l; base = refl }, refl)

module _ {table : List ℕ} {t₀ : Term} {X : Events} {value : Values} {rooms₀ : Rooms} {state : List ℕ} {m : Progress} {rooms : Rooms} {passes : ℕ}
    (u : Underway table t₀ X value rooms₀ state (words_of m) rooms (tally_of m) passes) (n : Holds table m) where
  -- node 0 can be run: its bytes are all of the state
  whole : Stands all_seen Any (lent table state m rooms) 0 [] state []
  whole = record {
    around = record { split = sym (append-nil state); starts = refl };
    holds = n;
    live = (u.term, tt, u.ready);
  }

  pub can_pass : CanRun all_seen Any (lent table state m rooms) 0
  can_pass = ([], state, [], whole)

  module _ {state' : List ℕ} {m' : Progress} {rooms' : Rooms} {r : Flag}
      (run : HasRun all_seen Any (lent table state m rooms) 0 (lent table state' m' rooms') r) where
    went : Went all_seen Any (lent table state m rooms) 0 [] state [] (lent table state' m' rooms') r
    went = run [] state [] whole

    pub ran_by : {α : Flag} → r ≡ α → Ran root u.term (words_of m) rooms (tally_of m) state' (words_of m') rooms' (tally_of m') α
    ran_by e =
        let all : went.part' ≡ state' = sym (went.around.split ∙ append-nil went.part') in
        rw (all, e) at (went.runs u.term tt u.ready root refl)

    pub row_holds : Holds table m'
    row_holds = still n went.kept

    -- what is found after a pass that suspended
    module _ (ran : Ran root u.term (words_of m) rooms (tally_of m) state' (words_of m') rooms' (tally_of m') SUSP) where
      names_after : {before after : W.Wait} → Names before u.named → WaitsAfter table state' m' before after
          → Names after (next_named u ran (ltb 0 (bool_byte m'.moved)))
      names_after {before} {after} n a = go (ltb 0 (bool_byte m'.moved)) refl
        where
          go : (b : Bool) → ltb 0 (bool_byte m'.moved) ≡ b → Names after (next_named u ran b)
          go true e = rw (a.moved (sym (byte_read m'.moved) ∙ e)) n
          go false e =
              let (w, l, first) = leads u ran e in
              let (x, y) = a.still (sym (byte_read m'.moved) ∙ e) w l in
              rw first (record { node_is = x; event_is = y })

      leads_if : LeadsIfStill table state' m'
      leads_if z = let (w, l, first) = leads u ran (byte_read m'.moved ∙ z) in (w, l)

    pub can_look : r ≡ SUSP → LeadsIfStill table state' m'
    can_look suspended = leads_if (ran_by suspended)

    -- SUSP: another pass
    pub goes_by : r ≡ SUSP
        → (v : Underway table t₀ X value rooms₀ state' (words_of (next_progress m')) rooms' (tally_of (next_progress m')) (passes + 1))
        × ((before after : W.Wait) → Names before u.named → WaitsAfter table state' m' before after → Names after v.named)
    unfolding goes ran_by went
    goes_by suspended =
        rw (next_tallied m')
        (goes u (ran_by suspended), λ before after n a. names_after (ran_by suspended) n a)

    pub next_row_holds : Holds table (next_progress m')
    next_row_holds = record { long = row_holds.long; base = row_holds.base }
