-- How a table was read, and what an instant answered, before request L10: V went to 256, an event's kind byte was 0 and its number the event byte, and
-- "none" was 256 (01, "The table" and "Rules of a pass"; L1 for the node and the event). Nothing but L10's sentence "Tables of today read as they did"
-- is about them.
use Rattle.std.specs.Prelude.{Ok, Err, ℕ, zero, suc, ◌+◌, ◌*◌, ◌≤◌, ◌<◌, Bool, true, false, cond, ◌&&◌, ◌≡◌, ◌≢◌, List, ◌++◌, eqb, leb, ltb, length, take, drop}
use Rattle.std.proofs.Math.Option.{Option, none, some}
use Rattle.events.specs.Events.{Events, none as no_event, how_many, lowest}
use Rattle.junior.specs.Configuration.{Config, Event, Not, And, Or, handed_in}
use Rattle.junior.specs.Program.{Program, Argument, no_argument, number, event, configuration, value, capped, argument, kind}
use Rattle.junior.specs.Program.{Parts, no_part, one_part, two_parts, parts}
use Rattle.junior.specs.Values.{Values}
use Rattle.junior.specs.Term.{Term, prog}
use Rattle.junior.specs.Trace.{atoms}
use Rattle.junior.specs.Rules.{left_first, Result}
use Rattle.junior.specs.Instant.{Instant}
use Rattle.junior.specs.AtRest.{AtRest}
use Rattle.junior.specs.Waited.{Wait, waited}
use Rattle.table.specs.Records.{byte, nodes, configurations, events, argument_at, second_child, configuration_at, part_size, first_part_at, second_part}
use Rattle.table.specs.Good.{is_laid_out, parts as part_count, good_parts, good_node}
use Rattle.table.specs.Spells.{weight, tested, Heads}
use Rattle.table.specs.Verdict.{accepted_with, length_good, distances_good, program_verdict}
use Rattle.state.specs.StateBytes.{state_bytes}
use Rattle.state.specs.Resting.{blamed}
use Rattle.kernel.specs.declared.Refusal.TheVariants.{StateRoom, NotAtRest, UnlistedEvent, AtomRoom}
use Rattle.kernel.specs.Answer.{Outcome, has_room, ended, node_of}

-- how many events there were; the number of none
abbrev pub places_before : ℕ
places_before = 256

-- configuration j was good but for its height: "kind (0 event, 1 not, 2 and, 3 or), event below V (0 unless kind 0)"
unfoldable pub good_but_height_before : List ℕ → ℕ → Bool
good_but_height_before t j =
    let c = configuration_at t j in
    leb (byte t c) 3
    && (ltb (byte t (c + 1)) (cond (eqb (byte t c) 0) (events t) 1)
    && is_laid_out (λ k. part_size t (configuration_at t k)) (configurations t) j (part_count (byte t c)))

-- its height was at most h
unfoldable pub height_before : List ℕ → ℕ → ℕ → Bool
height_before t zero j = false
height_before t (suc h) j =
    let first = height_before t h (j + 1) in
    let second = height_before t h (j + 1 + part_size t (configuration_at t (j + 1))) in
    cond (good_but_height_before t j) (good_parts (part_count (byte t (configuration_at t j))) first second) true

-- the configuration at byte c was d
unfoldable pub ConfiguredBefore : List ℕ → ℕ → Config → Type 0
ConfiguredBefore t c (Event s) = (byte t c ≡ 0) × (part_size t c ≡ 1) × (byte t (c + 1) ≡ s)
ConfiguredBefore t c (Not d) = (byte t c ≡ 1) × (part_size t c ≡ 1 + weight d) × ConfiguredBefore t (first_part_at c) d
ConfiguredBefore t c (And d e) =
    (byte t c ≡ 2)
    × (part_size t c ≡ 1 + weight d + weight e)
    × ConfiguredBefore t (first_part_at c) d
    × ConfiguredBefore t (second_part t c) e
ConfiguredBefore t c (Or d e) =
    (byte t c ≡ 3)
    × (part_size t c ≡ 1 + weight d + weight e)
    × ConfiguredBefore t (first_part_at c) d
    × ConfiguredBefore t (second_part t c) e

-- the program at node i was p; none asked for a value of the box (L14)
abbrev pub ArguesBefore : List ℕ → ℕ → Argument → Type 0
ArguesBefore t i no_argument = Unit {0}
ArguesBefore t i (number n) = argument_at t i ≡ n
ArguesBefore t i (event s) = argument_at t i ≡ s
ArguesBefore t i (configuration c) = ConfiguredBefore t (tested t i) c
ArguesBefore t i (value v) = ⊥
ArguesBefore t i (capped v cap) = ⊥

-- no kind was above 12
abbrev pub HeadsBefore : List ℕ → ℕ → Program → Type 0
HeadsBefore t i p = Heads t i p × (kind p ≤ 12)

abbrev pub SpellsBefore : {p : Program} → List ℕ → ℕ → Parts p → Type 0
SpellsBefore {p} t i (no_part f) = HeadsBefore t i p × ArguesBefore t i (argument p)
SpellsBefore {p} t i (one_part f q) = HeadsBefore t i p × ArguesBefore t i (argument p) × SpellsBefore t (i + 1) q
SpellsBefore {p} t i (two_parts f q r) =
    HeadsBefore t i p × ArguesBefore t i (argument p) × SpellsBefore t (i + 1) q × SpellsBefore t (second_child t i) r

-- t was accepted, with the tree p and these figures: none of refusals 1 to 8; nothing was parked (L8)
pub record AcceptedBefore (t : List ℕ) (p : Program) (g a w : ℕ) : Type 0 where
  pub good_length : length_good t ≡ true
  pub n_range : (1 ≤ nodes t) × (nodes t ≤ 4096)
  pub m_range : configurations t ≤ 2048
  pub v_range : (1 ≤ events t) × (events t ≤ places_before)
  pub good_distances : distances_good t ≡ true
  pub configurations_good : (j : ℕ) → j < configurations t → (good_but_height_before t j ≡ true) × (height_before t 16 j ≡ true)
  pub nodes_good : (i : ℕ) → i < nodes t → good_node t i ≡ true
  pub spelled : SpellsBefore t 0 (parts p)
  pub figures : program_verdict p ≡ accepted_with g a w 0

-- an event set that could be handed in then
abbrev pub HandedBefore : Events → Type 0
HandedBefore X = (e : ℕ) → places_before ≤ e → X e ≡ false

-- refusals 9 to 12 of an accepted table with A atoms at most
abbrev pub unlisted_before : List ℕ → Events → ℕ
unlisted_before t X = lowest places_before (λ e. X e && leb (events t) e)

unfoldable pub outcome_before : List ℕ → ℕ → List ℕ → Events → List ℕ → Outcome
outcome_before t a s X row =
    cond
    (has_room t s)
    (cond
    (ltb (blamed t s) (nodes t))
    (Err (NotAtRest (blamed t s)))
    (cond (ltb (unlisted_before t X) places_before) (Err (UnlistedEvent (unlisted_before t X))) (cond (leb a (length row)) (Ok tt) (Err AtomRoom))))
    (Err StateRoom)

-- what an instant answered
pub record AnswerBefore : Type 0 where
  pub outcome : Outcome
  pub events : Events
  pub count : ℕ
  pub lowest : ℕ
  pub atoms : ℕ
  pub finished : Bool
  pub passes : ℕ
  pub node : ℕ
  pub event : ℕ

abbrev pub event_before : Option Wait → ℕ
event_before none = places_before
event_before (some w) = w.event

-- an instant was run: the term that stood in the state's bytes, the instant that the rules gave it, whatever the values that it didn't ask for,
-- and all of it in the answer and the rooms
pub record RunBefore (p : Program) (t s : List ℕ) (X : Events) (values : Values) (row s' row' : List ℕ) (r : AnswerBefore) : Type 0 where
  pub term : Term
  pub program : prog term ≡ p
  pub bytes : take (4 * nodes t) s ≡ state_bytes term
  pub at_rest : AtRest term
  pub result : Result
  pub instant : Instant (left_first values) term (handed_in X) r.passes result
  pub events_are : r.events ≡ result.env.now
  pub count_is : r.count ≡ how_many places_before result.env.now
  pub lowest_is : r.lowest ≡ lowest places_before result.env.now
  pub atoms_are : r.atoms ≡ length (atoms result.acts)
  pub finished_is : r.finished ≡ ended result.flag
  pub node_is : r.node ≡ node_of (waited instant)
  pub event_is : r.event ≡ event_before (waited instant)
  pub state_is : s' ≡ state_bytes result.to ++ drop (4 * nodes t) s
  pub row_is : row' ≡ atoms result.acts ++ drop r.atoms row

pub record RefusedBefore (r : AnswerBefore) : Type 0 where
  pub events_are : r.events ≡ no_event
  pub count_is : r.count ≡ 0
  pub lowest_is : r.lowest ≡ places_before
  pub atoms_are : r.atoms ≡ 0
  pub finished_is : r.finished ≡ false
  pub passes_are : r.passes ≡ 0
  pub node_is : r.node ≡ 4096
  pub event_is : r.event ≡ places_before

-- the whole of what an instant answered, of a table accepted with the tree p and A atoms at most
pub record AnsweredBefore (p : Program) (t : List ℕ) (a : ℕ) (s : List ℕ) (X : Events) (values : Values) (row s' row' : List ℕ) (r : AnswerBefore)
    : Type 0 where
  pub outcome_is : r.outcome ≡ outcome_before t a s X row
  pub ran : r.outcome ≡ Ok tt → RunBefore p t s X values row s' row' r
  pub refused : r.outcome ≢ Ok tt → RefusedBefore r × (s' ≡ s) × (row' ≡ row)
