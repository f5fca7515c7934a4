-- What the functions of a pass promise one another. No contract of a customer's call cites this file.
use Rattle.std.specs.Prelude.{ℕ, ◌+◌, ◌*◌, ◌/◌, ◌%◌, ◌^◌, ◌≤◌, ◌<◌, min, Bool, true, false, cond, ◌≡◌, ◌≢◌, ◌⊎◌, List, ◌++◌, length, get_or, take, drop, set, eqb, ltb}
use Rattle.events.specs.Members.{places, marks}
use Rattle.junior.specs.declared.Flag.{Flag}
use Rattle.junior.specs.declared.Flag.TheVariants.{SUSP, STOP, TERM}
use Rattle.junior.specs.declared.Verdict.{Verdict}
use Rattle.junior.specs.Flags.{γ, δ₁, δ₂}
use Rattle.junior.specs.Configuration.{Config, Env, test}
use Rattle.junior.specs.Values.{Values}
use Rattle.junior.specs.Program.{kind, size}
use Rattle.junior.specs.Term.{Term, prog}
use Rattle.junior.specs.Trace.{Place, Act, atoms, parks}
use Rattle.junior.specs.Rules.{left_first, Rewrites, answers}
use Rattle.junior.specs.Figures.{LoopsStop, per, parking}
use Rattle.junior.specs.Inside.{Going, pot}
use Rattle.table.specs.Records.{nodes, configurations, kind_at, argument_at}
use Rattle.table.specs.Spells.{Configured, tested, value_in, cap_in}
use Rattle.table.specs.Inside.{Loaded, Placed}
use Rattle.state.specs.Kinds.{par_kind, repeat_kind, repeat_ext_kind}
use Rattle.state.specs.StateBytes.{code, head, zeros, state_bytes}
use Rattle.state.specs.Pieces.{pieces_bytes}

-- The tally of an instant: how many atoms are done, whether something moved, whether the end is declared (0 for no), how many bytes are parked;
-- behind these the box's values, eight to a number, which no run changes.
abbrev pub atoms_done : List ℕ → ℕ
atoms_done tally = get_or tally 0 0

abbrev pub something_moved : List ℕ → ℕ
something_moved tally = get_or tally 1 0

abbrev pub end_declared : List ℕ → ℕ
end_declared tally = get_or tally 2 0

abbrev pub bytes_parked : List ℕ → ℕ
bytes_parked tally = get_or tally 3 0

abbrev pub values_in : List ℕ → Values
values_in tally v = get_or tally (4 + v / 8) 0 / 2 ^ (8 * (v % 8)) % 256

-- how often the body of node i, a Repeat or a RepeatExt, is run once it begins: its count; "the lesser of cap and value" (02, L14)
abbrev pub times_at : List ℕ → ℕ → List ℕ → ℕ
times_at table i tally =
    cond (eqb (kind_at table i) repeat_kind) (argument_at table i) (min (cap_in (argument_at table i)) (values_in tally (value_in (argument_at table i))))

-- the environment that the words and the tally stand for
abbrev pub env_of : List ℕ → List ℕ → Env
env_of words tally = record { now = marks words; eoi = ltb 0 (end_declared tally); move = ltb 0 (something_moved tally) }

-- the bytes of a term, all but the first few
abbrev pub Bytes : ℕ → List ℕ → Term → Type 0
Bytes skip state t = drop skip state ≡ drop skip (state_bytes t)

-- the rooms that a pass writes behind what it has done: the row of atoms, and the free part of the store
pub record Rooms : Type 0 where
  pub row : List ℕ
  pub store : List ℕ

abbrev pub rooms_of : List ℕ → List ℕ → Rooms
rooms_of row store = record { row = row; store = store }

-- t, at node i of the table, can be run: its Loops stop, its bytes but for the first `skip` are in the state, and there is room for its atoms
-- and for what it parks
pub record Ready (skip : ℕ) (table : List ℕ) (i : ℕ) (state words : List ℕ) (rooms : Rooms) (tally : List ℕ) (t : Term) : Type 0 where
  pub placed : Placed table i (prog t)
  pub loops : LoopsStop (prog t)
  pub wide : 64 * length words ≡ places
  pub tallied : length tally ≡ 6
  pub long : length state ≡ 4 * size (prog t)
  pub bytes : Bytes skip state t
  pub going : Going (marks words) t
  pub room : atoms_done tally + pot (per 2) t ≤ length rooms.row
  pub parking_room : bytes_parked tally + pot parking t ≤ length rooms.store

-- the bytes that a node leaves: all zero if it answers TERM, for whoever keeps it in sight to mark it as phase 3
abbrev pub left : Flag → Term → List ℕ
left SUSP t = state_bytes t
left STOP t = state_bytes t
left TERM t = zeros (prog t)

-- the numbers xs went into a row behind the first `at`
pub record Wrote (xs row : List ℕ) (at : ℕ) (row' : List ℕ) (at' : ℕ) : Type 0 where
  pub done_is : at' ≡ at + length xs
  pub row_is : row' ≡ take at row ++ (xs ++ drop (at + length xs) row)

-- all that the acts leave: the atoms in the row, the pieces that are parked in the store
pub record Leaves (acts : List Act) (rooms : Rooms) (tally : List ℕ) (rooms' : Rooms) (tally' : List ℕ) : Type 0 where
  pub atoms_in : Wrote (atoms acts) rooms.row (atoms_done tally) rooms'.row (atoms_done tally')
  pub pieces_in : Wrote (pieces_bytes (parks acts)) rooms.store (bytes_parked tally) rooms'.store (bytes_parked tally')

-- words and tally are as long as they were, and the values the same
pub record SameLengths (words tally words' tally' : List ℕ) : Type 0 where
  pub of_words : length words' ≡ length words
  pub of_tally : length tally' ≡ length tally
  pub of_values : values_in tally' ≡ values_in tally

-- t at place P was run once, by the rules
pub record Ran (P : Place) (t : Term) (words : List ℕ) (rooms : Rooms) (tally state' words' : List ℕ) (rooms' : Rooms) (tally' : List ℕ) (α : Flag)
    : Type 0 where
  pub to : Term
  pub acts : List Act
  pub rewrites : Rewrites (left_first (values_in tally)) P t (env_of words tally) (answers α to (env_of words' tally') acts)
  pub bytes : state' ≡ left α to
  pub wrote : Leaves acts rooms tally rooms' tally'
  pub lengths : SameLengths words tally words' tally'

-- which terms a function runs
abbrev pub Any : Term → Type 0
Any t = Unit {0}

-- those of a kind that don't read as Nothing
abbrev pub Kind : ℕ → Term → Type 0
Kind k t = (kind (prog t) ≡ k) × ((head t).phase ≢ 3)

-- those in a phase
abbrev pub Phase : ℕ → Term → Type 0
Phase ph t = (head t).phase ≡ ph

-- those of a kind in a phase
abbrev pub KindPhase : ℕ → ℕ → Term → Type 0
KindPhase k ph t = (kind (prog t) ≡ k) × ((head t).phase ≡ ph)

-- those of the one kind or of the other
abbrev pub Either : ℕ → ℕ → Term → Type 0
Either a b t = (kind (prog t) ≡ a) ⊎ (kind (prog t) ≡ b)

-- a begun Repeat or RepeatExt with k runs still to begin
abbrev pub Times : ℕ → Term → Type 0
Times k t = Either repeat_kind repeat_ext_kind t × ((head t).phase ≡ 1) × ((head t).count ≡ k)

-- Pars of which only the first branch is suspended, or only the second
abbrev pub LeftSuspended : Term → Type 0
LeftSuspended t = Kind par_kind t × ((head t).flags % 4 ≡ 0) × ((head t).flags ≢ 0)

abbrev pub RightSuspended : Term → Type 0
RightSuspended t = Kind par_kind t × ((head t).flags % 4 ≢ 0)

-- what each function of the cycle asks, and what it gives: whatever such term stands there was run once
abbrev pub Live : ℕ → (Term → Type 0) → List ℕ → ℕ → List ℕ → List ℕ → Rooms → List ℕ → Type 0
Live skip W table i state words rooms tally = (t : Term) × W t × Ready skip table i state words rooms tally t

abbrev pub Runs :
    ℕ
    → (Term → Type 0)
    → List ℕ
    → ℕ
    → List ℕ
    → List ℕ
    → Rooms
    → List ℕ
    → List ℕ
    → List ℕ
    → Rooms
    → List ℕ
    → Flag
    → Type 0
Runs skip W table i state words rooms tally state' words' rooms' tally' α =
    (t : Term)
    → W t
    → Ready skip table i state words rooms tally t
    → (P : Place)
    → P.node ≡ i
    → Ran P t words rooms tally state' words' rooms' tally' α

-- node i tests a configuration, which stands in the table, and what reading it gives
pub record HasTest (table : List ℕ) (i : ℕ) (tally : List ℕ) : Type 0 where
  pub loaded : Loaded table
  pub node : i < nodes table
  pub tests : argument_at table i < configurations table
  pub spelled : (c : Config) × Configured table (tested table i) c
  pub tallied : length tally ≡ 6

abbrev pub TestRead : List ℕ → ℕ → List ℕ → List ℕ → Verdict → Type 0
TestRead table i words tally r = (c : Config) → Configured table (tested table i) c → r ≡ test c (env_of words tally)

-- the phase of a node in its part: 0 once that has ended
abbrev pub phase_after : Flag → ℕ → ℕ
phase_after SUSP ph = ph
phase_after STOP ph = ph
phase_after TERM ph = 0

-- a Local's sign, as a phase, by its body's flag and its event then
abbrev pub sign_after : Flag → Bool → ℕ
sign_after SUSP present = cond present 1 0
sign_after STOP present = 0
sign_after TERM present = 0

abbrev pub flag_is_term : Flag → Bool
flag_is_term SUSP = false
flag_is_term STOP = false
flag_is_term TERM = true

-- an ended branch is phase 3 while its Par goes on
abbrev pub gone : Flag → ℕ
gone SUSP = 3
gone STOP = 3
gone TERM = 0

-- the bytes s of a node whose branch at byte `at` has answered α: if it has ended, this is its phase
abbrev pub ended : Flag → ℕ → ℕ → List ℕ → List ℕ
ended SUSP at phase s = s
ended STOP at phase s = s
ended TERM at phase s = set s at phase

-- the bytes of a Par whose branches answered α and β, the second standing at byte `second`
abbrev pub par_end : Flag → Flag → ℕ → List ℕ → List ℕ
par_end α β second s =
    let flags = cond (flag_is_term (γ α β)) 0 (code (δ₁ α β) + 4 * code (δ₂ α β)) in
    ended β second (gone (γ α β)) (ended α 4 (gone (γ α β)) (set s 1 flags))
