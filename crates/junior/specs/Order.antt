-- L6, "Branch order must not choose the channels": "let each Par, in each pass where both branches are suspended, run either branch first", which
-- is by rule 8 or rule 9, at each such Par, in each pass anew, also in the one after the end.
-- Its premises here: t is at rest, and its program's Loops have bodies that stop (refusal 7). L14: "L6 .. hold for equal values": the
-- instants compared are of one `value`.
use Rattle.std.specs.Prelude.{ℕ, suc, ◌+◌, ◌≤◌, Bool, true, false, cond, not, ◌&&◌, ◌||◌, ◌≡◌, List, [], ◌∷◌, eqb}
use Rattle.events.specs.Events.{Events, none as no_event, put}
use Rattle.junior.specs.declared.Flag.TheVariants.{SUSP}
use Rattle.junior.specs.Configuration.{Env, declared_end, unmoved, handed_in, Event}
use Rattle.junior.specs.Program.{Program, Stop, Atom, Seq, Par, Generate, Await, Freezable}
use Rattle.junior.specs.Values.{Values, zeros}
use Rattle.junior.specs.Term.{Term, done, prog, fresh}
use Rattle.junior.specs.Trace.{Place, root, Piece, piece, Act, did_atom, did_generate, did_park, decided, waits, scope_answered, atoms, parks}
use Rattle.junior.specs.Rules.{left_first, either_first, Result, Rewrites}
use Rattle.junior.specs.Instant.{Instant}
use Rattle.junior.specs.Figures.{G}
use Rattle.junior.specs.Waited.{waited}
use Rattle.junior.specs.Parked.{together}

-- the instant so far: so many passes, each suspended, led from t in E to u in F, where the next pass begins
pub data SoFar (value : Values) : ℕ → Term → Env → Term → Env → Type 0 where
  begun : {t : Term} {E : Env} → SoFar value 0 t E t E
  quiet : {k : ℕ} {t u : Term} {E F : Env} {r : Result}
      → Rewrites (either_first value) root t E r
      → r.flag ≡ SUSP
      → r.env.move ≡ false
      → SoFar value k r.to (declared_end r.env) u F
      → SoFar value (suc k) t E u F
  moved : {k : ℕ} {t u : Term} {E F : Env} {r : Result}
      → Rewrites (either_first value) root t E r
      → r.flag ≡ SUSP
      → r.env.move ≡ true
      → SoFar value k r.to (unmoved r.env) u F
      → SoFar value (suc k) t E u F

-- how often a number stands in a list
unfoldable pub often : ℕ → List ℕ → ℕ
often a [] = 0
often a (n ∷ l) = cond (eqb n a) 1 0 + often a l

-- whether a test at P that is found v is one at node n that is found b; whether these acts decide such a one
abbrev pub tells : Place → Bool → ℕ → Bool → Bool
tells P v n b = eqb P.node n && cond v b (not b)

unfoldable pub decides : ℕ → Bool → List Act → Bool
decides n b [] = false
decides n b (did_atom a ∷ l) = decides n b l
decides n b (did_generate s ∷ l) = decides n b l
decides n b (did_park x ∷ l) = decides n b l
decides n b (decided P c v E ∷ l) = tells P v n b || decides n b l
decides n b (waits P c E ∷ l) = decides n b l
decides n b (scope_answered m α v ∷ l) = decides n b l

-- "event set, finished answer and end state are the same for all choices, and .. each atom occurs equally often"
pub record SameOutcome (r s : Result) : Type 0 where
  pub event_set : r.env.now ≡ s.env.now
  pub answer : r.flag ≡ s.flag
  pub end_state : r.to ≡ s.to
  pub equally_often : (a : ℕ) → often a (atoms r.acts) ≡ often a (atoms s.acts)
  -- L8: "Demand 2 includes the store, L6 not its order": the pieces parked are the same but for their order, since whatever each of them weighs they
  -- weigh the same together; so each occurs equally often (it weighs 1 and every other 0)
  pub same_pieces : (weight : Piece → ℕ) → together weight (parks r.acts) ≡ together weight (parks s.acts)
  -- more than was asked: every test decided in one is decided in the other, with the same value (a Control's perhaps more often)
  pub decided_alike : (n : ℕ) (b : Bool) → decides n b r.acts ≡ decides n b s.acts

pub record OrderFree (value : Values) (t : Term) (X : Events) : Type 0 where
  -- the kernel's order, left branch first, is one of the choices
  pub kernel_order : {n : ℕ} {r : Result} → Instant (left_first value) t (handed_in X) n r → Instant (either_first value) t (handed_in X) n r
  -- whatever was chosen so far, the instant goes on to an end; and all end in time
  pub ends : {k : ℕ} {u : Term} {F : Env} → SoFar value k t (handed_in X) u F
      → (n : ℕ) × (r : Result) × Instant (either_first value) u F n r × (k + n ≤ G (prog t) + 2)
  pub soon : {n : ℕ} {r : Result} → Instant (either_first value) t (handed_in X) n r → n ≤ G (prog t) + 2
  -- "the same for all choices"
  pub same : {n m : ℕ} {r s : Result}
      → Instant (either_first value) t (handed_in X) n r
      → Instant (either_first value) t (handed_in X) m s
      → SameOutcome r s
  -- more than was asked: so is the test that L1 reports, and its event
  pub same_wait : {n m : ℕ} {r s : Result}
      (i : Instant (either_first value) t (handed_in X) n r)
      (j : Instant (either_first value) t (handed_in X) m s)
      → waited i ≡ waited j

-- "Pass count .. may differ": with nothing handed in this program takes two passes by the kernel's order, and one if its right branch runs first
abbrev pub waits_for_a_sibling : Program
waits_for_a_sibling = Par (Seq (Await (Event 1)) (Atom 5)) (Generate 1)

pub record PassesDiffer : Type 0 where
  pub left : (r : Result) × Instant (left_first zeros) (fresh waits_for_a_sibling) (handed_in no_event) 2 r × (atoms r.acts ≡ 5 ∷ [])
  pub right : (r : Result) × Instant (either_first zeros) (fresh waits_for_a_sibling) (handed_in no_event) 1 r × (atoms r.acts ≡ 5 ∷ [])

-- "L6 not its order": with event 0 handed in this program parks the body of the branch first that runs first
abbrev pub parks_both : Program
parks_both = Par (Freezable 0 Stop) (Freezable 0 Stop)

abbrev pub left_piece : Piece
left_piece = piece 0 2 (done Stop)

abbrev pub right_piece : Piece
right_piece = piece 0 4 (done Stop)

pub record PiecesDiffer : Type 0 where
  pub left : (r : Result) × Instant (left_first zeros) (fresh parks_both) (handed_in (put 0 true no_event)) 1 r
      × (parks r.acts ≡ left_piece ∷ right_piece ∷ [])
  pub right : (r : Result) × Instant (either_first zeros) (fresh parks_both) (handed_in (put 0 true no_event)) 1 r
      × (parks r.acts ≡ right_piece ∷ left_piece ∷ [])
