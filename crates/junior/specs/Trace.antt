-- What a pass does, in order: its trace.
use Rattle.std.specs.Prelude.{ℕ, suc, ◌+◌, Bool, cond, List, [], ◌∷◌, ◌++◌, eqb}
use Rattle.std.proofs.Math.Option.{Option, none, some}
use Rattle.junior.specs.declared.Flag.{Flag}
use Rattle.junior.specs.Configuration.{Config, Env}
use Rattle.junior.specs.Program.{Program, size}
use Rattle.junior.specs.Term.{Term}

-- where a node stands: its number in the table, and for each event the node of the nearest Local around it that names
-- that event, if there is one
pub record Place : Type 0 where
  pub node : ℕ
  pub scope : ℕ → Option ℕ

-- node 0, in no Local
abbrev pub root : Place
root = record { node = 0; scope = λ s. none }

-- the first child is the next record; the second stands behind all of the first
abbrev pub first : Place → Place
first P = record { node = suc P.node; scope = P.scope }

abbrev pub second : Place → Program → Place
second P p = record { node = suc P.node + size p; scope = P.scope }

-- the body of a Local that names s
abbrev pub inside : ℕ → Place → Place
inside s P = record { node = suc P.node; scope = λ e. cond (eqb e s) (some P.node) (P.scope e) }

-- a parked piece (L8): the Freezable's event, the node of its body, and the state that the body stopped in
pub record Piece : Type 0 where
  pub event : ℕ
  pub node : ℕ
  pub state : Term

abbrev pub piece : ℕ → ℕ → Term → Piece
piece s n t = record { event = s; node = n; state = t }

pub data Act : Type 0 where
  did_atom : ℕ → Act
  did_generate : ℕ → Act
  did_park : Piece → Act
  -- a test at a place was decided, and so; it was found unknown; each with the environment that it was read in
  decided : Place → Config → Bool → Env → Act
  waits : Place → Config → Env → Act
  -- the body of the Local at a node answered with a flag, its event being present or not
  scope_answered : ℕ → Flag → Bool → Act

-- the number of the atom that an act does, the event that it generates, the piece that it parks, if it does
abbrev pub atom_of : Act → List ℕ
atom_of (did_atom a) = a ∷ []
atom_of (did_generate s) = []
atom_of (did_park x) = []
atom_of (decided P c b E) = []
atom_of (waits P c E) = []
atom_of (scope_answered n α b) = []

abbrev pub event_of : Act → List ℕ
event_of (did_atom a) = []
event_of (did_generate s) = s ∷ []
event_of (did_park x) = []
event_of (decided P c b E) = []
event_of (waits P c E) = []
event_of (scope_answered n α b) = []

abbrev pub piece_of : Act → List Piece
piece_of (did_atom a) = []
piece_of (did_generate s) = []
piece_of (did_park x) = x ∷ []
piece_of (decided P c b E) = []
piece_of (waits P c E) = []
piece_of (scope_answered n α b) = []

unfoldable pub collect : {A : Type 0} → (Act → List A) → List Act → List A
collect f [] = []
collect f (x ∷ l) = f x ++ collect f l

-- the atoms done, the events generated and the pieces parked, in order
abbrev pub atoms : List Act → List ℕ
atoms l = collect atom_of l

abbrev pub generations : List Act → List ℕ
generations l = collect event_of l

abbrev pub parks : List Act → List Piece
parks l = collect piece_of l
