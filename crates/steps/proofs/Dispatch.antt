-- What can be read of a node that is to run; and a function that runs only some terms runs all that stand there.
use Prim.Native.Nat.{ℕ, suc, ◌+◌, ◌*◌, ◌≤◌, ◌<◌}
use mathlib.Core.Bool.{true}
use mathlib.Core.Path.{◌≡◌, sym, subst, ◌∙◌}
use mathlib.Core.Logic.{◌≢◌}
use mathlib.Core.List.{List, [], ◌∷◌}
use native.Mathlib.Omega.{arith}
use lib.ListN.{length, get_or}
use borrow.Author.Tests.{leb-true}
use Rattle.junior.specs.declared.Flag.{Flag}
use Rattle.junior.specs.Term.{Term, prog}
use Rattle.junior.specs.Program.{kind}
use Rattle.events.specs.Members.{places}
use Rattle.table.specs.Records.{kind_at, argument_at}
use Rattle.table.specs.Good.{known}
use Rattle.table.proofs.Parts.{by_kind as its_kind}
use Rattle.table.proofs.Loaded.{kind_parts, own_node}
use Rattle.state.specs.Kinds.{seq_kind, par_kind, await_kind, control_kind, local_kind, freezable_kind}
use Rattle.state.specs.StateBytes.{head}
use Rattle.steps.specs.Running.{Rooms, Ready}
use Rattle.steps.proofs.LoadedNode.{control_argument, freezable_argument}
use Rattle.steps.proofs.Children.{byte_is, own_in}
use Rattle.steps.specs.Progress.{words_of, tally_of}
use Rattle.steps.specs.Kinds.{OfKind, BothSuspended, NotBoth}
use Rattle.steps.specs.Lent.{Lent, lent, Around, Stands, CanRun, HasRun}
use Rattle.steps.proofs.Context.{byte_at, byte_in, phase_at_lem, phase_in}
use Rattle.steps.specs.declared.progress.Progress.{Progress}

-- the terms of the kinds that are not told apart first
abbrev pub Others : Term → Type 0
Others t = (kind (prog t) ≢ par_kind) × (kind (prog t) ≢ await_kind) × (kind (prog t) ≢ seq_kind)

module _ {skip : ℕ} {W : Term → Type 0} {table : List ℕ} {i : ℕ} {state : List ℕ} {m : Progress} {rooms : Rooms} (o : CanRun skip W (lent table state m rooms) i) where
  own_long : (k : ℕ) → k < 4 → k < length o.1
  own_long k l = own_in o.3.live.2 k l

  -- there are few nodes, so no index wraps
  pub few_nodes : i < 4096
  few_nodes = let h = o.3.live.2.placed in omega (arith, own_node h, h.loaded.framed.n_most)

  -- a node's own record and its own bytes can be read
  pub record_in : 6 * i + 5 < length table
  record_in =
      omega arith

  pub kind_reads : 6 * i < length table
  kind_reads = omega (arith, record_in)

  pub argument_reads : 6 * i + 3 < length table
  argument_reads = omega (arith, record_in)

  pub own_reads : (k : ℕ) → k < 4 → 4 * i + k < length state
  own_reads k l = byte_in o.3.around k (own_long k l)

  pub phase_reads : 4 * i < length state
  phase_reads = phase_in o.3.around (own_long 0 (omega arith))

-- what is asked where the event of a Control or of a Freezable is looked up
module _ {table : List ℕ} {i : ℕ} {state : List ℕ} {m : Progress} {rooms : Rooms} where
  pub control_event : CanRun 0 (OfKind control_kind) (lent table state m rooms) i → argument_at table i < places
  control_event o = control_argument o.3.live.2.placed o.3.live.1

  pub freezable_event : CanRun 0 (OfKind freezable_kind) (lent table state m rooms) i → (6 * i + 3 < length table) × (argument_at table i < places)
  freezable_event o = (argument_reads o, freezable_argument o.3.live.2.placed o.3.live.1)

-- a function that runs the terms of W runs those of U, if all of U that stand there are of W
module _ {W U : Term → Type 0} {table : List ℕ} {i : ℕ} {state : List ℕ} {m : Progress} {rooms : Rooms}
    (are : (before part behind : List ℕ) → Around state i before part behind → (t : Term)
    → Ready 0 table i part (words_of m) rooms (tally_of m) t → W t) where
  pub narrow : {before part behind : List ℕ} → Stands 0 U (lent table state m rooms) i before part behind
      → Stands 0 W (lent table state m rooms) i before part behind
  narrow o =
      let (t, u, h) = o.live in
      record { around = o.around; holds = o.holds; live = (t, are _ _ _ o.around t h, h) }

  pub can_narrow : CanRun 0 U (lent table state m rooms) i → CanRun 0 W (lent table state m rooms) i
  can_narrow (before, part, behind, o) = (before, part, behind, narrow o)

  pub widen : {L' : Lent} {r : Flag} → HasRun 0 W (lent table state m rooms) i L' r → HasRun 0 U (lent table state m rooms) i L' r
  widen run before part behind o =
      let g = run before part behind (narrow o) in
      record {
        part' = g.part';
        around = g.around;
        kept = g.kept;
        runs = λ t u h. g.runs t (are _ _ _ o.around t h) h;
      }

kind_is : {table : List ℕ} {i : ℕ} {part words : List ℕ} {rooms : Rooms} {tally : List ℕ} {t : Term} {n : ℕ} → n ≡ kind_at table i
    → Ready 0 table i part words rooms tally t → kind (prog t) ≡ n
kind_is read h = sym (kind_parts h.placed) ∙ sym read

-- the bytes in the state that say a node's phase and flags
module _ {state : List ℕ} {i : ℕ} {before part behind : List ℕ} (a : Around state i before part behind)
    {table words : List ℕ} {rooms : Rooms} {tally : List ℕ} {t : Term} (h : Ready 0 table i part words rooms tally t) where
  pub phase_is : get_or state (4 * i) 0 ≡ (head t).phase
  phase_is = phase_at_lem a (own_in h 0 (omega arith)) ∙ byte_is h 0 (omega arith)

  pub flags_are : get_or state (4 * i + 1) 0 ≡ (head t).flags
  flags_are = byte_at a 1 (own_in h 1 (omega arith)) ∙ byte_is h 1 (omega arith)

-- what stands there is of the kind that the code has read, n; a Par, by its phase and its flags
module _ {state : List ℕ} {i : ℕ} {before part behind : List ℕ} (a : Around state i before part behind)
    {table words : List ℕ} {rooms : Rooms} {tally : List ℕ} {t : Term} (h : Ready 0 table i part words rooms tally t) {n : ℕ} (read : n ≡ kind_at table i) where
  of_kind : {k : ℕ} → n ≡ k → OfKind k t
  of_kind is = kind_is read h ∙ is

  both : n ≡ par_kind → (get_or state (4 * i) 0 ≡ 0) × (get_or state (4 * i + 1) 0 ≡ 0) → BothSuspended t
  both is z = (of_kind is, sym (phase_is a h) ∙ z.0, sym (flags_are a h) ∙ z.1)

  half : n ≡ par_kind → (get_or state (4 * i) 0 ≡ 0 → get_or state (4 * i + 1) 0 ≢ 0) → NotBoth t
  half is z = (of_kind is, λ p f. z (phase_is a h ∙ p) (flags_are a h ∙ f))

  other : n ≢ par_kind → n ≢ await_kind → n ≢ seq_kind → Others t
  other x y z =
      (λ e. x (sym (kind_is read h) ∙ e), λ e. y (sym (kind_is read h) ∙ e), λ e. z (sym (kind_is read h) ∙ e))

module _ {U : Term → Type 0} {table : List ℕ} {i : ℕ} {state : List ℕ} {m : Progress} {rooms : Rooms} {n : ℕ} (read : n ≡ kind_at table i) where
  pub to_kind : {k : ℕ} → n ≡ k → CanRun 0 U (lent table state m rooms) i → CanRun 0 (OfKind k) (lent table state m rooms) i
  to_kind is o = can_narrow (λ b p q a t h. of_kind a h read is) o

  pub by_kind : {L' : Lent} {r : Flag} {k : ℕ} → n ≡ k → HasRun 0 (OfKind k) (lent table state m rooms) i L' r
      → HasRun 0 U (lent table state m rooms) i L' r
  by_kind is run = widen (λ b p q a t h. of_kind a h read is) run

  module _ (is : n ≡ par_kind) where
    pub to_both : (get_or state (4 * i) 0 ≡ 0) × (get_or state (4 * i + 1) 0 ≡ 0) → CanRun 0 U (lent table state m rooms) i
        → CanRun 0 BothSuspended (lent table state m rooms) i
    to_both z o = can_narrow (λ b p q a t h. both a h read is z) o

    pub by_both : {L' : Lent} {r : Flag} → (get_or state (4 * i) 0 ≡ 0) × (get_or state (4 * i + 1) 0 ≡ 0)
        → HasRun 0 BothSuspended (lent table state m rooms) i L' r → HasRun 0 U (lent table state m rooms) i L' r
    by_both z run = widen (λ b p q a t h. both a h read is z) run

    pub to_half : (get_or state (4 * i) 0 ≡ 0 → get_or state (4 * i + 1) 0 ≢ 0) → CanRun 0 U (lent table state m rooms) i
        → CanRun 0 NotBoth (lent table state m rooms) i
    to_half z o = can_narrow (λ b p q a t h. half a h read is z) o

    pub by_half : {L' : Lent} {r : Flag} → (get_or state (4 * i) 0 ≡ 0 → get_or state (4 * i + 1) 0 ≢ 0)
        → HasRun 0 NotBoth (lent table state m rooms) i L' r → HasRun 0 U (lent table state m rooms) i L' r
    by_half z run = widen (λ b p q a t h. half a h read is z) run

  module _ (x : n ≢ par_kind) (y : n ≢ await_kind) (z : n ≢ seq_kind) where
    pub to_others : CanRun 0 U (lent table state m rooms) i → CanRun 0 Others (lent table state m rooms) i
    to_others o = can_narrow (λ b p q a t h. other a h read x y z) o

-- a kind that there is, from 12 on
between : (k : ℕ) → 12 ≤ k → known k ≡ true → k ≢ 13 → k ≢ 14 → k ≢ 15 → k ≡ 12
between k l h a b c = omega (arith, leb-true k 15 h)

-- n is none of these numbers
abbrev pub none_of : List ℕ → ℕ → Type 0
none_of [] n = Unit {0}
none_of (k ∷ l) n = none_of l n × (n ≢ k)

past : {k n : ℕ} → k ≤ n → n ≢ k → suc k ≤ n
past l d = omega arith

-- what no arm before the last takes, and is none of the kinds told apart first, is a Local
pub the_last : {table : List ℕ} {i : ℕ} {state : List ℕ} {m : Progress} {rooms : Rooms} → CanRun 0 Others (lent table state m rooms) i → {n : ℕ} → n ≡ kind_at table i
    → none_of (15 ∷ 14 ∷ 13 ∷ 11 ∷ 10 ∷ 9 ∷ 7 ∷ 6 ∷ 5 ∷ 2 ∷ 1 ∷ 0 ∷ []) n → n ≡ local_kind
the_last (before, part, behind, o) {n} read ((((((((((((z, n0), n1), n2), n5), n6), n7), n9), n10), n11), n13), n14), n15) =
    let (t, w, h) = o.live in
    let is = kind_is read h in
    let least : 0 ≤ n = omega arith in
    let beyond-2 = past (past (past least n0) n1) n2 in
    let beyond-7 = past (past (past (past (past beyond-2 (λ e. w.2 (is ∙ e))) (λ e. w.0 (is ∙ e))) n5) n6) n7 in
    let beyond-11 = past (past (past (past beyond-7 (λ e. w.1 (is ∙ e))) n9) n10) n11 in
    between n beyond-11 (rw is at (its_kind (prog t)).known_kind) n13 n14 n15

-- the node that the code has found is the one that the laws speak of
pub run_at : {W : Term → Type 0} {L L' : Lent} {r : Flag} {j k : ℕ} → j ≡ k → HasRun 0 W L j L' r → HasRun 0 W L k L' r
run_at {W} {L} {L'} {r} e run = subst (λ (n : ℕ). HasRun 0 W L n L' r) e run
