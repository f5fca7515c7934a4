-- What parking does to the state, to what is counted and to the store.
use Rattle.std.specs.Prelude.{ℕ, ◌+◌, ◌*◌, ◌/◌, ◌%◌, Bool, ◌&&◌, not, ◌≡◌, List, ◌∷◌, eqb, drop, replicate}
use borrow.Rule.Slice.PartMut.{mid_of, put_mid}
use Rattle.events.specs.Members.{marks}
use Rattle.table.specs.Records.{argument_at, size_at}
use Rattle.steps.specs.declared.Pass.{Pass}
use Rattle.steps.specs.Lent.{Named}
use Rattle.steps.specs.declared.progress.Progress.{Progress}
use Rattle.steps.specs.Progress.{words_of}

-- node i, in this phase, is pending, the end isn't declared, and its event is absent
abbrev pub stays_pending : List ℕ → ℕ → ℕ → Progress → Bool
stays_pending table i phase m =
    eqb phase 1 && (not m.ended && not (marks (words_of m) (argument_at table i)))

-- a Freezable's bytes with its event and its body's node in place of its own four
abbrev pub piece_from : ℕ → ℕ → List ℕ → List ℕ
piece_from event node own = event / 256 ∷ event % 256 ∷ node / 256 ∷ node % 256 ∷ drop 4 own

-- so the bytes of node i and all below it go behind those that are parked, and in the state they are zero
pub record Parked (table : List ℕ) (i event : ℕ) (state : List ℕ) (m : Progress) (store state' : List ℕ) (m' : Progress) (store' : List ℕ) : Type 0 where
  pub state_is : state' ≡ put_mid (4 * i) (4 * size_at table i) state (replicate (4 * size_at table i) 0)
  pub store_is :
      store' ≡ put_mid m.parked (4 * size_at table i) store (piece_from event (i + 1) (mid_of (4 * i) (4 * size_at table i) state))
  pub progress_is : m' ≡ record m { parked = m.parked + 4 * size_at table i }

-- before that, the bytes of so many nodes are copied from the state to the store
pub record Copied (from to nodes : ℕ) (p p' : Pass) : Type 0 where
  pub state_is : p'.state.now ≡ p.state.now
  pub store_is : p'.store.now ≡ put_mid to (4 * nodes) p.store.now (mid_of from (4 * nodes) p.state.now)
  pub progress_is : p'.progress ≡ p.progress
  pub atoms_is : p'.atoms.now ≡ p.atoms.now
  pub named : Named p p'
