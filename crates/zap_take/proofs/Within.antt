-- What was taken is within its rooms.
use Prim.Native.Nat.{ℕ, ◌≤◌}
use mathlib.Core.Path.{◌≡◌, sym, ◌∙◌}
use mathlib.Core.List.{List}
use native.Mathlib.Omega.{arith}
use lib.ListN.{length}
use Rattle.std.specs.Prelude.{Ok}
use Rattle.taking.specs.declared.Taken.{Taken}
use Rattle.taking.specs.Taking.{Took}
use Rattle.taking.proofs.Outcomes.{all_passed}

pub taken_within : {t s : List ℕ} {e : ℕ} {tableRoom stateRoom s' tableRoom' stateRoom' : List ℕ} {r : Taken}
    → Took t s e tableRoom stateRoom s' tableRoom' stateRoom' (Ok r)
    → (r.table ≤ length tableRoom) × (r.state ≤ length stateRoom)
taken_within {t} {s} {e} {tableRoom} {stateRoom} took =
    let past = all_passed t s e tableRoom stateRoom (sym took.outcome_is) in
    let left = took.leaves in
    (omega (arith, past.table_room, left.table_length), omega (arith, past.state_room, left.state_length))
