-- `outcome_of` meets its contract: the checks one after the other.
use mathlib.Core.Path.{sym, ap, ◌∙◌}
use native.Mathlib.Omega.{arith}
use Rattle.std.specs.Prelude.{Err}
use Rattle.std.proofs.lemmas.Result.{err_from_is_err_and}
use Rattle.events.specs.Members.{members}
use Rattle.table.proofs.Subtrees.{rooted}
use Rattle.kernel.specs.declared.Refusal.TheVariants.{NotAtRest, UnlistedEvent}
use Rattle.kernel.specs.Answer.{rooms}
use Rattle.kernel.proofs.Accepted.{admitted}
use Rattle.kernel.proofs.Outcomes.{instant_refused, short_room, not_at_rest, unlisted_event, short_row}
use Rattle.kernel.proofs.Outcomes.{by_store}
use Rattle.kernel.proofs.outcome_of.Goals as goal

-- let n = word_at(table, table.len() - 10);
pub overflow_sub-table : goal.overflow_sub-table
overflow_sub-table c =
    let frame = (admitted c.args.table.now (sym c.in_ok-most.ensures)).loaded.framed in
    omega arith

pub word_at-n-requires : goal.word_at-n-requires
word_at-n-requires c =
    let frame = (admitted c.args.table.now (sym c.in_ok-most.ensures)).loaded.framed in
    omega arith

-- return Err(Refusal::StateRoom);
pub returns-then-state-n : goal.returns-then-state-n
returns-then-state-n c =
    short_room c.args.table.now c.args.state.now (sym c.in_ok-most.ensures) (members c.args.events) (rooms c.args.atoms.now c.args.store.now)
    (rw c.word_at-n.ensures.0 at c.if-state-n.true)

-- if let Some(i) = first_blamed(table, n, state) {
pub first_blamed-requires : goal.first_blamed-requires
first_blamed-requires c =
    let loaded = (admitted c.args.table.now (sym c.in_ok-most.ensures)).loaded in
    record { rooted = rw c.word_at-n.ensures.0 (rooted loaded); state_long = c.if-state-n.false }

-- return Err(Refusal::NotAtRest(i));
pub returns-in-Some : goal.returns-in-Some
returns-in-Some c =
    let found = rw c.word_at-n.ensures.0 at c.in-Some.ensures.0 in
    ap (λ i. Err (NotAtRest i)) found
    ∙ not_at_rest c.args.table.now c.args.state.now (sym c.in_ok-most.ensures) (members c.args.events) (rooms c.args.atoms.now c.args.store.now)
    (rw c.word_at-n.ensures.0 at c.if-state-n.false) (rw (found, c.word_at-n.ensures.0) at c.in-Some.ensures.1)

-- let v = word_at(table, table.len() - 6);
pub overflow_sub-table-2 : goal.overflow_sub-table-2
overflow_sub-table-2 c =
    let frame = (admitted c.args.table.now (sym c.in_ok-most.ensures)).loaded.framed in
    omega arith

pub word_at-v-requires : goal.word_at-v-requires
word_at-v-requires c =
    let frame = (admitted c.args.table.now (sym c.in_ok-most.ensures)).loaded.framed in
    omega arith

-- return Err(Refusal::UnlistedEvent(e));
pub returns-in-Some-lowest_from : goal.returns-in-Some-lowest_from
returns-in-Some-lowest_from c =
    let found = rw c.word_at-v.ensures.0 at c.in-Some-lowest_from.ensures.0 in
    ap (λ e. Err (UnlistedEvent e)) found
    ∙ unlisted_event c.args.table.now c.args.state.now (sym c.in_ok-most.ensures) (members c.args.events) (rooms c.args.atoms.now c.args.store.now)
    (rw c.word_at-n.ensures.0 at c.if-state-n.false) (rw (rw c.word_at-n.ensures.0 at c.in_default.ensures) (omega arith)) (rw found at c.in-Some-lowest_from.ensures.1)

-- return store_outcome(table, store, most.parked);
pub store_outcome-requires : goal.store_outcome-requires
store_outcome-requires c =
    (admitted c.args.table.now (sym c.in_ok-most.ensures)).loaded

pub returns-then-most-atoms : goal.returns-then-most-atoms
returns-then-most-atoms c =
    c.store_outcome.ensures
    ∙ by_store c.args.table.now c.args.state.now (sym c.in_ok-most.ensures) (members c.args.events) (rooms c.args.atoms.now c.args.store.now)
    (rw c.word_at-n.ensures.0 at c.if-state-n.false) (rw (rw c.word_at-n.ensures.0 at c.in_default.ensures) (omega arith))
    (rw (rw c.word_at-v.ensures.0 at c.in_default-lowest_from.ensures) (omega arith)) c.if-most-atoms.true

-- fn outcome_of
pub returns : goal.returns
returns c =
    short_row c.args.table.now c.args.state.now (sym c.in_ok-most.ensures) (members c.args.events) (rooms c.args.atoms.now c.args.store.now)
    (rw c.word_at-n.ensures.0 at c.if-state-n.false) (rw (rw c.word_at-n.ensures.0 at c.in_default.ensures) (omega arith))
    (rw (rw c.word_at-v.ensures.0 at c.in_default-lowest_from.ensures) (omega arith)) c.if-most-atoms.false

-- let most = check(table)?;
pub returns-in_err-most : goal.returns-in_err-most
returns-in_err-most c =
    let (why, is_err, same) = err_from_is_err_and c.from_residual.result c.from_residual.ensures.1 in
    is_err ∙ (ap Err same ∙ instant_refused c.args.table.now c.args.state.now (members c.args.events) (rooms c.args.atoms.now c.args.store.now) c.in_err-most.ensures)
