-- `store_outcome` meets its contract: 25, then 13.
use mathlib.Core.Path.{sym, ◌∙◌}
use Rattle.kernel.proofs.FreePart.{good_fits}
use Rattle.kernel.proofs.Outcomes.{bad_store, short_store, store_ran}
use Rattle.kernel.proofs.store_outcome.Goals as goal

-- if parked <= room_of(store) {
pub room_of-requires : goal.room_of-requires
room_of-requires c =
    good_fits c.args.table.now c.args.store.now (sym c.store_good.ensures ∙ c.if-store_good.true)

-- return Ok(());
pub returns-then-parked-room_of : goal.returns-then-parked-room_of
returns-then-parked-room_of c =
    store_ran c.args.table.now c.args.store.now c.args.parked (sym c.store_good.ensures ∙ c.if-store_good.true) (rw c.room_of.ensures at c.if-parked-room_of.true)

-- return Err(Refusal::StoreRoom);
pub returns-then-store_good : goal.returns-then-store_good
returns-then-store_good c =
    short_store c.args.table.now c.args.store.now c.args.parked (sym c.store_good.ensures ∙ c.if-store_good.true) (rw c.room_of.ensures at c.if-parked-room_of.false)

-- Err(Refusal::BadStore)
pub returns : goal.returns
returns c =
    bad_store c.args.table.now c.args.store.now c.args.parked (sym c.store_good.ensures ∙ c.if-store_good.false)
