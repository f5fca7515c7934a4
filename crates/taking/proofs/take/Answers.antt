-- `take` meets its contract: a refused table, a store that isn't good, no such piece, or that piece.
use mathlib.Core.Path.{sym, ◌∙◌}
use native.Mathlib.Omega.{arith}
use borrow.Author.Rules.{rules}
use Rattle.std.proofs.lemmas.Result.{err_from_is_err_and}
use Rattle.table.proofs.Accepted.{no_number, loaded}
use Rattle.taking.specs.TakenWell.{Bytes}
use Rattle.taking.proofs.Found.{holding, found_in}
use Rattle.taking.proofs.Answers.{refused_table, refused_store, refused_piece, lacks_piece, took_so}
use Rattle.taking.proofs.take.Goals as goal

-- check(table)?;
pub returns-in_err-check : goal.returns-in_err-check
returns-in_err-check c =
    let (why, is_err, same) = err_from_is_err_and c.from_residual.result c.from_residual.ensures.1 in
    rw (is_err, same) (refused_table (sym c.in_err-check.ensures))

-- if !store_good(table, store) {
pub store_good-requires : goal.store_good-requires
store_good-requires c = loaded c.in_ok-check.ensures

-- return Err(TakeRefusal::BadStore);
pub returns-then-not-store_good : goal.returns-then-not-store_good
returns-then-not-store_good c = refused_store (no_number c.in_ok-check.ensures) (sym c.store_good.ensures ∙ c.if-not-store_good.true)

-- let at = newest_at(table, store, event).ok_or(TakeRefusal::NoPiece)?;
pub newest_at-requires-clause-loaded : goal.newest_at-requires-clause-loaded
newest_at-requires-clause-loaded c = loaded c.in_ok-check.ensures

-- let at = newest_at(table, store, event).ok_or(TakeRefusal::NoPiece)?;
pub returns-in_err-at : goal.returns-in_err-at
returns-in_err-at c =
    let none = rw c.in_err-at.ensures.ok_part at c.newest_at.ensures in
    let (why, is_err, same) = err_from_is_err_and c.from_residual-in_err-at.result c.from_residual-in_err-at.ensures.1 in
    let lacks = same ∙ lacks_piece c.newest_at.result c.in_err-at.ensures.value in
    rw (is_err, lacks) (refused_piece (no_number c.in_ok-check.ensures) (sym c.store_good.ensures ∙ c.if-not-store_good.false) none)

-- take_at(table, store, at, table_room, state_room)
pub take_at-requires : goal.take_at-requires
take_at-requires c =
    let A = c.args in
    let l = loaded c.in_ok-check.ensures in
    let small : Bytes A.store.now = search rules in
    let at = rw c.in_ok-at.ensures.ok_part at c.newest_at.ensures in
    let found = found_in A.event l small (sym c.store_good.ensures ∙ c.if-not-store_good.false) (λ z. omega (arith, at.0, at.1)) in
    rw at.0 (holding found l)

pub returns : goal.returns
returns c =
    let at = rw c.in_ok-at.ensures.ok_part at c.newest_at.ensures in
    took_so (no_number c.in_ok-check.ensures) (sym c.store_good.ensures ∙ c.if-not-store_good.false) at.0 (λ z. omega (arith, at.1)) c.take_at.ensures
