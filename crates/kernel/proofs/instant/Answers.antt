-- `instant` meets its contract: a refusal, or the passes over the state's own bytes and the store's free part.
use Prim.Native.Nat.{◌+◌}
use mathlib.Core.Path.{refl, ap, sym, ◌∙◌}
use mathlib.Core.List.{◌++◌}
use native.Mathlib.Omega.{arith}
use lib.ListN.{drop}
use borrow.Author.Rules.{rules}
use lib.Seq.{length-take-le}
use Rattle.std.proofs.lemmas.Result.{err_from_is_err_and}
use Rattle.events.specs.Members.{members}
use Rattle.store.specs.Store.{in_use, two}
use Rattle.store.proofs.Room.{sixteen_bits}
use Rattle.kernel.specs.Answer.{rooms}
use Rattle.kernel.proofs.Accepted.{admitted}
use Rattle.kernel.proofs.FreePart.{good_fits, few_in_use, few_parked, part_on, part_back}
use Rattle.kernel.proofs.Outcomes.{all_passed}
use Rattle.kernel.proofs.ValueWords.{by_bytes}
use Rattle.kernel.proofs.Answers.{startable, answered_ran}
use Rattle.kernel.proofs.instant.Goals as goal

-- let n = word_at(table, table.len() - 10);
pub overflow_sub-table : goal.overflow_sub-table
overflow_sub-table c =
    let lent = rooms c.args.atoms.now c.args.store.now in
    let p = all_passed c.args.table.now c.args.state.now (members c.args.events) lent (sym c.in_ok-outcome_of.ensures) in
    let frame = (admitted c.args.table.now p.verdict).loaded.framed in
    omega arith

pub word_at-n-requires : goal.word_at-n-requires
word_at-n-requires c =
    let lent = rooms c.args.atoms.now c.args.store.now in
    let p = all_passed c.args.table.now c.args.state.now (members c.args.events) lent (sym c.in_ok-outcome_of.ensures) in
    let frame = (admitted c.args.table.now p.verdict).loaded.framed in
    omega arith

-- let used = word_at(store, 0);
pub word_at-used-requires : goal.word_at-used-requires
word_at-used-requires c =
    let lent = rooms c.args.atoms.now c.args.store.now in
    let p = all_passed c.args.table.now c.args.state.now (members c.args.events) lent (sym c.in_ok-outcome_of.ensures) in
    let fits = good_fits c.args.table.now c.args.store.now p.store_passes in
    omega arith

-- &mut state[..4 * n],
pub slice_bounds-run_passes-end : goal.slice_bounds-run_passes-end
slice_bounds-run_passes-end c =
    let lent = rooms c.args.atoms.now c.args.store.now in
    let p = all_passed c.args.table.now c.args.state.now (members c.args.events) lent (sym c.in_ok-outcome_of.ensures) in
    rw c.word_at-n.ensures.0 p.room

pub slice_bounds-run_passes-end-2 : goal.slice_bounds-run_passes-end-2
slice_bounds-run_passes-end-2 c =
    let lent = rooms c.args.atoms.now c.args.store.now in
    let p = all_passed c.args.table.now c.args.state.now (members c.args.events) lent (sym c.in_ok-outcome_of.ensures) in
    sym (length-take-le _ c.args.state.now (rw c.word_at-n.ensures.0 p.room))

-- &mut store[2 + used..],
pub slice_bounds-run_passes-count : goal.slice_bounds-run_passes-count
slice_bounds-run_passes-count c =
    let lent = rooms c.args.atoms.now c.args.store.now in
    let p = all_passed c.args.table.now c.args.state.now (members c.args.events) lent (sym c.in_ok-outcome_of.ensures) in
    let fits = good_fits c.args.table.now c.args.store.now p.store_passes in
    omega (arith, c.word_at-used.ensures.0)

pub slice_bounds-run_passes-start : goal.slice_bounds-run_passes-start
slice_bounds-run_passes-start c =
    let lent = rooms c.args.atoms.now c.args.store.now in
    let p = all_passed c.args.table.now c.args.state.now (members c.args.events) lent (sym c.in_ok-outcome_of.ensures) in
    let fits = good_fits c.args.table.now c.args.store.now p.store_passes in
    omega (arith, c.word_at-used.ensures.0)

-- let ending = run_passes(
pub run_passes-ending-requires : goal.run_passes-ending-requires
run_passes-ending-requires c =
    let lent = rooms c.args.atoms.now c.args.store.now in
    let p = all_passed c.args.table.now c.args.state.now (members c.args.events) lent (sym c.in_ok-outcome_of.ensures) in
    let fits = good_fits c.args.table.now c.args.store.now p.store_passes in
    rw (c.word_at-n.ensures.0, c.word_at-used.ensures.0, part_on c.args.store.now (2 + in_use c.args.store.now) fits)
    (startable c.args.table.now c.args.state.now p (λ i. (c.slice_known-1.given i).fits))

-- put_in_use(store, used + ending.parked);
pub overflow_add-used-2 : goal.overflow_add-used-2
overflow_add-used-2 c =
    let lent = rooms c.args.atoms.now c.args.store.now in
    let p = all_passed c.args.table.now c.args.state.now (members c.args.events) lent (sym c.in_ok-outcome_of.ensures) in
    let fits = good_fits c.args.table.now c.args.store.now p.store_passes in
    let few = few_parked p.verdict c.run_passes-ending.ensures.run in
    let all = sixteen_bits c.args.store.now p.parked fits (few_in_use c.args.store.now (λ i. (c.slice_known-3-1.given i).fits)) p.parking_room in
    omega (arith, c.word_at-used.ensures.0, c.run_passes-ending.ensures.parked_is)

pub put_in_use-requires : goal.put_in_use-requires
put_in_use-requires c =
    let lent = rooms c.args.atoms.now c.args.store.now in
    let p = all_passed c.args.table.now c.args.state.now (members c.args.events) lent (sym c.in_ok-outcome_of.ensures) in
    let fits = good_fits c.args.table.now c.args.store.now p.store_passes in
    let few = few_parked p.verdict c.run_passes-ending.ensures.run in
    let all = sixteen_bits c.args.store.now p.parked fits (few_in_use c.args.store.now (λ i. (c.slice_known-3-1.given i).fits)) p.parking_room in
    (search rules, omega (arith, c.word_at-used.ensures.0, c.run_passes-ending.ensures.parked_is))

-- pub fn instant
pub returns : goal.returns
returns c =
    let lent = rooms c.args.atoms.now c.args.store.now in
    let p = all_passed c.args.table.now c.args.state.now (members c.args.events) lent (sym c.in_ok-outcome_of.ensures) in
    let fits = good_fits c.args.table.now c.args.store.now p.store_passes in
    let s = c.args.store.now in
    let ran = c.in_ok-outcome_of.ensures in
    let nodes_are = c.word_at-n.ensures.0 in
    let used_is = c.word_at-used.ensures.0 in
    let values_are = by_bytes c.args.values.now _ _ c.eight_from.ensures c.eight_from-2.ensures in
    let stored =
    rw used_is at c.put_in_use.ensures
    ∙ ap (λ l. two (in_use s + c.run_passes-ending.result.parked) ++ drop 2 l) (part_back s (2 + in_use s) fits _) in
    rw (nodes_are, stored)
    (answered_ran p ran (rw (nodes_are, used_is, values_are, part_on s (2 + in_use s) fits) at c.run_passes-ending.ensures))

-- outcome_of(table, state, events, atoms, store)?;
pub returns-in_err-outcome_of : goal.returns-in_err-outcome_of
returns-in_err-outcome_of c =
    let (why, is_err, same) = err_from_is_err_and c.from_residual.result c.from_residual.ensures.1 in
    rw (is_err, same) (record { outcome_is = c.in_err-outcome_of.ensures; leaves = (refl, refl) })
