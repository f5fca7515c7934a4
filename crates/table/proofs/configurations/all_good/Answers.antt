-- `table::configurations::all_good` meets its contract: up to configuration j all is passed.
use mathlib.Core.List.{[]}
use Prim.Native.Nat.{◌+◌, ◌*◌}
use mathlib.Core.Path.{◌≡◌, sym, ◌∙◌}
use native.Mathlib.Omega.{arith}
use Rattle.table.proofs.Heights.{few_parts}
use Rattle.table.proofs.WayNumbers.{numbered_pos}
use Rattle.table.proofs.Passing.{reached_first, reached_last, begins, reach_lone, reach_parts}
use Rattle.table.proofs.configurations.all_good.Goals.{then-lone, else-lone+in-Some+else-way-gt65535}
use Rattle.table.proofs.configurations.all_good.Goals as goal

-- for j in 0..m {
pub loop-j-init : goal.loop-j-init
loop-j-init c =
    let same : 6 * c.args.n + 4 * 0 ≡ 6 * c.args.n = omega arith in
    rw same (0, [], reached_first c.requires)

-- if lone(table, v, c) {
pub lone-requires : goal.lone-requires
lone-requires c =
    let l = c.loop-j-test.true in
    record {
      some_begins = (_, begins c.requires c.loop-j.invariant.2 (omega arith));
      v_is = (c.requires.v_is, c.requires.v_most);
    }

-- way = closed(way);
pub closed-way-requires : goal.closed-way-requires
closed-way-requires c = omega (arith, c.loop-j.invariant.2.number, numbered_pos c.loop-j.invariant.1)

-- let Some(parts) = parts_good(table, c) else {
pub parts_good-requires : goal.parts_good-requires
parts_good-requires c =
    let l = c.loop-j-test.true in
    (_, begins c.requires c.loop-j.invariant.2 (omega arith))

-- way = 2 * way + (parts - 1);
pub overflow_mul-way : goal.overflow_mul-way
overflow_mul-way c =
    let short = c.loop-j.invariant.2.short in
    record { fits = omega arith }

pub overflow_sub-way : goal.overflow_sub-way
overflow_sub-way c =
    let l = c.loop-j-test.true in
    let b = begins c.requires c.loop-j.invariant.2 (omega arith) in
    omega (arith, (c.in-Some.ensures _ b).1)

pub overflow_add-way : goal.overflow_add-way
overflow_add-way c =
    let l = c.loop-j-test.true in
    let short = c.loop-j.invariant.2.short in
    let b = begins c.requires c.loop-j.invariant.2 (omega arith) in
    let f = few_parts b (c.in-Some.ensures _ b).0 in
    record { fits = omega arith }

-- for j in 0..m {
pub loop-j-preserved : goal.loop-j-preserved
loop-j-preserved c =
    let F = c.requires in
    let r = c.loop-j.invariant.2 in
    let l = c.loop-j-test.true in
    let b = begins F r (omega arith) in
    elim c.if-lone.branch [
      | then-lone w ↦
          let good = sym (c.lone.ensures _ b) ∙ w.if-lone.true in
          rw w.way'-is (_, _, reach_lone F r (omega arith) _ _ (omega arith) good (w.closed-way.ensures _ r.number))
      | else-lone+in-Some+else-way-gt65535 w ↦
          let some = w.in-Some.ensures _ b in
          let short = w.if-way-gt65535.false in
          rw w.way'-is (_, _, reach_parts F r (omega arith) _ _ (omega arith) some.0 some.1 (omega arith))
    ]

-- fn all_good
pub returns : goal.returns
returns c e = reached_last c.requires c.loop-j.invariant (omega arith)
