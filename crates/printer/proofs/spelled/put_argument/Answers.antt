-- `put_argument` meets its contract, by what the kind takes.
use native.Mathlib.Omega.{arith}
use Rattle.table.specs.Records.{kind_at}
use Rattle.table.proofs.Tree.{size_pos}
use Rattle.table.proofs.Loaded.{in_table}
use Rattle.printer.proofs.ArgumentsIn.{is_test_lem, is_no_test, is_cap, is_no_cap, is_number, is_no_number, test_part, puts_test, cap_fits, puts_cap}
use Rattle.printer.proofs.ArgumentsIn.{number_fits, puts_number, puts_no_argument}
use Rattle.printer.proofs.spelled.put_argument.Goals as goal

-- return put_test(table, 6 * n + 4 * argument_at(table, i), room, at);
pub argument_at-requires : goal.argument_at-requires
argument_at-requires c =
    omega (arith, in_table c.requires.printable.placed 0 (size_pos c.requires.printable.program))

pub put_test-requires : goal.put_test-requires
put_test-requires c =
    let tests = is_test_lem (kind_at c.args.table.now c.args.i) c.requires.first_code c.if-code-eq-TEST.true in
    rw (c.word_at-n.ensures.0, c.argument_at.ensures.0) (test_part tests c.requires.printable)

pub returns-then-code-eq-TEST : goal.returns-then-code-eq-TEST
returns-then-code-eq-TEST c =
    let tests = is_test_lem (kind_at c.args.table.now c.args.i) c.requires.first_code c.if-code-eq-TEST.true in
    puts_test tests (rw (c.word_at-n.ensures.0, c.argument_at.ensures.0) at c.put_test.ensures)

-- return put_capped(room, at, argument_at(table, i));
pub argument_at-requires-then-behind-eq-CAP : goal.argument_at-requires-then-behind-eq-CAP
argument_at-requires-then-behind-eq-CAP c =
    omega (arith, in_table c.requires.printable.placed 0 (size_pos c.requires.printable.program))

pub put_capped-requires : goal.put_capped-requires
put_capped-requires c =
    let no_test = is_no_test (kind_at c.args.table.now c.args.i) c.requires.first_code c.if-code-eq-TEST.false in
    let cap = is_cap (kind_at c.args.table.now c.args.i) c.requires.behind_a_comma c.if-behind-eq-CAP.true in
    cap_fits no_test cap c.argument_at-then-behind-eq-CAP.ensures.0 c.requires.printable

pub returns-then-behind-eq-CAP : goal.returns-then-behind-eq-CAP
returns-then-behind-eq-CAP c =
    let no_test = is_no_test (kind_at c.args.table.now c.args.i) c.requires.first_code c.if-code-eq-TEST.false in
    let cap = is_cap (kind_at c.args.table.now c.args.i) c.requires.behind_a_comma c.if-behind-eq-CAP.true in
    puts_cap no_test cap c.argument_at-then-behind-eq-CAP.ensures.0 c.put_capped.ensures

-- return put_number(room, at, argument_at(table, i));
pub argument_at-requires-then-code-ge-EVENT : goal.argument_at-requires-then-code-ge-EVENT
argument_at-requires-then-code-ge-EVENT c =
    omega (arith, in_table c.requires.printable.placed 0 (size_pos c.requires.printable.program))

pub put_number-requires : goal.put_number-requires
put_number-requires c =
    let no_test = is_no_test (kind_at c.args.table.now c.args.i) c.requires.first_code c.if-code-eq-TEST.false in
    let no_cap = is_no_cap (kind_at c.args.table.now c.args.i) c.requires.behind_a_comma c.if-behind-eq-CAP.false in
    let number = is_number (kind_at c.args.table.now c.args.i) c.requires.first_code c.if-code-ge-EVENT.true in
    number_fits no_test no_cap number c.argument_at-then-code-ge-EVENT.ensures.0 c.requires.printable

pub returns-then-code-ge-EVENT : goal.returns-then-code-ge-EVENT
returns-then-code-ge-EVENT c =
    let no_test = is_no_test (kind_at c.args.table.now c.args.i) c.requires.first_code c.if-code-eq-TEST.false in
    let no_cap = is_no_cap (kind_at c.args.table.now c.args.i) c.requires.behind_a_comma c.if-behind-eq-CAP.false in
    let number = is_number (kind_at c.args.table.now c.args.i) c.requires.first_code c.if-code-ge-EVENT.true in
    puts_number no_test no_cap number c.argument_at-then-code-ge-EVENT.ensures.0 c.put_number.ensures

-- fn put_argument
pub returns : goal.returns
returns c =
    let no_test = is_no_test (kind_at c.args.table.now c.args.i) c.requires.first_code c.if-code-eq-TEST.false in
    let no_cap = is_no_cap (kind_at c.args.table.now c.args.i) c.requires.behind_a_comma c.if-behind-eq-CAP.false in
    let no_number = is_no_number (kind_at c.args.table.now c.args.i) c.requires.first_code c.if-code-ge-EVENT.false in
    puts_no_argument no_test no_cap no_number

pub overflow_sub-table : goal.overflow_sub-table
overflow_sub-table c = omega (arith, c.requires.printable.placed.loaded.framed.long)

pub word_at-n-requires : goal.word_at-n-requires
word_at-n-requires c = omega (arith, c.requires.printable.placed.loaded.framed.long)
