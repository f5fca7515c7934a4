-- `first_deep` meets its contract: the first node deeper than 64 in preorder, its own part first, then the second one's.
use Prim.Native.Nat.{ℕ}
use borrow.Author.Rules.{rules}
use native.Mathlib.Omega.{arith}
use Rattle.table.proofs.Deep.{has_first, has_second_lem, found_here, found_none, found_one, found_first, found_second}
use Rattle.table.proofs.Judged.{good_head, known_so}
use Rattle.table.proofs.nodes.+first_deep.Goals as goal

-- let count = kind_of(table, i).children();
pub kind_of-requires-clause-known_kind : goal.kind_of-requires-clause-known_kind
kind_of-requires-clause-known_kind t c =
    let P = c.requires in
    known_so _ (good_head c.args.table.now c.args.i (P.all_good.good _ P.shallow.0)).0

-- return i;
pub returns-then-d-gt64 : goal.returns-then-d-gt64
returns-then-d-gt64 t c =
    let if1 = c.if-d-gt64 in
    let P = c.requires in
    found_here P.all_good P.shallow.0 _ if1.true

pub returns-then-count-eq0 : goal.returns-then-count-eq0
returns-then-count-eq0 t c =
    let if1 = c.if-d-gt64 in
    let kind = c.kind_of in
    let children-of = c.children-count in
    let if2 = c.if-count-eq0 in
    let P = c.requires in
    found_none P.all_good P.shallow.0 kind.ensures children-of.ensures _ if1.false if2.true

pub first_deep-found-requires : goal.first_deep-found-requires
first_deep-found-requires t c =
    let kind = c.kind_of in
    let children-of = c.children-count in
    let if2 = c.if-count-eq0 in
    let P = c.requires in
    let first = has_first P.all_good P.shallow.0 kind.ensures children-of.ensures if2.false in
    (omega arith, (P.all_good, (first, omega arith)))

-- return found;
pub returns-then-count-eq1 : goal.returns-then-count-eq1
returns-then-count-eq1 t c =
    let if1 = c.if-d-gt64 in
    let kind = c.kind_of in
    let children-of = c.children-count in
    let first-deep = c.first_deep-found in
    let if3 = c.if-count-eq1 in
    let P = c.requires in
    found_one
    P.all_good P.shallow.0 kind.ensures children-of.ensures
    _ if1.false if3.true _ first-deep.ensures

-- return found;
pub returns-then-found-second : goal.returns-then-found-second
returns-then-found-second t c =
    let if1 = c.if-d-gt64 in
    let kind = c.kind_of in
    let children-of = c.children-count in
    let if2 = c.if-count-eq0 in
    let first-deep = c.first_deep-found in
    let if3 = c.if-count-eq1 in
    let second_at = c.second_at-second in
    let if4 = c.if-found-second in
    let P = c.requires in
    let second = rw second_at.ensures at if4.true in
    found_first
    P.all_good P.shallow.0 kind.ensures children-of.ensures
    _ if1.false if2.false if3.false _ first-deep.ensures second

pub first_deep-requires : goal.first_deep-requires
first_deep-requires t c =
    let kind = c.kind_of in
    let children-of = c.children-count in
    let if2 = c.if-count-eq0 in
    let if3 = c.if-count-eq1 in
    let second_at = c.second_at-second in
    let P = c.requires in
    let second = has_second_lem P.all_good P.shallow.0 kind.ensures children-of.ensures if2.false if3.false in
    rw second_at.ensures (omega arith, (P.all_good, (second, omega arith)))

-- fn first_deep
pub returns : goal.returns
returns t c =
    let if1 = c.if-d-gt64 in
    let kind = c.kind_of in
    let children-of = c.children-count in
    let if2 = c.if-count-eq0 in
    let first-deep = c.first_deep-found in
    let if3 = c.if-count-eq1 in
    let second_at = c.second_at-second in
    let if4 = c.if-found-second in
    let first-deep2 = c.first_deep in
    let P = c.requires in
    let second = rw second_at.ensures at if4.false in
    let later = rw second_at.ensures at first-deep2.ensures in
    found_second
    P.all_good P.shallow.0 kind.ensures children-of.ensures
    _ if1.false if2.false if3.false _ first-deep.ensures second _ later
