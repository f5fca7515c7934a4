-- `table::configurations::parts_good` meets its contract.
use Prim.Native.Nat.{◌+◌, ◌*◌}
use mathlib.Core.Path.{◌≡◌, sym}
use native.Mathlib.Omega.{arith}
use borrow.Author.Tests.{lt-ltb, le-ltb, eq-eqb, ne_eqb}
use Rattle.table.specs.Records.{part_size}
use Rattle.table.specs.Good.{parts}
use Rattle.table.proofs.OwnBytes.{own, some_parts, no_parts}
use Rattle.table.proofs.configurations.parts_good.Goals as goal

-- return Some(1);
pub returns-then-size-first : goal.returns-then-size-first
unfolding parts
returns-then-size-first c j b =
    let shared-slice-known = c.shared_slice_known-1 in
    let if1 = c.if-c-end in
    let t = c.args.table.now in
    let at = c.args.c in
    let byte = (shared-slice-known.given (at + 1)).fits in
    let size : part_size t at ≡ 1 + part_size t (at + 4) = omega arith in
    let fine = some_parts t at 1 (omega arith) (omega arith) byte (omega arith) in
    rw (own t at j b) (sym (fine (rw (lt-ltb _ _ if1.true, eq-eqb _ _ size))), λ e. omega arith)

-- return None;
pub returns-then-head-eq256 : goal.returns-then-head-eq256
returns-then-head-eq256 c j b =
    let if1 = c.if-c-end in
    let if3 = c.if-size-first in
    let t = c.args.table.now in
    let at = c.args.c in
    let size : part_size t at ≡ 1 + part_size t (at + 4) → ⊥ = λ e. if3.false (omega arith) in
    rw (own t at j b) (sym (no_parts t at (λ e. rw (lt-ltb _ _ if1.true, ne_eqb _ _ size)) (λ k l m e. absurd (omega arith))))

-- return 2;
pub returns-then-head-eq512 : goal.returns-then-head-eq512
unfolding parts
returns-then-head-eq512 c j b =
    let shared-slice-known = c.shared_slice_known-1 in
    let if1 = c.if-c-end in
    let part-size2 = c.part_size-first in
    let if4 = c.if-second-end in
    let part-size3 = c.part_size in
    let t = c.args.table.now in
    let at = c.args.c in
    let byte = (shared-slice-known.given (at + 1)).fits in
    let first = part-size2.ensures.0 in
    let second = rw first at part-size3.ensures.0 in
    let size : part_size t at ≡ 1 + part_size t (at + 4) + part_size t (at + 4 + 4 * part_size t (at + 4)) = omega arith in
    let fine = some_parts t at 2 (omega arith) (omega arith) byte (omega arith) in
    rw (own t at j b) (sym (fine (rw (lt-ltb _ _ if1.true, lt-ltb _ _ (rw first at if4.true), eq-eqb _ _ size))), λ e. omega arith)

pub returns-then-head-eq768 : goal.returns-then-head-eq768
unfolding parts
returns-then-head-eq768 c j b =
    let shared-slice-known = c.shared_slice_known-1 in
    let if1 = c.if-c-end in
    let part-size2 = c.part_size-first in
    let if4 = c.if-second-end in
    let part-size3 = c.part_size in
    let t = c.args.table.now in
    let at = c.args.c in
    let byte = (shared-slice-known.given (at + 1)).fits in
    let first = part-size2.ensures.0 in
    let second = rw first at part-size3.ensures.0 in
    let size : part_size t at ≡ 1 + part_size t (at + 4) + part_size t (at + 4 + 4 * part_size t (at + 4)) = omega arith in
    let fine = some_parts t at 3 (omega arith) (omega arith) byte (omega arith) in
    rw (own t at j b) (sym (fine (rw (lt-ltb _ _ if1.true, lt-ltb _ _ (rw first at if4.true), eq-eqb _ _ size))), λ e. omega arith)

-- fn parts_good
pub returns-else-head-eq768 : goal.returns-else-head-eq768
returns-else-head-eq768 c j b =
    let t = c.args.table.now in
    let at = c.args.c in
    rw (own t at j b) (sym (no_parts t at (λ e. absurd (omega arith)) (λ k l m e. absurd (omega arith))))

pub returns-else-size-first-2 : goal.returns-else-size-first-2
returns-else-size-first-2 c j b =
    let if1 = c.if-c-end in
    let part-size2 = c.part_size-first in
    let if4 = c.if-second-end in
    let part-size3 = c.part_size in
    let if5 = c.if-size-first-2 in
    let t = c.args.table.now in
    let at = c.args.c in
    let first = part-size2.ensures.0 in
    let second = rw first at part-size3.ensures.0 in
    let size : part_size t at ≡ 1 + part_size t (at + 4) + part_size t (at + 4 + 4 * part_size t (at + 4)) → ⊥ = λ e. if5.false (omega arith) in
    let behind = rw first at if4.true in
    rw (own t at j b) (sym (no_parts t at (λ e. absurd (omega arith)) (λ k l m e. rw (lt-ltb _ _ if1.true, lt-ltb _ _ behind, ne_eqb _ _ size))))

pub returns-else-second-end : goal.returns-else-second-end
returns-else-second-end c j b =
    let if1 = c.if-c-end in
    let part-size2 = c.part_size-first in
    let if4 = c.if-second-end in
    let t = c.args.table.now in
    let at = c.args.c in
    let first = part-size2.ensures.0 in
    rw (own t at j b) (sym (no_parts t at (λ e. absurd (omega arith)) (λ k l m e. rw (lt-ltb _ _ if1.true, le-ltb _ _ (rw first at if4.false)))))

pub returns-else-c-end : goal.returns-else-c-end
returns-else-c-end c j b =
    let if1 = c.if-c-end in
    let t = c.args.table.now in
    let at = c.args.c in
    let past = le-ltb _ _ if1.false in
    rw (own t at j b) (sym (no_parts t at (λ e. rw past) (λ k l m e. rw past)))
