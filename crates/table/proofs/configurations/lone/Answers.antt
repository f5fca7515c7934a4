-- `table::configurations::lone` meets its contract: sixteen times the kind byte and the event byte are below V
-- exactly for an event below V.
use Prim.Native.Nat.{◌<◌}
use mathlib.Core.Path.{◌≡◌, sym, ◌∙◌}
use native.Mathlib.Omega.{arith}
use borrow.Author.Tests.{lt-ltb, ne_eqb}
use Rattle.table.specs.Records.{kind_byte, part_kind, part_event, events}
use Rattle.table.specs.Good.{parts}
use Rattle.table.proofs.OwnBytes.{own, not_lone}
use Rattle.table.proofs.configurations.lone.Goals as goal

-- return part_size(table, c) == 1;
pub returns-then-wide-v : goal.returns-then-wide-v
unfolding parts
returns-then-wide-v c j b =
    let part-size = c.part_size in
    let t = c.args.table.now in
    let at = c.args.c in
    let k : part_kind t at ≡ 0 = omega arith in
    let small : kind_byte t at < 64 = omega arith in
    let e : part_event t at < events t = omega arith in
    rw (own t _ j b, lt-ltb _ _ small, k, lt-ltb _ _ e, part-size.ensures.0)

-- fn lone
pub returns-else-wide-v : goal.returns-else-wide-v
returns-else-wide-v c j b =
    let t = c.args.table.now in
    let at = c.args.c in
    let k : part_kind t at ≡ 0 = omega arith in
    rw (own t _ j b) (sym (not_lone t at k (omega arith)))

pub returns-else-part_kind-eq0 : goal.returns-else-part_kind-eq0
returns-else-part_kind-eq0 c j b =
    let part-kind = c.part_kind in
    let if1 = c.if-part_kind-eq0 in
    let t = c.args.table.now in
    rw (ne_eqb (part_kind t c.args.c) 0 (λ e. if1.false (part-kind.ensures.0 ∙ e)))
