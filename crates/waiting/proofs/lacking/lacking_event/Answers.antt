-- `lacking_event` meets its contract: what is gathered so far, with the records left, is what all of them give.
use Prim.Native.Nat.{◌+◌, ◌-◌, ◌*◌, ◌<◌}
use mathlib.Core.Path.{◌≡◌, refl, sym, ◌∙◌}
use native.Mathlib.Omega.{arith}
use Rattle.events.specs.Members.{places}
use Rattle.table.specs.Records.{part_size}
use Rattle.table.proofs.ByParts.{own_inside, written}
use Rattle.waiting.proofs.Gathered.{gathered, lacks_as, one_more, no_more}
use Rattle.waiting.proofs.lacking.lacking_event.Goals.{After-loop-record}
use Rattle.waiting.proofs.lacking.lacking_event.Goals as goal

-- for record in 0..part_size(table, c) {
pub part_size-record-end-requires : goal.part_size-record-end-requires
part_size-record-end-requires c = omega (arith, own_inside _ _ c.requires)

-- low = lowest_after(table, c + 4 * record, words, low);
pub lowest_after-low-requires : goal.lowest_after-low-requires
lowest_after-low-requires c =
    let (d, h, l, low) = c.requires in
    omega (arith, written _ _ d h, c.part_size-record-end.ensures.0)

pub loop-record-preserved : goal.loop-record-preserved
loop-record-preserved c =
    let t = c.args.table.now in
    let k = c.loop-record.record in
    let size = part_size t c.args.c in
    let some : 0 < size - k = omega (arith, c.part_size-record-end.ensures.0, c.loop-record-test.true) in
    let less : size - k - 1 ≡ size - (k + 1) = omega arith in
    let next : c.args.c + 4 * k + 4 ≡ c.args.c + 4 * (k + 1) = omega arith in
    rw (c.lowest_after-low.ensures, ← less, ← next) (sym (one_more t c.args.words.now (size - k) (c.args.c + 4 * k) c.loop-record.low some) ∙ c.loop-record.invariant)

-- all of them are gathered
gathered_all : (c : After-loop-record) → c.loop-record.low ≡ gathered c.args.table.now c.args.words.now (part_size c.args.table.now c.args.c) c.args.c places
gathered_all c =
    let t = c.args.table.now in
    let k = c.loop-record.record in
    let size = part_size t c.args.c in
    let none_left : size - k ≡ 0 = omega (arith, c.part_size-record-end.ensures.0, c.loop-record-test.false) in
    sym (no_more t c.args.words.now (size - k) (c.args.c + 4 * k) c.loop-record.low none_left) ∙ c.loop-record.invariant

pub returns-then-low-lt-PLACES : goal.returns-then-low-lt-PLACES
returns-then-low-lt-PLACES c =
    let all = gathered_all (goal.at.returns-then-low-lt-PLACES c).After-loop-record in
    lacks_as c.args.table.now _ _ (λ i. (c.type_inv.table i).fits) all (λ h. refl) (λ h. absurd (omega (arith, c.if-low-lt-PLACES.true)))

pub returns-else-low-lt-PLACES : goal.returns-else-low-lt-PLACES
returns-else-low-lt-PLACES c =
    let all = gathered_all (goal.at.returns-else-low-lt-PLACES c).After-loop-record in
    lacks_as c.args.table.now _ _ (λ i. (c.type_inv.table i).fits) all (λ h. absurd (omega (arith, c.if-low-lt-PLACES.false))) (λ h. refl)
