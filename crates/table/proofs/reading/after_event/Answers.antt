-- `table::reading::after_event` meets its contract.
use denote.Enum.Bare.{same_true, same_false}
use mathlib.Core.Bool.{true, false, cond}
use mathlib.Core.Logic.{◌≢◌}
use mathlib.Core.Path.{◌≡◌, refl, sym, ◌∙◌}
use native.Mathlib.Omega.{arith}
use Rattle.junior.specs.contracts.Verdict.{the_type}
use Rattle.junior.specs.declared.Verdict.{Verdict}
use Rattle.junior.specs.declared.Verdict.TheVariants.{Sat, Unsat, Unknown}
use Rattle.table.specs.Inside.Levels.{sat_rank}
use Rattle.table.specs.Inside.Ranks.{rank, IsAbsentRank}
use Rattle.table.proofs.reading.after_event.Goals.{then-present-via-then-present, then-present-via-else-present+then-eq}
use Rattle.table.proofs.reading.after_event.Goals as goal

-- what an absent event is, if not unsat, is unknown
unknown : (v : Verdict) → IsAbsentRank (rank v) → v ≢ Unsat → rank v ≡ 1
unknown Unsat a n = absurd (n refl)
unknown Unknown a n = refl
unknown Sat (true, e) n = absurd (omega arith)
unknown Sat (false, e) n = absurd (omega arith)

-- return after_decided(table, at, levels, present);
pub returns-then-present : goal.returns-then-present
returns-then-present c o h =
    let same : cond c.args.present 2 (rank c.args.absent) ≡ sat_rank c.args.present =
    elim c.then-present.branch [
      | then-present-via-then-present w ↦ rw w.if-present.true
      | then-present-via-else-present+then-eq w ↦ rw (w.if-present.false, same_true the_type tt _ Unsat (sym w.eq.ensures ∙ w.if-eq.true))
    ] in
    rw same (c.after_decided.ensures o h)

pub after_unknown-requires : goal.after_unknown-requires
after_unknown-requires c = (c.requires.some_open.0, c.requires.some_open.1.number)

-- after_unknown(at, levels)
pub returns : goal.returns
returns c o h =
    let absent = unknown _ c.requires.absent_rank (same_false the_type _ Unsat (sym c.eq.ensures ∙ c.if-eq.false)) in
    rw (c.if-present.false, absent) (c.after_unknown.ensures _ o h)
