-- `write_ran` meets its contract: five fields, in a room that has enough for them.
use mathlib.Core.Bool.{cond}
use mathlib.Core.List.{[], ◌∷◌}
use Prim.Native.Nat.{ℕ, ◌<◌}
use native.Mathlib.Omega.{arith}
use Rattle.std.proofs.lemmas.Grind.{common_steps}
use lib.ListN.{get_or}
use Rattle.events.specs.Members.{places, members}
use Rattle.letters.specs.Decimal.{decimal}
use Rattle.letters.specs.Text.{bytes}
use Rattle.letters.proofs.Decimal.{decimal_length}
use Rattle.letters.proofs.Writes.{writes_end, number_ends}
use Rattle.listing.specs.Output.{rising, listed, ran_line}
use Rattle.listing.proofs.Room.{ran_fits}
use Rattle.listing.proofs.Lines.{writes_field, writes_last, flag_length, written, unwritten}
use Rattle.listing.proofs.write_ran.Goals as goal

-- out.number(number, b' ');
pub number-requires : goal.number-requires
number-requires c = omega (arith, decimal_length 19 c.args.number (omega arith))

-- out.number(passes as u64, b' ');
pub number-requires-2 : goal.number-requires-2
number-requires-2 c =
    omega (
      arith,
      c.number.ensures.long,
      number_ends 19 c.args.number 32 (omega arith) c.number.ensures,
      decimal_length 19 c.args.passes (omega arith),
    )

pub put_flag-requires : goal.put_flag-requires
put_flag-requires c =
    omega (
      arith,
      c.number.ensures.long,
      number_ends 19 c.args.number 32 (omega arith) c.number.ensures,
      c.number-2.ensures.long,
      number_ends 19 c.args.passes 32 (omega arith) c.number-2.ensures,
    )

pub put_events-requires : goal.put_events-requires
put_events-requires c =
    omega (
      arith,
      c.number.ensures.long,
      number_ends 19 c.args.number 32 (omega arith) c.number.ensures,
      c.number-2.ensures.long,
      number_ends 19 c.args.passes 32 (omega arith) c.number-2.ensures,
      c.put_flag.ensures.long,
      writes_end c.put_flag.ensures,
      flag_length c.args.finished,
    )

pub put_atoms-requires : goal.put_atoms-requires
put_atoms-requires c =
    omega (
      arith,
      c.number.ensures.long,
      number_ends 19 c.args.number 32 (omega arith) c.number.ensures,
      c.number-2.ensures.long,
      number_ends 19 c.args.passes 32 (omega arith) c.number-2.ensures,
      c.put_flag.ensures.long,
      writes_end c.put_flag.ensures,
      flag_length c.args.finished,
      c.put_events.ensures.written.long,
      c.put_events.ensures.short,
      c.if-room-atoms.false,
    )

pub returns : goal.returns
unfolding ran_line
returns c =
    let number = decimal c.args.number in
    let passes = decimal c.args.passes in
    let flag = cond c.args.finished (bytes "TERM") (bytes "STOP") in
    let events = listed (rising places (members c.args.events)) in
    let atoms = listed c.args.atoms.now in
    let small : (i : ℕ) → get_or c.args.atoms.now i 0 < 65536 = λ i. omega (arith, c.type_inv.atoms i) in
    let fits = ran_fits c.args.number c.args.passes c.args.finished (members c.args.events) c.args.atoms.now
    (omega arith) (omega arith) small in
    let all = writes_field number passes (flag ∷ events ∷ atoms ∷ []) c.number.ensures
    (writes_field passes flag (events ∷ atoms ∷ []) c.number-2.ensures
    (writes_field flag events (atoms ∷ []) c.put_flag.ensures
    (writes_field events atoms [] c.put_events.ensures.written (writes_last atoms c.put_atoms.ensures)))) in
    written fits (omega (arith, c.if-room-atoms.false)) (grind (arith, common_steps, all.puts, all.same_room))
