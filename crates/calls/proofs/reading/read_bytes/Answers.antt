-- `read_bytes` meets its contract: after i turns the room begins with the first i numbers.
use mathlib.Core.Path.{sym, ◌∙◌}
use Prim.Native.Nat.{◌/◌}
use native.Mathlib.Omega.{arith}
use lib.ListN.{length}
use Rattle.calls.proofs.Words.{byte_of, fitting_so, held_none, held_more, dash_read, all_read, bad_read, unfit_read}
use Rattle.calls.proofs.reading.read_bytes.Goals as goal

pub returns-then-is_dash : goal.returns-then-is_dash
returns-then-is_dash c =
    let text = c.args.text.now in
    dash_read 2 256 (byte_of text) text c.args.room.now (length text / 2) (λ m e. omega arith) (sym c.is_dash.ensures ∙ c.if-is_dash.true)

-- return None;
pub returns-then-not-fits : goal.returns-then-not-fits
returns-then-not-fits c =
    let text = c.args.text.now in
    unfit_read 2 256 (byte_of text) text c.args.room.now (length text / 2) (λ m e. omega arith) (sym c.is_dash.ensures ∙ c.if-is_dash.false)
    (sym c.fits.ensures ∙ c.if-not-fits.true)

pub loop-i-init : goal.loop-i-init
loop-i-init c = held_none _ _ _ _

pub returns-in_err-byte : goal.returns-in_err-byte
returns-in_err-byte c =
    let text = c.args.text.now in
    rw c.from_residual.ensures
    (bad_read 2 256 (byte_of text) text c.args.room.now (length text / 2) (λ m e. omega arith) (sym c.is_dash.ensures ∙ c.if-is_dash.false)
    c.loop-i.room c.loop-i.i c.loop-i-test.true c.in_err-byte.ensures)

pub bounds-room-i : goal.bounds-room-i
bounds-room-i c =
    let fit = fitting_so c.fits.ensures c.if-not-fits.false in
    omega (arith, fit.room, c.loop-i-test.true, c.loop-i.invariant.long)

pub loop-i-preserved : goal.loop-i-preserved
loop-i-preserved c =
    let fit = fitting_so c.fits.ensures c.if-not-fits.false in
    held_more c.loop-i.invariant c.in_ok-byte.byte c.loop-i-test.true fit.room c.in_ok-byte.ensures.0 c.in_ok-byte.ensures.1

pub returns : goal.returns
returns c =
    let text = c.args.text.now in
    all_read 2 256 (byte_of text) text c.args.room.now (length text / 2) (λ m e. omega arith) (sym c.is_dash.ensures ∙ c.if-is_dash.false)
    (fitting_so c.fits.ensures c.if-not-fits.false) c.loop-i.room c.loop-i.i c.loop-i-test.false c.loop-i.invariant
