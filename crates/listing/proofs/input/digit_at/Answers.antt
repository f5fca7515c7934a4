-- `digit_at` meets its contract.
use native.Mathlib.Omega.{arith}
use Rattle.std.specs.Prelude.{Some}
use Rattle.listing.proofs.NumberAt.{stays_unless, stays_past, goes_on_by}
use Rattle.listing.proofs.input.digit_at.Goals as goal
use Rattle.listing.proofs.input.digit_at.Goals.{then-number-eq0-via-then-number-eq0, then-number-eq0-via-else-number-eq0+then-number-ge-PLACES}

pub returns-then-line-at : goal.returns-then-line-at
returns-then-line-at c = stays_past c.args.line.now c.args.at c.args.number c.if-line-at.true

-- let d = digit(line[at])?;
pub returns-in_err-d : goal.returns-in_err-d
returns-in_err-d c = rw c.from_residual.ensures (stays_unless _ _ (λ h k l. omega (arith, c.in_err-d.ensures)))

pub returns-then-number-eq0 : goal.returns-then-number-eq0
returns-then-number-eq0 c =
    elim c.then-number-eq0.branch [
      | then-number-eq0-via-then-number-eq0 w ↦ stays_unless _ _ (λ h k l. omega arith)
      | then-number-eq0-via-else-number-eq0+then-number-ge-PLACES w ↦ stays_unless _ _ (λ h k l. omega arith)
    ]

pub returns : goal.returns
returns c =
    let (is, low) = c.in_ok-d.ensures in
    goes_on_by c.args.line.now c.args.at c.args.number (omega arith) (omega arith) (omega arith) (Some c.in_ok-d.d) (is, low)
