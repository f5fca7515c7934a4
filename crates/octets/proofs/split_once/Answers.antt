-- `split_once` meets its contract: `find` answers the first place of the whole text.
use Rattle.std.proofs.Common.{ℕ, List, ◌+◌, ◌-◌, ◌≡◌, refl, length, drop, length-drop, arith}
use Rattle.std.proofs.Math.Seq.{take_all}
use Rattle.octets.specs.Octets.{slice, index_of}
use Rattle.octets.proofs.split_once.Goals as goal

whole : (s : List ℕ) → slice 0 (length s) s ≡ s
whole s = take_all (length s) s (omega arith)

pub returns-in_err-at-clause-split : goal.returns-in_err-at-clause-split
returns-in_err-at-clause-split c = rw c.from_residual.ensures (omega (arith, rw (whole c.args.text.now) at c.in_err-at.ensures))

pub returns-clause-split : goal.returns-clause-split
returns-clause-split c =
    let text = c.args.text.now in
    let at = c.in_ok-at.at in
    let found = rw (whole text) at c.in_ok-at.ensures in
    let e : index_of c.args.byte text ≡ at = omega (arith, found.0) in
    let high = found.2 in
    rw e (high, refl, take_all (length text - (at + 1)) (drop (at + 1) text) (omega (arith, length-drop (at + 1) text)))
