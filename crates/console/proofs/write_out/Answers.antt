-- `write_out` meets its contract: what is out and what this turn writes stand one behind the other.
use Rattle.std.proofs.Common.{rules, sym, subst}
use Rattle.std.proofs.Math.Seq.{take-add}
use Rattle.std.proofs.lemmas.List.{take_rest}
use Rattle.std.specs.Io.KnownBytes.{Appends}
use Rattle.std.proofs.KnownBytes.{Appends-trans}
use Rattle.console.proofs.write_out.Goals as goal

pub loop-done-preserved : goal.loop-done-preserved
loop-done-preserved g c =
    let text = c.args.text.now in
    let done = c.loop-done.done in
    let put = c.write_some-put.result in
    let both = Appends-trans _ _ _ _ _ c.loop-done.invariant.1 c.write_some-put.ensures.bytes in
    (search rules, subst (Appends _ _) (sym (take-add done put text)) (rw (take_rest text done) at both))
