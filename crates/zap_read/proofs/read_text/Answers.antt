-- `read_text` is safe and ends.
use mathlib.Core.Path.{◌≡◌, ap, ◌∙◌}
use Rattle.std.proofs.Common.{arith}
use Rattle.std.specs.Prelude.{Err}
use Rattle.std.proofs.Math.Seq.{length-take-le}
use Rattle.text.specs.declared.ReadRefusal.TheVariants as answered
use Rattle.zap_read.proofs.Expecting.{fails_within, read_within}
use Rattle.zap_read.proofs.read_text.Goals as goal

-- Err(ReadRefusal::Fails(k)) => tell_failure(out, text, long, k),
pub tell_failure-requires : goal.tell_failure-requires
tell_failure-requires g c =
    let inner : c.in-Err-Fails.field-0 ≡ answered.Fails c.in-Err-Fails.k = rw c.in-Err-Fails.is at c.in-Err-Fails.field-0-is in
    let within = fails_within c.read-answer.ensures (c.in-Err-Fails.is ∙ ap Err inner) in
    let long = length-take-le c.args.long c.args.text.now (omega (arith, c.requires)) in
    (omega (arith, within, long), c.requires)

-- Ok(n) => write_table(files, out, &table[..n]),
pub slice_bounds-table-end : goal.slice_bounds-table-end
slice_bounds-table-end g c = read_within c.read-answer.ensures c.in-Ok.is
