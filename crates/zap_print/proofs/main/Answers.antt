-- `main` is safe and ends: a text that was printed is within its room.
use Rattle.zap_print.proofs.Printing.{printed_within}
use Rattle.zap_print.proofs.main.Goals as goal

-- write_out(&mut out, &text[..n]);
pub slice_bounds-text-end : goal.slice_bounds-text-end
slice_bounds-text-end c = printed_within c.print-answer.ensures c.in-Ok.is
