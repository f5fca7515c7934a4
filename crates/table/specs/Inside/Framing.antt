-- Refusals 1 to 3 as an answer of their own.
use Rattle.std.specs.Prelude.{ℕ, cond, List, Result, Ok, Err}
use Rattle.table.specs.declared.TableRefusal.{TableRefusal}
use Rattle.table.specs.declared.TableRefusal.TheVariants.{BadLength, BadCounts, BadDistances}
use Rattle.table.specs.declared.frame.Counts.{Counts}
use Rattle.table.specs.Records.{nodes, configurations, events}
use Rattle.table.specs.Verdict.{length_good, counts_good, distances_good}

-- N, M and V, or the refusal
abbrev pub counts_of : List ℕ → Counts
counts_of t = record { n = nodes t; m = configurations t; v = events t }

unfoldable pub frame_of : List ℕ → Result Counts TableRefusal
frame_of t =
    cond
    (length_good t)
    (cond (counts_good t) (cond (distances_good t) (Ok (counts_of t)) (Err BadDistances)) (Err BadCounts))
    (Err BadLength)
