-- `table::early::find_early` meets its contract: from configuration j on the row has when each can be decided early.
use Prim.Native.Nat.{◌≤◌}
use mathlib.Core.Path.{◌≡◌}
use lib.ListN.{length}
use Rattle.table.specs.Inside.Early.{KnownFrom}
use Rattle.table.proofs.early.find_early.Given as goal

abbrev pub invariant-loop-j : goal.invariant-loop-j
invariant-loop-j l = (l.j ≤ l.m) × (length l.early ≡ length l.initial.early) × KnownFrom l.table l.early l.j
