-- `near` has a byte other than zero or is the end, and `low` is the lowest blamed from there on.
use Rattle.table.specs.Records.{size_at}
use Rattle.state.specs.Inside.{Nearest, Blamed}
use Rattle.state.proofs.resting.lowest_blamed.Given as goal

abbrev pub invariant-loop-near : goal.invariant-loop-near
invariant-loop-near l = Nearest l.state l.near (size_at l.table 0) l.near × Blamed l.table l.state l.near l.low

abbrev pub decreases-loop-near : goal.decreases-loop-near
decreases-loop-near l = l.near
