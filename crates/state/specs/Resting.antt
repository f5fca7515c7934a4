-- States at rest, in the raw bytes (01, "State"; L8: "phase 1 is the pending form and isn't at rest"; L14: "If keeps When's phases, RepeatExt
-- Repeat's, its count below the cap"): which node is to blame for one that isn't.
use Rattle.std.specs.Prelude.{ℕ, zero, suc, ◌+◌, ◌-◌, ◌*◌, Bool, true, cond, not, ◌&&◌, ◌||◌, List, eqb, ltb}
use Rattle.events.specs.Events.{lowest}
use Rattle.table.specs.Records.{byte, word, nodes, kind_at, argument_at, size_at, second_child}
use Rattle.table.specs.Spells.{cap_in}
use Rattle.state.specs.Kinds.{seq_kind, par_kind, loop_kind, repeat_kind, when_kind, until_kind, if_kind, repeat_ext_kind}

-- node i's own bytes
abbrev pub phase_at : List ℕ → ℕ → ℕ
phase_at s i = byte s (4 * i)

abbrev pub flags_at : List ℕ → ℕ → ℕ
flags_at s i = byte s (4 * i + 1)

abbrev pub count_at : List ℕ → ℕ → ℕ
count_at s i = word s (4 * i + 2)

-- node i, and the n nodes from i on, have no byte but zeros
unfoldable pub zero_node : List ℕ → ℕ → Bool
zero_node s i = eqb (phase_at s i) 0 && (eqb (flags_at s i) 0 && eqb (count_at s i) 0)

unfoldable pub zero_nodes : List ℕ → ℕ → ℕ → Bool
zero_nodes s i zero = true
zero_nodes s i (suc n) = zero_node s i && zero_nodes s (i + 1) n

-- node i's first child's subtree, its second child's, all below it
abbrev pub first_zero : List ℕ → List ℕ → ℕ → Bool
first_zero t s i = zero_nodes s (i + 1) (size_at t (i + 1))

abbrev pub second_zero : List ℕ → List ℕ → ℕ → Bool
second_zero t s i = zero_nodes s (second_child t i) (size_at t (second_child t i))

abbrev pub below_zero : List ℕ → List ℕ → ℕ → Bool
below_zero t s i = zero_nodes s (i + 1) (size_at t i - 1)

-- a When or an If: before it chose, in its first branch, in its second
abbrev pub branch_rests : List ℕ → List ℕ → ℕ → ℕ → Bool
branch_rests t s i ph =
    (eqb ph 0 && (first_zero t s i && second_zero t s i)) || ((eqb ph 1 && second_zero t s i) || (eqb ph 2 && first_zero t s i))

-- a Repeat or a RepeatExt
abbrev pub repeats : ℕ → Bool
repeats k = eqb k repeat_kind || eqb k repeat_ext_kind

-- the phases at rest of a kind, but for phase 3, and the subtrees that each wants zero
unfoldable pub phase_rests : List ℕ → List ℕ → ℕ → ℕ → ℕ → Bool
phase_rests t s i k ph =
    cond (eqb k seq_kind) ((eqb ph 0 && second_zero t s i) || (eqb ph 2 && first_zero t s i))
    (cond (eqb k loop_kind || repeats k) ((eqb ph 0 && first_zero t s i) || eqb ph 1)
    (cond (eqb k when_kind || eqb k if_kind) (branch_rests t s i ph)
    (cond (eqb k until_kind) ((eqb ph 0 && second_zero t s i) || (eqb ph 2 && first_zero t s i)) (eqb ph 0))))

-- Par's flags: each SUSP or TERM and not both TERM, a TERM flag only over a child in phase 3
unfoldable pub flags_rest : List ℕ → List ℕ → ℕ → ℕ → Bool
flags_rest t s i fl =
    eqb fl 0 || ((eqb fl 2 && eqb (phase_at s (i + 1)) 3) || (eqb fl 8 && eqb (phase_at s (second_child t i)) 3))

-- how often a Repeat's or RepeatExt's body runs at most: its count, its cap
abbrev pub most_runs : ℕ → ℕ → ℕ
most_runs k a = cond (eqb k repeat_ext_kind) (cap_in a) a

-- a begun Repeat's count is below its argument, a begun RepeatExt's below its cap, any other count is 0
unfoldable pub count_rests : List ℕ → ℕ → ℕ → ℕ → ℕ → Bool
count_rests t i k ph ct = cond (repeats k && eqb ph 1) (ltb ct (most_runs k (argument_at t i))) (eqb ct 0)

-- node i isn't to blame
unfoldable pub rests : List ℕ → List ℕ → ℕ → Bool
rests t s i =
    let k = kind_at t i in
    let ph = phase_at s i in
    let fl = flags_at s i in
    let ct = count_at s i in
    cond
    (eqb ph 3)
    (eqb fl 0 && (eqb ct 0 && below_zero t s i))
    (phase_rests t s i k ph
    && (cond (eqb k par_kind) (flags_rest t s i fl) (eqb fl 0) && count_rests t i k ph ct))

-- the lowest node to blame; N if none is
abbrev pub blamed : List ℕ → List ℕ → ℕ
blamed t s = lowest (nodes t) (λ i. not (rests t s i))
