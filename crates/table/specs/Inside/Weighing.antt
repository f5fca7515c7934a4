-- Weighing the nodes from the last to the first. Private contracts alone cite this file.
use Rattle.std.specs.Prelude.{ℕ, zero, suc, ◌+◌, ◌*◌, ◌≤◌, ◌<◌, min, max, true, cond, ◌≡◌, List, Option, MatchOption, length, get_or}
use mir.Val.{bool_byte}
use Rattle.junior.specs.Program.{Program, number, capped, argument, Parts, no_part, one_part, two_parts, parts, size}
use Rattle.junior.specs.Figures.{stops, figure, per, every, parking}
use Rattle.table.specs.declared.kinds.Kind.{Kind}
use Rattle.table.specs.declared.weights.Weight.{Weight}
use Rattle.table.specs.Records.{nodes, kind_at, zero_at, size_at}
use Rattle.table.specs.Kinds.{kind_number}
use Rattle.table.specs.Good.{good_node}
use Rattle.table.specs.Spells.{cap_in, program_of}
use Rattle.table.specs.Verdict.{endless_loop}
use Rattle.table.specs.Inside.{Framed, ConfigurationsGood, NodesGood}

-- if the argument of p is a number, it is a; if it has a cap, that is a's
pub record Counts (a : ℕ) (p : Program) : Type 0 where
  pub same : (n : ℕ) → argument p ≡ number n → a ≡ n
  pub cap_is : (v cap : ℕ) → argument p ≡ capped v cap → cap_in a ≡ cap

-- the program at node i
abbrev pub tree_at : List ℕ → ℕ → Program
tree_at t i = program_of t (nodes t) i

-- x is the figure of p by the own weights k, exact below 65,536, and grows with the nodes of p alone
pub record Figure (k : Program → ℕ) (p : Program) (x : ℕ) : Type 0 where
  pub exact : min x 65536 ≡ min (figure k p) 65536
  pub small : x ≤ 65537 * size p

-- how many levels it has
abbrev pub levels : {p : Program} → Parts p → ℕ
levels (no_part f) = 1
levels (one_part f q) = 1 + levels q
levels (two_parts f q r) = 1 + max (levels q) (levels r)

unfoldable pub height : Program → ℕ
height p = levels (parts p)

pub record Weighs (x : Weight) (p : Program) : Type 0 where
  pub generations_are : Figure (per 7) p x.generations
  pub atoms_are : Figure (per 2) p x.atoms
  pub nodes_are : Figure every p x.nodes
  pub parked_are : Figure parking p x.parked
  pub height_is : x.height ≡ height p
  pub stops_is : x.stops ≡ bool_byte (stops p)

-- x counted c times, no further than 65,536
abbrev pub counted : ℕ → ℕ → ℕ
counted c x = min (c * min x 65536) 65536

-- what counts x, and one node more, which parks that many bytes itself
abbrev pub once_more : Weight → ℕ → ℕ → Weight
once_more x own s =
    record {
      generations = x.generations;
      atoms = x.atoms;
      nodes = x.nodes + 1;
      parked = x.parked + own;
      height = x.height + 1;
      stops = s;
    }

-- what counts x c times, or x and y together, and one node more
abbrev pub repeatedly : ℕ → Weight → ℕ → Weight
repeatedly c x s =
    record {
      generations = counted c x.generations;
      atoms = counted c x.atoms;
      nodes = counted c x.nodes + 1;
      parked = counted c x.parked;
      height = x.height + 1;
      stops = s;
    }

abbrev pub together : Weight → Weight → ℕ → Weight
together x y s =
    record {
      generations = x.generations + y.generations;
      atoms = x.atoms + y.atoms;
      nodes = x.nodes + y.nodes + 1;
      parked = x.parked + y.parked;
      height = max x.height y.height + 1;
      stops = s;
    }

-- what counts the larger of x and y, and one node more
abbrev pub either : Weight → Weight → ℕ → Weight
either x y s =
    record {
      generations = max x.generations y.generations;
      atoms = max x.atoms y.atoms;
      nodes = max x.nodes y.nodes + 1;
      parked = max x.parked y.parked;
      height = max x.height y.height + 1;
      stops = s;
    }

-- what the program at a node of at most 4,096 weighs: so small that no sum of two overflows
pub record Small (x : Weight) : Type 0 where
  pub generations_small : x.generations ≤ 268439552
  pub atoms_small : x.atoms ≤ 268439552
  pub nodes_small : x.nodes ≤ 268439552
  pub parked_small : x.parked ≤ 268439552
  pub height_small : x.height ≤ 4096

-- what is in place `at` of a row of weights
abbrev pub no_weight : Weight
no_weight = record { generations = 0; atoms = 0; nodes = 0; parked = 0; height = 0; stops = 0 }

abbrev pub weight_at : List Weight → ℕ → Weight
weight_at w at = get_or w at no_weight

-- the row has a place for each of n nodes, or 64
abbrev pub Roomy : List Weight → ℕ → Type 0
Roomy w n = min n 64 ≤ length w

-- from node i on that many programs stand one behind another, up to the end
unfoldable pub Row : List ℕ → ℕ → ℕ → Type 0
Row t zero i = i ≡ nodes t
Row t (suc k) i = (i < nodes t) × Row t k (i + size_at t i)

-- and what they weigh is in the first places, the first program's on top
unfoldable pub Waiting : List ℕ → List Weight → ℕ → ℕ → Type 0
Waiting t w zero i = i ≡ nodes t
Waiting t w (suc k) i = (i < nodes t) × Weighs (weight_at w k) (tree_at t i) × Waiting t w k (i + size_at t i)

-- past 4, and record 0 has size N
pub record SizedWhole (t : List ℕ) (n m v : ℕ) : Type 0 where
  pub framed : Framed t n m v
  pub configurations_good : ConfigurationsGood t
  pub whole : size_at t 0 ≡ n

-- node i of N, in a table whose record 0 has size N
pub record Within (t : List ℕ) (n i : ℕ) : Type 0 where
  pub long : 6 * n + 10 ≤ length t
  pub n_is : n ≡ nodes t
  pub n_most : n ≤ 4096
  pub whole : size_at t 0 ≡ n
  pub here : i < n

-- its head is the number of kind k
abbrev pub HeadIs : List ℕ → ℕ → Kind → Type 0
HeadIs t i k = kind_number k ≡ kind_at t i + 256 * zero_at t i

-- past 5
pub record AllGood (t : List ℕ) : Type 0 where
  pub long : 6 * nodes t + 10 ≤ length t
  pub few : nodes t ≤ 4096
  pub configurations_good : ConfigurationsGood t
  pub good : NodesGood t

-- before node i is placed: the table is past 4, and all nodes behind i are good and weighed
pub record ToPlace (t : List ℕ) (w : List Weight) (n i top : ℕ) : Type 0 where
  pub within : Within t n i
  pub configurations_good : ConfigurationsGood t
  pub good_behind : (j : ℕ) → i < j → j < n → good_node t j ≡ true
  pub long_row : Roomy w n
  pub waits : Waiting t w top (i + 1)
  pub room : top ≤ 64
  pub few : i + 1 + top ≤ n

-- node i is placed, r programs wait, and e' is the lowest endless Loop so far, after e
pub record NowPlaced (t : List ℕ) (w w' : List Weight) (e e' i r : ℕ) : Type 0 where
  pub good : good_node t i ≡ true
  pub long_row : length w' ≡ length w
  pub waits : Waiting t w' r i
  pub room : r ≤ 64
  pub few : i + r ≤ nodes t
  pub endless : e' ≡ cond (endless_loop (tree_at t i)) i e

-- no program waits more where node i isn't good, or would be the 65th to wait
abbrev pub Places : List ℕ → List Weight → List Weight → ℕ → ℕ → ℕ → Option ℕ → Type 0
Places t w w' e e' i r = MatchOption r (good_node t i ≡ true → Row t 65 i) (λ top. NowPlaced t w w' e e' i top)
