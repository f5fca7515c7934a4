-- What a table has once some refusals are past. No contract of a customer's call cites this file or those below it.
use Rattle.std.specs.Prelude.{ℕ, ◌+◌, ◌*◌, ◌≤◌, ◌<◌, Bool, true, not, cond, ◌&&◌, ◌≡◌, List, Option, MatchOption, length}
use Rattle.events.specs.Events.{lowest}
use Rattle.events.specs.Members.{places}
use Rattle.junior.specs.Program.{Program, size}
use Rattle.table.specs.Records.{nodes, configurations, events, kind_at, size_at, configuration_at, part_kind}
use Rattle.table.specs.Good.{is_laid_out, known, children, parts, good_but_height, good_configuration, good_node}
use Rattle.table.specs.Spells.{Spells}
pub mod Early
pub mod Framing
pub mod Levels
pub mod Ranks
pub mod Ways
pub mod Weighing

-- past 1 to 3: n, m and v are the table's counts, in their ranges, and its length is theirs
pub record Framed (t : List ℕ) (n m v : ℕ) : Type 0 where
  pub long : length t ≡ 6 * n + 4 * m + 10
  pub n_is : n ≡ nodes t
  pub m_is : m ≡ configurations t
  pub v_is : v ≡ events t
  pub n_least : 1 ≤ n
  pub n_most : n ≤ 4096
  pub m_most : m ≤ 2048
  pub v_least : 1 ≤ v
  pub v_most : v ≤ places

-- past 4
abbrev pub ConfigurationsGood : List ℕ → Type 0
ConfigurationsGood t = (j : ℕ) → j < configurations t → good_configuration t j ≡ true

-- past 5
abbrev pub NodesGood : List ℕ → Type 0
NodesGood t = (i : ℕ) → i < nodes t → good_node t i ≡ true

-- r is the lowest of n records that isn't good; none if all are
abbrev pub LowestBad : (ℕ → Bool) → ℕ → Option ℕ → Type 0
LowestBad good n r = MatchOption r ((k : ℕ) → k < n → good k ≡ true) (λ bad. (bad < n) × (bad ≡ lowest n (λ k. not (good k))))

-- past 1 to 5
pub record Loaded (t : List ℕ) : Type 0 where
  pub framed : Framed t (nodes t) (configurations t) (events t)
  pub configurations_good : ConfigurationsGood t
  pub nodes_good : NodesGood t

-- the first n records are a subtree of known kinds, each laid out inside it
pub record Rooted (t : List ℕ) (n : ℕ) : Type 0 where
  pub long : 6 * n ≤ length t
  pub whole : size_at t 0 ≡ n
  pub fits : (i : ℕ) → i < n → (known (kind_at t i) && is_laid_out (size_at t) n i (children (kind_at t i))) ≡ true

-- p stands at node i of such a table
pub record Placed (t : List ℕ) (i : ℕ) (p : Program) : Type 0 where
  pub loaded : Loaded t
  pub spelled : Spells t i p
  pub inside : i + size p ≤ nodes t

-- configuration j begins at byte c, and the bytes end ten behind the last configuration
pub record Begins (t : List ℕ) (c j : ℕ) : Type 0 where
  pub at : c ≡ configuration_at t j
  pub among : j < configurations t
  pub long : length t ≡ configuration_at t (configurations t) + 10

abbrev pub SomeBegins : List ℕ → ℕ → Type 0
SomeBegins t c = (j : ℕ) × Begins t c j

-- r is how many parts configuration j, at byte c, has, if it is good but for its height, and no event
abbrev pub PartsGood : List ℕ → ℕ → ℕ → Option ℕ → Type 0
PartsGood t c j r =
    let p = cond (good_but_height t j) (parts (part_kind t c)) 0 in
    MatchOption r (0 ≡ p) (λ some. (some ≡ p) × (some ≡ 0 → ⊥))
