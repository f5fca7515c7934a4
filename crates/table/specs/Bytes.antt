-- Records and trailers written out as bytes (01, "The table").
use Rattle.std.specs.Prelude.{ℕ, ◌/◌, ◌%◌, List, [], ◌∷◌}

-- a node's record, a configuration's, the trailer of n nodes, m configurations and v events
abbrev pub node : ℕ → ℕ → ℕ → List ℕ
node kind argument size = kind ∷ 0 ∷ argument / 256 ∷ argument % 256 ∷ size / 256 ∷ size % 256 ∷ []

abbrev pub configuration : ℕ → ℕ → ℕ → List ℕ
configuration kind event size = kind ∷ event ∷ size / 256 ∷ size % 256 ∷ []

abbrev pub trailer : ℕ → ℕ → ℕ → ℕ → ℕ → List ℕ
trailer n m v back_to_nodes back_to_configurations =
    n / 256 ∷ n % 256 ∷ m / 256 ∷ m % 256 ∷ v / 256 ∷ v % 256
    ∷ back_to_nodes / 256 ∷ back_to_nodes % 256 ∷ back_to_configurations / 256 ∷ back_to_configurations % 256 ∷ []
