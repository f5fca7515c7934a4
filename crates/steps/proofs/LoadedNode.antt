-- What is known of a node of a loaded table: its event has a place, its configuration stands in the table.
use Prim.Native.Nat.{ℕ, ◌+◌, ◌*◌, ◌<◌}
use mathlib.Core.Path.{◌≡◌, refl, ap}
use mathlib.Core.List.{List}
use native.Mathlib.Omega.{arith}
use lib.ListN.{length}
use Rattle.events.specs.Members.{places}
use Rattle.junior.specs.Configuration.{Config}
use Rattle.junior.specs.Program.{Program, Repeat, Generate, Await, When, Until, Local, If, kind}
use Rattle.junior.specs.Values.{Times, exactly, asked, most}
use Rattle.table.specs.Records.{configurations, events, argument_at, size_at}
use Rattle.table.specs.Good.{argument_limit}
use Rattle.table.specs.Spells.{Spells, Configured, tested}
use Rattle.table.specs.Inside.{Placed}
use Rattle.table.proofs.Loaded.{root_size, own_node, fine_at}
use Rattle.state.specs.Kinds.{control_kind, freezable_kind}
use Rattle.steps.specs.Running.{HasTest}

module _ {table : List ℕ} {i : ℕ} {p : Program} (h : Placed table i p) where
  argument_below : {limit : ℕ} → argument_limit table (kind p) ≡ limit → argument_at table i < limit
  argument_below e = rw e at (fine_at h).argument_below

  event_placed : argument_limit table (kind p) ≡ events table → argument_at table i < places
  event_placed e = omega (arith, argument_below e, h.loaded.framed.v_most)

  -- by the kind alone
  pub control_argument : kind p ≡ control_kind → argument_at table i < places
  unfolding argument_limit
  control_argument e = event_placed (ap (argument_limit table) e)

  pub freezable_argument : kind p ≡ freezable_kind → argument_at table i < places
  unfolding argument_limit
  freezable_argument e = event_placed (ap (argument_limit table) e)

  has_test : argument_limit table (kind p) ≡ configurations table → (c : Config) → Configured table (tested table i) c
      → {tally : List ℕ} → length tally ≡ 6 → HasTest table i tally
  has_test e c s n =
      record { loaded = h.loaded; node = own_node h; tests = argument_below e; spelled = (c, s); tallied = n }

-- the events that nodes name
module _ {table : List ℕ} {i s : ℕ} where
  pub generate_placed : Placed table i (Generate s) → s < places
  unfolding Spells kind argument_limit
  generate_placed h = omega (arith, event_placed h refl, h.spelled.1)

  pub local_placed : {p : Program} → Placed table i (Local s p) → s < places
  unfolding Spells kind argument_limit
  local_placed h = omega (arith, event_placed h refl, h.spelled.1)

-- how often a Repeat or a RepeatExt runs its body at most is a number of 16 bits
pub repeat_below : {table : List ℕ} {i : ℕ} (n : Times) {p : Program} → Placed table i (Repeat n p) → most n < 65536
unfolding Spells kind argument_limit
repeat_below (exactly n) h = omega (arith, argument_below h refl, h.spelled.1)
repeat_below (asked v m) h = omega (arith, argument_below h refl, h.spelled.1.1)

-- the values that nodes name
module _ {table : List ℕ} {i v : ℕ} where
  pub if_placed : {p q : Program} → Placed table i (If v p q) → v < 16
  unfolding Spells kind argument_limit
  if_placed h = omega (arith, argument_below h refl, h.spelled.1)

  pub ext_placed : {m : ℕ} {p : Program} → Placed table i (Repeat (asked v m) p) → v < 16
  unfolding Spells
  ext_placed h = omega (arith, h.spelled.1.0)

-- the configurations that nodes test
module _ {table : List ℕ} {i : ℕ} {c : Config} {tally : List ℕ} (n : length tally ≡ 6) where
  pub await_test : Placed table i (Await c) → HasTest table i tally
  unfolding Spells kind argument_limit
  await_test h = has_test h refl c h.spelled.1 n

  pub when_test : {p q : Program} → Placed table i (When c p q) → HasTest table i tally
  unfolding Spells kind argument_limit
  when_test h = has_test h refl c h.spelled.1 n

  pub until_test : {p q : Program} → Placed table i (Until c p q) → HasTest table i tally
  unfolding Spells kind argument_limit
  until_test h = has_test h refl c h.spelled.1 n

-- where a test's configuration begins, by the sizes and arguments that the code reads
pub test_at : {table : List ℕ} {i : ℕ} {tally : List ℕ} → HasTest table i tally → (n a : ℕ) → n ≡ size_at table 0
    → a ≡ argument_at table i → 6 * n + 4 * a ≡ tested table i
test_at h n a e f = omega (arith, root_size h.loaded)
