-- The table's bytes as records (01, "The table"): numbers are big-endian; nodes, then configurations, then a trailer of ten bytes.
use Rattle.std.specs.Prelude.{ℕ, ◌+◌, ◌-◌, ◌*◌, ◌/◌, ◌%◌, List, length, get_or}

abbrev pub byte : List ℕ → ℕ → ℕ
byte t i = get_or t i 0

-- the number of 16 bits at byte i
abbrev pub word : List ℕ → ℕ → ℕ
word t i = byte t i * 256 + byte t (i + 1)

-- the trailer: N, M, V, and the distances back to the first node and to the first configuration
abbrev pub nodes : List ℕ → ℕ
nodes t = word t (length t - 10)

abbrev pub configurations : List ℕ → ℕ
configurations t = word t (length t - 8)

abbrev pub events : List ℕ → ℕ
events t = word t (length t - 6)

abbrev pub back_to_nodes : List ℕ → ℕ
back_to_nodes t = word t (length t - 4)

abbrev pub back_to_configurations : List ℕ → ℕ
back_to_configurations t = word t (length t - 2)

-- node i: kind, a zero byte, argument, size
abbrev pub kind_at : List ℕ → ℕ → ℕ
kind_at t i = byte t (6 * i)

abbrev pub zero_at : List ℕ → ℕ → ℕ
zero_at t i = byte t (6 * i + 1)

abbrev pub argument_at : List ℕ → ℕ → ℕ
argument_at t i = word t (6 * i + 2)

abbrev pub size_at : List ℕ → ℕ → ℕ
size_at t i = word t (6 * i + 4)

-- the second child stands behind all of the first
abbrev pub second_child : List ℕ → ℕ → ℕ
second_child t i = i + 1 + size_at t (i + 1)

-- where configuration j begins
abbrev pub configuration_at : List ℕ → ℕ → ℕ
configuration_at t j = 6 * nodes t + 4 * j

-- the configuration at byte c: kind, event, size; its first part, its second. "In a configuration record the kind byte of an event may be 0, 16,
-- 32 or 48, adding 0, 256, 512 or 768 to the event number" (L10): the sixteens of a kind byte aren't its kind's but its event's
abbrev pub kind_byte : List ℕ → ℕ → ℕ
kind_byte t c = byte t c

abbrev pub part_kind : List ℕ → ℕ → ℕ
part_kind t c = kind_byte t c % 16

abbrev pub part_event : List ℕ → ℕ → ℕ
part_event t c = kind_byte t c / 16 % 4 * 256 + byte t (c + 1)

abbrev pub part_size : List ℕ → ℕ → ℕ
part_size t c = word t (c + 2)

abbrev pub first_part_at : ℕ → ℕ
first_part_at c = c + 4

abbrev pub second_part : List ℕ → ℕ → ℕ
second_part t c = c + 4 + 4 * part_size t (c + 4)
