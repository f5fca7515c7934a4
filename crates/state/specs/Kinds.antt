-- The kinds of nodes by name (01, "The table"; L8, L14).
use Rattle.std.specs.Prelude.{ℕ}

abbrev pub nothing_kind : ℕ
nothing_kind = 0

abbrev pub stop_kind : ℕ
stop_kind = 1

abbrev pub atom_kind : ℕ
atom_kind = 2

abbrev pub seq_kind : ℕ
seq_kind = 3

abbrev pub par_kind : ℕ
par_kind = 4

abbrev pub loop_kind : ℕ
loop_kind = 5

abbrev pub repeat_kind : ℕ
repeat_kind = 6

abbrev pub generate_kind : ℕ
generate_kind = 7

abbrev pub await_kind : ℕ
await_kind = 8

abbrev pub when_kind : ℕ
when_kind = 9

abbrev pub until_kind : ℕ
until_kind = 10

abbrev pub control_kind : ℕ
control_kind = 11

abbrev pub local_kind : ℕ
local_kind = 12

abbrev pub freezable_kind : ℕ
freezable_kind = 13

abbrev pub if_kind : ℕ
if_kind = 14

abbrev pub repeat_ext_kind : ℕ
repeat_ext_kind = 15
