-- Whether the end is declared, read off the tally.
use mathlib.Core.Bool.{Bool, true, false}
use mathlib.Core.Path.{◌≡◌, refl}
use lib.Dec.{ltb}
use mir.Val.{bool_byte}

pub byte_read : (b : Bool) → ltb 0 (bool_byte b) ≡ b
byte_read true = refl
byte_read false = refl
