-- Taking a program apart: each form gives the parts that it has, and there is no other way.
use Prim.Native.Nat.{◌≤◌}
use mathlib.Core.Path.{◌≡◌, refl, ap, ap₂, ◌∙◌}
use native.Mathlib.Omega.{arith}
use Rattle.junior.specs.Program.{Program, Leaf, nothing, stop, atom, generate, await, One, loop, repeat, control, local, freezable, Two, seq}
use Rattle.junior.specs.Program.{par, when, until, if, Parts, no_part, one_part, two_parts, parts, size_of, size}

pub parts_none : {p : Program} (f : Leaf p) → parts p ≡ no_part f
parts_none nothing = refl
parts_none stop = refl
parts_none (atom a) = refl
parts_none (generate s) = refl
parts_none (await c) = refl

pub parts_one : {p q : Program} (f : One p q) → parts p ≡ one_part f (parts q)
parts_one (loop p) = refl
parts_one (repeat n p) = refl
parts_one (control s p) = refl
parts_one (local s p) = refl
parts_one (freezable s p) = refl

pub parts_two : {p q r : Program} (f : Two p q r) → parts p ≡ two_parts f (parts q) (parts r)
parts_two (seq p q) = refl
parts_two (par p q) = refl
parts_two (when c p q) = refl
parts_two (until c p q) = refl
parts_two (if v p q) = refl

pub only_parts : {p : Program} (v : Parts p) → parts p ≡ v
only_parts (no_part f) = parts_none f
only_parts (one_part f q) = parts_one f ∙ ap (one_part f) (only_parts q)
only_parts (two_parts f q r) = parts_two f ∙ ap₂ (two_parts f) (only_parts q) (only_parts r)

-- sizes by any way of taking a program apart
pub size_by : {p : Program} (v : Parts p) → size p ≡ size_of v
unfolding size
size_by v = ap size_of (only_parts v)

pub some_nodes : {p : Program} (v : Parts p) → 1 ≤ size_of v
some_nodes (no_part f) = omega arith
some_nodes (one_part f q) = omega arith
some_nodes (two_parts f q r) = omega arith
