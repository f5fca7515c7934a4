-- The text of a configuration that is spelled among good ones is short.
use Prim.Native.Nat.{ℕ, ◌*◌, ◌≤◌}
use native.Mathlib.Omega.{arith}
use mathlib.Core.List.{List}
use lib.ListN.{length, length-append}
use Rattle.letters.proofs.Decimal.{decimal_length}
use Rattle.junior.specs.Configuration.{Config, Event, Not, And, Or}
use Rattle.table.specs.Spells.{weight, Configured}
use Rattle.table.specs.Inside.{Loaded}
use Rattle.table.proofs.TestParts.{Test, fine_test, not_part, and_parts, or_parts}
use Rattle.form.specs.Spelling.{spell_test}

pub test_short : {t : List ℕ} → Loaded t → (d : Config) {j : ℕ} → Test t j d → length (spell_test d) ≤ 7 * weight d
unfolding Configured weight spell_test
test_short l (Event s) h =
    let below = (fine_test l.configurations_good h 0 h.there.0).event_below in
    omega (arith, decimal_length 4 s (omega (arith, below, h.there.2, l.framed.v_most)))
test_short l (Not d) h = simp length-append (omega (arith, test_short l d (not_part l.configurations_good h)))
test_short l (And d e) h =
    let (f, s) = and_parts l.configurations_good h in
    simp length-append (omega (arith, test_short l d f, test_short l e s))
test_short l (Or d e) h =
    let (f, s) = or_parts l.configurations_good h in
    simp length-append (omega (arith, test_short l d f, test_short l e s))
