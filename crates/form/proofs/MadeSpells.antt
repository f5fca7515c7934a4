-- The table that is made from a program in form spells it.
use Prim.Native.Nat.{ℕ, ◌+◌, ◌*◌, ◌/◌, ◌%◌, ◌<◌}
use mathlib.Core.Path.{◌≡◌, refl}
use mathlib.Core.List.{List, [], ◌++◌}
use native.Mathlib.Omega.{arith}
use lib.ListN.{length}
use Rattle.junior.specs.Configuration.{Config, Event, Not, And, Or}
use Rattle.junior.specs.Program.{Program, Argument, no_argument, number, event, configuration, value, capped, argument}
use Rattle.junior.specs.Program.{Parts, no_part, one_part, two_parts, parts, size}
use Rattle.table.specs.Records.{argument_at, configuration_at, part_kind, part_size, second_part}
use Rattle.table.specs.Spells.{weight, Configured, Argues, SpellsParts, Spells}
use Rattle.table.proofs.ByParts.{written}
use Rattle.table.proofs.Tree.{written_parts}
use Rattle.form.specs.Made.{as_number, nodes_from, test_records, records_with, tests_of_parts, tests_of, table_of}
use Rattle.form.specs.InForm.{TestInForm, ArgumentInForm, PartsInForm, InForm}
use Rattle.form.proofs.BytesAt.{Has, front, behind}
use Rattle.form.proofs.MadeLength.{test_length}
use Rattle.form.proofs.MadeBytes.{made_nodes, nodes_there, tests_there}
use Rattle.form.proofs.MadeRecords.{test_record, test_there, kind_is, event_kind, event_is, test_behind, tested_there}
use Rattle.form.proofs.MadeRecords.{RecordsAt, no_parts, one_of, two_of}

module _ (t : List ℕ) where
  -- d, in form, stands wherever its records do
  abbrev ConfiguredWhere : Config → Type 0
  ConfiguredWhere d = (c : ℕ) → TestInForm d → Has t c (test_records d) → Configured t c d

  -- an and, an or
  both_configured : (k c : ℕ) (d e : Config) → k < 16 → TestInForm d × TestInForm e → ConfiguredWhere d → ConfiguredWhere e
      → Has t c (test_record k 0 (1 + weight d + weight e) (test_records d ++ test_records e))
      → (part_kind t c ≡ k) × (part_size t c ≡ 1 + weight d + weight e) × Configured t (c + 4) d × Configured t (second_part t c) e
  both_configured k c d e l (x, y) first second h =
      let o = test_there k 0 (1 + weight d + weight e) h in
      let b = test_behind k 0 (1 + weight d + weight e) refl h in
      let f = first (c + 4) x (front (test_records d) (test_records e) b) in
      let place : c + 4 + length (test_records d) ≡ second_part t c = omega (arith, test_length d, written t (c + 4) d f) in
      (kind_is o l, o.size_is, f, second _ y (behind (test_records d) (test_records e) place b))

  pub configured : (d : Config) → ConfiguredWhere d
  unfolding test_records Configured
  configured (Event s) c x h = let o = test_there (16 * (s / 256)) (s % 256) 1 h in (event_kind s o, o.size_is, event_is s o x)
  configured (Not d) c x h =
      let o = test_there 1 0 (1 + weight d) h in
      (kind_is o (omega arith), o.size_is, configured d (c + 4) x (test_behind 1 0 (1 + weight d) refl h))
  configured (And d e) c x h = both_configured 2 c d e (omega arith) x (configured d) (configured e) h
  configured (Or d e) c x h = both_configured 3 c d e (omega arith) x (configured d) (configured e) h

  -- an argument is there wherever its record and its configurations are
  argues : (i j : ℕ) (a : Argument) (w : List ℕ) → ArgumentInForm a → argument_at t i ≡ as_number j a
      → Has t (configuration_at t j) (records_with a w) → Argues t i a
  argues i j no_argument w x e h = tt
  argues i j (number n) w x e h = e
  argues i j (event s) w x e h = e
  argues i j (configuration c) w x e h = rw e (configured c _ x (tested_there j c w h))
  argues i j (value v) w x e h = e
  argues i j (capped v cap) w (x, y) e h = (omega arith, omega arith)

  -- p, in form, is spelled wherever its records stand
  pub spells : {p : Program} (v : Parts p) (i j : ℕ) → PartsInForm v → RecordsAt t i j v → SpellsParts t i v
  spells {p} (no_part f) i j x s =
      let o = no_parts i j s in
      ((o.kind_is, o.size_is), argues i j (argument p) [] x o.argument_is s.tests_there)
  spells {p} (one_part f q) i j (x, y) s =
      let o = one_of i j q s in (
        (o.own.kind_is, o.own.size_is),
        argues i j (argument p) (tests_of_parts q) x o.own.argument_is s.tests_there,
        spells q _ _ y o.part,
      )
  spells {p} (two_parts f q r) i j (x, y, z) s =
      let o = two_of i j q r s in
      let first = spells q _ _ y o.first in (
        (o.own.kind_is, o.own.size_is),
        argues i j (argument p) (tests_of_parts q ++ tests_of_parts r) x o.own.argument_is s.tests_there,
        first,
        rw (written_parts t (i + 1) q first) (spells r _ _ z o.second),
      )

-- all of the program stands from node 0 and configuration 0 on
pub made_stands : (p : Program) → RecordsAt (table_of p) 0 0 (parts p)
unfolding nodes_from tests_of
made_stands p =
    let place : 6 * size p ≡ configuration_at (table_of p) 0 = omega (arith, made_nodes p) in
    record { nodes_there = nodes_there p; tests_there = rw (← place) (tests_there p) }

pub made_spells : (p : Program) → InForm p → Spells (table_of p) 0 p
unfolding Spells
made_spells p f = spells (table_of p) (parts p) 0 0 f (made_stands p)
