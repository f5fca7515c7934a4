-- Where the configuration that a node tests begins, and whether it is a lone event.
use Prim.Native.Nat.{ℕ, ◌+◌, ◌*◌, ◌<◌}
use mathlib.Core.Bool.{Bool}
use mathlib.Core.Path.{◌≡◌, sym, ◌∙◌}
use mathlib.Core.List.{List}
use native.Mathlib.Omega.{arith}
use lib.Dec.{eqb, ltb}
use lib.ListN.{length}
use Rattle.events.specs.Members.{places, marks}
use Rattle.junior.specs.declared.Verdict.{Verdict}
use Rattle.table.specs.Records.{argument_at, part_kind, part_event}
use Rattle.table.specs.Spells.{tested}
use Rattle.table.specs.Reading.{ConfigurationAt, ReadAs}
use Rattle.steps.specs.Running.{TestRead}
use Rattle.steps.specs.Progress.{words_of, tally_of}
use Rattle.steps.specs.Tests.{CanTest, lone_event}
use mir.Val.{bool_byte}
use Rattle.steps.proofs.Tally.{byte_read}
use Rattle.table.proofs.Spelled.{configuration_there}
use Rattle.steps.specs.declared.progress.Progress.{Progress}

module _ {table : List ℕ} {i : ℕ} {m : Progress} (h : CanTest table i m) where
  pub test_here : (a : ℕ) → a ≡ argument_at table i → m.base + 4 * a ≡ tested table i
  test_here a e = omega (arith, h.holds.base)

  pub test_stands : ConfigurationAt table (tested table i)
  test_stands = configuration_there table h.has.loaded.configurations_good h.has.loaded.framed (argument_at table i) h.has.tests

  pub table_short : length table < 65536
  table_short = let f = h.has.loaded.framed in omega (arith, f.long, f.n_most, f.m_most)

module _ {table : List ℕ} {i : ℕ} {m : Progress} (h : CanTest table i m) {c : ℕ} (at : c ≡ tested table i) where
  -- whether it is a lone event
  pub lone_found : {k : ℕ} → k ≡ part_kind table c → eqb k 0 ≡ lone_event table i
  lone_found p = rw (← at, ← p)

  -- and whether that is present
  pub lone_marked : {e : ℕ} {x b : Bool} → (e ≡ part_event table c) × (e < places) → x ≡ marks (words_of m) e → x ≡ b
      → marks (words_of m) (part_event table (tested table i)) ≡ b
  lone_marked {e} q r is = rw (← at, ← q.0) (sym r ∙ is)

-- what the reader of configurations answers is what the node's test is read as
pub test_ranked : {table : List ℕ} {i : ℕ} {m : Progress} → CanTest table i m → {c : ℕ} → c ≡ tested table i
    → {v : Verdict} → ReadAs table c (words_of m) m.ended v
    → {w : Verdict} → v ≡ w → TestRead table i (words_of m) (tally_of m) w
test_ranked {m = m} h at reads w d s =
    sym w ∙ (reads d (ltb 0 (bool_byte m.moved)) (rw at s) ∙ rw (byte_read m.ended))
