-- What looking for the event that a configuration lacks gives. No contract of a customer's call cites this file.
use Rattle.std.specs.Prelude.{ℕ, min, cond, ◌≡◌, List, eqb, Option as Answer, Some, None}
use Rattle.std.proofs.Math.Option.{Option, none, some}
use Rattle.events.specs.Members.{marks}
use Rattle.junior.specs.Configuration.{Config}
use Rattle.junior.specs.Waited.{lacks}
use Rattle.table.specs.Records.{part_kind, part_event}
use Rattle.table.specs.Spells.{Configured}

-- the lowest so far, with the record at byte c: that of an event counts if the event is absent
abbrev pub lowest_after : List ℕ → List ℕ → ℕ → ℕ → ℕ
lowest_after t words c low = cond (eqb (part_kind t c) 0) (cond (marks words (part_event t c)) low (min (part_event t c) low)) low

-- r is the event that there may be
abbrev pub Tells : Option ℕ → Answer ℕ → Type 0
Tells none r = r ≡ None
Tells (some e) r = r ≡ Some e

-- whatever configuration stands at byte c, r is the event that it lacks, the words' events being present
abbrev pub LacksAs : List ℕ → ℕ → List ℕ → Answer ℕ → Type 0
LacksAs t c words r = (d : Config) → Configured t c d → Tells (lacks d (marks words)) r
