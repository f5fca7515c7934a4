-- Request L8 of the listing program: "`zap-run` lends 32,768 bytes, begun empty".
use Rattle.std.specs.Prelude.{Err, ℕ, true, ◌≡◌, ◌≢◌, List, replicate}
use Rattle.events.specs.Events.{Events}
use Rattle.junior.specs.Values.{Values}
use Rattle.store.specs.Store.{store_good}
use Rattle.kernel.specs.declared.Refusal.TheVariants.{BadStore}
use Rattle.kernel.specs.Answer.{Reply, Rooms, Answered}

pub record L8 : Type 0 where
  -- the store that the first line finds is good, whatever the table
  pub begun_empty : (t : List ℕ) → store_good t (replicate 32768 0) ≡ true
  -- a good one is never refused; an instant leaves a good one (kernel/specs/Demand3), so no line is refused with 25
  pub never_25 : {t s : List ℕ} {X : Events} {value : Values} {lent : Rooms} {s' : List ℕ} {left : Rooms} {r : Reply}
      → Answered t s X value lent s' left r
      → store_good t lent.store ≡ true
      → r ≢ Err BadStore
