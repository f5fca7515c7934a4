-- What passes refusal 13 has room, also in the sixteen bits for the bytes in use; what 13 refuses has none; nothing stands in a store that 25
-- refuses. And so, after an instant, what it parked stands behind what stood there, and the store passes 25 again.
use Prim.Native.Nat.{ℕ, ◌+◌, ◌≤◌, ◌<◌, min}
use mathlib.Core.Bool.{true, false, false≢true}
use mathlib.Core.Path.{◌≡◌, sym, ◌∙◌}
use mathlib.Core.List.{List, ◌++◌}
use native.Mathlib.Omega.{arith}
use lib.ListN.{length}
use Rattle.junior.specs.Trace.{Piece}
use Rattle.junior.specs.Parked.{All}
use Rattle.table.specs.Inside.{Loaded}
use Rattle.state.specs.Pieces.{pieces_bytes}
use Rattle.store.specs.Store.{in_use, store_good, store_room, adding}
use Rattle.store.specs.Stored.{Belongs, Stored, Holds}
use Rattle.store.proofs.OneStore.{holds}
use Rattle.store.proofs.GoodStore.{good_store}
use Rattle.store.proofs.Added.{added}

module _ (s : List ℕ) (n : ℕ) (h : 2 + in_use s ≤ length s) where
  pub room_fits : n ≤ store_room s → 2 + in_use s + n ≤ length s
  unfolding store_room
  room_fits g = omega arith

  pub sixteen_bits : in_use s < 65536 → n ≤ store_room s → in_use s + n < 65536
  unfolding store_room
  sixteen_bits u g = omega arith

  pub no_room : store_room s < n → min (length s) 65537 < 2 + in_use s + n
  unfolding store_room
  no_room g = omega arith

pub no_store : {t s : List ℕ} {l : List Piece} → Loaded t → store_good t s ≡ false → Stored t s l → ⊥
no_store d bad a = false≢true (sym bad ∙ good_store d a)

module _ {t s : List ℕ} {l m : List Piece} (a : Stored t s l) (each : All (Belongs t) m) (room : length (pieces_bytes m) ≤ store_room s) where
  pub parked_stored : Stored t (adding (pieces_bytes m) s) (l ++ m)
  parked_stored = added a each (room_fits s (length (pieces_bytes m)) a.all room)

  pub parked_holds : Holds t (adding (pieces_bytes m) s) (l ++ m)
  parked_holds = holds parked_stored

  pub parked_good : Loaded t → store_good t (adding (pieces_bytes m) s) ≡ true
  parked_good d = good_store d parked_stored
