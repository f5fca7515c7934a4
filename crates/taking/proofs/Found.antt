-- The newest piece of an event: the pieces before it and behind it, and where its bytes stand.
use Prim.Native.Nat.{ℕ, ◌+◌}
use mathlib.Core.Bool.{true}
use mathlib.Core.Path.{◌≡◌, refl, subst}
use mathlib.Core.Logic.{◌≢◌}
use mathlib.Core.List.{List}
use native.Mathlib.Omega.{arith}
use lib.ListN.{length}
use Rattle.junior.specs.Trace.{Piece}
use Rattle.junior.specs.Parked.{All}
use Rattle.state.specs.Pieces.{pieces_bytes}
use Rattle.table.specs.Inside.{Loaded}
use Rattle.store.specs.Store.{store_good, newest}
use Rattle.store.specs.Stored.{Belongs, Stored}
use Rattle.store.proofs.Tests.{body_is}
use Rattle.store.proofs.There.{There}
use Rattle.store.proofs.GoodStore.{stored}
use Rattle.store.proofs.Closed.{parts_of, within, piece_there}
use Rattle.store.proofs.Newest.{Last, no_such, last_is, newest_last}
use Rattle.taking.specs.TakenWell.{Bytes, Newest}
use Rattle.taking.specs.Inside.{Holding}

pub record Found (t s : List ℕ) (e : ℕ) : Type 0 where
  pub older : List Piece
  pub piece : Piece
  pub newer : List Piece
  pub is_newest : Newest t s e older piece newer
  pub at_is : newest t s e ≡ 2 + length (pieces_bytes older)

module _ {t s : List ℕ} {l : List Piece} (e : ℕ) (a : Stored t s l) where
  -- there is one
  pub found : newest t s e ≢ 0 → Found t s e
  found some = go refl (newest_last e a)
    where
      go : {at : ℕ} → newest t s e ≡ at → Last e l at → Found t s e
      go p (no_such h) = absurd (some p)
      go p (last_is older x newer so event none) =
          record {
            older = older;
            piece = x;
            newer = newer;
            is_newest = record { stood = subst (Stored t s) so a; its_event = event; no_newer = none };
            at_is = p;
          }

  -- there is none
  pub none_found : newest t s e ≡ 0 → All (λ x. x.event ≢ e) l
  none_found none = go none (newest_last e a)
    where
      go : {at : ℕ} → at ≡ 0 → Last e l at → All (λ x. x.event ≢ e) l
      go p (no_such h) = h
      go p (last_is older x newer so event none) = absurd (omega arith)

module _ {t s : List ℕ} {e : ℕ} (f : Found t s e) where
  pub belongs : Belongs t f.piece
  belongs = (parts_of f.older f.is_newest.stood.each).1

  -- its bytes
  pub found_there : There t s (newest t s e) f.piece
  found_there =
      rw f.at_is (piece_there f.older f.piece f.newer f.is_newest.stood)

  pub holding : Loaded t → Holding t s (newest t s e)
  holding l =
      let there = found_there in
      let ends = within f.older f.piece f.newer f.is_newest.stood in
      record {
        loaded = l;
        node = rw there.node_is (body_is belongs.body).among;
        begins = omega (arith, f.at_is);
        ends = omega (arith, f.at_is, there.long);
        all = f.is_newest.stood.all;
      }

-- past 25 and 14
pub found_in : {t s : List ℕ} (e : ℕ) → Loaded t → Bytes s → store_good t s ≡ true → newest t s e ≢ 0 → Found t s e
found_in e l small good some = let (k, a) = stored l small good in found e a some
