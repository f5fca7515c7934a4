-- A taking's outcome, check by check; what is known where nothing was refused.
use Prim.Native.Nat.{ℕ, ◌*◌, ◌≤◌, ◌<◌}
use mathlib.Core.Bool.{true, false, cond, and-false}
use mathlib.Core.Path.{◌≡◌, refl}
use mathlib.Core.Logic.{◌≢◌}
use mathlib.Core.List.{List}
use native.Mathlib.Omega.{arith}
use lib.Dec.{eqb, leb}
use lib.ListN.{length}
use borrow.Author.Tests.{leb-true, le-leb, lt-leb, eqb-false, eq-eqb, ne_eqb}
use Rattle.table.specs.Records.{size_at}
use Rattle.table.specs.Part.{part_length}
use Rattle.table.specs.Verdict.{Verdict, verdict_of, number_of}
use Rattle.table.proofs.Accepted.{its_figures, chosen, passed}
use Rattle.table.proofs.Laid.{both}
use Rattle.store.specs.Store.{node_of, store_good, newest}
use Rattle.std.specs.Prelude.{Result, Ok, Err}
use Rattle.table.specs.declared.TableRefusal.{TableRefusal}
use Rattle.taking.specs.declared.TakeRefusal.{TakeRefusal}
use Rattle.taking.specs.declared.TakeRefusal.TheVariants.{Table, BadStore, NoPiece, NoRoom}
use Rattle.taking.specs.Taking.{on_accepted, has_rooms, take_outcome}

-- 15, by the two rooms
module _ (t : List ℕ) (j : ℕ) (tableRoom stateRoom : List ℕ) where
  pub table_short : length tableRoom < part_length t j → has_rooms t j tableRoom stateRoom ≡ false
  table_short h = rw (lt-leb (part_length t j) (length tableRoom) h)

  pub state_short : length stateRoom < 4 * size_at t j → has_rooms t j tableRoom stateRoom ≡ false
  state_short h = rw (lt-leb (4 * size_at t j) (length stateRoom) h) (and-false (leb (part_length t j) (length tableRoom)))

  pub roomy : part_length t j ≤ length tableRoom → 4 * size_at t j ≤ length stateRoom → has_rooms t j tableRoom stateRoom ≡ true
  roomy h g = rw (le-leb (part_length t j) (length tableRoom) h, le-leb (4 * size_at t j) (length stateRoom) g)

module _ (t s : List ℕ) (e : ℕ) (tableRoom stateRoom : List ℕ) where
  pub table_refused : {why : TableRefusal} → verdict_of t ≡ Err why → take_outcome t s e tableRoom stateRoom ≡ Err (Table why)
  unfolding take_outcome
  table_refused h = rw h

  module _ (ok : number_of (verdict_of t) ≡ 0) where
    pub bad_store : store_good t s ≡ false → take_outcome t s e tableRoom stateRoom ≡ Err BadStore
    unfolding take_outcome
    bad_store h = let (x, is) = its_figures (verdict_of t) ok in rw (is, h)

    module _ (good : store_good t s ≡ true) where
      pub no_piece : newest t s e ≡ 0 → take_outcome t s e tableRoom stateRoom ≡ Err NoPiece
      unfolding take_outcome
      no_piece h = let (x, is) = its_figures (verdict_of t) ok in rw (is, good, eq-eqb (newest t s e) 0 h)

      pub by_rooms : newest t s e ≢ 0
          → take_outcome t s e tableRoom stateRoom ≡ cond (has_rooms t (node_of s (newest t s e)) tableRoom stateRoom) (Ok tt) (Err NoRoom)
      unfolding take_outcome
      by_rooms h = let (x, is) = its_figures (verdict_of t) ok in rw (is, good, ne_eqb (newest t s e) 0 h)

-- past all checks
pub record Passed (t s : List ℕ) (e : ℕ) (tableRoom stateRoom : List ℕ) : Type 0 where
  pub table_good : number_of (verdict_of t) ≡ 0
  pub store_passes : store_good t s ≡ true
  pub some : newest t s e ≢ 0
  pub table_room : part_length t (node_of s (newest t s e)) ≤ length tableRoom
  pub state_room : 4 * size_at t (node_of s (newest t s e)) ≤ length stateRoom

past_table : (c : Verdict) {go : Result (Unit {0}) TakeRefusal} → on_accepted c go ≡ Ok tt → (number_of c ≡ 0) × (go ≡ Ok tt)
unfolding number_of
past_table (Ok x) h = (refl, h)
past_table (Err why) h = let n : ◌≡◌ {A = ℕ} 0 1 = cc in absurd (omega arith)

pub all_passed : (t s : List ℕ) (e : ℕ) (tableRoom stateRoom : List ℕ) → take_outcome t s e tableRoom stateRoom ≡ Ok tt
    → Passed t s e tableRoom stateRoom
unfolding take_outcome
all_passed t s e tableRoom stateRoom h =
    let Is : Result (Unit {0}) TakeRefusal → Type 0 = λ o. o ≡ Ok tt in
    let j = node_of s (newest t s e) in
    let (ok, h') = past_table (verdict_of t) h in
    let (good, h'') = chosen Is (store_good t s) h' (λ z. let n : ◌≡◌ {A = ℕ} 0 1 = cc in omega arith) in
    let (there, h''') = passed Is (eqb (newest t s e) 0) h'' (λ z. let n : ◌≡◌ {A = ℕ} 0 1 = cc in omega arith) in
    let (rooms, done) = chosen Is (has_rooms t j tableRoom stateRoom) h''' (λ z. let n : ◌≡◌ {A = ℕ} 0 1 = cc in omega arith) in
    let (a, b) = both {a = leb (part_length t j) (length tableRoom)} rooms in
    record {
      table_good = ok;
      store_passes = good;
      some = eqb-false _ _ there;
      table_room = leb-true _ _ a;
      state_room = leb-true _ _ b;
    }
