-- What a taking answers, refusal by refusal, and where nothing is refused.
use Prim.Native.Nat.{ℕ, ◌+◌, ◌*◌, ◌≤◌, ◌<◌}
use mathlib.Core.Bool.{true, false}
use mathlib.Core.Path.{◌≡◌, refl, ap, sym, ◌∙◌}
use mathlib.Core.Logic.{◌≢◌}
use mathlib.Core.List.{List, ◌++◌}
use native.Mathlib.Omega.{arith}
use lib.ListN.{length, take, drop}
use Rattle.table.specs.declared.TableRefusal.{TableRefusal}
use Rattle.table.specs.Records.{configurations, size_at}
use Rattle.table.specs.Part.{part_table, part_length}
use Rattle.table.specs.Verdict.{verdict_of, number_of}
use Rattle.store.specs.Store.{node_of, piece_length, store_good, newest, without}
use Rattle.std.specs.Prelude.{Option, Some, None, Result, Ok, Err, ok_or}
use Rattle.taking.specs.declared.TakeRefusal.{TakeRefusal}
use Rattle.taking.specs.declared.TakeRefusal.TheVariants.{Table, BadStore, NoPiece, NoRoom}
use Rattle.taking.specs.declared.Taken.{Taken}
use Rattle.taking.specs.Taking.{has_rooms, take_outcome, Kept, Took}
use Rattle.taking.specs.Inside.{TookAt}
use Rattle.taking.proofs.Outcomes.{table_short, state_short, roomy, table_refused, bad_store, no_piece, by_rooms}

kept : {s tableRoom stateRoom : List ℕ} → Kept s tableRoom stateRoom s tableRoom stateRoom
kept = record { store_is = refl; table_is = refl; state_is = refl }

-- a refusal, and nothing written
module _ {t s : List ℕ} {e : ℕ} {tableRoom stateRoom : List ℕ} where
  nothing : {why : TakeRefusal} → take_outcome t s e tableRoom stateRoom ≡ Err why → Took t s e tableRoom stateRoom s tableRoom stateRoom (Err why)
  nothing is = record { outcome_is = sym is; leaves = kept }

  pub refused_table : {why : TableRefusal} → verdict_of t ≡ Err why → Took t s e tableRoom stateRoom s tableRoom stateRoom (Err (Table why))
  refused_table h = nothing (table_refused t s e tableRoom stateRoom h)

  module _ (ok : number_of (verdict_of t) ≡ 0) where
    pub refused_store : store_good t s ≡ false → Took t s e tableRoom stateRoom s tableRoom stateRoom (Err BadStore)
    refused_store h = nothing (bad_store t s e tableRoom stateRoom ok h)

    pub refused_piece : store_good t s ≡ true → newest t s e ≡ 0 → Took t s e tableRoom stateRoom s tableRoom stateRoom (Err NoPiece)
    refused_piece good h = nothing (no_piece t s e tableRoom stateRoom ok good h)

-- where the search answers none, the refusal that is handed on is 14
abbrev refusal_in : Result ℕ TakeRefusal → TakeRefusal
refusal_in (Ok at) = NoPiece
refusal_in (Err why) = why

pub lacks_piece : {why : TakeRefusal} (found : Option ℕ) → Err why ≡ ok_or found NoPiece → why ≡ NoPiece
lacks_piece None h = ap refusal_in h
lacks_piece (Some at) h = ap refusal_in h

-- past 1 to 8, 25 and 14, the piece at byte `at` is taken, or there is no room for it
pub took_so : {t s : List ℕ} {e at : ℕ} {tableRoom stateRoom s' tableRoom' stateRoom' : List ℕ} {r : Result Taken TakeRefusal}
    → number_of (verdict_of t) ≡ 0 → store_good t s ≡ true → at ≡ newest t s e → at ≢ 0
    → TookAt t s at tableRoom stateRoom s' tableRoom' stateRoom' r
    → Took t s e tableRoom stateRoom s' tableRoom' stateRoom' r
took_so {t} {s} {e} {tableRoom = tableRoom} {stateRoom = stateRoom} ok good is some o =
    let p = rw is at o in
    record {
      outcome_is = p.outcome_is ∙ sym (by_rooms t s e tableRoom stateRoom ok good (rw (← is) some));
      leaves = p.leaves;
    }

sized : (t s : List ℕ) (at : ℕ) {j n : ℕ} → j ≡ node_of s at → n ≡ size_at t j → n ≡ size_at t (node_of s at)
sized t s at i e = e ∙ ap (size_at t) i

-- of the piece at byte `at`: its body's node, how many nodes that has, and the table's configurations
module _ {t s : List ℕ} {at j n m : ℕ} {tableRoom stateRoom : List ℕ} (i : j ≡ node_of s at) (e : n ≡ size_at t j) (f : m ≡ configurations t) where
  no_room : has_rooms t (node_of s at) tableRoom stateRoom ≡ false → TookAt t s at tableRoom stateRoom s tableRoom stateRoom (Err NoRoom)
  no_room h = record { outcome_is = rw h; leaves = kept }

  pub no_table_room : length tableRoom < 6 * n + 4 * m + 10 → TookAt t s at tableRoom stateRoom s tableRoom stateRoom (Err NoRoom)
  no_table_room h = no_room (table_short t (node_of s at) tableRoom stateRoom (omega (arith, sized t s at i e)))

  pub no_state_room : length stateRoom < 4 * n → TookAt t s at tableRoom stateRoom s tableRoom stateRoom (Err NoRoom)
  no_state_room h = no_room (state_short t (node_of s at) tableRoom stateRoom (omega (arith, sized t s at i e)))

  pub left_behind : {s' tableRoom' stateRoom' : List ℕ} → 6 * n + 4 * m + 10 ≤ length tableRoom → 4 * n ≤ length stateRoom
      → tableRoom' ≡ part_table t j ++ drop (part_length t j) tableRoom
      → stateRoom' ≡ take (4 * n) (drop (at + 4) s) ++ drop (4 * n) stateRoom
      → s' ≡ without (4 + 4 * n) at s
      → TookAt t s at tableRoom stateRoom s' tableRoom' stateRoom' (Ok (record { table = 6 * n + 4 * m + 10; state = 4 * n }))
  left_behind a b x y z =
      let long : part_length t j ≡ 6 * n + 4 * m + 10 = omega arith in
      let bytes : 4 + 4 * n ≡ piece_length t s at = omega (arith, sized t s at i e) in
      record {
        outcome_is = rw (roomy t (node_of s at) tableRoom stateRoom (omega (arith, sized t s at i e)) (omega (arith, sized t s at i e)));
        leaves = record {
          table_length = omega (arith, sized t s at i e);
          state_length = omega (arith, sized t s at i e);
          table_is = rw (long, i) at x;
          state_is = y;
          store_is = z ∙ ap (λ (k : ℕ). without k at s) bytes;
        };
      }
