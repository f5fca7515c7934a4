-- No input of a taking allows two answers or two contents of a room: all of it is worked out from the bytes.
use Prim.Native.Nat.{ℕ, ◌+◌, ◌*◌}
use mathlib.Core.Path.{◌≡◌, refl, ap, sym, ◌∙◌}
use mathlib.Core.List.{List, ◌++◌}
use lib.ListN.{take, drop}
use Rattle.table.specs.Records.{size_at}
use Rattle.table.specs.Part.{part_table, part_length}
use Rattle.store.specs.Store.{node_of, piece_length, newest, without}
use Rattle.std.specs.Prelude.{Result, Ok, Err}
use Rattle.table.specs.Verdict.{ending}
use Rattle.taking.specs.declared.TakeRefusal.{TakeRefusal}
use Rattle.taking.specs.declared.Taken.{Taken}
use Rattle.taking.specs.Taking.{take_outcome, Took}

-- an answer, and the store and the rooms after it
pub record Outcome : Type 0 where
  pub answer : Result Taken TakeRefusal
  pub store : List ℕ
  pub table : List ℕ
  pub state : List ℕ

module _ (t s : List ℕ) (e : ℕ) (tableRoom stateRoom : List ℕ) where
  -- the one that the bytes allow
  unfoldable pub worked_out_by : Result (Unit {0}) TakeRefusal → Outcome
  worked_out_by (Ok u) =
      let at = newest t s e in
      let j = node_of s at in
      let long = part_length t j in
      let n = 4 * size_at t j in
      record {
        answer = Ok (record { table = long; state = n });
        store = without (piece_length t s at) at s;
        table = part_table t j ++ drop long tableRoom;
        state = take n (drop (at + 4) s) ++ drop n stateRoom;
      }
  worked_out_by (Err why) = record { answer = Err why; store = s; table = tableRoom; state = stateRoom }

  abbrev pub worked_out : Outcome
  worked_out = worked_out_by (take_outcome t s e tableRoom stateRoom)

  -- of an answer, the store and the rooms are what its ending allows
  so_left : {s' tableRoom' stateRoom' : List ℕ} (r : Result Taken TakeRefusal)
      → Took t s e tableRoom stateRoom s' tableRoom' stateRoom' r
      → ◌≡◌ {A = Outcome} (record { answer = r; store = s'; table = tableRoom'; state = stateRoom' }) (worked_out_by (ending r))
  unfolding worked_out_by
  so_left (Ok x) h =
      let l = h.leaves in
      λ k. record {
        answer = Ok (record { table = l.table_length k; state = l.state_length k });
        store = l.store_is k;
        table = (l.table_is ∙ ap (λ n. part_table t (node_of s (newest t s e)) ++ drop n tableRoom) l.table_length) k;
        state = (l.state_is ∙ ap (λ n. take n (drop (newest t s e + 4) s) ++ drop n stateRoom) l.state_length) k;
      }
  so_left (Err why) h =
      let l = h.leaves in
      λ k. record { answer = Err why; store = l.store_is k; table = l.table_is k; state = l.state_is k }

  pub is_worked_out : (q : Outcome) → Took t s e tableRoom stateRoom q.store q.table q.state q.answer → q ≡ worked_out
  is_worked_out q h = so_left q.answer h ∙ ap worked_out_by h.outcome_is

  -- and it is allowed
  allowed : (o : Result (Unit {0}) TakeRefusal) → o ≡ take_outcome t s e tableRoom stateRoom → (q : Outcome) → q ≡ worked_out_by o
      → Took t s e tableRoom stateRoom q.store q.table q.state q.answer
  unfolding worked_out_by
  allowed (Ok u) i q w =
      rw w
      (record {
        outcome_is = i;
        leaves = record { table_length = refl; state_length = refl; table_is = refl; state_is = refl; store_is = refl };
      })
  allowed (Err why) i q w = rw w (record { outcome_is = i; leaves = record { store_is = refl; table_is = refl; state_is = refl } })

  pub worked_out_took : (q : Outcome) → q ≡ worked_out → Took t s e tableRoom stateRoom q.store q.table q.state q.answer
  worked_out_took q w = allowed (take_outcome t s e tableRoom stateRoom) refl q w

pub one_taking : {t s : List ℕ} {e : ℕ} {tableRoom stateRoom s₁ s₂ a₁ a₂ b₁ b₂ : List ℕ} {q r : Result Taken TakeRefusal}
    → Took t s e tableRoom stateRoom s₁ a₁ b₁ q
    → Took t s e tableRoom stateRoom s₂ a₂ b₂ r
    → (q ≡ r) × (s₁ ≡ s₂) × (a₁ ≡ a₂) × (b₁ ≡ b₂)
one_taking {t} {s} {e} {tableRoom} {stateRoom} {s₁} {s₂} {a₁} {a₂} {b₁} {b₂} {q} {r} x y =
    let u : Outcome = record { answer = q; store = s₁; table = a₁; state = b₁ } in
    let v : Outcome = record { answer = r; store = s₂; table = a₂; state = b₂ } in
    let same = is_worked_out t s e tableRoom stateRoom u x ∙ sym (is_worked_out t s e tableRoom stateRoom v y) in
    (ap (λ z. z.answer) same, ap (λ z. z.store) same, ap (λ z. z.table) same, ap (λ z. z.state) same)
