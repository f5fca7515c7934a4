-- Demand 1 of taking: its outcome is that of the first of its checks that fails, and a refusal writes nothing.
use Prim.Native.Nat.{ℕ, ◌+◌, ◌*◌, ◌≤◌, ◌<◌}
use mathlib.Core.Bool.{Bool, true, false, cond, ◌&&◌, false≢true}
use mathlib.Core.Path.{◌≡◌, refl, ap, sym, subst, ◌∙◌}
use mathlib.Core.Logic.{◌≢◌, ◌⊎◌, inl, inr}
use mathlib.Core.List.{List, [], ◌∷◌, ◌++◌}
use native.Mathlib.Omega.{arith}
use lib.Dec.{eqb, leb}
use lib.ListN.{length}
use borrow.Author.Tests.{leb-true, leb-false, eqb-true, eqb-false}
use Rattle.junior.specs.Program.{size}
use Rattle.junior.specs.Term.{prog}
use Rattle.junior.specs.Trace.{Piece}
use Rattle.junior.specs.Parked.{All}
use Rattle.table.specs.Records.{configurations, size_at}
use Rattle.table.specs.Part.{part_length}
use Rattle.table.specs.Verdict.{Verdict, verdict_of, refusal_number, refusal_index, number_of, index_of, numbered_by, ending}
use Rattle.table.proofs.Accepted.{accepted, some_number}
use Rattle.table.proofs.Laid.{both}
use Rattle.store.specs.Store.{node_of, store_good, newest}
use Rattle.store.specs.Stored.{Stored}
use Rattle.store.proofs.OneStore.{one_store}
use Rattle.store.proofs.GoodStore.{good_store, stored}
use Rattle.store.proofs.Closed.{parts_of}
use Rattle.std.specs.Prelude.{Result, Ok, Err}
use Rattle.taking.specs.declared.TakeRefusal.{TakeRefusal}
use Rattle.taking.specs.declared.TakeRefusal.TheVariants.{BadStore, NoPiece, NoRoom}
use Rattle.taking.specs.declared.Taken.{Taken}
use Rattle.taking.specs.Taking.{taking_number, taking_index, on_accepted, has_rooms, take_outcome, Took}
use Rattle.taking.specs.TakenWell.{Bytes}
use Rattle.taking.specs.Demand1.{Handed, handed, TooLong, Check, its_table, its_store, its_piece, its_rooms}
use Rattle.taking.specs.Demand1.{Fails, Passes, FirstFailure, AllPassed, checks, ByFirstCheck, Demand1}
use Rattle.taking.proofs.Found.{found, none_found, found_there}

module _ (h : Handed) where
  -- a check fails with one number and one index
  one_failure : (c : Check) (n i m j : ℕ) → Fails c h n i → Fails c h m j → (n ≡ m) × (i ≡ j)
  one_failure its_table n i m j (x, a, b) (y, c, d) = (a ∙ sym c, b ∙ sym d)
  one_failure its_store n i m j (x, a, b) (y, c, d) = (a ∙ sym c, b ∙ sym d)
  one_failure its_piece n i m j (x, a, b) (y, c, d) = (a ∙ sym c, b ∙ sym d)
  one_failure its_rooms n i m j (x, a, b) (y, c, d) = (a ∙ sym c, b ∙ sym d)

  one_first : (l : List Check) (n i m j : ℕ) → FirstFailure l h n i → FirstFailure l h m j → (n ≡ m) × (i ≡ j)
  unfolding FirstFailure
  one_first [] n i m j f g = absurd f
  one_first (c ∷ l) n i m j (inl f) (inl g) = one_failure c n i m j f g
  one_first (c ∷ l) n i m j (inl f) (inr (p, g)) = absurd (p n i f)
  one_first (c ∷ l) n i m j (inr (p, f)) (inl g) = absurd (p m j g)
  one_first (c ∷ l) n i m j (inr (p, f)) (inr (q, g)) = one_first l n i m j f g

  not_passed : (l : List Check) (n i : ℕ) → FirstFailure l h n i → AllPassed l h → ⊥
  unfolding FirstFailure AllPassed
  not_passed [] n i f a = f
  not_passed (c ∷ l) n i (inl f) (p, a) = p n i f
  not_passed (c ∷ l) n i (inr (q, f)) (p, a) = not_passed l n i f a

  refused_by : (n i : ℕ) → FirstFailure checks h n i → n ≢ 0 → ByFirstCheck h n i
  refused_by n i f some =
      record {
        refused = λ m j g. one_first checks n i m j f g;
        only_then = λ z. f;
        taken = λ a. absurd (not_passed checks n i f a);
        only_so = λ z. absurd (some z);
      }

  passed_by : AllPassed checks h → ByFirstCheck h 0 0
  passed_by a =
      record {
        refused = λ m j g. absurd (not_passed checks m j g a);
        only_then = λ z. absurd (z refl);
        taken = λ z. (refl, refl);
        only_so = λ z. a;
      }

-- a list has one last piece of an event
same_last : (e : ℕ) (older older' : List Piece) {x x' : Piece} {newer newer' : List Piece} → older ++ (x ∷ newer) ≡ older' ++ (x' ∷ newer')
    → x.event ≡ e → x'.event ≡ e → All (λ y. y.event ≢ e) newer → All (λ y. y.event ≢ e) newer' → x ≡ x'
same_last e [] [] h a b c d = cc
same_last e [] (z ∷ older') {x' = x'} {newer = newer} {newer' = newer'} h a b c d =
    let rest : newer ≡ older' ++ (x' ∷ newer') = cc in
    absurd ((parts_of older' (subst (All (λ y. y.event ≢ e)) rest c)).1 b)
same_last e (z ∷ older) [] {x = x} {newer = newer} {newer' = newer'} h a b c d =
    let rest : newer' ≡ older ++ (x ∷ newer) = cc in
    absurd ((parts_of older (subst (All (λ y. y.event ≢ e)) rest d)).1 a)
same_last e (z ∷ older) (z' ∷ older') {x = x} {x' = x'} {newer = newer} {newer' = newer'} h a b c d =
    let rest : older ++ (x ∷ newer) ≡ older' ++ (x' ∷ newer') = cc in
    same_last e older older' rest a b c d

-- the checks one after the other, each where those before it are passed
module _ (t s : List ℕ) (e : ℕ) (tableRoom stateRoom : List ℕ) (small : Bytes s) where
  abbrev given : Handed
  given = handed t s e tableRoom stateRoom

  abbrev at : ℕ
  at = newest t s e

  abbrev By : Result (Unit {0}) TakeRefusal → Type 0
  By o = ByFirstCheck given (numbered_by taking_number o) (numbered_by taking_index o)

  -- the newest piece and a room too short for it
  short_for : (l : List Piece) → Stored t s l → at ≢ 0 → has_rooms t (node_of s at) tableRoom stateRoom ≡ false → TooLong given
  short_for l a some h =
      let f = found e a some in
      let there = found_there f in
      record {
        older = f.older;
        piece = f.piece;
        newer = f.newer;
        newest = f.is_newest;
        short = rw (← there.sized, ← there.node_is) (go (leb (part_length t (node_of s at)) (length tableRoom)) refl h);
      }
    where
      go : (b : Bool) → leb (part_length t (node_of s at)) (length tableRoom) ≡ b
          → (b && leb (4 * size_at t (node_of s at)) (length stateRoom)) ≡ false
          → (length tableRoom < part_length t (node_of s at)) ⊎ (length stateRoom < 4 * size_at t (node_of s at))
      go true x y = inr (leb-false _ _ y)
      go false x y = inl (leb-false _ _ x)

  -- it is one piece, so rooms that are long enough for the one found are so for it
  long_enough : (l : List Piece) → Stored t s l → at ≢ 0 → has_rooms t (node_of s at) tableRoom stateRoom ≡ true → TooLong given → ⊥
  long_enough l a some h z =
      let f = found e a some in
      let there = found_there f in
      let x = z.newest in
      let y = f.is_newest in
      let same = same_last e z.older f.older (one_store y.stood x.stood) x.its_event y.its_event x.no_newer y.no_newer in
      let n : size_at t (node_of s at) ≡ size (prog z.piece.state) =
      ap (size_at t) there.node_is ∙ (there.sized ∙ ap (λ (p : Piece). size (prog p.state)) (sym same)) in
      let (roomy_table, roomy_state) = both {a = leb (part_length t (node_of s at)) (length tableRoom)} h in
      go n (leb-true _ _ roomy_table) (leb-true _ _ roomy_state) z.short
    where
      go : {k : ℕ} → size_at t (node_of s at) ≡ k → part_length t (node_of s at) ≤ length tableRoom → 4 * size_at t (node_of s at) ≤ length stateRoom
          → (length tableRoom < 6 * k + 4 * configurations t + 10) ⊎ (length stateRoom < 4 * k)
          → ⊥
      go n a b (inl c) = omega arith
      go n a b (inr c) = omega arith

  passes_table : number_of (verdict_of t) ≡ 0 → Passes its_table given
  passes_table ok n i (f, a, b) = f ok

  module _ (ok : number_of (verdict_of t) ≡ 0) (l : List Piece) (a : Stored t s l) where
    passes_store : Passes its_store given
    passes_store n i (f, x, y) = f l a

    passes_piece : at ≢ 0 → Passes its_piece given
    passes_piece some n i (f, x, y) =
        let g = found e a some in
        f g.older g.newer g.piece g.is_newest.stood g.is_newest.its_event

    passes_rooms : at ≢ 0 → has_rooms t (node_of s at) tableRoom stateRoom ≡ true → Passes its_rooms given
    passes_rooms some h n i (z, x, y) = long_enough l a some h z

    by_rooms : at ≢ 0 → (b : Bool) → has_rooms t (node_of s at) tableRoom stateRoom ≡ b → By (cond b (Ok tt) (Err NoRoom))
    unfolding FirstFailure AllPassed
    by_rooms some true h =
        passed_by given (passes_table ok, (passes_store, (passes_piece some, (passes_rooms some h, tt))))
    by_rooms some false h =
        refused_by given 15 0
        (inr (passes_table ok, inr (passes_store, inr (passes_piece some, inl (short_for l a some h, refl, refl)))))
        (λ z. omega arith)

    by_piece : (b : Bool) → eqb at 0 ≡ b → By (cond b (Err NoPiece) (cond (has_rooms t (node_of s at) tableRoom stateRoom) (Ok tt) (Err NoRoom)))
    unfolding FirstFailure
    by_piece true h =
        refused_by given 14 0
        (inr (passes_table ok, inr (passes_store, inl (none_there, refl, refl))))
        (λ z. omega arith)
      where
        none_there : (k m : List Piece) (x : Piece) → Stored t s (k ++ (x ∷ m)) → x.event ≢ e
        none_there k m x b = (parts_of k (none_found e b (eqb-true _ _ h))).1
    by_piece false h = by_rooms (eqb-false _ _ h) (has_rooms t (node_of s at) tableRoom stateRoom) refl

  by_store : number_of (verdict_of t) ≡ 0 → (b : Bool) → store_good t s ≡ b
      → By (cond b (cond (eqb at 0) (Err NoPiece) (cond (has_rooms t (node_of s at) tableRoom stateRoom) (Ok tt) (Err NoRoom))) (Err BadStore))
  unfolding FirstFailure
  by_store ok true h = let (l, a) = stored (accepted t ok).loaded small h in by_piece ok l a (eqb at 0) refl
  by_store ok false h =
      refused_by given 25 0
      (inr (passes_table ok, inl ((λ l a. false≢true (sym h ∙ good_store (accepted t ok).loaded a)), refl, refl)))
      (λ z. omega arith)

  pub by_checks : By (take_outcome t s e tableRoom stateRoom)
  unfolding take_outcome number_of index_of FirstFailure
  by_checks = go (verdict_of t) refl
    where
      go : (c : Verdict) → verdict_of t ≡ c
          → By (on_accepted c (cond (store_good t s) (cond (eqb at 0) (Err NoPiece) (cond (has_rooms t (node_of s at) tableRoom stateRoom) (Ok tt) (Err NoRoom))) (Err BadStore)))
      go (Ok x) h = by_store (ap number_of h) (store_good t s) refl
      go (Err why) h =
          let some : refusal_number why ≢ 0 = λ z. omega (arith, some_number why) in
          refused_by given (refusal_number why) (refusal_index why)
          (inl (rw h some, sym (ap number_of h), sym (ap index_of h))) some

-- what is numbered so is the ending
ended : {T : Type 0} (by : TakeRefusal → ℕ) (r : Result T TakeRefusal) → numbered_by by (ending r) ≡ numbered_by by r
ended by (Ok x) = refl
ended by (Err why) = refl

nothing_written : {t s : List ℕ} {e : ℕ} {tableRoom stateRoom s' tableRoom' stateRoom' : List ℕ} (r : Result Taken TakeRefusal)
    → Took t s e tableRoom stateRoom s' tableRoom' stateRoom' r → numbered_by taking_number r ≢ 0
    → (s' ≡ s) × (tableRoom' ≡ tableRoom) × (stateRoom' ≡ stateRoom)
nothing_written (Ok x) o n = absurd (n refl)
nothing_written (Err why) o n = let k = o.leaves in (k.store_is, k.table_is, k.state_is)

pub demand_1 : Demand1
demand_1 =
    record {
      answered = λ {t} {s} {e} {tableRoom} {stateRoom} {r = r} small o.
          rw (ended taking_number r, ended taking_index r) at (rw (← o.outcome_is) at (by_checks t s e tableRoom stateRoom small));
      writes_nothing = λ {r = r} o n. nothing_written r o n;
    }
