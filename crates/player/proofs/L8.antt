-- Request L8 of the listing program: the sentences of specs/L8.antt.
use Prim.Native.Nat.{ℕ, ◌+◌}
use mathlib.Core.Bool.{Bool, true, false, cond}
use mathlib.Core.Path.{◌≡◌, ap, sym, ◌∙◌}
use mathlib.Core.Logic.{◌≢◌}
use mathlib.Core.List.{List}
use native.Mathlib.Omega.{arith}
use lib.Dec.{ltb, leb}
use lib.ListN.{length, get_or, replicate, length-replicate, get_or-replicate}
use borrow.Author.Tests.{le-leb}
use Rattle.events.specs.Events.{Events}
use Rattle.events.specs.Members.{places}
use Rattle.junior.specs.Values.{Values}
use Rattle.table.specs.Records.{nodes}
use Rattle.table.specs.Verdict.{Verdict, ending, verdict_of}
use Rattle.state.specs.Resting.{blamed}
use Rattle.store.specs.Store.{pieces_good, store_good}
use Rattle.std.specs.Prelude.{Ok, Err}
use Rattle.kernel.specs.declared.Refusal.TheVariants.{BadStore}
use Rattle.kernel.specs.Answer.{Outcome, Reply, Rooms, on_accepted, has_room, unlisted, store_outcome, instant_outcome, Answered}
use Rattle.player.specs.L8.{L8}

-- zeros hold no piece
empty_good : (t : List ℕ) (n : ℕ) → store_good t (replicate (2 + n) 0) ≡ true
unfolding store_good pieces_good
empty_good t n =
    let s : List ℕ = replicate (2 + n) 0 in
    let high : get_or s 0 0 ≡ 0 = get_or-replicate (2 + n) 0 0 0 (omega arith) in
    let low : get_or s 1 0 ≡ 0 = get_or-replicate (2 + n) 1 0 0 (omega arith) in
    let long = le-leb 2 (length s) (omega (arith, length-replicate {A = ℕ} (2 + n) 0)) in
    rw (high, low, long)

-- neither of two outcomes is 25
neither : (b : Bool) {o p : Outcome} → o ≢ Err BadStore → p ≢ Err BadStore → cond b o p ≢ Err BadStore
neither true h k = h
neither false h k = k

of_the_table : (c : Verdict) (go : ℕ → ℕ → Outcome) → ((a f : ℕ) → go a f ≢ Err BadStore) → on_accepted c go ≢ Err BadStore
of_the_table (Ok x) go h e = h x.atoms x.parked e
of_the_table (Err why) go h e = let z : ◌≡◌ {A = ℕ} 0 1 = cc in omega arith

module _ (t s : List ℕ) (X : Events) (lent : Rooms) (good : store_good t lent.store ≡ true) where
  of_the_store : (f : ℕ) → store_outcome t lent.store f ≢ Err BadStore
  unfolding store_outcome
  of_the_store f = rw good (neither (leb f _) (λ e. let z : ◌≡◌ {A = ℕ} 0 1 = cc in omega arith) (λ e. let z : ◌≡◌ {A = ℕ} 0 1 = cc in omega arith))

  another : instant_outcome t s X lent ≢ Err BadStore
  unfolding instant_outcome
  another =
      of_the_table (verdict_of t) _ (λ a f.
      neither (has_room t s)
      (neither (ltb (blamed t s) (nodes t)) (λ e. let z : ◌≡◌ {A = ℕ} 0 1 = cc in omega arith)
      (neither (ltb (unlisted t X) places) (λ e. let z : ◌≡◌ {A = ℕ} 0 1 = cc in omega arith)
      (neither (leb a (length lent.row)) (of_the_store f) (λ e. let z : ◌≡◌ {A = ℕ} 0 1 = cc in omega arith))))
      (λ e. let z : ◌≡◌ {A = ℕ} 0 1 = cc in omega arith))

never_25 : {t s : List ℕ} {X : Events} {value : Values} {lent : Rooms} {s' : List ℕ} {left : Rooms} {r : Reply}
    → Answered t s X value lent s' left r
    → store_good t lent.store ≡ true
    → r ≢ Err BadStore
never_25 {t} {s} {X} {lent = lent} o good e = another t s X lent good (sym o.outcome_is ∙ ap ending e)

pub request_8 : L8
request_8 = record { begun_empty = λ t. empty_good t 32766; never_25 = never_25 }
