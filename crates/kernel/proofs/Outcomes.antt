-- What is known where start or an instant ran: every check was passed.
use Prim.Native.Nat.{ℕ, zero, suc, ◌*◌, ◌≤◌, ◌<◌}
use mathlib.Core.Bool.{Bool, true, false, cond, not}
use mathlib.Core.Path.{◌≡◌, refl}
use mathlib.Core.List.{List}
use native.Mathlib.Omega.{arith}
use lib.Dec.{ltb, leb}
use lib.ListN.{length}
use borrow.Author.Tests.{leb-true, ltb-false, le-leb, lt-leb, lt-ltb, le-ltb}
use Rattle.events.specs.Events.{Events, lowest}
use Rattle.events.specs.Members.{places}
use Rattle.std.specs.Prelude.{Ok, Err}
use Rattle.table.specs.declared.TableRefusal.{TableRefusal}
use Rattle.table.specs.Records.{nodes}
use Rattle.table.specs.Verdict.{Verdict, accepted_with, no_figures, figures_of, verdict_of}
use Rattle.table.proofs.Accepted.{chosen, passed}
use Rattle.state.specs.Resting.{rests, blamed}
use Rattle.store.specs.Store.{store_good, store_room}
use Rattle.kernel.specs.declared.Refusal.TheVariants.{Table, StateRoom, NotAtRest, UnlistedEvent}
use Rattle.kernel.specs.declared.Refusal.TheVariants.{AtomRoom, BadStore, StoreRoom}
use Rattle.kernel.specs.Answer.{Outcome, Rooms, on_accepted, has_room, start_outcome, unlisted, store_outcome, instant_outcome}
use Rattle.kernel.proofs.Replies.{no_refusal}

-- what the last arm of a match on a verdict knows: it isn't the accepted one
abbrev pub NotAccepted : Verdict → Type 0
NotAccepted c = (g a w f : ℕ) → c ≡ accepted_with g a w f → ⊥

-- so it is a refusal, and that is the outcome
pub refused_arm : (c : Verdict) → NotAccepted c → (go : ℕ → ℕ → Outcome)
    → (why : TableRefusal) × (c ≡ Err why) × (Err (Table why) ≡ on_accepted c go)
refused_arm (Ok x) o go = absurd (o x.generations x.atoms x.nodes x.parked refl)
refused_arm (Err why) o go = (why, refl, refl)

-- and there are no figures
pub no_figures_of : (c : Verdict) → NotAccepted c → no_figures ≡ figures_of c
unfolding figures_of
no_figures_of (Ok x) o = absurd (o x.generations x.atoms x.nodes x.parked refl)
no_figures_of (Err why) o = refl

pub start_refused : (t s : List ℕ) {why : TableRefusal} → Err why ≡ verdict_of t → Err (Table why) ≡ start_outcome t s
unfolding start_outcome
start_refused t s e = rw (← e) refl

pub instant_refused : (t s : List ℕ) (X : Events) (lent : Rooms) {why : TableRefusal} → Err why ≡ verdict_of t
    → Err (Table why) ≡ instant_outcome t s X lent
unfolding instant_outcome
instant_refused t s X lent e = rw (← e) refl

-- only an accepted table lets anything run
pub accepted : (c : Verdict) (go : ℕ → ℕ → Outcome) → on_accepted c go ≡ Ok tt
    → (g : ℕ) × (a : ℕ) × (w : ℕ) × (f : ℕ) × (c ≡ accepted_with g a w f) × (go a f ≡ Ok tt)
accepted (Ok x) go e = (x.generations, x.atoms, x.nodes, x.parked, refl, e)
accepted (Err why) go e = absurd (no_refusal e)

pub started_table : (t s : List ℕ) → start_outcome t s ≡ Ok tt → (g : ℕ) × (a : ℕ) × (w : ℕ) × (f : ℕ) × (verdict_of t ≡ accepted_with g a w f)
unfolding start_outcome
started_table t s e = let (g, a, w, f, v, go) = accepted (verdict_of t) _ e in (g, a, w, f, v)

lowest_le : (n : ℕ) (X : ℕ → Bool) → lowest n X ≤ n
unfolding lowest
lowest_le zero X = omega arith
lowest_le (suc n) X = go (X 0) (lowest_le n (λ k. X (suc k)))
  where
    go : (b : Bool) → lowest n (λ k. X (suc k)) ≤ n → cond b 0 (suc (lowest n (λ k. X (suc k)))) ≤ suc n
    go true h = omega arith
    go false h = omega arith

-- past all fourteen checks
pub record Passed (t s : List ℕ) (X : Events) (lent : Rooms) : Type 0 where
  pub generations : ℕ
  pub most : ℕ
  pub weight : ℕ
  pub parked : ℕ
  pub verdict : verdict_of t ≡ accepted_with generations most weight parked
  pub room : 4 * nodes t ≤ length s
  pub rest : blamed t s ≡ nodes t
  pub known : places ≤ unlisted t X
  pub row_room : most ≤ length lent.row
  pub store_passes : store_good t lent.store ≡ true
  pub parking_room : parked ≤ store_room lent.store

pub all_passed : (t s : List ℕ) (X : Events) (lent : Rooms) → instant_outcome t s X lent ≡ Ok tt → Passed t s X lent
unfolding instant_outcome store_outcome
all_passed t s X lent e =
    let (g, a, w, f, v, go) = accepted (verdict_of t) _ e in
    let Goes : Outcome → Type 0 = λ r. r ≡ Ok tt in
    let roomy = chosen Goes (has_room t s) go no_refusal in
    let resting = passed Goes (ltb (blamed t s) (nodes t)) roomy.1 no_refusal in
    let listed = passed Goes (ltb (unlisted t X) places) resting.1 no_refusal in
    let wide = chosen Goes (leb a (length lent.row)) listed.1 no_refusal in
    let stored = chosen Goes (store_good t lent.store) wide.1 no_refusal in
    let spacious = chosen Goes (leb f (store_room lent.store)) stored.1 no_refusal in
    record {
      generations = g;
      most = a;
      weight = w;
      parked = f;
      verdict = v;
      room = leb-true (4 * nodes t) (length s) roomy.0;
      rest =
          let past = ltb-false (blamed t s) (nodes t) resting.0 in
          omega (arith, lowest_le (nodes t) (λ i. not (rests t s i)));
      known = ltb-false (unlisted t X) places listed.0;
      row_room = leb-true a (length lent.row) wide.0;
      store_passes = stored.0;
      parking_room = leb-true f (store_room lent.store) spacious.0;
    }

-- what a store is refused for, or nothing
module _ (t s : List ℕ) (f : ℕ) where
  pub bad_store : store_good t s ≡ false → Err BadStore ≡ store_outcome t s f
  unfolding store_outcome
  bad_store e = rw e

  module _ (good : store_good t s ≡ true) where
    pub short_store : store_room s < f → Err StoreRoom ≡ store_outcome t s f
    unfolding store_outcome
    short_store h = rw (good, lt-leb f (store_room s) h)

    pub store_ran : f ≤ store_room s → Ok tt ≡ store_outcome t s f
    unfolding store_outcome
    store_ran h = rw (good, le-leb f (store_room s) h)

module _ (t s : List ℕ) {g a w f : ℕ} (v : verdict_of t ≡ accepted_with g a w f) where
  start_is : start_outcome t s ≡ cond (has_room t s) (Ok tt) (Err StateRoom)
  unfolding start_outcome
  start_is = rw v

  pub start_short : length s < 4 * nodes t → Err StateRoom ≡ start_outcome t s
  start_short h = rw (start_is, lt-leb (4 * nodes t) (length s) h)

  pub start_ran : 4 * nodes t ≤ length s → Ok tt ≡ start_outcome t s
  start_ran h = rw (start_is, le-leb (4 * nodes t) (length s) h)

  module _ (X : Events) (lent : Rooms) where
    pub instant_is :
        instant_outcome t s X lent
        ≡ cond
        (has_room t s)
        (cond
        (ltb (blamed t s) (nodes t))
        (Err (NotAtRest (blamed t s)))
        (cond
        (ltb (unlisted t X) places)
        (Err (UnlistedEvent (unlisted t X)))
        (cond (leb a (length lent.row)) (store_outcome t lent.store f) (Err AtomRoom))))
        (Err StateRoom)
    unfolding instant_outcome
    instant_is = rw v

    pub short_room : length s < 4 * nodes t → Err StateRoom ≡ instant_outcome t s X lent
    short_room h = rw (instant_is, lt-leb (4 * nodes t) (length s) h)

    module _ (room : 4 * nodes t ≤ length s) where
      pub not_at_rest : blamed t s < nodes t → Err (NotAtRest (blamed t s)) ≡ instant_outcome t s X lent
      not_at_rest h = rw (instant_is, le-leb (4 * nodes t) (length s) room, lt-ltb (blamed t s) (nodes t) h)

      module _ (rest : nodes t ≤ blamed t s) where
        pub unlisted_event : unlisted t X < places → Err (UnlistedEvent (unlisted t X)) ≡ instant_outcome t s X lent
        unlisted_event h =
            rw (instant_is, le-leb (4 * nodes t) (length s) room, le-ltb (blamed t s) (nodes t) rest, lt-ltb (unlisted t X) places h)

        module _ (known : places ≤ unlisted t X) where
          pub short_row : length lent.row < a → Err AtomRoom ≡ instant_outcome t s X lent
          short_row h =
              rw (
                instant_is,
                le-leb (4 * nodes t) (length s) room,
                le-ltb (blamed t s) (nodes t) rest,
                le-ltb (unlisted t X) places known,
                lt-leb a (length lent.row) h,
              )

          -- what is left is the store's
          pub by_store : a ≤ length lent.row → store_outcome t lent.store f ≡ instant_outcome t s X lent
          by_store h =
              rw (
                instant_is,
                le-leb (4 * nodes t) (length s) room,
                le-ltb (blamed t s) (nodes t) rest,
                le-ltb (unlisted t X) places known,
                le-leb a (length lent.row) h,
              )
