-- Request L14, sentence by sentence: what an accepted table names, what If and RepeatExt are, and that an answer depends on no value that the
-- instant doesn't ask for.
use Prim.Native.Nat.{ℕ, ◌+◌, ◌≤◌, ◌<◌, max}
use mathlib.Core.Path.{◌≡◌, refl, ap, sym, ◌∙◌}
use mathlib.Core.List.{List}
use native.Mathlib.Omega.{arith}
use borrow.Author.Tests.{leb-true, leb-false}
use Rattle.events.specs.Events.{Events}
use Rattle.junior.specs.Configuration.{Env}
use Rattle.junior.specs.Values.{Values, exactly, asked}
use Rattle.junior.specs.Program.{Program, Nothing, Stop, Atom, Seq, Par, Loop, Repeat, Generate, Await, When, Until}
use Rattle.junior.specs.Program.{Control, Local, Freezable, If, kind}
use Rattle.junior.specs.Term.{fresh, if0, if1, if2}
use Rattle.junior.specs.Trace.{Place, first, second}
use Rattle.junior.specs.Rules.{Allowed, Result, Rewrites, under, if_true, if_false}
use Rattle.junior.specs.Figures.{stops, figure}
use Rattle.junior.specs.AtRest.{AtRest}
use Rattle.junior.specs.Waited.{first_wait}
use Rattle.junior.specs.Asked.{asks_in_all, Each, EachNamed, AlsoWith}
use Rattle.junior.proofs.Asked.{asked_only}
use Rattle.table.specs.Records.{nodes, kind_at, argument_at, second_child}
use Rattle.table.specs.Good.{children}
use Rattle.table.specs.Spells.{Spells, tree_of}
use Rattle.table.specs.Verdict.{verdict_of, number_of}
use Rattle.table.specs.Inside.{Loaded}
use Rattle.table.proofs.Accepted.{accepted}
use Rattle.table.proofs.Grown.{fine}
use Rattle.table.proofs.Loaded.{whole_placed}
use Rattle.table.proofs.Parts.{by_kind}
use Rattle.table.proofs.Subtrees.{rooted, body, pair}
use Rattle.kernel.specs.declared.Answer.{Answer}
use Rattle.std.specs.Prelude.{Ok, Err}
use Rattle.kernel.specs.Answer.{Reply, Rooms, node_of, event_at, Run, Answered}
use Rattle.kernel.specs.AskTheBox.{RepeatExt, AskTheBox}

module _ {t : List ℕ} (a : Loaded t) where
  -- node i's argument is below its form's limit
  value_below : (v i : ℕ) (p q : Program) → i < nodes t → kind_at t i ≡ 14 → argument_at t i ≡ v → v < 16
  unfolding kind
  value_below v i p q l k x =
      let below = rw ((by_kind (If v p q)).limit_is t) at (fine t i 14 k (a.nodes_good i l)).argument_below in
      omega arith

  argument_below : (v cap i : ℕ) (p : Program) → i < nodes t → kind_at t i ≡ 15 → argument_at t i < 4096
  unfolding kind
  argument_below v cap i p l k = rw ((by_kind (RepeatExt v cap p)).limit_is t) at (fine t i 15 k (a.nodes_good i l)).argument_below

  -- so every value that a program of the table names is one of sixteen
  names_below : (p : Program) (i : ℕ) → i < nodes t → Spells t i p → EachNamed (λ v. v < 16) p
  unfolding EachNamed Each Spells children kind
  names_below Nothing i l h = tt
  names_below Stop i l h = tt
  names_below (Atom n) i l h = tt
  names_below (Seq p q) i l ((k, w), x, y, z) =
      let c = pair (rooted a) i l (ap children k) in
      (names_below p (i + 1) c.first_in y, names_below q (second_child t i) c.second_in z)
  names_below (Par p q) i l ((k, w), x, y, z) =
      let c = pair (rooted a) i l (ap children k) in
      (names_below p (i + 1) c.first_in y, names_below q (second_child t i) c.second_in z)
  names_below (Loop p) i l ((k, w), x, y) = names_below p (i + 1) (body (rooted a) i l (ap children k)).first_in y
  names_below (Repeat (exactly n) p) i l ((k, w), x, y) = (tt, names_below p (i + 1) (body (rooted a) i l (ap children k)).first_in y)
  names_below (Repeat (asked v n) p) i l ((k, w), (x, z), y) =
      ((omega (arith, x), tt), names_below p (i + 1) (body (rooted a) i l (ap children k)).first_in y)
  names_below (Generate s) i l h = tt
  names_below (Await c) i l h = tt
  names_below (When c p q) i l ((k, w), x, y, z) =
      let c = pair (rooted a) i l (ap children k) in
      (names_below p (i + 1) c.first_in y, names_below q (second_child t i) c.second_in z)
  names_below (Until c p q) i l ((k, w), x, y, z) =
      let c = pair (rooted a) i l (ap children k) in
      (names_below p (i + 1) c.first_in y, names_below q (second_child t i) c.second_in z)
  names_below (Control s p) i l ((k, w), x, y) = names_below p (i + 1) (body (rooted a) i l (ap children k)).first_in y
  names_below (Local s p) i l ((k, w), x, y) = names_below p (i + 1) (body (rooted a) i l (ap children k)).first_in y
  names_below (Freezable s p) i l ((k, w), x, y) = names_below p (i + 1) (body (rooted a) i l (ap children k)).first_in y
  names_below (If v p q) i l ((k, w), x, y, z) =
      let c = pair (rooted a) i l (ap children k) in
      (value_below v i p q l k x, names_below p (i + 1) c.first_in y, names_below q (second_child t i) c.second_in z)

sixteen : (t : List ℕ) → number_of (verdict_of t) ≡ 0 → EachNamed (λ v. v < 16) (tree_of t)
sixteen t z =
    let loaded = (accepted t z).loaded in
    names_below loaded (tree_of t) 0 loaded.framed.n_least (whole_placed loaded).spelled

-- a first branch is begun exactly if the value isn't zero
taken_first : {free : Allowed} {P : Place} {E : Env} {v : ℕ} {p q : Program} {r : Result} → Rewrites free P (if0 v p q) E r → 1 ≤ free.value v
    → (s : Result) × Rewrites free (first P) (fresh p) E s × (r ≡ under (λ x. if1 v x q) s)
taken_first (if_true {r = r} h d) l = (r, d, refl)
taken_first {free} {v = v} (if_false h d) l = absurd (omega (arith, leb-false 1 (free.value v) h))

taken_second : {free : Allowed} {P : Place} {E : Env} {v : ℕ} {p q : Program} {r : Result} → Rewrites free P (if0 v p q) E r → free.value v ≡ 0
    → (s : Result) × Rewrites free (second P p) (fresh q) E s × (r ≡ under (if2 v p) s)
taken_second {free} {v = v} (if_true h d) z = absurd (omega (arith, leb-true 1 (free.value v) h))
taken_second (if_false {r = r} h d) z = (r, d, refl)

-- a run with other values, given its instant with these
module _ {t s : List ℕ} {X : Events} {value value' : Values} {lent : Rooms} {s' : List ℕ} {left : Rooms} {r : Answer} where
  with_other_values : (x : Run t s X value lent s' left r) → AlsoWith value' x.instant → Run t s X value' lent s' left r
  with_other_values x (i, same) =
      record {
        term = x.term;
        program = x.program;
        bytes = x.bytes;
        at_rest = x.at_rest;
        result = x.result;
        instant = i;
        events_are = x.events_are;
        count_is = x.count_is;
        lowest_is = x.lowest_is;
        atoms_are = x.atoms_are;
        finished_is = x.finished_is;
        waits_node_is = x.waits_node_is ∙ ap (λ l. node_of (first_wait l)) (sym same);
        waits_event_is = x.waits_event_is ∙ ap (λ l. event_at (first_wait l)) (sym same);
        state_is = x.state_is;
        row_is = x.row_is;
        store_is = x.store_is;
      }

  by_begun : (x : Run t s X value lent s' left r) → Each (λ v. value v ≡ value' v) (asks_in_all x.instant) → Run t s X value' lent s' left r
  by_begun x a = with_other_values x (asked_only.only_what_is_begun x.instant value' a)

  by_named : EachNamed (λ v. value v ≡ value' v) (tree_of t) → (x : Run t s X value lent s' left r) → Run t s X value' lent s' left r
  by_named n x = by_begun x (asked_only.only_what_is_named (λ v. value v ≡ value' v) x.instant (rw x.program n))

answered_alike : {t s : List ℕ} {X : Events} {value value' : Values} {lent : Rooms} {s' : List ℕ} {left : Rooms} (r : Reply)
    → ((a : Answer) → Run t s X value lent s' left a → Run t s X value' lent s' left a)
    → Answered t s X value lent s' left r
    → Answered t s X value' lent s' left r
answered_alike (Ok a) f o = record { outcome_is = o.outcome_is; leaves = f a o.leaves }
answered_alike (Err why) f o = record { outcome_is = o.outcome_is; leaves = o.leaves }

pub ask_the_box : AskTheBox
unfolding kind stops figure AtRest Spells
ask_the_box = record {
  if_kind = λ v p q. refl;
  ext_kind = λ v cap p. refl;
  sixteen = sixteen;
  if_argument = λ t i v p q h. h.1;
  nonzero = taken_first;
  zero = taken_second;
  ext_argument = λ t i v cap p h. (omega (arith, h.1.0, h.1.1), omega (arith, h.1.0));
  cap_at_most = λ t i v cap p z l h.
      let below = argument_below (accepted t z).loaded v cap i p l h.0.0 in
      omega (arith, h.1.1);
  runs = λ value v cap. refl;
  if_stops = λ v p q. refl;
  if_weighs = λ k v c p q e. ap (λ n. n + max (figure k p) (figure k q)) e;
  ext_stops = λ v cap p. refl;
  ext_weighs = λ k v cap p. refl;
  if_phases = λ v c t p q. (refl, refl, refl);
  ext_phases = λ v cap k n t p. (refl, refl);
  count_below = λ v cap k t h. h.0;
  only_what_is_begun = by_begun;
  only_what_is_named = λ {r = r} n. answered_alike r (λ a. by_named n);
  without_the_forms = λ {r = r} n. answered_alike r (λ a x. with_other_values x (asked_only.without_the_forms x.instant _ (rw x.program n)));
}
