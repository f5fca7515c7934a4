-- The free part of a store: what an instant parks in front of it, with the number of bytes written before all, is what is added to the store.
use Prim.Native.Nat.{ℕ, suc, ◌+◌, ◌-◌, ◌≤◌, ◌<◌}
use mathlib.Core.Bool.{true}
use mathlib.Core.Path.{◌≡◌, ap, sym, ◌∙◌}
use mathlib.Core.List.{List, [], ◌∷◌, ◌++◌, append_assoc, append-nil}
use native.Mathlib.Omega.{arith}
use lib.Dec.{leb}
use lib.ListN.{length, take, drop, length-append, length-drop, drop_of_length-le}
use lib.Seq.{length-take-le, take_all, drop_at, drop-drop}
use borrow.Author.Tests.{leb-true}
use Rattle.events.specs.Events.{Events}
use Rattle.junior.specs.Values.{Values}
use Rattle.junior.specs.Term.{prog}
use Rattle.junior.specs.Trace.{parks}
use Rattle.junior.specs.Figures.{LoopsStop}
use Rattle.junior.proofs.Parks.{at_most-F}
use Rattle.table.specs.Verdict.{accepted_with, verdict_of}
use Rattle.table.proofs.Laid.{both}
use Rattle.state.specs.Pieces.{pieces_bytes}
use Rattle.state.proofs.Pieces.{pieces_long}
use Rattle.store.specs.Store.{in_use, two, store_good, adding}
use Rattle.store.proofs.Added.{adding_is}
use Rattle.kernel.specs.declared.Answer.{Answer}
use Rattle.kernel.specs.Answer.{Bytes, Rooms, Run}
use Rattle.kernel.proofs.Accepted.{admitted}

-- a good store has the bytes in use; their number has sixteen bits
pub good_fits : (t s : List ℕ) → store_good t s ≡ true → 2 + in_use s ≤ length s
unfolding store_good
good_fits t s e =
    let begins = both {a = leb 2 (length s)} e in
    let all = both {a = leb (2 + in_use s) (length s)} begins.1 in
    leb-true (2 + in_use s) (length s) all.0

pub few_in_use : (s : List ℕ) → Bytes s → in_use s < 65536
few_in_use s low = omega (arith, low 0, low 1)

-- an instant parks no more than there is room for
pub few_parked : {t s : List ℕ} {X : Events} {value : Values} {lent : Rooms} {s' : List ℕ} {left : Rooms} {r : Answer} {g a w f : ℕ}
    → verdict_of t ≡ accepted_with g a w f
    → (o : Run t s X value lent s' left r)
    → length (pieces_bytes (parks o.result.acts)) ≤ f
few_parked {t} v o =
    let accepted = admitted t v in
    let loops : LoopsStop (prog o.term) = rw o.program accepted.loops in
    rw (pieces_long (parks o.result.acts), accepted.F_is, ← o.program) (at_most-F o.instant loops o.at_rest)

-- in a store begun empty all that follows the two bytes is free
pub begun_empty : (b free : List ℕ) → adding b (0 ∷ 0 ∷ free) ≡ two (length b) ++ (b ++ drop (length b) free)
unfolding adding
begun_empty b free =
    let e : 0 + length b ≡ length b = omega arith in
    let f : 2 + length b ≡ suc (suc (length b)) = omega arith in
    rw (e, f)

module _ (b s : List ℕ) (h : 2 + in_use s + length b ≤ length s) where
  -- b written in front of the free part, then the number of bytes in use
  pub in_store : (free' : List ℕ) → free' ≡ b ++ drop (length b) (drop (2 + in_use s) s)
      → two (in_use s + length b) ++ drop 2 (take (2 + in_use s) s ++ free') ≡ adding b s
  in_store free' e =
      let behind = e ∙ ap (λ (l : List ℕ). b ++ l) (drop-drop (length b) (2 + in_use s) s) in
      ap (λ (l : List ℕ). two (in_use s + length b) ++ drop 2 (take (2 + in_use s) s ++ l)) behind ∙ adding_is b s h

  -- past what is in use then, the store is as it was
  pub adding_beyond : drop (2 + in_use s + length b) (adding b s) ≡ drop (2 + in_use s + length b) s
  unfolding adding
  adding_beyond =
      let old = take (in_use s) (drop 2 s) in
      let rest = drop (2 + in_use s + length b) s in
      let front : length old ≡ in_use s = length-take-le (in_use s) (drop 2 s) (simp length-drop (omega arith)) in
      let long : length (old ++ b) ≡ in_use s + length b = length-append old b ∙ ap (λ (n : ℕ). n + length b) front in
      let e : 2 + in_use s + length b ≡ suc (suc (in_use s + length b)) = omega arith in
      ap (λ (n : ℕ). drop n (two (in_use s + length b) ++ (old ++ (b ++ rest)))) e
      ∙ (ap (drop (in_use s + length b)) (sym (append_assoc old b rest)) ∙ drop_at (old ++ b) rest (in_use s + length b) long)

-- all from a place on, as a part of its own; and it put back
module _ (s : List ℕ) (a : ℕ) (h : a ≤ length s) where
  pub part_on : take (length s - a) (drop a s) ≡ drop a s
  part_on = take_all (length s - a) (drop a s) (simp length-drop (omega arith))

  pub part_back : (l : List ℕ) → take a s ++ (l ++ drop (length s - a) (drop a s)) ≡ take a s ++ l
  part_back l =
      let none : drop (length s - a) (drop a s) ≡ [] = drop_of_length-le (drop a s) {i = length s - a} (simp length-drop (omega arith)) in
      rw (none, append-nil l)
