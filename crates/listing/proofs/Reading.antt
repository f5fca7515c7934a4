-- A text is read number by number: what the rest is read as decides what the whole is, and that decides what an input line is.
use mathlib.Core.Path.{◌≡◌, refl, sym, ap, ◌∙◌}
use mathlib.Core.Bool.{Bool, true, false, ◌&&◌}
use mathlib.Core.List.{List, [], ◌∷◌, ◌++◌, map}
use Prim.Native.Nat.{ℕ, ◌+◌, ◌-◌, ◌*◌, ◌≤◌, ◌<◌}
use native.Mathlib.Omega.{arith}
use native.Mathlib.Numerals.{add-one}
use Rattle.std.proofs.Common.{Option, None, Some}
use lib.ListN.{length, get_or, drop, drop_of_length-le, length-drop, length-append}
use lib.Dec.{ltb}
use lib.Seq.{drop-cons}
use borrow.Author.Tests.{lt-ltb}
use Rattle.events.specs.Events.{Events, none, put}
use Rattle.events.specs.Members.{places, marks}
use Rattle.events.specs.declared.EventSet.{EventSet}
use Rattle.letters.specs.Decimal.{decimal, figure}
use Rattle.letters.specs.Text.{space, led, joined}
use Rattle.letters.proofs.Decimal.{decimal_some}
use Rattle.listing.specs.Input.{longest, Under, Names, with_all, Reading}
use Rattle.listing.specs.Inside.{token_at, Named, NamedBy, ReadAs}
use Rattle.listing.specs.declared.input.Token.{Token}
use Rattle.listing.proofs.NumberAt.{here, behind, stands, found}

-- events that are named take at least a byte
pub spelled_some : (c e : ℕ) (l : List ℕ) → 0 < length (joined c (map decimal (e ∷ l)))
unfolding joined
spelled_some c e l = omega (arith, decimal_some e, length-append (decimal e) (led c (map decimal l)))

-- an empty line, a line that is too long, and any other line
pub empty_line : (line : List ℕ) → length line ≡ 0 → Reading line true none
unfolding joined with_all
empty_line [] e = Reading.good_line [] (record { spelled = refl; below = tt; short = omega arith })
empty_line (b ∷ line) e = absurd (omega arith)

pub long_line : (line : List ℕ) → longest < length line → Reading line false none
long_line line h = Reading.not_good_line (λ l n. omega arith)

pub other_line : (line : List ℕ) → 0 < length line → length line ≤ longest → {good : Bool} {X : Events} → Named space none line good X → Reading line good X
unfolding joined
other_line line some short (Named.names e l b s) = Reading.good_line (e ∷ l) (record { spelled = s; below = b; short = short })
other_line line some short (Named.stops n) = Reading.not_good_line go
  where
    go : (l : List ℕ) → Names line l → ⊥
    go [] m = omega (arith, ap length m.spelled)
    go (e ∷ l) m = n e l m.below m.spelled

-- the same of an answer
pub read_by : (line : List ℕ) → 0 < length line → length line ≤ longest → (r : Option EventSet) → NamedBy space line r → ReadAs line r
read_by line some short None n = other_line line some short n
read_by line some short (Some s) n = other_line line some short n

-- nothing is left
pub stops_end : (c : ℕ) (line : List ℕ) (at : ℕ) (X : Events) → length line ≤ at → Named c X (drop at line) false none
stops_end c line at X h =
    Named.stops (λ e l b s. let none_left = sym (ap length s) ∙ ap length (drop_of_length-le line h) in omega (arith, spelled_some c e l))

-- an event is marked in the words of a set
pub marked : (words new : List ℕ) (e : ℕ) → 64 * length words ≡ places → e < places → marks new ≡ put e (true && ltb e (64 * length words)) (marks words)
    → marks new ≡ put e true (marks words)
marked words new e long h m = m ∙ rw (long, lt-ltb e places h)

-- the token at a place of the line
module _ (c : ℕ) (plain : figure c ≡ 10) (line : List ℕ) (at : ℕ) (t : Token) (is : t ≡ token_at line at) where
  -- its event is the first of whatever the rest of the line names
  pub heads : (e : ℕ) (l : List ℕ) → Under places (e ∷ l) → drop at line ≡ joined c (map decimal (e ∷ l))
      → (t.event ≡ e) × (drop t.next line ≡ led c (map decimal l))
  unfolding joined led
  heads e l b s = rw is (found c plain line at e (led c (map decimal l)) (ends l) b.0 s)
    where
      ends : (m : List ℕ) → get_or (led c (map decimal m)) 0 c ≡ c
      ends [] = refl
      ends (f ∷ m) = refl

  -- and stands there
  here_stands : t.event < places → drop at line ≡ decimal t.event ++ drop t.next line
  here_stands = rw is (stands line at)

  -- less of the line is left behind it
  pub shorter : at < length line → t.event < places → length line - (t.next + 1) < length line - at
  shorter k h = omega (arith, simp (length-drop, length-append) at (ap length (here_stands h)), decimal_some t.event)

  module _ (X : Events) where
    pub stops_none : places ≤ t.event → Named c X (drop at line) false none
    stops_none h = Named.stops (λ e l b s. let same = (heads e l b s).0 in omega arith)

    pub goes_last : t.event < places → length line ≤ t.next → Named c X (drop at line) true (put t.event true X)
    unfolding joined led with_all
    goes_last h k = Named.names t.event [] (h, tt) (here_stands h ∙ rw (drop_of_length-le line k))

    module _ (more : t.next < length line) where
      -- so something must stand behind it
      behind_some : drop t.next line ≡ [] → ⊥
      behind_some e = omega (arith, simp length-drop at (ap length e))

      pub stops_other : (get_or line t.next 0 ≡ c → ⊥) → Named c X (drop at line) false none
      unfolding led
      stops_other other = Named.stops (λ e l b s. go l (heads e l b s).1)
        where
          go : (l : List ℕ) → drop t.next line ≡ led c (map decimal l) → ⊥
          go [] q = behind_some q
          go (f ∷ l) q = other (here line t.next q)

      pub goes_on : t.event < places → get_or line t.next 0 ≡ c → {good : Bool} {Y : Events}
          → Named c (put t.event true X) (drop (t.next + 1) line) good Y → Named c X (drop at line) good Y
      unfolding joined led with_all
      goes_on h same (Named.names e l b s) =
          Named.names t.event (e ∷ l) (h, b)
          (here_stands h ∙ ap (λ (m : List ℕ). decimal t.event ++ m) (drop-cons line t.next 0 more ∙ rw (same, ← add-one t.next, s)))
      goes_on h same (Named.stops n) = Named.stops (λ e l b s. go l b.1 (heads e l b s).1)
        where
          go : (l : List ℕ) → Under places l → drop t.next line ≡ led c (map decimal l) → ⊥
          go [] b q = behind_some q
          go (f ∷ l) b q = n f l b (behind line t.next q)
