-- What the contracts of the functions for parts of a line cite: the private ones, and those that crate calls shares.
use Rattle.std.specs.Prelude.{ℕ, ◌+◌, ◌*◌, ◌≡◌, ◌≤◌, ◌<◌, Bool, true, false, cond, ◌&&◌, List, [], ◌∷◌, ◌++◌, map, length, get_or, drop, ltb, MatchOption}
use Rattle.std.proofs.Common.{Option, None, Some}
use Rattle.events.specs.Events.{Events, none}
use Rattle.events.specs.Members.{places, marks, members}
use Rattle.events.specs.declared.EventSet.{EventSet}
use Rattle.letters.specs.Decimal.{decimal, figure}
use Rattle.letters.specs.Text.{bytes, comma, joined}
use Rattle.letters.specs.Writing.{Writes}
use Rattle.letters.specs.declared.Writer.{Writer}
use Rattle.listing.specs.Input.{Under, with_all, Reading}
use Rattle.listing.specs.Output.{rising, listed, line}
use Rattle.listing.specs.declared.input.Token.{Token}

-- numbers, a comma behind each
unfoldable pub items : List ℕ → List ℕ
items [] = []
items (n ∷ l) = decimal n ++ (comma ∷ items l)

-- A number v goes on with the figure d as long as it is an event; a 0 is a number by itself.
unfoldable pub goes_on_with : ℕ → ℕ → Bool
goes_on_with v d = (ltb 0 v && ltb v places) && ltb d 10

-- the number that begins with v and goes on with the text at byte `at`, and where it ends
unfoldable pub token : ℕ → ℕ → List ℕ → Token
token at v [] = record { event = v; next = at }
token at v (b ∷ w) =
    let more = token (at + 1) (10 * v + figure b) w in
    cond (goes_on_with v (figure b)) more (record { event = v; next = at })

-- the same from its first figure on; an event past all places if that is none
unfoldable pub begun : ℕ → ℕ → List ℕ → Token
unfolding token
begun at d w = cond (ltb d 10) (token (at + 1) d w) (record { event = places; next = at })

-- the number at byte `at` of a line
abbrev pub token_at : List ℕ → ℕ → Token
token_at l at = begun at (figure (get_or l at 0)) (drop (at + 1) l)

-- what a text with at least one event is read as, the byte c between their numbers: those events beside the ones of X, or that it has not this form
pub data Named (c : ℕ) (X : Events) (text : List ℕ) : Bool → Events → Type 0 where
  names : (e : ℕ) (l : List ℕ) → Under places (e ∷ l) → text ≡ joined c (map decimal (e ∷ l)) → Named c X text true (with_all (e ∷ l) X)
  stops : ((e : ℕ) (l : List ℕ) → Under places (e ∷ l) → text ≡ joined c (map decimal (e ∷ l)) → ⊥) → Named c X text false none

-- the same of an answer: the set of those events, beside none, or none
abbrev pub NamedBy : ℕ → List ℕ → Option EventSet → Type 0
NamedBy c text None = Named c none text false none
NamedBy c text (Some s) = Named c none text true (members s)

-- what a line is read as, of an answer: the set of the events that it hands in, or none
abbrev pub ReadAs : List ℕ → Option EventSet → Type 0
ReadAs line None = Reading line false none
ReadAs line (Some s) = Reading line true (members s)

-- the event at byte `at` of a line and where it ends, or none
abbrev pub EventAt : List ℕ → ℕ → Option Token → Type 0
EventAt l at r = MatchOption r (places ≤ (token_at l at).event) (λ t. (t ≡ token_at l at) × (t.event < places))

-- the digit at byte `at` of a line with which the number v goes on, or none
abbrev pub GoesOn : List ℕ → ℕ → ℕ → Option ℕ → Type 0
GoesOn l at v r =
    MatchOption r (goes_on_with v (figure (get_or l at 0)) ≡ false)
    (λ d. (d ≡ figure (get_or l at 0)) × (goes_on_with v d ≡ true) × (at < length l))

-- the events of the word whose first event is `base`, rising
abbrev pub events_of : ℕ → ℕ → List ℕ
events_of base word = map (λ n. base + n) (rising 64 (marks (word ∷ [])))

-- numbers that a writer wrote from `from` on, a comma behind each, are now a list, the byte `last` behind it
abbrev pub Ended : Writer → Writer → ℕ → ℕ → Type 0
Ended old new from last =
    (start : Writer) (l : List ℕ) → start.at ≡ from → Writes start old (items l) → Writes start new (listed l ++ (last ∷ []))

-- the end of a line that tells a refusal
abbrev pub refusal_end : ℕ → ℕ → List ℕ
refusal_end refusal index = line (bytes "refused" ∷ decimal refusal ∷ decimal index ∷ [])
