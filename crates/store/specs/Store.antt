-- The store of parked pieces, in the raw bytes (L8): "The store begins with 16 bits for the bytes in use after them; the pieces follow, oldest
-- first". t is the table, s the store.
use Rattle.std.specs.Prelude.{ℕ, zero, suc, ◌+◌, ◌-◌, ◌*◌, ◌/◌, ◌%◌, min, Bool, true, cond, ◌&&◌, List, [], ◌∷◌, ◌++◌, eqb, leb, ltb, length, take, drop}
use Rattle.events.specs.Events.{lowest}
use Rattle.table.specs.Records.{word, nodes, kind_at, argument_at, size_at}
use Rattle.table.specs.Part.{part_table, above, never_runs}
use Rattle.state.specs.Kinds.{freezable_kind}
use Rattle.state.specs.Resting.{blamed}

-- the bytes in use behind the first two
abbrev pub in_use : List ℕ → ℕ
in_use s = word s 0

-- the piece at byte `at`: "event (16), body's node (16), then four state bytes for each node of the body"
abbrev pub event_at : List ℕ → ℕ → ℕ
event_at s at = word s at

abbrev pub node_of : List ℕ → ℕ → ℕ
node_of s at = word s (at + 2)

abbrev pub piece_length : List ℕ → List ℕ → ℕ → ℕ
piece_length t s at = 4 + 4 * size_at t (node_of s at)

-- "a piece's node is the body of a Freezable of its event, with no repetition of count or cap 0 above it"
unfoldable pub is_body : List ℕ → ℕ → ℕ → Bool
is_body t e j =
    (ltb 0 j && ltb j (nodes t))
    && ((eqb (kind_at t (j - 1)) freezable_kind && eqb (argument_at t (j - 1)) e)
    && eqb (lowest j (λ i. above t j i && never_runs t i)) j)

-- the piece at byte `at` is so laid out, ends by byte `end`, and is at rest: no node of its body, as a table of its own, is to blame
unfoldable pub piece_good : List ℕ → List ℕ → ℕ → ℕ → Bool
piece_good t s end at =
    is_body t (event_at s at) (node_of s at)
    && (leb (at + piece_length t s at) end
    && eqb (blamed (part_table t (node_of s at)) (drop (at + 4) s)) (size_at t (node_of s at)))

-- from byte `at` to byte `end` there are good pieces, one behind the other, at most n
unfoldable pub pieces_good : List ℕ → List ℕ → ℕ → ℕ → ℕ → Bool
pieces_good t s end zero at = eqb at end
pieces_good t s end (suc n) at =
    let later = pieces_good t s end n (at + piece_length t s at) in
    cond (eqb at end) true (piece_good t s end at && later)

-- 25 is refused unless this holds: "a store not so laid out (..) or with a piece not at rest". The number of steps is never met: a piece has eight
-- bytes at least
unfoldable pub store_good : List ℕ → List ℕ → Bool
store_good t s = leb 2 (length s) && (leb (2 + in_use s) (length s) && pieces_good t s (2 + in_use s) (in_use s) 2)

-- 13 is refused where F is above this: "the store's length, at most 65,537 of it, less 2 and all pieces"
unfoldable pub store_room : List ℕ → ℕ
store_room s = min (length s) 65537 - 2 - in_use s

-- a number of 16 bits as bytes
abbrev pub two : ℕ → List ℕ
two n = n / 256 ∷ n % 256 ∷ []

-- the store with the bytes b behind those in use; past them it is as it was
unfoldable pub adding : List ℕ → List ℕ → List ℕ
adding b s =
    two (in_use s + length b) ++ (take (in_use s) (drop 2 s) ++ (b ++ drop (2 + in_use s + length b) s))

-- the store without the n bytes from `at` on: "Taking the newest piece of an event closes the gap". What follows them is moved down, and behind the
-- new end all is as it was
unfoldable pub without : ℕ → ℕ → List ℕ → List ℕ
without n at s =
    let used = in_use s - n in
    two used ++ (take (at - 2) (drop 2 s) ++ (take (2 + used - at) (drop (at + n) s) ++ drop (2 + used) s))

-- where the last piece of event e begins of the pieces from byte `at` to byte `end`, at most n; `found` if there is none
unfoldable pub newest_from : List ℕ → List ℕ → ℕ → ℕ → ℕ → ℕ → ℕ → ℕ
newest_from t s e end zero at found = found
newest_from t s e end (suc n) at found =
    let later = newest_from t s e end n (at + piece_length t s at) (cond (eqb (event_at s at) e) at found) in
    cond (eqb at end) found later

-- where "the newest piece of an event" begins; 0 if there is none
unfoldable pub newest : List ℕ → List ℕ → ℕ → ℕ
newest t s e = newest_from t s e (2 + in_use s) (in_use s) 2 0
