-- Building the table of a text in the form, from its last byte to its first: what is placed once an end of the text is read. A record's
-- parts are placed before it, so its size is read off theirs.
use Rattle.std.specs.Prelude.{ℕ, zero, suc, ◌+◌, ◌-◌, ◌*◌, ◌/◌, ◌%◌, ◌≤◌, ◌<◌, Bool, false, cond, ◌||◌, ◌≡◌, List, [], ◌∷◌, ◌++◌, eqb, ltb, length, set, drop}
use Rattle.std.proofs.lemmas.List.Edits.{sets}
use Rattle.junior.specs.Program.{Program, size}
use Rattle.table.specs.Bytes.{node, configuration}
use Rattle.table.specs.Records.{byte, word}
use Rattle.builder.specs.declared.build.Front.{Front}
use Rattle.form.specs.declared.Sizes.{Sizes}
use Rattle.form.specs.Form.{Says, whole}
use Rattle.form.specs.Inside.Machine.{is_digit_byte}
use Rattle.form.specs.Inside.Rows.{row_at, word_row, form_row, form_count, name_end, inside, named, form_in, pair_of}
use Rattle.form.specs.Made.{big, named as events_of, tests, table_of, needed}

-- the records that are placed, and how many configurations are still to come
pub record SoFar : Type 0 where
  pub nodes : List ℕ
  pub tests : List ℕ
  pub left : ℕ

-- the records' bytes
abbrev pub node_bytes : ℕ → ℕ → ℕ → List ℕ
node_bytes k argument n = node k (argument % 65536) (n % 65536)

abbrev pub test_bytes : ℕ → ℕ → ℕ → List ℕ
test_bytes k s n = configuration k (s % 256) (n % 65536)

-- the trailer's: N, M, V and the distances
abbrev pub trailer_bytes : ℕ → ℕ → ℕ → List ℕ
trailer_bytes n m v =
    big (n % 65536) ++ (big (m % 65536) ++ (big (v % 65536) ++ (big ((6 * n + 4 * m) % 65536) ++ big (4 * m % 65536))))

-- a record in front of those that are placed
abbrev pub with_node : ℕ → ℕ → ℕ → SoFar → SoFar
with_node k argument n s = record { nodes = node_bytes k argument n ++ s.nodes; tests = s.tests; left = s.left }

abbrev pub with_test : ℕ → ℕ → ℕ → SoFar → SoFar
with_test k e n s = record { nodes = s.nodes; tests = test_bytes k e n ++ s.tests; left = s.left - 1 }

-- v, with the digits behind it that the text begins with
unfoldable pub number : ℕ → List ℕ → ℕ
number v [] = v
number v (b ∷ w) =
    let more = number ((10 * v + (b - 48)) % 65536) w in
    cond (is_digit_byte b) more v

-- the size of a record in front of two others, by the sizes written in them at a byte of each
unfoldable pub joined_size : ℕ → ℕ → List ℕ → ℕ
joined_size long at l = 1 + word l at + word l (long * word l at + at)

-- a node that is not known to be a Seq or a Par yet, over the two in front
unfoldable pub joint : SoFar → SoFar
joint s = with_node 255 0 (joined_size 6 4 s.nodes) s

-- and: 2, or: 3, over the two in front
unfoldable pub pair : ℕ → SoFar → SoFar
pair k s = with_test k 0 (joined_size 4 2 s.tests) s

unfoldable pub negation : SoFar → SoFar
negation s = with_test 1 0 (1 + word s.tests 2) s

-- an event, if the text begins with its number: the kind byte has the number's upper part
unfoldable pub event : List ℕ → SoFar → SoFar
event w s =
    let e = number 0 w in
    cond (is_digit_byte (byte w 0)) (with_test (16 * (e / 256 % 16)) e 1 s) s

-- a blank at this level, before this text: a number behind it is an event's, or where a comma is read in the bracket a cap
unfoldable pub blank : ℕ → List ℕ → SoFar → SoFar
blank level w s =
    let e = event w s in
    cond (eqb level 1) s e

-- `(` at this level, before this text
unfoldable pub opening : ℕ → List ℕ → SoFar → SoFar
unfolding named
opening level w s =
    let plain = cond (named (word_row 1) w) (negation s) s in
    let joined = pair level (event w s) in
    cond (ltb 1 level) joined plain

-- the node at byte `at` and those that follow it as second children get their kind, as long as they have none
unfoldable pub spread : ℕ → ℕ → ℕ → List ℕ → List ℕ
spread zero k at l = l
spread (suc f) k at l =
    let more = spread f k (at + 6 + 6 * word l (at + 10)) (set l at k) in
    cond (eqb (byte l at) 255) more l

abbrev pub labelled : ℕ → List ℕ → List ℕ
labelled k l = spread (length l) k 0 l

-- a Seq or a Par
unfoldable pub row : ℕ → SoFar → SoFar
row k s =
    let j = joint s in
    record { nodes = labelled k j.nodes; tests = s.tests; left = s.left }

-- a When, an Until or an If whose node is placed and not labelled, with its argument
unfoldable pub branches : ℕ → ℕ → SoFar → SoFar
branches k a s = record { nodes = sets (labelled k s.nodes) 2 (big (a % 65536)); tests = s.tests; left = s.left }

-- a When or an Until; w is the text of its test
unfoldable pub choice : ℕ → List ℕ → SoFar → SoFar
choice k w s =
    let e = event w s in
    branches k e.left e

-- an Await
unfoldable pub await : ℕ → List ℕ → SoFar → SoFar
await k w s =
    let e = event w s in
    with_node k e.left 1 e

-- whether a program stands in the brackets of kind k, alone or behind a number
unfoldable pub opens_part : ℕ → Bool
unfolding inside
opens_part k = eqb (inside k 0) 128 || eqb (inside k 3) 128

-- 1, and the size of the child in front if there is to be one
unfoldable pub own_size : ℕ → List ℕ → ℕ
unfolding opens_part
own_size k l = cond (opens_part k) (1 + word l 4) 1

-- a RepeatExt's argument; w begins with a value's number, of one digit or two, and its cap stands behind that, a comma and a blank
unfoldable pub capped_number : List ℕ → ℕ
capped_number w =
    let v = number 0 w in
    number 0 (drop (cond (ltb v 10) 3 4) w) % 256 * 16 + v % 16

unfoldable pub capped : ℕ → List ℕ → SoFar → SoFar
capped k w s = with_node k (capped_number w) (1 + word s.nodes 4) s

-- a form that begins with a value's number: a cap is behind it, or programs are
unfoldable pub asking : ℕ → ℕ → List ℕ → SoFar → SoFar
asking behind k w s =
    let p = capped k w s in
    let b = branches k (number 0 w) s in
    cond (eqb behind 141) p b

-- any other form; w begins with its number
unfoldable pub single : ℕ → List ℕ → SoFar → SoFar
single k w s = with_node k (number 0 w) (own_size k s.nodes) s

-- the form of kind k by what stands in its brackets: parts; a configuration, and programs behind it or none; a value's number, and a cap
-- behind it or programs; the text inside them being w
unfoldable pub form : ℕ → List ℕ → SoFar → SoFar
unfolding inside
form k w s =
    let r = row k s in
    let a = await k w s in
    let c = choice k w s in
    let v = asking (inside k 3) k w s in
    let o = single k w s in
    cond
    (eqb (inside k 4) 133)
    r
    (cond (eqb (inside k 0) 134) (cond (eqb (inside k 1) 44) c a) (cond (eqb (inside k 0) 140) v o))

-- how far behind the `J` of a name the text inside its bracket begins
unfoldable pub behind_j : ℕ → ℕ
unfolding name_end
behind_j k = 2 + (name_end (form_row k) - row_at (form_row k))

-- `J` before this text, if a form's name follows
unfoldable pub name : List ℕ → SoFar → SoFar
unfolding form_in behind_j
name w s =
    let k = form_in (drop 2 w) in
    let f = form k (drop (behind_j k) w) s in
    cond (ltb k form_count) f s

-- `,` at this level, before this text: a program behind it, or a cap
unfoldable pub comma : ℕ → List ℕ → SoFar → SoFar
comma level w s =
    let j = joint s in
    cond (eqb level 1) (cond (eqb (byte w 1) 74) j s) s

-- a byte that can place something or change a level: any before the digits, and `J`
unfoldable pub acting : ℕ → Bool
acting b = ltb b 45 || eqb b 74

-- no byte from place i on and before place j is one
pub record Idle (text : List ℕ) (i j : ℕ) : Type 0 where
  pub rising : i ≤ j
  pub none : (k : ℕ) → i ≤ k → k < j → acting (byte text k) ≡ false

-- byte b at this level, before this text
unfoldable pub place : ℕ → ℕ → List ℕ → SoFar → SoFar
place b level w s =
    let e = blank level w s in
    let o = opening level w s in
    let c = comma level w s in
    let n = name w s in
    cond (eqb b 32) e (cond (eqb b 40) o (cond (eqb b 44) c (cond (eqb b 74) n s)))

-- The levels of the brackets that are closed and not yet opened, the innermost first: 0; 1 once a comma is read; 2 for `and`, 3 for `or`.
-- A blank before the text w names level d if an `and` or an `or` follows.
abbrev pub with_pair : List ℕ → List ℕ → ℕ → List ℕ
with_pair w l d = cond (eqb (pair_of w) 0) l (set l d (pair_of w))

-- Byte b, before the text w:
unfoldable pub relevel : ℕ → List ℕ → List ℕ → List ℕ
unfolding pair_of
relevel b w l =
    cond
    (eqb b 32)
    (with_pair w l 0)
    (cond (eqb b 40) (drop 1 l) (cond (eqb b 41) (0 ∷ l) (cond (eqb b 44) (set l 0 1) l)))

unfoldable pub levels : List ℕ → List ℕ
levels [] = []
levels (b ∷ w) = relevel b w (levels w)

-- what is placed once a text is read that m configurations stand in
unfoldable pub placed : ℕ → List ℕ → SoFar
placed m [] = record { nodes = []; tests = []; left = m }
placed m (b ∷ w) = place b (byte (levels w) 0) w (placed m w)

-- bytes a to b of t are l
pub record Region (t : List ℕ) (a b : ℕ) (l : List ℕ) : Type 0 where
  pub before : List ℕ
  pub behind : List ℕ
  pub parts : t ≡ before ++ (l ++ behind)
  pub begins : length before ≡ a
  pub ends : a + length l ≡ b

-- the table's bytes hold what is placed, n nodes and m configurations being to be placed in all
pub record Holds (n m : ℕ) (t : List ℕ) (f : Front) (s : SoFar) : Type 0 where
  pub middle_is : f.middle ≡ 6 * n
  pub end_is : f.end ≡ 6 * n + 4 * m
  pub nodes_there : Region t f.node (6 * n) s.nodes
  pub tests_there : Region t f.part (6 * n + 4 * m) s.tests
  pub counted : f.part ≡ 6 * n + 4 * f.left
  pub left_is : f.left ≡ s.left
  pub small : length t ≤ 32778

-- it has its place among them
pub record Room (n m : ℕ) (s : SoFar) : Type 0 where
  pub for_nodes : length s.nodes ≤ 6 * n
  pub for_tests : length s.tests ≤ 4 * m

-- whatever the table holds, F of it can be placed; and then it holds that
abbrev pub CanPlace : (SoFar → SoFar) → List ℕ → Front → Type 0
CanPlace F t f = (n : ℕ) × (m : ℕ) × (s : SoFar) × Holds n m t f s × Room n m (F s)

abbrev pub Places : (SoFar → SoFar) → List ℕ → Front → List ℕ → Front → Type 0
Places F t f t' f' = (n m : ℕ) (s : SoFar) → Holds n m t f s → Room n m (F s) → Holds n m t' f' (F s)

-- the levels stand at the end of the bytes t, from byte d on
pub record Stacked (t : List ℕ) (d : ℕ) (l : List ℕ) : Type 0 where
  pub within : d ≤ length t
  pub there : drop d t ≡ l

abbrev pub LevelReady : (List ℕ → List ℕ) → List ℕ → ℕ → Type 0
LevelReady F t d = (l : List ℕ) × Stacked t d l × (length (F l) ≤ length t)

abbrev pub Levels : (List ℕ → List ℕ) → List ℕ → ℕ → List ℕ → ℕ → Type 0
Levels F t d t' d' = (l : List ℕ) → Stacked t d l → length (F l) ≤ length t → Stacked t' d' (F l)

-- the text is in the form, with so many nodes, configurations and events, and a table of that length holds it
pub record Measured (text : List ℕ) (n m v room : ℕ) (p : Program) : Type 0 where
  pub says : Says (whole p) text
  pub n_is : n ≡ size p
  pub m_is : m ≡ tests p
  pub v_is : v ≡ events_of p
  pub long : room ≡ needed p
  pub small : needed p ≤ 32778

abbrev pub Buildable : List ℕ → Sizes → ℕ → Type 0
Buildable text k room = (p : Program) × Measured text k.nodes k.tests k.events room p

abbrev pub Builds : List ℕ → Sizes → ℕ → List ℕ → Type 0
Builds text k room table = (p : Program) → Measured text k.nodes k.tests k.events room p → table ≡ table_of p
