-- Good records (01, "The table"): a record is judged by its own bytes and by its children's indexes and written sizes.
use Rattle.std.specs.Prelude.{ℕ, zero, suc, ◌+◌, Bool, true, false, cond, ◌&&◌, ◌||◌, List, [], ◌∷◌, eqb, leb, ltb, get_or}
use Rattle.table.specs.Records.{nodes, configurations, events, kind_at, zero_at, argument_at, size_at}
use Rattle.table.specs.Records.{configuration_at, kind_byte, part_kind, part_event, part_size}

-- record i of n, by the sizes written in them, with that many children: their indexes are below n, and its size is 1 plus theirs
unfoldable pub is_laid_out : (ℕ → ℕ) → ℕ → ℕ → ℕ → Bool
is_laid_out written n i zero = eqb (written i) 1
is_laid_out written n i (suc zero) = ltb (i + 1) n && eqb (written i) (1 + written (i + 1))
is_laid_out written n i (suc (suc more)) =
    let second = i + 1 + written (i + 1) in
    ltb (i + 1) n && (ltb second n && eqb (written i) (1 + written (i + 1) + written second))

-- the kinds that there are: to 12 (01), L8's "kind 13", and L14's "kinds 14 and 15"
abbrev pub known : ℕ → Bool
known k = leb k 15

-- how many children each kind has, in the order of the kinds: Seq, Par, When, Until, If two; Loop, Repeat, Control, Local, Freezable, RepeatExt one
abbrev pub child_counts : List ℕ
child_counts = 0 ∷ 0 ∷ 0 ∷ 2 ∷ 2 ∷ 1 ∷ 1 ∷ 0 ∷ 0 ∷ 2 ∷ 2 ∷ 1 ∷ 1 ∷ 1 ∷ 2 ∷ 1 ∷ []

unfoldable pub children : ℕ → ℕ
children k = get_or child_counts k 0

-- what each kind's argument is below, in the order of the kinds: an Atom's any number, a Repeat's its count; Generate, Control, Local,
-- Freezable an event of v; Await, When, Until a configuration of m; an If's one of sixteen values; a RepeatExt's "a cap times 16 plus a number, cap
-- at most 255"; otherwise 0
abbrev pub argument_limits : ℕ → ℕ → List ℕ
argument_limits v m = 1 ∷ 1 ∷ 65536 ∷ 1 ∷ 1 ∷ 1 ∷ 65536 ∷ v ∷ m ∷ m ∷ m ∷ v ∷ v ∷ v ∷ 16 ∷ 4096 ∷ []

unfoldable pub argument_limit : List ℕ → ℕ → ℕ
argument_limit t k = get_or (argument_limits (events t) (configurations t)) k 0

-- node i is good; record 0 must also have size N
unfoldable pub good_node : List ℕ → ℕ → Bool
good_node t i =
    known (kind_at t i)
    && (eqb (zero_at t i) 0
    && (ltb (argument_at t i) (argument_limit t (kind_at t i))
    && (is_laid_out (size_at t) (nodes t) i (children (kind_at t i)) && (ltb 0 i || eqb (size_at t i) (nodes t)))))

-- how many parts a configuration's kind has: an event none, a not one, an and or an or two
unfoldable pub parts : ℕ → ℕ
parts k = cond (eqb k 0) 0 (cond (eqb k 1) 1 2)

-- configuration j is good but for its height: its kind byte has at most three sixteens; its event is below V, or 0 if it is none
unfoldable pub good_but_height : List ℕ → ℕ → Bool
good_but_height t j =
    let c = configuration_at t j in
    ltb (kind_byte t c) 64
    && (leb (part_kind t c) 3
    && (ltb (part_event t c) (cond (eqb (part_kind t c) 0) (events t) 1)
    && is_laid_out (λ k. part_size t (configuration_at t k)) (configurations t) j (parts (part_kind t c))))

-- of no part, of one, of two
abbrev pub good_parts : ℕ → Bool → Bool → Bool
good_parts zero first second = true
good_parts (suc zero) first second = first
good_parts (suc (suc more)) first second = first && second

-- its height is at most h: a lone event is height 1, and a record bad for another reason counts as 1
unfoldable pub height_at_most : List ℕ → ℕ → ℕ → Bool
height_at_most t zero j = false
height_at_most t (suc h) j =
    let first = height_at_most t h (j + 1) in
    let second = height_at_most t h (j + 1 + part_size t (configuration_at t (j + 1))) in
    cond (good_but_height t j) (good_parts (parts (part_kind t (configuration_at t j))) first second) true

unfoldable pub good_configuration : List ℕ → ℕ → Bool
good_configuration t j = good_but_height t j && height_at_most t 16 j
