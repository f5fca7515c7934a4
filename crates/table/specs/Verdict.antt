-- What checking a table answers: refusals 1 to 8 in the order of checking, or the figures (01, "Refusal numbers").
use Rattle.std.specs.Prelude.{Result, Ok, Err, ◌≡◌, ℕ, suc, ◌+◌, ◌*◌, Bool, false, cond, not, ◌&&◌, List, [], ◌∷◌, ◌++◌, length, eqb, leb, ltb}
use Rattle.events.specs.Events.{lowest}
use Rattle.events.specs.Members.{places}
use Rattle.junior.specs.Program.{Program, kind, Parts, no_part, one_part, two_parts, parts, size}
use Rattle.junior.specs.Figures.{stops, G, A, W, F}
use Rattle.table.specs.declared.Figures.{Figures}
use Rattle.table.specs.declared.TableRefusal.{TableRefusal}
use Rattle.table.specs.declared.TableRefusal.TheVariants.{BadLength, BadCounts, BadDistances, BadConfiguration}
use Rattle.table.specs.declared.TableRefusal.TheVariants.{BadNode, TooDeep, EndlessLoop, TooHeavy}
use Rattle.table.specs.declared.numbers.Numbered.{Numbered}
use Rattle.table.specs.Records.{nodes, configurations, events, back_to_nodes, back_to_configurations}
use Rattle.table.specs.Good.{good_configuration, good_node}
use Rattle.table.specs.Spells.{tree_of}

-- this paper's number and index of each refusal
abbrev pub refusal_number : TableRefusal → ℕ
refusal_number BadLength = 1
refusal_number BadCounts = 2
refusal_number BadDistances = 3
refusal_number (BadConfiguration j) = 4
refusal_number (BadNode i) = 5
refusal_number (TooDeep i) = 6
refusal_number (EndlessLoop i) = 7
refusal_number TooHeavy = 8

abbrev pub refusal_index : TableRefusal → ℕ
refusal_index BadLength = 0
refusal_index BadCounts = 0
refusal_index BadDistances = 0
refusal_index (BadConfiguration j) = j
refusal_index (BadNode i) = i
refusal_index (TooDeep i) = i
refusal_index (EndlessLoop i) = i
refusal_index TooHeavy = 0

-- what checking a table answers: G, A, W and F, or why it is refused
abbrev pub Verdict : Type 0
Verdict = Result Figures TableRefusal

abbrev pub accepted_with : ℕ → ℕ → ℕ → ℕ → Verdict
accepted_with g a w f = Ok (record { generations = g; atoms = a; nodes = w; parked = f })

-- its number and index: "Success is number 0, index 0"
unfoldable pub number_of : Verdict → ℕ
number_of (Ok figures) = 0
number_of (Err why) = refusal_number why

unfoldable pub index_of : Verdict → ℕ
index_of (Ok figures) = 0
index_of (Err why) = refusal_index why

-- how a call ended, whatever it answers, and the number or the index of that, by those of its refusals
abbrev pub ending : {T E : Type 0} → Result T E → Result (Unit {0}) E
ending (Ok x) = Ok tt
ending (Err why) = Err why

abbrev pub numbered_by : {T E : Type 0} → (E → ℕ) → Result T E → ℕ
numbered_by by (Ok x) = 0
numbered_by by (Err why) = by why

-- n numbers the answer of a call, whose refusals are numbered as `gives` says
abbrev pub Numbers : {T E : Type 0} → (E → Numbered → Type 0) → Result T E → Numbered → Type 0
Numbers gives (Ok x) n = (n.number ≡ 0) × (n.index ≡ 0)
Numbers gives (Err why) n = gives why n

-- G, A, W and F; 0 where the table is refused
abbrev pub no_figures : Figures
no_figures = record { generations = 0; atoms = 0; nodes = 0; parked = 0 }

unfoldable pub figures_of : Verdict → Figures
figures_of (Ok figures) = figures
figures_of (Err why) = no_figures

-- 1: the length
unfoldable pub length_good : List ℕ → Bool
length_good t = leb 16 (length t) && leb (length t) 32778

-- 2: N, M and V in their ranges
unfoldable pub counts_good : List ℕ → Bool
counts_good t =
    (leb 1 (nodes t) && leb (nodes t) 4096)
    && (leb (configurations t) 2048 && (leb 1 (events t) && leb (events t) places))

-- 3: the distances, and the length by N and M
unfoldable pub distances_good : List ℕ → Bool
distances_good t =
    eqb (back_to_nodes t) (6 * nodes t + 4 * configurations t)
    && (eqb (back_to_configurations t) (4 * configurations t)
    && eqb (length t) (6 * nodes t + 4 * configurations t + 10))

-- a node of a program: how deep it stands and what stands there
pub record Node : Type 0 where
  pub depth : ℕ
  pub part : Program

-- all nodes of a program that itself stands at depth d, in the order of the table
abbrev pub parts_in_order : {p : Program} → ℕ → Parts p → List Node
parts_in_order {p} d (no_part f) = record { depth = d; part = p } ∷ []
parts_in_order {p} d (one_part f q) = record { depth = d; part = p } ∷ parts_in_order (suc d) q
parts_in_order {p} d (two_parts f q r) =
    record { depth = d; part = p } ∷ (parts_in_order (suc d) q ++ parts_in_order (suc d) r)

unfoldable pub preorder : ℕ → Program → List Node
preorder d p = parts_in_order d (parts p)

-- the lowest index whose node is so; the length if none is
unfoldable pub first_such : (Node → Bool) → List Node → ℕ
first_such so [] = 0
first_such so (x ∷ l) =
    let later = suc (first_such so l) in
    cond (so x) 0 later

-- 6: deeper than 64
abbrev pub deep : Node → Bool
deep x = ltb 64 x.depth

-- 7: a Loop, kind 5, whose body doesn't stop
abbrev pub endless_parts : {p : Program} → Parts p → Bool
endless_parts (no_part f) = false
endless_parts {p} (one_part {q = q} f v) = eqb (kind p) 5 && not (stops q)
endless_parts (two_parts f v w) = false

abbrev pub endless_loop : Program → Bool
endless_loop p = endless_parts (parts p)

abbrev pub endless : Node → Bool
endless x = endless_loop x.part

-- 8: G, A and W within their limits; "8 also for F above 16,384" (L8)
unfoldable pub light : Program → Bool
light p = leb (G p) 4094 && (leb (A p) 4096 && (leb (W p) 65535 && leb (F p) 16384))

-- refusals 6 to 8, of the program that good records spell
unfoldable pub program_verdict : Program → Verdict
program_verdict p =
    let tooDeep = first_such deep (preorder 1 p) in
    let never = first_such endless (preorder 1 p) in
    cond
    (ltb tooDeep (size p))
    (Err (TooDeep tooDeep))
    (cond (ltb never (size p)) (Err (EndlessLoop never)) (cond (light p) (accepted_with (G p) (A p) (W p) (F p)) (Err TooHeavy)))

-- refusals 5 to 8: all configurations are good
unfoldable pub nodes_verdict : List ℕ → Verdict
nodes_verdict t =
    let bad = lowest (nodes t) (λ i. not (good_node t i)) in
    let program = program_verdict (tree_of t) in
    cond (ltb bad (nodes t)) (Err (BadNode bad)) program

-- refusals 4 to 8: N, M, V and the layout are good
unfoldable pub records_verdict : List ℕ → Verdict
records_verdict t =
    let bad = lowest (configurations t) (λ j. not (good_configuration t j)) in
    let nodesToo = nodes_verdict t in
    cond (ltb bad (configurations t)) (Err (BadConfiguration bad)) nodesToo

-- refusals 1 to 8
unfoldable pub verdict_of : List ℕ → Verdict
verdict_of t =
    let records = records_verdict t in
    cond
    (length_good t)
    (cond (counts_good t) (cond (distances_good t) records (Err BadDistances)) (Err BadCounts))
    (Err BadLength)
