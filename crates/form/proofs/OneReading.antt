-- Every text has at most one reading: the reading machine's steps make it.
use Prim.Native.Nat.{ℕ, ◌+◌, ◌-◌, ◌≤◌, ◌<◌}
use mathlib.Core.Bool.{false}
use mathlib.Core.Path.{◌≡◌, refl, ap, sym, ◌∙◌}
use mathlib.Core.List.{List, [], ◌∷◌, ◌++◌, append_assoc, append-nil}
use native.Mathlib.Omega.{arith}
use lib.Dec.{eqb}
use borrow.Author.Tests.{eq-eqb, ne_eqb}
use Rattle.events.specs.Members.{places}
use Rattle.letters.specs.Decimal.{decimal}
use Rattle.junior.specs.Configuration.{Config, Event, Not, And, Or}
use Rattle.junior.specs.Program.{Program, Nothing, Seq, Par, Await, When, Until}
use Rattle.form.specs.Form.{SaysTest, says_event, says_not, says_and, says_or, Piece, whole, later_seq}
use Rattle.form.specs.Form.{later_par, Says, says_nothing, says_stop, says_atom, says_seq, last_of_seq}
use Rattle.form.specs.Form.{more_of_seq, says_par, last_of_par, more_of_par, says_loop, says_repeat}
use Rattle.form.specs.Form.{says_generate, says_await, says_when, says_until, says_control, says_local, says_freezable, says_if}
use Rattle.form.specs.Form.{says_repeat_ext}
use Rattle.form.specs.Inside.Machine.{End, close, comma, space, end_byte, Number, event, plain, value, cap, limit, Stack}
use Rattle.form.specs.Inside.Machine.{byte, prog, conf, inner, joint, num, tail, on, step}
use Rattle.letters.proofs.ReadsDecimal.{Reader, reads_decimal}
use Rattle.form.proofs.Steps.{digit, step_num, step_conf, step_inner, step_tail, step_end, no_end}
use Rattle.form.proofs.Accepts.{wants}
use Rattle.form.proofs.MadeByReading.{Item, program, test, number, program_of, test_of, item, Maker, nested, Bracket}
use Rattle.form.proofs.MadeByReading.{bracket, several_of, add, ending, marked, make}

-- a number's end
make_end : (n : Number) (v : ℕ) (e : End) (σ : Stack) (x : List ℕ) (k : List Bracket)
    → make (tail n v e ∷ σ) (end_byte e ∷ x) k ≡ make σ x (ending (end_byte e) (add (number v) k))
unfolding make
make_end n v e σ x k = rw (step_end n v e σ) (simp (eq-eqb (end_byte e) (end_byte e) refl))

no_bracket : (d : ℕ) → eqb (digit d) 41 ≡ false
no_bracket d = ne_eqb (48 + d) 41 (λ z. omega arith)

number_reader : (n : Number) (e : End) (σ τ : Stack) (k : List Bracket)
    → ((d : ℕ) → d < 10 → step σ (digit d) ≡ on (tail n d e ∷ τ))
    → ((d : ℕ) → d < 10 → marked σ (digit d) k ≡ k)
    → Reader (limit n) (λ w. make σ w k) (λ v w. make (tail n v e ∷ τ) w k)
unfolding make
number_reader n e σ τ k f g =
    record {
      first = λ d x h. rw (f d h, g d h);
      more =
          λ v d x a h l. rw (step_tail n v e τ d a h l) (simp (ne_eqb (48 + d) (end_byte e) (no_end e d), no_bracket d));
    }

make_number : (n : Number) (e : End) (σ : Stack) (x : List ℕ) (k : List Bracket) (a : ℕ) → a ≤ limit n
    → make (num n e ∷ σ) (decimal a ++ (end_byte e ∷ x)) k ≡ make σ x (ending (end_byte e) (add (number a) k))
unfolding marked
make_number n e σ x k a h =
    let r = number_reader n e (num n e ∷ σ) σ k (step_num n e σ) (λ d _. simp (no_bracket d)) in
    reads_decimal r a h (end_byte e ∷ x) ∙ make_end n a e σ x k

conf_reader : (e : End) (σ : Stack) (k : List Bracket)
    → Reader (places - 1) (λ w. make (conf e ∷ σ) w k) (λ v w. make (tail event v e ∷ σ) w k)
unfolding marked
conf_reader e σ k =
    number_reader event e (conf e ∷ σ) σ k (step_conf e σ)
    (λ d _. simp (ne_eqb (48 + d) 40 (λ z. omega arith), no_bracket d))

inner_reader : (σ : Stack) (k : List Bracket)
    → Reader (places - 1) (λ w. make (inner ∷ σ) w k) (λ v w. make (tail event v space ∷ joint ∷ σ) w k)
unfolding marked
inner_reader σ k =
    number_reader event space (inner ∷ σ) (joint ∷ σ) k (step_inner σ)
    (λ d h. simp (ne_eqb (48 + d) 110 (λ z. omega arith), ne_eqb (48 + d) 40 (λ z. omega arith), no_bracket d))

-- where a configuration's first part may stand, it is read as a configuration before a space
as_conf : {c : Config} {u : List ℕ} → SaysTest c u → (σ : Stack) (x : List ℕ) (k : List Bracket)
    → make (inner ∷ σ) (u ++ x) k ≡ make (conf space ∷ joint ∷ σ) (u ++ x) k
unfolding make
as_conf (says_event {s} h) σ x k =
    reads_decimal (inner_reader σ k) s (omega arith) x
    ∙ sym (reads_decimal (conf_reader space (joint ∷ σ) k) s (omega arith) x)
as_conf (says_not d) σ x k = refl
as_conf (says_and c d) σ x k = refl
as_conf (says_or c d) σ x k = refl

-- a configuration as an item: an event is its number
abbrev item_of : Config → Item
item_of (Event s) = number s
item_of (Not c) = test (Not c)
item_of (And c d) = test (And c d)
item_of (Or c d) = test (Or c d)

test_item : (c : Config) → test_of (item_of c) ≡ c
test_item (Event s) = refl
test_item (Not c) = refl
test_item (And c d) = refl
test_item (Or c d) = refl

make_close : (e : End) (σ : Stack) (x : List ℕ) (f : Maker) (l : List Item) (k : List Bracket) {c d : Config} → c ≡ d
    → make (byte (end_byte e) ∷ σ) (end_byte e ∷ x) (bracket f (test c ∷ l) ∷ k)
    ≡ make σ x (ending (end_byte e) (bracket f (test d ∷ l) ∷ k))
unfolding make
make_close e σ x f l k z = rw (eq-eqb (end_byte e) (end_byte e) refl, z)

make_conf : {c : Config} {u : List ℕ} → SaysTest c u → (e : End) (σ : Stack) (x : List ℕ) (f : Maker) (l : List Item)
    (k : List Bracket)
    → make (conf e ∷ σ) (u ++ (end_byte e ∷ x)) (bracket f l ∷ k)
    ≡ make σ x (ending (end_byte e) (bracket f (item_of c ∷ l) ∷ k))
unfolding make
make_conf (says_event {s} h) e σ x f l k =
    reads_decimal (conf_reader e σ (bracket f l ∷ k)) s (omega arith) (end_byte e ∷ x)
    ∙ make_end event s e σ x (bracket f l ∷ k)
make_conf (says_not {c} d) e σ x f l k =
    let z : Not (test_of (item_of c)) ≡ Not c = rw (test_item c) in
    simp append_assoc
    (make_conf d close _ _ _ [] (bracket f l ∷ k) ∙ make_close e σ x f l k z)
make_conf (says_and {c} {d} g h) e σ x f l k =
    let z : And (test_of (item_of c)) (test_of (item_of d)) ≡ And c d = rw (test_item c, test_item d) in
    simp append_assoc
    (as_conf g _ _ _
    ∙ (make_conf g space _ _ _ [] (bracket f l ∷ k)
    ∙ (make_conf h close _ _ _ (item_of c ∷ []) (bracket f l ∷ k)
    ∙ make_close e σ x f l k z)))
make_conf (says_or {c} {d} g h) e σ x f l k =
    let z : Or (test_of (item_of c)) (test_of (item_of d)) ≡ Or c d = rw (test_item c, test_item d) in
    simp append_assoc
    (as_conf g _ _ _
    ∙ (make_conf g space _ _ _ [] (bracket f l ∷ k)
    ∙ (make_conf h close _ _ _ (item_of c ∷ []) (bracket f l ∷ k)
    ∙ make_close e σ x f l k z)))

-- the bracket that a piece stands in, and what it is behind it; f is the bracket of a whole program
abbrev before : Piece → Maker → List Item → List Bracket → List Bracket
before (whole p) f l k = bracket f l ∷ k
before (later_seq p) f l k = bracket (several_of Seq) l ∷ k
before (later_par p) f l k = bracket (several_of Par) l ∷ k

abbrev behind : Piece → Maker → List Item → List Bracket → List Bracket
behind (whole p) f l k = bracket f (program p ∷ l) ∷ k
behind (later_seq p) f l k = add (program (nested Seq p l)) k
behind (later_par p) f l k = add (program (nested Par p l)) k

said : (σ : Stack) (x : List ℕ) (f : Maker) (l : List Item) (k : List Bracket) {p q : Program} → p ≡ q
    → make σ x (bracket f (program p ∷ l) ∷ k) ≡ make σ x (bracket f (program q ∷ l) ∷ k)
said σ x f l k z = rw z

make_piece : {s : Piece} {w : List ℕ} → Says s w
    → (σ : Stack) (x : List ℕ) (f : Maker) (l : List Item) (k : List Bracket)
    → make (wants s σ) (w ++ x) (before s f l k) ≡ make σ x (behind s f l k)
unfolding make
make_piece says_nothing σ x f l k = refl
make_piece says_stop σ x f l k = refl
make_piece (says_atom {a} h) σ x f l k = simp append_assoc (make_number plain close σ x _ a h)
make_piece (says_seq {p} d e) σ x f l k =
    simp append_assoc (make_piece d _ _ _ [] _ ∙ make_piece e σ x f (program p ∷ []) (bracket f l ∷ k))
make_piece (last_of_seq d) σ x f l k = simp append_assoc (make_piece d _ _ _ l k)
make_piece (more_of_seq {p} d e) σ x f l k =
    simp append_assoc (make_piece d _ _ _ l k ∙ make_piece e σ x f (program p ∷ l) k)
make_piece (says_par {p} d e) σ x f l k =
    simp append_assoc (make_piece d _ _ _ [] _ ∙ make_piece e σ x f (program p ∷ []) (bracket f l ∷ k))
make_piece (last_of_par d) σ x f l k = simp append_assoc (make_piece d _ _ _ l k)
make_piece (more_of_par {p} d e) σ x f l k =
    simp append_assoc (make_piece d _ _ _ l k ∙ make_piece e σ x f (program p ∷ l) k)
make_piece (says_loop d) σ x f l k = simp append_assoc (make_piece d _ _ _ [] _)
make_piece (says_repeat {n} h d) σ x f l k =
    simp append_assoc (make_number plain comma _ _ _ n h ∙ make_piece d _ _ _ (number n ∷ []) _)
make_piece (says_generate {s} h) σ x f l k = simp append_assoc (make_number event close σ x _ s (omega arith))
make_piece (says_await {c} t) σ x f l k =
    simp append_assoc (make_conf t close σ x _ [] _ ∙ said σ x f l k (ap Await (test_item c)))
make_piece (says_when {c} {p} {q} t d e) σ x f l k =
    simp append_assoc
    (make_conf t comma _ _ _ [] _
    ∙ (make_piece d _ _ _ (item_of c ∷ []) _
    ∙ (make_piece e _ _ _ (program p ∷ item_of c ∷ []) _
    ∙ said σ x f l k (ap (λ z. When z p q) (test_item c)))))
make_piece (says_until {c} {p} {q} t d e) σ x f l k =
    simp append_assoc
    (make_conf t comma _ _ _ [] _
    ∙ (make_piece d _ _ _ (item_of c ∷ []) _
    ∙ (make_piece e _ _ _ (program p ∷ item_of c ∷ []) _
    ∙ said σ x f l k (ap (λ z. Until z p q) (test_item c)))))
make_piece (says_control {s} h d) σ x f l k =
    simp append_assoc (make_number event comma _ _ _ s (omega arith) ∙ make_piece d _ _ _ (number s ∷ []) _)
make_piece (says_local {s} h d) σ x f l k =
    simp append_assoc (make_number event comma _ _ _ s (omega arith) ∙ make_piece d _ _ _ (number s ∷ []) _)
make_piece (says_freezable {s} h d) σ x f l k =
    simp append_assoc (make_number event comma _ _ _ s (omega arith) ∙ make_piece d _ _ _ (number s ∷ []) _)
make_piece (says_if {v} {p} h d e) σ x f l k =
    simp append_assoc
    (make_number value comma _ _ _ v h
    ∙ (make_piece d _ _ _ (number v ∷ []) _ ∙ make_piece e _ _ _ (program p ∷ number v ∷ []) _))
make_piece (says_repeat_ext {v} {cap = n} h g d) σ x f l k =
    simp append_assoc
    (make_number value comma _ _ _ v h
    ∙ (make_number cap comma _ _ _ n g ∙ make_piece d _ _ _ (number n ∷ number v ∷ []) _))

-- the outermost bracket, which no byte opens
abbrev outside : List Bracket
outside = bracket (λ l. number 0) [] ∷ []

abbrev last_program : List Bracket → Program
last_program [] = Nothing
last_program (bracket f l ∷ k) = program_of (item l 0)

made : (p : Program) (w : List ℕ) → Says (whole p) w → last_program (make (prog ∷ []) w outside) ≡ p
unfolding make
made p w d = ap last_program (rw append-nil at (make_piece d [] [] (λ l. number 0) [] []))

pub one_reading : (p q : Program) (w : List ℕ) → Says (whole p) w → Says (whole q) w → p ≡ q
one_reading p q w d e = sym (made p w d) ∙ made q w e
