-- What the reading machine counts on a text of the form is the program's size, tests and events.
use Prim.Native.Nat.{ℕ, suc, ◌+◌, ◌-◌, ◌≤◌, ◌<◌, max}
use mathlib.Core.Path.{◌≡◌, refl, sym, ◌∙◌}
use mathlib.Core.List.{List, [], ◌∷◌, ◌++◌, append_assoc, append-nil}
use native.Mathlib.Omega.{arith}
use borrow.Author.Tests.{eq-eqb, ne_eqb}
use Rattle.events.specs.Members.{places}
use Rattle.letters.specs.Decimal.{decimal}
use Rattle.junior.specs.Configuration.{Config}
use Rattle.junior.specs.Program.{Program, size}
use Rattle.table.specs.Spells.{weight}
use Rattle.form.specs.Form.{SaysTest, says_event, says_not, says_and, says_or, Piece, whole, later_seq}
use Rattle.form.specs.Form.{later_par, Says, says_nothing, says_stop, says_atom, says_seq, last_of_seq}
use Rattle.form.specs.Form.{more_of_seq, says_par, last_of_par, more_of_par, says_loop, says_repeat}
use Rattle.form.specs.Form.{says_generate, says_await, says_when, says_until, says_control, says_local, says_freezable, says_if}
use Rattle.form.specs.Form.{says_repeat_ext}
use Rattle.form.specs.Made.{larger, named_in, named, tests}
use Rattle.form.specs.Inside.Machine.{End, close, comma, space, end_byte, Number, event, plain, value, cap, limit, Stack}
use Rattle.form.specs.Inside.Machine.{byte, prog, conf, inner, joint, num, tail, on, step}
use Rattle.form.specs.declared.Sizes.{Sizes}
use Rattle.form.specs.Inside.Counted.{counts, none, a_node, a_test, an_event, counted, tally}
use Rattle.letters.proofs.ReadsDecimal.{Reader, reads_decimal}
use Rattle.form.proofs.Steps.{digit, step_num, step_conf, step_inner, step_tail, step_end, no_end}
use Rattle.form.proofs.Accepts.{wants}
use Rattle.form.proofs.MadeNamed.{larger_max, named_least}

larger_assoc : (a b c : ℕ) → larger (larger a b) c ≡ larger a (larger b c)
larger_assoc a b c =
    rw (larger_max b c, larger_max a b, larger_max (max a b) c, larger_max a (max b c)) (omega arith)

larger_three : (a b c d : ℕ) → larger (larger (larger a b) c) d ≡ larger a (larger b (larger c d))
larger_three a b c d = larger_assoc (larger a b) c d ∙ larger_assoc a b (larger c d)

larger_one : (a : ℕ) → 1 ≤ a → larger a 1 ≡ a
larger_one a h = rw (larger_max a 1) (omega arith)

from_one : (a : ℕ) → 1 ≤ a → larger 1 a ≡ a
from_one a h = rw (larger_max 1 a) (omega arith)

larger_least : (a b : ℕ) → 1 ≤ a → 1 ≤ larger a b
larger_least a b h = rw (larger_max a b) (omega arith)

at_least_one : (a b : ℕ) → 1 ≤ a → larger a b ≡ larger a (larger b 1)
at_least_one a b h = rw (larger_max b 1, larger_max a b, larger_max a (max b 1)) (omega arith)

-- so many nodes, tests and events more
abbrev plus : Sizes → ℕ → ℕ → ℕ → Sizes
plus k n m v = counts (k.nodes + n) (k.tests + m) (larger k.events v)

alike : (σ : Stack) (x : List ℕ) {n n' m m' v v' : ℕ} → n ≡ n' → m ≡ m' → v ≡ v'
    → tally σ x (counts n m v) ≡ tally σ x (counts n' m' v')
alike σ x e f g = rw (e, f, g)

tally_end : (v : ℕ) (e : End) (σ : Stack) (x : List ℕ) (k : Sizes)
    → tally (tail event v e ∷ σ) (end_byte e ∷ x) k ≡ tally σ x (an_event v k)
unfolding tally
tally_end v e σ x k = rw (step_end event v e σ) (simp (eq-eqb (end_byte e) (end_byte e) refl))

-- a number that is no event's
data NoEvent : Number → Type 0 where
  is_plain : NoEvent plain
  is_value : NoEvent value
  is_cap : NoEvent cap

counts_nothing : {n : Number} → NoEvent n → (v : ℕ) (e : End) (σ : Stack) (b : ℕ) (k : Sizes) → counted (tail n v e ∷ σ) b k ≡ k
unfolding counted
counts_nothing is_plain v e σ b k = refl
counts_nothing is_value v e σ b k = refl
counts_nothing is_cap v e σ b k = refl

tally_other : {n : Number} → NoEvent n → (v : ℕ) (e : End) (σ : Stack) (x : List ℕ) (k : Sizes)
    → tally (tail n v e ∷ σ) (end_byte e ∷ x) k ≡ tally σ x k
unfolding tally
tally_other {n} o v e σ x k = rw (step_end n v e σ, counts_nothing o v e σ (end_byte e) k)

-- digits of a number under way count nothing
counted_digit : (n : Number) (v : ℕ) (e : End) (σ : Stack) (d : ℕ) (k : Sizes)
    → counted (tail n v e ∷ σ) (digit d) k ≡ k
unfolding counted
counted_digit event v e σ d k = simp (ne_eqb (48 + d) (end_byte e) (no_end e d))
counted_digit plain v e σ d k = refl
counted_digit value v e σ d k = refl
counted_digit cap v e σ d k = refl

number_reader : (n : Number) (e : End) (σ τ : Stack) (k k' : Sizes)
    → ((d : ℕ) → d < 10 → step σ (digit d) ≡ on (tail n d e ∷ τ))
    → ((d : ℕ) → d < 10 → counted σ (digit d) k ≡ k')
    → Reader (limit n) (λ w. tally σ w k) (λ v w. tally (tail n v e ∷ τ) w k')
unfolding tally
number_reader n e σ τ k k' f g =
    record {
      first = λ d x h. rw (f d h, g d h);
      more = λ v d x a h l. rw (step_tail n v e τ d a h l, counted_digit n v e τ d k');
    }

tally_event : (e : End) (σ : Stack) (x : List ℕ) (k : Sizes) (s : ℕ) → s < places
    → tally (num event e ∷ σ) (decimal s ++ (end_byte e ∷ x)) k ≡ tally σ x (an_event s k)
unfolding counted
tally_event e σ x k s h =
    let r = number_reader event e (num event e ∷ σ) σ k k (step_num event e σ) (λ d _. refl) in
    reads_decimal r s (omega arith) (end_byte e ∷ x) ∙ tally_end s e σ x k

tally_number_lem : {n : Number} → NoEvent n → (e : End) (σ : Stack) (x : List ℕ) (k : Sizes) (a : ℕ) → a ≤ limit n
    → tally (num n e ∷ σ) (decimal a ++ (end_byte e ∷ x)) k ≡ tally σ x k
unfolding counted
tally_number_lem {n} o e σ x k a h =
    let r = number_reader n e (num n e ∷ σ) σ k k (step_num n e σ) (λ d _. refl) in
    reads_decimal r a h (end_byte e ∷ x) ∙ tally_other o a e σ x k

conf_reader : (e : End) (σ : Stack) (k : Sizes)
    → Reader (places - 1) (λ w. tally (conf e ∷ σ) w k) (λ v w. tally (tail event v e ∷ σ) w (a_test k))
unfolding counted
conf_reader e σ k = number_reader event e (conf e ∷ σ) σ k (a_test k) (step_conf e σ) (λ d _. refl)

inner_reader : (σ : Stack) (k : Sizes)
    → Reader (places - 1) (λ w. tally (inner ∷ σ) w k) (λ v w. tally (tail event v space ∷ joint ∷ σ) w (a_test k))
unfolding counted
inner_reader σ k =
    number_reader event space (inner ∷ σ) (joint ∷ σ) k (a_test k) (step_inner σ)
    (λ d h. simp (ne_eqb (48 + d) 110 (λ z. omega arith)))

-- where a configuration's first part may stand, it is counted as a configuration before a space
as_conf : {c : Config} {u : List ℕ} → SaysTest c u → (σ : Stack) (x : List ℕ) (k : Sizes)
    → tally (inner ∷ σ) (u ++ x) k ≡ tally (conf space ∷ joint ∷ σ) (u ++ x) k
unfolding tally
as_conf (says_event {s} h) σ x k =
    reads_decimal (inner_reader σ k) s (omega arith) x
    ∙ sym (reads_decimal (conf_reader space (joint ∷ σ) k) s (omega arith) x)
as_conf (says_not d) σ x k = refl
as_conf (says_and c d) σ x k = refl
as_conf (says_or c d) σ x k = refl

tally_byte : (c : ℕ) (σ : Stack) (x : List ℕ) (k : Sizes) → tally (byte c ∷ σ) (c ∷ x) k ≡ tally σ x k
unfolding tally
tally_byte c σ x k = simp (eq-eqb c c refl)

tally_conf : {c : Config} {u : List ℕ} → SaysTest c u → (e : End) (σ : Stack) (x : List ℕ) (k : Sizes)
    → tally (conf e ∷ σ) (u ++ (end_byte e ∷ x)) k ≡ tally σ x (plus k 0 (weight c) (named_in c))
unfolding tally weight named_in
tally_conf (says_event {s} h) e σ x k =
    reads_decimal (conf_reader e σ k) s (omega arith) (end_byte e ∷ x)
    ∙ (tally_end s e σ x (a_test k) ∙ alike σ x (omega arith) (omega arith) refl)
tally_conf (says_not d) e σ x k =
    simp append_assoc
    (tally_conf d close _ _ _ ∙ (tally_byte (end_byte e) σ x _ ∙ alike σ x (omega arith) (omega arith) refl))
tally_conf (says_and {c = f} {d = g} c d) e σ x k =
    simp append_assoc
    (as_conf c _ _ _
    ∙ (tally_conf c space _ _ _
    ∙ (tally_conf d close _ _ _
    ∙ (tally_byte (end_byte e) σ x _
    ∙ alike σ x (omega arith) (omega arith) (larger_assoc k.events (named_in f) (named_in g))))))
tally_conf (says_or {c = f} {d = g} c d) e σ x k =
    simp append_assoc
    (as_conf c _ _ _
    ∙ (tally_conf c space _ _ _
    ∙ (tally_conf d close _ _ _
    ∙ (tally_byte (end_byte e) σ x _
    ∙ alike σ x (omega arith) (omega arith) (larger_assoc k.events (named_in f) (named_in g))))))

abbrev tree_of : Piece → Program
tree_of (whole p) = p
tree_of (later_seq p) = p
tree_of (later_par p) = p

-- the counts with a program's added
abbrev with : Sizes → Program → Sizes
with k p = plus k (size p) (tests p) (named p)

counts_piece : {s : Piece} {w : List ℕ} → Says s w → (σ : Stack) (x : List ℕ) (k : Sizes) → 1 ≤ k.events
    → tally (wants s σ) (w ++ x) k ≡ tally σ x (with k (tree_of s))
unfolding tally size tests named
counts_piece says_nothing σ x k h = alike σ x (omega arith) (omega arith) (sym (larger_one k.events h))
counts_piece says_stop σ x k h = alike σ x (omega arith) (omega arith) (sym (larger_one k.events h))
counts_piece (says_atom {a} l) σ x k h =
    simp append_assoc
    (tally_number_lem is_plain close σ x (a_node k) a l ∙ alike σ x (omega arith) (omega arith) (sym (larger_one k.events h)))
counts_piece (says_seq {p} {q} d e) σ x k h =
    simp append_assoc
    (counts_piece d _ _ (a_node k) h
    ∙ (counts_piece e σ x (with (a_node k) p) (larger_least k.events (named p) h)
    ∙ alike σ x (omega arith) (omega arith) (larger_assoc k.events (named p) (named q))))
counts_piece (last_of_seq d) σ x k h = simp append_assoc (counts_piece d _ _ k h)
counts_piece (more_of_seq {p} {q} d e) σ x k h =
    simp append_assoc
    (counts_piece d _ _ k h
    ∙ (counts_piece e σ x (a_node (with k p)) (larger_least k.events (named p) h)
    ∙ alike σ x (omega arith) (omega arith) (larger_assoc k.events (named p) (named q))))
counts_piece (says_par {p} {q} d e) σ x k h =
    simp append_assoc
    (counts_piece d _ _ (a_node k) h
    ∙ (counts_piece e σ x (with (a_node k) p) (larger_least k.events (named p) h)
    ∙ alike σ x (omega arith) (omega arith) (larger_assoc k.events (named p) (named q))))
counts_piece (last_of_par d) σ x k h = simp append_assoc (counts_piece d _ _ k h)
counts_piece (more_of_par {p} {q} d e) σ x k h =
    simp append_assoc
    (counts_piece d _ _ k h
    ∙ (counts_piece e σ x (a_node (with k p)) (larger_least k.events (named p) h)
    ∙ alike σ x (omega arith) (omega arith) (larger_assoc k.events (named p) (named q))))
counts_piece (says_loop d) σ x k h =
    simp append_assoc (counts_piece d _ _ (a_node k) h ∙ alike σ x (omega arith) (omega arith) refl)
counts_piece (says_repeat {n} l d) σ x k h =
    simp append_assoc
    (tally_number_lem is_plain comma _ _ (a_node k) n l
    ∙ (counts_piece d _ _ (a_node k) h ∙ alike σ x (omega arith) (omega arith) refl))
counts_piece (says_generate {s} l) σ x k h =
    simp append_assoc
    (tally_event close σ x (a_node k) s l ∙ alike σ x (omega arith) (omega arith) (at_least_one k.events (suc s) h))
counts_piece (says_await {c} t) σ x k h =
    simp append_assoc
    (tally_conf t close σ x (a_node k) ∙ alike σ x (omega arith) (omega arith) (at_least_one k.events (named_in c) h))
counts_piece (says_when {c} {p} {q} t d e) σ x k h =
    simp append_assoc
    (tally_conf t comma _ _ (a_node k)
    ∙ (counts_piece d _ _ (plus (a_node k) 0 (weight c) (named_in c)) (larger_least k.events (named_in c) h)
    ∙ (counts_piece e _ _ (with (plus (a_node k) 0 (weight c) (named_in c)) p)
    (larger_least (larger k.events (named_in c)) (named p) (larger_least k.events (named_in c) h))
    ∙ alike σ x (omega arith) (omega arith) (larger_three k.events (named_in c) (named p) (named q)))))
counts_piece (says_until {c} {p} {q} t d e) σ x k h =
    simp append_assoc
    (tally_conf t comma _ _ (a_node k)
    ∙ (counts_piece d _ _ (plus (a_node k) 0 (weight c) (named_in c)) (larger_least k.events (named_in c) h)
    ∙ (counts_piece e _ _ (with (plus (a_node k) 0 (weight c) (named_in c)) p)
    (larger_least (larger k.events (named_in c)) (named p) (larger_least k.events (named_in c) h))
    ∙ alike σ x (omega arith) (omega arith) (larger_three k.events (named_in c) (named p) (named q)))))
counts_piece (says_control {s} {p} l d) σ x k h =
    simp append_assoc
    (tally_event comma _ _ (a_node k) s l
    ∙ (counts_piece d _ _ (an_event s (a_node k)) (larger_least k.events (suc s) h)
    ∙ alike σ x (omega arith) (omega arith) (larger_assoc k.events (suc s) (named p))))
counts_piece (says_local {s} {p} l d) σ x k h =
    simp append_assoc
    (tally_event comma _ _ (a_node k) s l
    ∙ (counts_piece d _ _ (an_event s (a_node k)) (larger_least k.events (suc s) h)
    ∙ alike σ x (omega arith) (omega arith) (larger_assoc k.events (suc s) (named p))))
counts_piece (says_freezable {s} {p} l d) σ x k h =
    simp append_assoc
    (tally_event comma _ _ (a_node k) s l
    ∙ (counts_piece d _ _ (an_event s (a_node k)) (larger_least k.events (suc s) h)
    ∙ alike σ x (omega arith) (omega arith) (larger_assoc k.events (suc s) (named p))))
counts_piece (says_if {v} {p} {q} l d e) σ x k h =
    simp append_assoc
    (tally_number_lem is_value comma _ _ (a_node k) v l
    ∙ (counts_piece d _ _ (a_node k) h
    ∙ (counts_piece e _ _ (with (a_node k) p) (larger_least k.events (named p) h)
    ∙ alike σ x (omega arith) (omega arith) (larger_assoc k.events (named p) (named q)))))
counts_piece (says_repeat_ext {v} {cap} l m d) σ x k h =
    simp append_assoc
    (tally_number_lem is_value comma _ _ (a_node k) v l
    ∙ (tally_number_lem is_cap comma _ _ (a_node k) cap m
    ∙ (counts_piece d _ _ (a_node k) h ∙ alike σ x (omega arith) (omega arith) refl)))

-- the counts of a whole text
pub tallied : {p : Program} {w : List ℕ} → Says (whole p) w
    → tally (prog ∷ []) w none ≡ counts (size p) (tests p) (named p)
unfolding tally
tallied {p} {w} d =
    let e : tally (prog ∷ []) w none ≡ with none p = rw append-nil at (counts_piece d [] [] none (omega arith)) in
    e ∙ alike [] [] (omega arith) (omega arith) (from_one (named p) (named_least p))
