-- Only one term of a program stands in given bytes: it can be read back from them.
use Prim.Native.Nat.{ℕ, ◌+◌, ◌*◌, ◌/◌, ◌%◌}
use mathlib.Core.Bool.{true, false, cond}
use mathlib.Core.Path.{◌≡◌, refl, sym, ap, ap₂, ◌∙◌}
use mathlib.Core.List.{List, [], ◌++◌, append_assoc}
use native.Mathlib.Nat.{div-add-mod'}
use lib.ListN.{length, get_or, drop, length-replicate}
use lib.Seq.{drop_at}
use lib.Dec.{eqb}
use Rattle.junior.specs.declared.Flag.{Flag}
use Rattle.junior.specs.declared.Flag.TheVariants.{SUSP, STOP, TERM}
use Rattle.junior.specs.Program.{Program, One, loop, repeat, control, local, freezable, Two, seq, par, when, until, if}
use Rattle.junior.specs.Program.{Parts, no_part, one_part, two_parts, parts, size}
use Rattle.junior.specs.Term.{Term, done, seq0, seq2, loop0, loop1, repeat0, repeat1, when0, when1, when2}
use Rattle.junior.specs.Term.{until0, until*, until2, freezable0, freezable*, if0, if1, if2}
use Rattle.junior.specs.Term.{prog, fresh}
use Rattle.state.specs.StateBytes.{code, zeros, below, state_bytes}
use Rattle.state.proofs.Parts.{len_bytes, own_phase, own_flags}

abbrev flag_for : ℕ → Flag
flag_for n = cond (eqb n 0) SUSP (cond (eqb n 1) STOP TERM)

-- Par's two flags from their byte
flags_back : (α β : Flag) → (flag_for ((code α + 4 * code β) % 4) ≡ α) × (flag_for ((code α + 4 * code β) / 4) ≡ β)
flags_back SUSP SUSP = (refl, refl)
flags_back SUSP STOP = (refl, refl)
flags_back SUSP TERM = (refl, refl)
flags_back STOP SUSP = (refl, refl)
flags_back STOP STOP = (refl, refl)
flags_back STOP TERM = (refl, refl)
flags_back TERM SUSP = (refl, refl)
flags_back TERM STOP = (refl, refl)
flags_back TERM TERM = (refl, refl)

-- by the phase, in front of the bytes l: one of three terms, not begun or in its first part, then in it, then in its second part
abbrev by_phase : List ℕ → Term → Term → Term → Term
by_phase l x y z = let ph = own_phase l in cond (eqb ph 0) x (cond (eqb ph 1) y z)

-- phase 3 tells no more than the program
abbrev or_done : Program → List ℕ → Term → Term
or_done p l x = cond (eqb (own_phase l) 3) (done p) x

abbrev of_one : {p q : Program} → One p q → List ℕ → Term → Term
of_one (loop p) l x = by_phase l (loop0 p) (loop1 x) (loop1 x)
of_one (repeat n p) l x = let y = repeat1 n (get_or l 2 0 * 256 + get_or l 3 0) x in by_phase l (repeat0 n p) y y
of_one (control s p) l x = Term.control s x
of_one (local s p) l x = by_phase l (Term.local false s x) (Term.local true s x) (Term.local true s x)
of_one (freezable s p) l x = by_phase l (freezable0 s x) (freezable* s x) (freezable* s x)

abbrev of_two : {p q r : Program} → Two p q r → List ℕ → Term → Term → Term
of_two (seq p q) l x y = by_phase l (seq0 x q) (seq0 x q) (seq2 p y)
of_two (par p q) l x y = let fl = own_flags l in Term.par (flag_for (fl % 4)) (flag_for (fl / 4)) x y
of_two (when c p q) l x y = by_phase l (when0 c p q) (when1 c x q) (when2 c p y)
of_two (until c p q) l x y = by_phase l (until0 c x q) (until* c x q) (until2 c p y)
of_two (if v p q) l x y = by_phase l (if0 v p q) (if1 v x q) (if2 v p y)

-- the term of a program that stands at the front of a list of bytes
unfoldable by_parts : {p : Program} → Parts p → List ℕ → Term
by_parts {p} (no_part f) l = fresh p
by_parts (one_part {q = q} f v) l = let m = drop 4 l in of_one f l (or_done q m (by_parts v m))
by_parts (two_parts {q = q} {r = r} f v w) l =
    let m = drop 4 l in
    let n = drop (4 * size q) m in
    of_two f l (or_done q m (by_parts v m)) (or_done r n (by_parts w n))

abbrev read : Program → List ℕ → Term
read p l = or_done p l (by_parts (parts p) l)

-- a child is read from where it stands: a first one, and a second behind n bytes of the first
from_first : (p : Program) (x b r : List ℕ) {t : Term} → ((r : List ℕ) → read p (x ++ r) ≡ t) → read p ((x ++ b) ++ r) ≡ t
from_first p x b r h = rw (append_assoc x b r) (h (b ++ r))

from_second : (p : Program) (a x r : List ℕ) (n : ℕ) {t : Term} → length a ≡ n → ((r : List ℕ) → read p (x ++ r) ≡ t)
    → read p (drop n ((a ++ x) ++ r)) ≡ t
from_second p a x r n e h = rw (append_assoc a x r, drop_at a (x ++ r) n e) (h r)

behind_zeros : (q : Program) (t : Term) (p : Program) (r : List ℕ) → ((r : List ℕ) → read p (state_bytes t ++ r) ≡ t)
    → read p (drop (4 * size q) ((zeros q ++ state_bytes t) ++ r)) ≡ t
behind_zeros q t p r h = from_second p (zeros q) (state_bytes t) r (4 * size q) (length-replicate (4 * size q) 0) h

reads : (x : Term) (r : List ℕ) → read (prog x) (state_bytes x ++ r) ≡ x
unfolding prog below fresh by_parts
reads (done p) r = refl
reads Term.nothing r = refl
reads Term.stop r = refl
reads (Term.atom a) r = refl
reads (Term.generate s) r = refl
reads (Term.await c) r = refl
reads (seq0 t q) r = ap (λ x. seq0 x q) (from_first (prog t) (state_bytes t) (zeros q) r (reads t))
reads (seq2 p t) r = ap (seq2 p) (behind_zeros p t (prog t) r (reads t))
reads (Term.par α β t u) r =
    let e = from_first (prog t) (state_bytes t) (state_bytes u) r (reads t) in
    let f = from_second (prog u) (state_bytes t) (state_bytes u) r (4 * size (prog t)) (len_bytes t) (reads u) in
    let o = code α + 4 * code β in
    ap₂ (λ x y. Term.par (flag_for (o % 4)) (flag_for (o / 4)) x y) e f ∙ ap₂ (λ γ δ. Term.par γ δ t u) (flags_back α β).0 (flags_back α β).1
reads (loop0 p) r = refl
reads (loop1 t) r = ap loop1 (reads t r)
reads (repeat0 n p) r = refl
reads (repeat1 n k t) r = ap₂ (repeat1 n) (div-add-mod' k 256) (reads t r)
reads (when0 c p q) r = refl
reads (when1 c t q) r = ap (λ x. when1 c x q) (from_first (prog t) (state_bytes t) (zeros q) r (reads t))
reads (when2 c p t) r = ap (when2 c p) (behind_zeros p t (prog t) r (reads t))
reads (until0 c t q) r = ap (λ x. until0 c x q) (from_first (prog t) (state_bytes t) (zeros q) r (reads t))
reads (until* c t q) r = ap (λ x. until* c x q) (from_first (prog t) (state_bytes t) (zeros q) r (reads t))
reads (until2 c p t) r = ap (until2 c p) (behind_zeros p t (prog t) r (reads t))
reads (Term.control s t) r = ap (Term.control s) (reads t r)
reads (Term.local true s t) r = ap (Term.local true s) (reads t r)
reads (Term.local false s t) r = ap (Term.local false s) (reads t r)
reads (freezable0 s t) r = ap (freezable0 s) (reads t r)
reads (freezable* s t) r = ap (freezable* s) (reads t r)
reads (if0 v p q) r = refl
reads (if1 v t q) r = ap (λ x. if1 v x q) (from_first (prog t) (state_bytes t) (zeros q) r (reads t))
reads (if2 v p t) r = ap (if2 v p) (behind_zeros p t (prog t) r (reads t))

pub one_term : (x y : Term) → prog x ≡ prog y → state_bytes x ≡ state_bytes y → x ≡ y
one_term x y e b =
    sym (reads x []) ∙ (ap₂ (λ p l. read p (l ++ [])) e b ∙ reads y [])
