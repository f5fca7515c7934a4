-- Reading a whole text: from its first byte, over each byte, to what it tells.
use Rattle.scanner.specs.declared.levels.Frame.{Frame}
use Prim.Native.Nat.{ℕ, suc, ◌+◌, ◌-◌, ◌<◌, ◌≤◌}
use mathlib.Core.Bool.{Bool, true, false, cond}
use mathlib.Core.Path.{◌≡◌, refl, sym, ap, subst}
use mathlib.Core.List.{List, [], ◌∷◌, ◌++◌}
use native.Mathlib.Omega.{arith}
use native.Mathlib.Numerals.{add-one}
use lib.Dec.{eqb, ltb, leb}
use lib.ListN.{length, get_or}
use Rattle.scanner.specs.declared.scan.Place.{Place}
use Rattle.form.specs.declared.Sizes.{Sizes}
use Rattle.std.specs.Prelude.{Option, None, Some, Ok, Err}
use Rattle.form.specs.Inside.Machine.{Stack, Sym, byte, prog, name, conf, num}
use Rattle.form.specs.Inside.Counted.{a_node, a_test, an_event}
use Rattle.form.specs.Inside.ReadTo.{start, ReadTo}
use Rattle.form.specs.Inside.Rows.{code_at, codes, in_name}
use Rattle.form.specs.Inside.Machine.{last, ending, sort_of, syms}
use Rattle.scanner.specs.Rules.{held}
use Rattle.scanner.specs.Levels.{back, level_at, top}
use Rattle.scanner.specs.Places.{fits, IsIn, in_bracket, Numbered, Lies}
use Rattle.scanner.specs.Scanning.{Taken, tally_code, tally_number}
use Rattle.scanner.specs.Scanning.{tally_at, Tells}
use Rattle.form.proofs.ReadSoFar.{stands_first, stands_on, stands_dead, stands_short, stands_whole}
use Rattle.form.proofs.NamesRead.{codes_more}
use Rattle.scanner.proofs.SymbolSteps.{held_end, end_known}
use Rattle.scanner.proofs.PlaceKept.{follows_symbol}
use Rattle.scanner.proofs.LevelLeft.{at_end}
use Rattle.scanner.proofs.CountsKept.{counts_at}

-- i bytes are read, and k is counted
pub record Reading (t : List ℕ) (i : ℕ) (at : Place) (k : Sizes) (ring : List Frame) : Type 0 where
  pub left_over : Stack
  pub lies : Lies t i at ring left_over
  pub stands : ReadTo t i (held at.pc at.number ++ left_over) k
  pub few_nodes : k.nodes ≤ i
  pub few_tests : k.tests ≤ i

abbrev first_place : Place
first_place = record { pc = 0; number = None; bracket = 0; depth = 0; live = 0 }

abbrev first_tally : Sizes
first_tally = record { nodes = 0; tests = 0; events = 1 }

placed_first : (t : List ℕ) → IsIn t 0 0 0
unfolding back level_at codes fits
placed_first t = in_bracket 0 refl refl

first_symbol : 128 ≤ code_at (0 - 1)
unfolding code_at
first_symbol = omega arith

held_first : held 0 None ++ [] ≡ start
unfolding codes syms held
held_first = refl

pub reading_first : (t : List ℕ) (ring : List Frame) → Reading t 0 first_place first_tally ring
reading_first t ring =
    record {
      left_over = [];
      lies = record {
        before = omega arith;
        deep = omega arith;
        few = omega arith;
        numbered = tt;
        under = top;
        placed = placed_first t;
        follows = follows_symbol 0 first_symbol t 0;
        kept = tt;
      };
      stands = subst (λ (σ : Stack). ReadTo t 0 σ first_tally) (sym held_first) (stands_first t);
      few_nodes = omega arith;
      few_tests = omega arith;
    }

-- a byte counts at most one node and one test
abbrev Few : Sizes → Sizes → Type 0
Few k r = (r.nodes ≤ k.nodes + 1) × (r.tests ≤ k.tests + 1)

few_same : (k : Sizes) → Few k k
few_same k = (omega arith, omega arith)

few_node : (k : Sizes) → Few k (a_node k)
few_node k = (omega arith, omega arith)

few_test : (k : Sizes) → Few k (a_test k)
few_test k = (omega arith, omega arith)

few_cond : (k : Sizes) (s : Bool) (a b : Sizes) → Few k a → Few k b → Few k (cond s a b)
few_cond k true a b f g = f
few_cond k false a b f g = g

few_event : (k : Sizes) (s : ℕ) → Few k (an_event s k)
few_event k s = (omega arith, omega arith)

few_code : (x b : ℕ) (k : Sizes) → Few k (tally_code x b k)
unfolding tally_code
few_code x b k =
    few_cond k (eqb x 128) _ _ (few_node k)
    (few_cond k (eqb x 133) _ _ (few_cond k (eqb b 44) _ _ (few_node k) (few_same k))
    (few_cond k (eqb x 134) _ _ (few_test k)
    (few_cond k (eqb x 136) _ _ (few_cond k (eqb b 110) _ _ (few_same k) (few_test k)) (few_same k))))

few_number : (p n b : ℕ) (k : Sizes) → Few k (tally_number p n b k)
unfolding tally_number
few_number p n b k =
    few_cond k (eqb b (code_at p)) _ _ (few_cond k (ltb (code_at (p - 1)) 139) _ _ (few_event k n) (few_same k)) (few_same k)

few_more : (p : ℕ) (n : Option ℕ) (b : ℕ) (k : Sizes) → Few k (tally_at p n b k)
unfolding tally_at
few_more p None b k = few_code (code_at p) b k
few_more p (Some v) b k = few_number p v b k

module _ (t : List ℕ) (i : ℕ) (at : Place) (k : Sizes) (ring : List Frame) (r : Reading t i at k ring) where
  pub reading_on : (ring' : List Frame) (next : Place) → i < length t → Taken t i at ring ring' (Some next)
      → Reading t (i + 1) next (tally_at at.pc at.number (get_or t i 0) k) ring'
  reading_on ring' next h f =
      let σ = r.left_over in
      let g = f σ r.lies in
      let c = counts_at at.pc at.number (get_or t i 0) σ k r.lies.numbered (at_end t i at ring σ r.lies) in
      let n = few_more at.pc at.number (get_or t i 0) k in
      record {
        left_over = g.0;
        lies = subst (λ (j : ℕ). Lies t j next ring' g.0) (sym (add-one i)) g.1;
        stands = subst (λ (x : Sizes). ReadTo t (i + 1) (held next.pc next.number ++ g.0) x) c (stands_on r.stands h g.2);
        few_nodes = omega (arith, n.0);
        few_tests = omega (arith, n.1);
      }

  pub reading_dead : (ring' : List Frame) → i < length t → Taken t i at ring ring' None → Tells t (Err i)
  reading_dead ring' h f = stands_dead r.stands h (f r.left_over r.lies)

-- a code stands for at least one symbol
some_symbol : (x : ℕ) (l : List ℕ) → (s : Sym) × (σ : Stack) × (syms false (x ∷ l) ≡ s ∷ σ)
unfolding syms
some_symbol x l = go (ltb x 128) (eqb x 128) (eqb x 134) (leb 138 x)
  where
    go : (a b c d : Bool) → (s : Sym) × (σ : Stack)
        × (cond a (byte x ∷ syms false l) (cond b (prog ∷ syms false l) (cond c (conf (ending (get_or l 0 0)) ∷ syms true l)
        (cond d (num (sort_of x) (ending (get_or l 0 0)) ∷ syms true l) (last x ∷ [])))) ≡ s ∷ σ)
    go true b c d = (_, _, refl)
    go false true c d = (_, _, refl)
    go false false true d = (_, _, refl)
    go false false false true = (_, _, refl)
    go false false false false = (_, _, refl)

some_left : (p : ℕ) (n : Option ℕ) → (code_at p ≡ 0 → ⊥) → (s : Sym) × (σ : Stack) × (held p n ≡ s ∷ σ)
unfolding held
some_left p None e = go (in_name p) (rw (codes_more p e) (some_symbol (code_at p) (codes (suc p))))
  where
    go : (b : Bool) → (s : Sym) × (σ : Stack) × (syms false (codes p) ≡ s ∷ σ)
        → (s : Sym) × (σ : Stack) × (cond b (name p ∷ []) (syms false (codes p)) ≡ s ∷ σ)
    go true h = (name p, [], refl)
    go false h = h
some_left p (Some v) e = (_, _, refl)

-- within a number the rule has not ended
ended_number : (p : ℕ) (n : Option ℕ) → Numbered p n → code_at p ≡ 0 → n ≡ None
ended_number p None m e = refl
ended_number p (Some v) m e = absurd ((end_known (code_at p) m.0).2 e)

at_last : (t : List ℕ) (i : ℕ) (σ : Stack) (c : Sizes) → length t ≤ i → ReadTo t i σ c → ReadTo t (length t) σ c
at_last t i σ c h s =
    let e : i ≡ length t = omega arith in
    subst (λ (j : ℕ). ReadTo t j σ c) e s

module _ (t : List ℕ) (i : ℕ) (at : Place) (k : Sizes) (ring : List Frame) (r : Reading t i at k ring) where
  pub reading_short : length t ≤ i → (code_at at.pc ≡ 0 → ⊥) → Tells t (Err (length t))
  reading_short h e =
      let s = some_left at.pc at.number e in
      let z = at_last t i (held at.pc at.number ++ r.left_over) k h r.stands in
      stands_short (subst (λ (σ : Stack). ReadTo t (length t) (σ ++ r.left_over) k) s.2 z)

  pub reading_whole : length t ≤ i → code_at at.pc ≡ 0 → Tells t (Ok k)
  reading_whole h e =
      let n = ended_number at.pc at.number r.lies.numbered e in
      let σ = at_end t i at ring r.left_over r.lies e in
      let q : held at.pc at.number ++ r.left_over ≡ [] = rw (n, σ, held_end at.pc e) refl in
      let z = at_last t i (held at.pc at.number ++ r.left_over) k h r.stands in
      let w = stands_whole (subst (λ (τ : Stack). ReadTo t (length t) τ k) q z) in
      (w.0, w.1, ap (λ (c : Sizes). c.nodes) w.2, ap (λ (c : Sizes). c.tests) w.2, ap (λ (c : Sizes). c.events) w.2)

module _ (t : List ℕ) (i : ℕ) (at : Place) (k : Sizes) (ring : List Frame) (r : Reading t i at k ring) where
  pub reading_stops : (ring' : List Frame) (took : Option Place) → i < length t → took ≡ None
      → Taken t i at ring ring' took → Tells t (Err i)
  reading_stops ring' took h e f =
      reading_dead t i at k ring r ring' h (subst (λ (x : Option Place). Taken t i at ring ring' x) e f)

  pub reading_goes : (ring' : List Frame) (took : Option Place) (next : Place) (k' : Sizes) → i < length t → took ≡ Some next
      → Taken t i at ring ring' took → k' ≡ tally_at at.pc at.number (get_or t i 0) k
      → Reading t (i + 1) next k' ring'
  reading_goes ring' took next k' h e f g =
      rw g
      (reading_on t i at k ring r ring' next h (subst (λ (x : Option Place). Taken t i at ring ring' x) e f))
