-- What an accepted table is known to have.
use Prim.Native.Nat.{ℕ, suc, ◌+◌, ◌≤◌}
use mathlib.Core.Bool.{Bool, true, false, cond, not, ◌&&◌}
use mathlib.Core.Path.{◌≡◌, refl, ap, sym, ◌∙◌}
use mathlib.Core.List.{List, [], ◌++◌, append_assoc, append-nil}
use native.Mathlib.Omega.{arith}
use lib.Dec.{eqb, ltb, leb}
use borrow.Author.Tests.{eq-eqb, leb-true, ltb-false, not-false}
use Rattle.junior.specs.Program.{Program, One, Parts, no_part, one_part, two_parts, parts, size, kind}
use Rattle.junior.specs.Figures.{stops, LoopsStop, G, A, W, F}
use Rattle.std.specs.Prelude.{Err}
use Rattle.table.specs.declared.Figures.{Figures}
use Rattle.table.specs.declared.TableRefusal.TheVariants.{TooDeep, EndlessLoop, TooHeavy}
use Rattle.table.specs.Records.{nodes}
use Rattle.table.specs.Spells.{tree_of}
use Rattle.table.specs.Verdict.{Verdict, accepted_with, Node, preorder, first_such, deep, endless, light, program_verdict, verdict_of, number_of}
use Rattle.table.specs.Inside.{Loaded, Placed}
use Rattle.table.proofs.Laid.{both}
use Rattle.table.proofs.Parts.{of_none, of_one, of_two, loops_of_none, loops_of_one, loops_of_two}
use Rattle.table.proofs.Loaded.{whole_placed, all_nodes}
use Rattle.table.proofs.Accepted.{chosen, passed, accepted}

-- a program, at depth d, whose nodes have no endless Loop among them, in front of others
abbrev Clean : ℕ → Program → Type 0
Clean d p =
    (k : ℕ) (m : List Node)
    → size p + k ≤ first_such endless (preorder d p ++ m)
    → LoopsStop p × (k ≤ first_such endless m)

clean_two : (d : ℕ) (p q : Program) → Clean d p → Clean d q → (k : ℕ) (m : List Node)
    → 1 + size p + size q + k ≤ suc (first_such endless ((preorder d p ++ preorder d q) ++ m))
    → (LoopsStop p × LoopsStop q) × (k ≤ first_such endless m)
clean_two d p q f g k m h =
    let h' = rw (append_assoc (preorder d p) (preorder d q) m) at h in
    let (a, x) = f (size q + k) (preorder d q ++ m) (omega arith) in
    let (b, y) = g k m x in
    ((a, b), y)

clean_one : {p q : Program} → One p q → (d : ℕ) → Clean d q → (k : ℕ) (m : List Node) (b : Bool) → (eqb (kind p) 5 && not (stops q)) ≡ b
    → 1 + size q + k ≤ cond b 0 (suc (first_such endless (preorder d q ++ m)))
    → LoopsStop p × (k ≤ first_such endless m)
clean_one f d g k m true e h = absurd (omega arith)
clean_one {q = q} f d g k m false e h =
    let (a, x) = g k m (omega arith) in
    (loops_of_one f (λ is. not-false (stops q) (rw (eq-eqb _ 5 is) at e)) a, x)

loops_stop : {p : Program} (v : Parts p) (d : ℕ) → Clean d p
unfolding first_such
loops_stop (no_part f) d k m h =
    let o = of_none f in
    let h' = rw (o.nodes_are d, o.size_is, o.endless_is) at h in
    (loops_of_none f, omega arith)
loops_stop (one_part f v) d k m h =
    let o = of_one f in
    clean_one f (suc d) (loops_stop v (suc d)) k m _ refl (rw (o.nodes_are d, o.size_is, o.endless_is) at h)
loops_stop (two_parts {q = q} {r = r} f v w) d k m h =
    let o = of_two f in
    let h' = rw (o.nodes_are d, o.size_is, o.endless_is) at h in
    let ((a, b), x) = clean_two (suc d) q r (loops_stop v (suc d)) (loops_stop w (suc d)) k m h' in
    (loops_of_two f a b, x)

-- what the program of an accepted table has
record Allowed (p : Program) (g a w f : ℕ) : Type 0 where
  loops : LoopsStop p
  G_is : g ≡ G p
  A_is : a ≡ A p
  W_is : w ≡ W p
  F_is : f ≡ F p
  few : (G p ≤ 4094) × (A p ≤ 4096) × (W p ≤ 65535) × (F p ≤ 16384)

-- a refused answer isn't an accepted one
not_accepted : {g a w f : ℕ} (c : Verdict) (n : ℕ) → number_of c ≡ suc n → c ≡ accepted_with g a w f → ⊥
unfolding number_of
not_accepted c n h e = let z = ap number_of e in omega arith

allowed : (p : Program) {g a w f : ℕ} → program_verdict p ≡ accepted_with g a w f → Allowed p g a w f
unfolding program_verdict light number_of
allowed p {g} {a} {w} {f} h =
    let Is : Verdict → Type 0 = λ c. c ≡ accepted_with g a w f in
    let deep_one = passed Is (ltb (first_such deep (preorder 1 p)) (size p)) h (not_accepted (Err (TooDeep _)) 5 refl) in
    let loop_one = passed Is (ltb (first_such endless (preorder 1 p)) (size p)) deep_one.1 (not_accepted (Err (EndlessLoop _)) 6 refl) in
    let (light_one, same) = chosen Is (light p) loop_one.1 (not_accepted (Err TooHeavy) 7 refl) in
    let figures : ◌≡◌ {A = Figures} (record { generations = g; atoms = a; nodes = w; parked = f })
    (record { generations = G p; atoms = A p; nodes = W p; parked = F p }) = cc in
    let few-G = both {a = leb (G p) 4094} light_one in
    let few-A = both {a = leb (A p) 4096} few-G.1 in
    let few-W = both {a = leb (W p) 65535} few-A.1 in
    let past = ltb-false (first_such endless (preorder 1 p)) (size p) loop_one.0 in
    record {
      loops = (loops_stop (parts p) 1 0 [] (rw (append-nil (preorder 1 p)) (omega arith))).0;
      G_is = ap (λ x. x.generations) figures;
      A_is = ap (λ x. x.atoms) figures;
      W_is = ap (λ x. x.nodes) figures;
      F_is = ap (λ x. x.parked) figures;
      few = (
        leb-true (G p) 4094 few-G.0,
        leb-true (A p) 4096 few-A.0,
        leb-true (W p) 65535 few-W.0,
        leb-true (F p) 16384 few-W.1,
      );
    }

-- what an accepted table has
pub record Admitted (t : List ℕ) (g a w f : ℕ) : Type 0 where
  pub loaded : Loaded t
  pub placed : Placed t 0 (tree_of t)
  pub loops : LoopsStop (tree_of t)
  pub whole : size (tree_of t) ≡ nodes t
  pub G_is : g ≡ G (tree_of t)
  pub A_is : a ≡ A (tree_of t)
  pub W_is : w ≡ W (tree_of t)
  pub F_is : f ≡ F (tree_of t)
  pub few : G (tree_of t) ≤ 4094

pub admitted : (t : List ℕ) {g a w f : ℕ} → verdict_of t ≡ accepted_with g a w f → Admitted t g a w f
unfolding number_of
admitted t h =
    let table = accepted t (ap number_of h) in
    let good = allowed (tree_of t) (sym table.verdict_is ∙ h) in
    let placed = whole_placed table.loaded in
    record {
      loaded = table.loaded;
      placed = placed;
      loops = good.loops;
      whole = all_nodes placed;
      G_is = good.G_is;
      A_is = good.A_is;
      W_is = good.W_is;
      F_is = good.F_is;
      few = good.few.0;
    }
