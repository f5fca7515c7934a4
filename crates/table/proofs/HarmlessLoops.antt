-- Request L2, sentence by sentence: what it says of configurations and of the stopping rule, and that every table accepted before is still
-- accepted, with the same tree and no larger figure.
use Prim.Native.Nat.{ℕ, suc, ◌≤◌}
use mathlib.Core.Bool.{Bool, true, false, cond, not, ◌&&◌, and-eq-true_iff, false≢true}
use mathlib.Core.Path.{◌≡◌, refl, sym, ap, ◌∙◌}
use mathlib.Core.List.{List, [], ◌∷◌}
use native.Mathlib.Nat.{le_trans}
use native.Mathlib.Omega.{arith}
use lib.Dec.{eqb, leb, ltb}
use borrow.Author.Tests.{le-leb, le-ltb, leb-true, leb-false, ltb-false}
use Rattle.events.specs.Events.{lowest}
use Rattle.junior.specs.declared.Flag.TheVariants.{STOP}
use Rattle.junior.specs.Configuration.{Env, Event, unknown, early_true, early_false}
use Rattle.junior.specs.Program.{Program, Stop, Nothing, When, kind, Parts, no_part, one_part, two_parts, parts, size}
use Rattle.junior.specs.Term.{when0}
use Rattle.junior.specs.Trace.{Place}
use Rattle.junior.specs.Values.{Values}
use Rattle.junior.specs.Rules.{left_first, Result, Rewrites, r17, r18, r19, r20, r21}
use Rattle.junior.specs.Figures.{only_if, stops, figure, G, A, W, F, per, every, parking}
use Rattle.junior.specs.StoppedBefore.{stopped_before, figure_before, G_before, A_before, W_before}
use Rattle.junior.proofs.Held.{stops_right}
use Rattle.junior.proofs.StoppedBefore.{still_stops, no_larger}
use Rattle.junior.proofs.Verdicts.{test_event, present, known_at_end, sat_early, unsat_early}
use Rattle.std.specs.Prelude.{Err}
use Rattle.table.specs.declared.Figures.{Figures}
use Rattle.table.specs.declared.TableRefusal.TheVariants.{TooDeep, EndlessLoop, TooHeavy}
use Rattle.table.specs.Good.{is_laid_out, children, argument_limit, good_node, parts as part_count, good_but_height, height_at_most, good_configuration}
use Rattle.table.specs.Spells.{configuration_of, form, program_of, tree_of}
use Rattle.table.specs.Verdict.{Verdict, accepted_with, number_of, Node, preorder, first_such, deep, endless, endless_parts, light, program_verdict, nodes_verdict}
use Rattle.table.specs.Verdict.{records_verdict, verdict_of, length_good, counts_good, distances_good}
use Rattle.table.specs.HarmlessLoops.{endless_parts_before, endless_before, light_before, program_before, verdict_before}
use Rattle.table.specs.HarmlessLoops.{F_before, StillAccepted, HarmlessLoops}
use Rattle.table.proofs.Accepted.{chosen, passed, Past5, past_5}
use Rattle.table.proofs.Grown.{spells_tree}
use Rattle.table.proofs.Laid.{both}

absent_unknown : (s : ℕ) (E : Env) → E.now s ≡ false → E.eoi ≡ false → unknown (Event s) E
absent_unknown s E a e = rw (test_event s E, a, e)

absent_stops : {value : Values} {P : Place} {E : Env} {s : ℕ} {p q : Program} {r : Result}
    → Rewrites (left_first value) P (when0 (Event s) p q) E r
    → E.now s ≡ false → E.eoi ≡ true → r.flag ≡ STOP
absent_stops (r17 v e d) a h = absurd (false≢true (sym e ∙ h))
absent_stops {E = E} {s = s} (r18 v e) a h = absurd (false≢true (sym a ∙ present s E v))
absent_stops (r19 v e d) a h = absurd (false≢true (sym e ∙ h))
absent_stops (r20 v e) a h = refl
absent_stops {E = E} {s = s} (r21 v) a h = absurd (known_at_end (Event s) E h v)

-- needed only if possible
possibly : (possible so : Bool) → (possible ≡ true → so ≡ true) → only_if possible so ≡ true
possibly true so f = f refl
possibly false so f = refl

needs : (possible so : Bool) → only_if possible so ≡ true → possible ≡ true → so ≡ true
needs true so h e = h
needs false so h e = absurd (false≢true e)

-- a Loop that is endless now was so before
endless_both : {p : Program} (v : Parts p) → endless_parts v ≡ true → endless_parts_before v ≡ true
endless_both (no_part f) h = h
endless_both {p} (one_part {q = q} f v) h = let k = both {a = eqb (kind p) 5} h in rw k.0 (go (stopped_before q) refl k.1)
  where
    go : (b : Bool) → stopped_before q ≡ b → not (stops q) ≡ true → not b ≡ true
    go true e k = absurd (false≢true (rw (still_stops q e) at k))
    go false e k = refl
endless_both (two_parts f v w) h = h

-- of two tests of nodes the one that more pass finds its first no later
first_earlier : (f g : Node → Bool) → ((x : Node) → f x ≡ true → g x ≡ true) → (l : List Node) → first_such g l ≤ first_such f l
unfolding first_such
first_earlier f g h [] = omega arith
first_earlier f g h (x ∷ l) = go (f x) (g x) (h x) (first_earlier f g h l)
  where
    go : (a b : Bool) → (a ≡ true → b ≡ true) → first_such g l ≤ first_such f l
        → cond b 0 (suc (first_such g l)) ≤ cond a 0 (suc (first_such f l))
    go true b k e = rw (k refl) (omega arith)
    go false true k e = omega arith
    go false false k e = omega arith

-- a refused answer isn't an accepted one
not_accepted : {g a w f : ℕ} (c : Verdict) (n : ℕ) → number_of c ≡ suc n → c ≡ accepted_with g a w f → ⊥
unfolding number_of
not_accepted c n h e = let z = ap number_of e in omega arith

-- what the program of a table accepted before had
record AllowedBefore (p : Program) (g a w f : ℕ) : Type 0 where
  shallow : ltb (first_such deep (preorder 1 p)) (size p) ≡ false
  loops : size p ≤ first_such endless_before (preorder 1 p)
  figures_are : (g ≡ G_before p) × (a ≡ A_before p) × (w ≡ W_before p) × (f ≡ F_before p)
  few : (G_before p ≤ 4094) × (A_before p ≤ 4096) × (W_before p ≤ 65535) × (F_before p ≤ 16384)

allowed_before : (p : Program) {g a w f : ℕ} → program_before p ≡ accepted_with g a w f → AllowedBefore p g a w f
unfolding program_before light_before number_of
allowed_before p {g} {a} {w} {f} h =
    let Is : Verdict → Type 0 = λ c. c ≡ accepted_with g a w f in
    let deep_one = passed Is (ltb (first_such deep (preorder 1 p)) (size p)) h (not_accepted (Err (TooDeep _)) 5 refl) in
    let loop_one = passed Is (ltb (first_such endless_before (preorder 1 p)) (size p)) deep_one.1 (not_accepted (Err (EndlessLoop _)) 6 refl) in
    let (light_one, same) = chosen Is (light_before p) loop_one.1 (not_accepted (Err TooHeavy) 7 refl) in
    let figures : ◌≡◌ {A = Figures} (record { generations = g; atoms = a; nodes = w; parked = f })
    (record { generations = G_before p; atoms = A_before p; nodes = W_before p; parked = F_before p }) = cc in
    let few-G = both {a = leb (G_before p) 4094} light_one in
    let few-A = both {a = leb (A_before p) 4096} few-G.1 in
    let few-W = both {a = leb (W_before p) 65535} few-A.1 in
    record {
      shallow = deep_one.0;
      loops = ltb-false (first_such endless_before (preorder 1 p)) (size p) loop_one.0;
      figures_are = (ap (λ x. x.generations) figures, ap (λ x. x.atoms) figures, ap (λ x. x.nodes) figures, ap (λ x. x.parked) figures);
      few = (
        leb-true (G_before p) 4094 few-G.0,
        leb-true (A_before p) 4096 few-A.0,
        leb-true (W_before p) 65535 few-W.0,
        leb-true (F_before p) 16384 few-W.1,
      );
    }

-- it is allowed now
still_allowed : (p : Program) {g a w f : ℕ} → AllowedBefore p g a w f → program_verdict p ≡ accepted_with (G p) (A p) (W p) (F p)
unfolding program_verdict light
still_allowed p b =
    let later = first_earlier endless endless_before (λ x. endless_both (parts x.part)) (preorder 1 p) in
    rw (
      b.shallow,
      le-ltb (first_such endless (preorder 1 p)) (size p) (le_trans b.loops later),
      le-leb (G p) 4094 (le_trans (no_larger (per 7) p) b.few.0),
      le-leb (A p) 4096 (le_trans (no_larger (per 2) p) b.few.1),
      le-leb (W p) 65535 (le_trans (no_larger every p) b.few.2),
      le-leb (F p) 16384 (le_trans (no_larger parking p) b.few.3),
    )

-- its verdict before was its program's, and none of 1 to 5
past_before : (t : List ℕ) {g a w f : ℕ} → verdict_before t ≡ accepted_with g a w f
    → Past5 (verdict_of t) × (program_before (tree_of t) ≡ accepted_with g a w f)
unfolding verdict_before number_of
past_before t {g} {a} {w} {f} h = go (leb 1 n) refl (leb n 5) refl h
  where
    n : ℕ
    n = number_of (verdict_of t)

    go : (x : Bool) → leb 1 n ≡ x → (y : Bool) → leb n 5 ≡ y → cond (x && y) (verdict_of t) (program_before (tree_of t)) ≡ accepted_with g a w f
        → Past5 (verdict_of t) × (program_before (tree_of t) ≡ accepted_with g a w f)
    go true e true f h = let z = ap number_of h in absurd (omega (arith, leb-true 1 n e))
    go true e false f h = (λ l. leb-false n 5 f, h)
    go false e y f h = (λ l. absurd (omega (arith, leb-false 1 n e)), h)

accepts_still : (t : List ℕ) {g a w f : ℕ} → verdict_before t ≡ accepted_with g a w f → StillAccepted t g a w f
accepts_still t h =
    let (past, before) = past_before t h in
    let table = past_5 t past in
    let p = tree_of t in
    let b = allowed_before p before in
    let (g_is, a_is, w_is, f_is) = b.figures_are in
    record {
      tree = p;
      spelled =
          spells_tree t table.loaded.configurations_good table.loaded.framed.n_least table.loaded.nodes_good;
      before = b.figures_are;
      now = table.verdict_is ∙ still_allowed p b;
      no_larger = (
        rw g_is (no_larger (per 7) p),
        rw a_is (no_larger (per 2) p),
        rw w_is (no_larger every p),
        rw f_is (no_larger parking p),
      );
    }

pub harmless_loops : HarmlessLoops
unfolding verdict_before program_before light_before verdict_of records_verdict nodes_verdict program_verdict length_good counts_good distances_good
    preorder first_such light lowest number_of good_configuration good_but_height height_at_most part_count good_node is_laid_out children argument_limit
    program_of configuration_of form size kind stops stopped_before figure figure_before early_true early_false
harmless_loops =
    record {
      turned_away = refl;
      absent = absent_unknown;
      then_stops = λ d. absent_stops d;
      accepted_now = refl;
      mistaken = (When (Event 0) Stop Nothing, refl, λ value X n r i. stops_right (When (Event 0) Stop Nothing) i refl);
      true_early = sat_early;
      false_early = unsat_early;
      of_event = λ s. (refl, refl);
      of_not = λ c. (refl, refl);
      of_and = λ c d. (refl, refl);
      of_or = λ c d. (refl, refl);
      await_stops = λ c. refl;
      when_stops = λ c p q f g.
          (and-eq-true_iff _ _).1 (possibly (early_true c) (stops p) f, possibly (early_false c) (stops q) g);
      when_needs = λ c p q h.
          let k = both {a = only_if (early_true c) (stops p)} h in
          (needs (early_true c) (stops p) k.0, needs (early_false c) (stops q) k.1);
      until_stops = λ c p q h f. (and-eq-true_iff _ _).1 (h, possibly (early_true c) (stops q) f);
      until_needs = λ c p q h. let k = both {a = stops p} h in (k.0, needs (early_true c) (stops q) k.1);
      stops_right = λ p h value X n r i. stops_right p i h;
      refusal_7 = λ p. refl;
      figures = λ k n p. refl;
      still_accepted = λ t h. accepts_still t h;
    }
