-- An instant reports no event at or above V but what was handed in: a table's program generates listed events only. By the law of figures, with own
-- weights that count the generations of one event.
use Prim.Native.Nat.{ℕ, ◌+◌, ◌≤◌, ◌<◌}
use mathlib.Core.Bool.{Bool, true, false, cond, ◌||◌}
use mathlib.Core.Path.{◌≡◌, refl, ap, ◌∙◌}
use mathlib.Core.List.{List, [], ◌∷◌}
use native.Mathlib.Omega.{arith}
use lib.Dec.{eqb}
use borrow.Author.Tests.{ne_eqb}
use Rattle.events.specs.Events.{Events}
use Rattle.junior.specs.Configuration.{handed_in}
use Rattle.junior.specs.Program.{Program, Generate, Argument, no_argument, number, event, configuration, value, capped, argument, kind}
use Rattle.junior.specs.Program.{Leaf, nothing, stop, atom, generate, await, Parts, no_part, one_part, two_parts, parts}
use Rattle.junior.specs.Term.{Term, prog}
use Rattle.junior.specs.Trace.{Act, did_atom, did_generate, did_park, decided, waits, scope_answered, collect, generations}
use Rattle.junior.specs.Rules.{Allowed, Result}
use Rattle.junior.specs.Instant.{Instant}
use Rattle.junior.specs.AtRest.{AtRest}
use Rattle.junior.specs.Figures.{LoopsStop, figure}
use Rattle.junior.proofs.Figures.{cost, within_figure}
use Rattle.junior.proofs.Grows.{among, only_generated_in_all}
use Rattle.table.specs.Records.{nodes, events, kind_at, argument_at, second_child}
use Rattle.table.specs.Good.{children}
use Rattle.table.specs.Spells.{Argues, SpellsParts, Spells, tree_of}
use Rattle.table.specs.Verdict.{accepted_with, verdict_of}
use Rattle.table.specs.Inside.{Loaded}
use Rattle.table.proofs.Grown.{fine}
use Rattle.table.proofs.Parts.{part_count, by_kind, children_are, figures_of_none, weightless_one, weightless_two}
use Rattle.table.proofs.Subtrees.{rooted, body, pair}
use Rattle.kernel.proofs.Accepted.{admitted}

module _ (e : ℕ) where
  -- own weights: 1 for a Generate of event e
  abbrev names : Argument → ℕ
  names no_argument = 0
  names (number n) = 0
  names (event s) = cond (eqb e s) 1 0
  names (configuration c) = 0
  names (value v) = 0
  names (capped v cap) = 0

  abbrev raises : Program → ℕ
  raises p = cond (eqb (kind p) 7) (names (argument p)) 0

  -- acts that weigh nothing don't generate it
  none_raised : (l : List Act) → cost raises l ≡ 0 → among e (generations l) ≡ false
  unfolding cost among collect kind
  none_raised [] h = refl
  none_raised (did_atom a ∷ l) h = none_raised l (omega arith)
  none_raised (did_generate s ∷ l) h = go (eqb e s) h (none_raised l (omega arith))
    where
      go : (b : Bool) → cond b 1 0 + cost raises l ≡ 0 → among e (generations l) ≡ false → (b || among e (generations l)) ≡ false
      go true z more = absurd (omega arith)
      go false z more = more
  none_raised (did_park x ∷ l) h = none_raised l (omega arith)
  none_raised (decided P c b E ∷ l) h = none_raised l (omega arith)
  none_raised (waits P c E ∷ l) h = none_raised l (omega arith)
  none_raised (scope_answered n α b ∷ l) h = none_raised l (omega arith)

  -- a program whose events are listed weighs nothing, where e isn't listed
  module _ {t : List ℕ} (a : Loaded t) (past : events t ≤ e) where
    listed : (s i : ℕ) → i < nodes t → kind_at t i ≡ 7 → argument_at t i ≡ s → s < events t
    unfolding kind
    listed s i l k x =
        let below = rw ((by_kind (Generate s)).limit_is t) at (fine t i 7 k (a.nodes_good i l)).argument_below in
        omega arith

    -- a form with parts isn't a Generate
    not_raised : {p : Program} (v : Parts p) → 0 < part_count v → raises p ≡ 0
    unfolding children
    not_raised {p} v h = rw (ne_eqb (kind p) 7 (λ z. omega (arith, children_are v, ap children z)))

    leaf_weightless : {p : Program} (i : ℕ) → i < nodes t → kind_at t i ≡ kind p → Leaf p → Argues t i (argument p) → raises p ≡ 0
    unfolding kind
    leaf_weightless i l k nothing x = refl
    leaf_weightless i l k stop x = refl
    leaf_weightless i l k (atom n) x = refl
    leaf_weightless i l k (generate s) x = let below = listed s i l k x in rw (ne_eqb e s (λ z. omega arith))
    leaf_weightless i l k (await c) x = refl

    weightless : {p : Program} (v : Parts p) (i : ℕ) → i < nodes t → SpellsParts t i v → figure raises p ≡ 0
    weightless (no_part f) i l ((k, w), x) = (figures_of_none {e = 0} f).figure_is raises ∙ leaf_weightless i l k f x
    weightless (one_part f v) i l ((k, w), x, y) =
        weightless_one f raises (not_raised (one_part f v) (omega arith))
        (weightless v (i + 1) (body (rooted a) i l (ap children k ∙ children_are (one_part f v))).first_in y)
    weightless (two_parts f v w) i l ((k, s), x, y, z) =
        let c = pair (rooted a) i l (ap children k ∙ children_are (two_parts f v w)) in
        weightless_two f raises (not_raised (two_parts f v w) (omega arith))
        (weightless v (i + 1) c.first_in y) (weightless w (second_child t i) c.second_in z)

    all_weightless : (p : Program) (i : ℕ) → i < nodes t → Spells t i p → figure raises p ≡ 0
    unfolding Spells
    all_weightless p i l h = weightless (parts p) i l h

pub reports_listed : (t : List ℕ) {g a w f : ℕ} → verdict_of t ≡ accepted_with g a w f → {free : Allowed} {x : Term} {X : Events} {n : ℕ} {r : Result}
    → prog x ≡ tree_of t
    → AtRest x
    → Instant free x (handed_in X) n r
    → (e : ℕ)
    → events t ≤ e
    → X e ≡ false
    → r.env.now e ≡ false
reports_listed t v {x = x} {r = r} p rest i e past h =
    let table = admitted t v in
    let loops : LoopsStop (prog x) = rw p table.loops in
    let weight : figure (raises e) (prog x) ≡ 0 =
    rw p (all_weightless e table.loaded past (tree_of t) 0 table.loaded.framed.n_least table.placed.spelled) in
    let none : cost (raises e) r.acts ≡ 0 = omega (arith, within_figure (raises e) i loops rest) in
    only_generated_in_all i e (none_raised e r.acts none) h
