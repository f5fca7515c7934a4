-- Request L2, "Harmless loops are turned away", sentence by sentence.
use Rattle.std.specs.Prelude.{Err, ℕ, ◌+◌, ◌*◌, ◌≤◌, min, Bool, true, false, cond, not, ◌&&◌, ◌||◌, ◌≡◌, ◌≢◌, List, ◌++◌, eqb, leb, ltb}
use Rattle.events.specs.Events.{Events}
use Rattle.junior.specs.declared.Flag.TheVariants.{STOP, TERM}
use Rattle.junior.specs.Configuration.{Env, handed_in, Config, Event, Not, And, Or, sat, unsat, unknown, early_true, early_false}
use Rattle.junior.specs.Program.{Program, Loop, Repeat, Await, When, Until, kind, Parts, no_part, one_part, two_parts, parts, size}
use Rattle.junior.specs.Term.{when0, fresh}
use Rattle.junior.specs.Trace.{Place}
use Rattle.junior.specs.Rules.{left_first, Result, Rewrites}
use Rattle.junior.specs.Instant.{Instant}
use Rattle.junior.specs.Values.{Values, exactly}
use Rattle.junior.specs.Figures.{stops, figure, parking, G, A, W, F}
use Rattle.junior.specs.StoppedBefore.{stopped_before, figure_before, G_before, A_before, W_before}
use Rattle.table.specs.declared.TableRefusal.TheVariants.{TooDeep, EndlessLoop, TooHeavy}
use Rattle.table.specs.Bytes.{node, configuration, trailer}
use Rattle.table.specs.Spells.{Spells, tree_of}
use Rattle.table.specs.Verdict.{Verdict, accepted_with, number_of, Node, preorder, first_such, deep, endless_loop, verdict_of}

-- Refusals 6 to 8 as they were before: a Loop whose body didn't stop, and the figures, by 01's rule; L8's figure by that rule too.
abbrev pub F_before : Program → ℕ
F_before p = figure_before parking p

abbrev pub endless_parts_before : {p : Program} → Parts p → Bool
endless_parts_before (no_part f) = false
endless_parts_before {p} (one_part {q = q} f v) = eqb (kind p) 5 && not (stopped_before q)
endless_parts_before (two_parts f v w) = false

abbrev pub endless_before : Node → Bool
endless_before x = endless_parts_before (parts x.part)

unfoldable pub light_before : Program → Bool
light_before p = leb (G_before p) 4094 && (leb (A_before p) 4096 && (leb (W_before p) 65535 && leb (F_before p) 16384))

unfoldable pub program_before : Program → Verdict
program_before p =
    let tooDeep = first_such deep (preorder 1 p) in
    let never = first_such endless_before (preorder 1 p) in
    cond
    (ltb tooDeep (size p))
    (Err (TooDeep tooDeep))
    (cond
    (ltb never (size p))
    (Err (EndlessLoop never))
    (cond (light_before p) (accepted_with (G_before p) (A_before p) (W_before p) (F_before p)) (Err TooHeavy)))

-- what checking a table answered before: refusals 1 to 5 ask nothing of what stops, and are what they were
unfoldable pub verdict_before : List ℕ → Verdict
verdict_before t =
    let number = number_of (verdict_of t) in
    let program = program_before (tree_of t) in
    cond (leb 1 number && leb number 5) (verdict_of t) program

-- Loop(When(0, Stop, Nothing))
abbrev pub bouquet : List ℕ
bouquet = node 5 0 4 ++ (node 9 0 3 ++ (node 1 0 1 ++ (node 0 0 1 ++ (configuration 0 0 1 ++ trailer 4 1 1 28 4))))

-- freshly begun, it doesn't end in that same instant
abbrev pub Unending : Program → Type 0
Unending p = (value : Values) (X : Events) (n : ℕ) (r : Result) → Instant (left_first value) (fresh p) (handed_in X) n r → r.flag ≢ TERM

-- t, accepted before with the figures g, a, w and f, is accepted now: the same tree, and no figure has grown
pub record StillAccepted (t : List ℕ) (g a w f : ℕ) : Type 0 where
  pub tree : Program
  pub spelled : Spells t 0 tree
  pub before : (g ≡ G_before tree) × (a ≡ A_before tree) × (w ≡ W_before tree) × (f ≡ F_before tree)
  pub now : verdict_of t ≡ accepted_with (G tree) (A tree) (W tree) (F tree)
  pub no_larger : (G tree ≤ g) × (A tree ≤ a) × (W tree ≤ w) × (F tree ≤ f)

pub record HarmlessLoops : Type 0 where
  -- "The bouquet team writes Loop(When(0, Stop, Nothing)) and gets 7,"
  pub turned_away : verdict_before bouquet ≡ Err (EndlessLoop 0)
  -- "though an absent event is only decided at the end"
  pub absent : (s : ℕ) (E : Env) → E.now s ≡ false → E.eoi ≡ false → unknown (Event s) E
  -- "and then stops the loop."
  pub then_stops : {value : Values} {P : Place} {E : Env} {s : ℕ} {p q : Program} {r : Result}
      → Rewrites (left_first value) P (when0 (Event s) p q) E r
      → E.now s ≡ false
      → E.eoi ≡ true
      → r.flag ≡ STOP
  pub accepted_now : verdict_of bouquet ≡ accepted_with 0 0 5 0
  -- "Document 01's stopping rule is mistaken.": a program is none that stops by it, and yet can't end in its instant
  pub mistaken : (p : Program) × (stopped_before p ≡ false) × Unending p
  -- "Say whether a configuration can be true early or false early:"
  pub true_early : (c : Config) (E : Env) → E.eoi ≡ false → sat c E → early_true c ≡ true
  pub false_early : (c : Config) (E : Env) → E.eoi ≡ false → unsat c E → early_false c ≡ true
  -- "an event early true only;"
  pub of_event : (s : ℕ) → (early_true (Event s) ≡ true) × (early_false (Event s) ≡ false)
  -- "not exchanges the two;"
  pub of_not : (c : Config) → (early_true (Not c) ≡ early_false c) × (early_false (Not c) ≡ early_true c)
  -- "and is early true if both can be, early false if either can;"
  pub of_and : (c d : Config)
      → (early_true (And c d) ≡ (early_true c && early_true d)) × (early_false (And c d) ≡ (early_false c || early_false d))
  -- "or the reverse."
  pub of_or : (c d : Config)
      → (early_true (Or c d) ≡ (early_true c || early_true d)) × (early_false (Or c d) ≡ (early_false c && early_false d))
  -- "Await stops if its configuration can't be early true."
  pub await_stops : (c : Config) → stops (Await c) ≡ not (early_true c)
  -- "When needs its then branch to stop only if early true is possible, its else branch only if early false is."
  pub when_stops : (c : Config) (p q : Program)
      → (early_true c ≡ true → stops p ≡ true)
      → (early_false c ≡ true → stops q ≡ true)
      → stops (When c p q) ≡ true
  pub when_needs : (c : Config) (p q : Program)
      → stops (When c p q) ≡ true
      → (early_true c ≡ true → stops p ≡ true) × (early_false c ≡ true → stops q ≡ true)
  -- "Until needs its body to stop, and its handler only if early true is possible."
  pub until_stops : (c : Config) (p q : Program)
      → stops p ≡ true
      → (early_true c ≡ true → stops q ≡ true)
      → stops (Until c p q) ≡ true
  pub until_needs : (c : Config) (p q : Program)
      → stops (Until c p q) ≡ true
      → (stops p ≡ true) × (early_true c ≡ true → stops q ≡ true)
  -- so what stops doesn't end in the instant that begins it
  pub stops_right : (p : Program) → stops p ≡ true → Unending p
  -- "Refusals 7 and 8 and the figures read by this rule;"
  pub refusal_7 : (p : Program) → endless_loop (Loop p) ≡ not (stops p)
  pub figures : (k : Program → ℕ) (n : ℕ) (p : Program)
      → figure k (Repeat (exactly n) p) ≡ k (Repeat (exactly n) p) + cond (stops p) (min n 2) n * figure k p
  -- "every table accepted before is still accepted."
  pub still_accepted : (t : List ℕ) {g a w f : ℕ} → verdict_before t ≡ accepted_with g a w f → StillAccepted t g a w f
