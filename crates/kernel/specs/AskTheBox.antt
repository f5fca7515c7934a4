-- Request L14, "Ask the box", sentence by sentence; the written form of If and RepeatExt is in text/specs/Examples. And which values the answer of
-- an instant depends on.
use Rattle.std.specs.Prelude.{ℕ, ◌+◌, ◌*◌, ◌≤◌, ◌<◌, min, false, ◌&&◌, ◌≡◌, List}
use Rattle.events.specs.Events.{Events}
use Rattle.junior.specs.Configuration.{Config, Env}
use Rattle.junior.specs.Values.{Values, runs_of, exactly, asked}
use Rattle.junior.specs.Program.{Program, Repeat, When, If, kind}
use Rattle.junior.specs.Term.{Term, fresh, repeat0, repeat1, when0, when1, when2, if0, if1, if2}
use Rattle.junior.specs.Trace.{Place, first, second}
use Rattle.junior.specs.Rules.{Allowed, Result, Rewrites, under}
use Rattle.junior.specs.Figures.{stops, times, figure}
use Rattle.junior.specs.AtRest.{AtRest}
use Rattle.junior.specs.Asked.{asks_in_all, Each, EachNamed, NamesNone}
use Rattle.table.specs.Records.{nodes, argument_at}
use Rattle.table.specs.Spells.{Spells, tree_of}
use Rattle.table.specs.Verdict.{verdict_of, number_of}
use Rattle.state.specs.StateBytes.{head}
use Rattle.kernel.specs.declared.Answer.{Answer}
use Rattle.kernel.specs.Answer.{Reply, Rooms, Run, Answered}

abbrev pub RepeatExt : ℕ → ℕ → Program → Program
RepeatExt v cap p = Repeat (asked v cap) p

pub record AskTheBox : Type 1 where
  -- "Add If and RepeatExt from source document 001, kinds 14 and 15."
  pub if_kind : (v : ℕ) (p q : Program) → kind (If v p q) ≡ 14
  pub ext_kind : (v cap : ℕ) (p : Program) → kind (RepeatExt v cap p) ≡ 15
  -- "The box hands in sixteen 8-bit values with each instant": an accepted table names no other
  pub sixteen : (t : List ℕ) → number_of (verdict_of t) ≡ 0 → EachNamed (λ v. v < 16) (tree_of t)
  -- "If's argument is a value's number, nonzero meaning the first branch."
  pub if_argument : (t : List ℕ) (i v : ℕ) (p q : Program) → Spells t i (If v p q) → argument_at t i ≡ v
  pub nonzero : {free : Allowed} {P : Place} {E : Env} {v : ℕ} {p q : Program} {r : Result}
      → Rewrites free P (if0 v p q) E r
      → 1 ≤ free.value v
      → (s : Result) × Rewrites free (first P) (fresh p) E s × (r ≡ under (λ x. if1 v x q) s)
  pub zero : {free : Allowed} {P : Place} {E : Env} {v : ℕ} {p q : Program} {r : Result}
      → Rewrites free P (if0 v p q) E r
      → free.value v ≡ 0
      → (s : Result) × Rewrites free (second P p) (fresh q) E s × (r ≡ under (if2 v p) s)
  -- "RepeatExt's argument is a cap times 16 plus a number, cap at most 255;"
  pub ext_argument : (t : List ℕ) (i v cap : ℕ) (p : Program)
      → Spells t i (RepeatExt v cap p) → (argument_at t i ≡ cap * 16 + v) × (v < 16)
  pub cap_at_most : (t : List ℕ) (i v cap : ℕ) (p : Program)
      → number_of (verdict_of t) ≡ 0
      → i < nodes t
      → Spells t i (RepeatExt v cap p)
      → cap ≤ 255
  -- "it runs the lesser of cap and value,"
  pub runs : (value : Values) (v cap : ℕ) → runs_of value (asked v cap) ≡ min cap (value v)
  -- "If .. stops if both branches stop and weighs as When;"
  pub if_stops : (v : ℕ) (p q : Program) → stops (If v p q) ≡ stops p && stops q
  pub if_weighs : (k : Program → ℕ) (v : ℕ) (c : Config) (p q : Program)
      → k (If v p q) ≡ k (When c p q)
      → figure k (If v p q) ≡ figure k (When c p q)
  -- "RepeatExt never counts as stopping, and its figure uses the cap."
  pub ext_stops : (v cap : ℕ) (p : Program) → stops (RepeatExt v cap p) ≡ false
  pub ext_weighs : (k : Program → ℕ) (v cap : ℕ) (p : Program)
      → figure k (RepeatExt v cap p) ≡ k (RepeatExt v cap p) + times cap (stops p) * figure k p
  -- "If keeps When's phases, RepeatExt Repeat's, its count below the cap."
  pub if_phases : (v : ℕ) (c : Config) (t : Term) (p q : Program)
      → (head (if0 v p q) ≡ head (when0 c p q)) × (head (if1 v t q) ≡ head (when1 c t q)) × (head (if2 v p t) ≡ head (when2 c p t))
  pub ext_phases : (v cap k n : ℕ) (t : Term) (p : Program)
      → (head (repeat0 (asked v cap) p) ≡ head (repeat0 (exactly n) p)) × (head (repeat1 (asked v cap) k t) ≡ head (repeat1 (exactly n) k t))
  pub count_below : (v cap k : ℕ) (t : Term) → AtRest (repeat1 (asked v cap) k t) → k < cap
  -- "Refusals: .. none new": nothing in an answer, and in no room, depends on a value that no If or RepeatExt which the instant begins names
  pub only_what_is_begun : {t s : List ℕ} {X : Events} {value value' : Values} {lent : Rooms} {s' : List ℕ} {left : Rooms} {r : Answer}
      → (x : Run t s X value lent s' left r)
      → Each (λ v. value v ≡ value' v) (asks_in_all x.instant)
      → Run t s X value' lent s' left r
  pub only_what_is_named : {t s : List ℕ} {X : Events} {value value' : Values} {lent : Rooms} {s' : List ℕ} {left : Rooms} {r : Reply}
      → EachNamed (λ v. value v ≡ value' v) (tree_of t)
      → Answered t s X value lent s' left r
      → Answered t s X value' lent s' left r
  pub without_the_forms : {t s : List ℕ} {X : Events} {value value' : Values} {lent : Rooms} {s' : List ℕ} {left : Rooms} {r : Reply}
      → NamesNone (tree_of t)
      → Answered t s X value lent s' left r
      → Answered t s X value' lent s' left r
