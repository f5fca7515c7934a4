-- Environments (000, 2.4) and configurations (000, 4.1).
use Rattle.std.specs.Prelude.{ℕ, Bool, true, false, not, ◌&&◌, ◌||◌, ◌≡◌}
use Rattle.events.specs.Events.{Events, put}
use Rattle.junior.specs.declared.Verdict.{Verdict}
use Rattle.junior.specs.declared.Verdict.TheVariants.{Sat, Unsat, Unknown}

-- E: the present events, whether the end of the instant is declared, whether something moved
pub record Env : Type 0 where
  pub now : Events
  pub eoi : Bool
  pub move : Bool

-- E with s in its events exactly if b: E+S, E-S, and E/F[S] at b = F s
abbrev pub with_event : ℕ → Bool → Env → Env
with_event s b E = record { now = put s b E.now; eoi = E.eoi; move = E.move }

-- (E+S)[move = true]
abbrev pub generated : ℕ → Env → Env
generated s E = record { now = put s true E.now; eoi = E.eoi; move = true }

-- E[eoi = true]
abbrev pub declared_end : Env → Env
declared_end E = record { now = E.now; eoi = true; move = E.move }

-- E[move = false]
abbrev pub unmoved : Env → Env
unmoved E = record { now = E.now; eoi = E.eoi; move = false }

-- what an instant begins with: the events handed in, end and move false
abbrev pub handed_in : Events → Env
handed_in X = record { now = X; eoi = false; move = false }

pub data Config : Type 0 where
  Event : ℕ → Config
  Not : Config → Config
  And Or : Config → Config → Config

-- eval(C, E), which reads the events alone
unfoldable pub eval : Config → Events → Bool
eval (Event s) X = X s
eval (Not c) X = not (eval c X)
eval (And c d) X = eval c X && eval d X
eval (Or c d) X = eval c X || eval d X

-- fixed(C, E)
unfoldable pub fixed : Config → Env → Bool
fixed (Event s) E = E.now s || E.eoi
fixed (Not c) E = fixed c E
fixed (And c d) E =
    ((fixed c E && fixed d E) || (fixed c E && not (eval c E.now))) || (fixed d E && not (eval d E.now))
fixed (Or c d) E = ((fixed c E && fixed d E) || (fixed c E && eval c E.now)) || (fixed d E && eval d E.now)

-- what fixed and eval come to
abbrev pub verdict : Bool → Bool → Verdict
verdict true true = Sat
verdict true false = Unsat
verdict false b = Unknown

unfoldable pub test : Config → Env → Verdict
test c E = verdict (fixed c E) (eval c E.now)

-- sat(C, E): fixed and true; unsat(C, E): fixed and false; unknown(C, E): not fixed
abbrev pub sat : Config → Env → Type 0
sat c E = test c E ≡ Sat

abbrev pub unsat : Config → Env → Type 0
unsat c E = test c E ≡ Unsat

abbrev pub unknown : Config → Env → Type 0
unknown c E = test c E ≡ Unknown

-- Reading a configuration early, before the end is declared (L2): "Say whether a configuration can be true early or false early: an event
-- early true only; not exchanges the two; and is early true if both can be, early false if either can; or the reverse." This goes by the
-- form alone: `(0 and (not 0))` can be early false only.
unfoldable mutual
  pub early_true : Config → Bool
  early_true (Event s) = true
  early_true (Not c) = early_false c
  early_true (And c d) = early_true c && early_true d
  early_true (Or c d) = early_true c || early_true d

  pub early_false : Config → Bool
  early_false (Event s) = false
  early_false (Not c) = early_true c
  early_false (And c d) = early_false c || early_false d
  early_false (Or c d) = early_false c && early_false d
