-- 000's own terms and rules, to be held beside 000, and 001's for If and RepeatExt (L14): as printed, but where a comment tells what 01, "Rules of
-- a pass", settles. Below them, how a program translates (000, 2.2; 001, 2.3), how a state reads (01, "State"; L8), what a trace does and what
-- parked pieces make of the table of frozen instructions.
use Rattle.std.specs.Prelude.{ℕ, suc, ◌-◌, ◌≤◌, ◌<◌, min, Bool, true, false, cond, ◌≡◌, ◌≢◌, ◌⊎◌, List, [], ◌∷◌, ◌++◌, eqb}
use Rattle.events.specs.Events.{Events}
use Rattle.junior.specs.declared.Flag.{Flag}
use Rattle.junior.specs.declared.Flag.TheVariants.{SUSP, STOP, TERM}
use Rattle.junior.specs.declared.Verdict.{Verdict}
use Rattle.junior.specs.declared.Verdict.TheVariants.{Sat, Unsat, Unknown}
use Rattle.junior.specs.Flags.{γ, δ₁, δ₂}
use Rattle.junior.specs.Configuration.{Config, Event, Env, verdict, test, with_event as with_event_seen}
use Rattle.junior.specs.Configuration.{generated as generated_seen, declared_end as declared_end_seen, unmoved as unmoved_seen}
use Rattle.junior.specs.Values.{Values, nonzero, Times, exactly, asked}
use Rattle.junior.specs.Program.{Program}
use Rattle.junior.specs.Term.{Term, done, nothing, stop, atom, generate, await, seq0, seq2, par, loop0, loop1}
use Rattle.junior.specs.Term.{repeat0, repeat1, when0, when1, when2, until0, until*, until2, control, local, freezable0, freezable*, if0, if1}
use Rattle.junior.specs.Term.{if2, prog}
use Rattle.junior.specs.Trace.{Piece, Act, did_atom, did_generate, did_park, decided, waits, scope_answered}

-- terms (2.1; 001, 2.3); actions, events and counts are numbers from 0 on (01). An If's expression is a value's number, a RepeatExt's also a cap (L14).
pub data Abstract : Type 0 where
  Nothing Stop : Abstract
  Atom Generate : ℕ → Abstract
  Await : Config → Abstract
  Loop : Abstract → Abstract
  Repeat : ℕ → Abstract → Abstract
  Seq : Abstract → Abstract → Abstract
  Par : Flag → Flag → Abstract → Abstract → Abstract
  When Until Until* : Config → Abstract → Abstract → Abstract
  Control Local- Local+ Freezable Freezable* : ℕ → Abstract → Abstract
  If : ℕ → Abstract → Abstract → Abstract
  RepeatExt : ℕ → ℕ → Abstract → Abstract

-- 01: what answers TERM leaves Nothing. Used where the printed conclusion keeps its construct around a part that may
-- have ended.
unfoldable pub leaves : Flag → Abstract → Abstract
leaves SUSP t = t
leaves STOP t = t
leaves TERM t = Nothing

-- E (2.4): the present events, eoi(E), move(E) and the table of frozen instructions; E{S} is E.frozen S
pub record World : Type 0 where
  pub now : Events
  pub eoi : Bool
  pub move : Bool
  pub frozen : ℕ → Abstract

-- an environment of ours (specs/Configuration.antt), with a table of frozen instructions; and such a one without its table
abbrev pub world : Env → (ℕ → Abstract) → World
world E T = record { now = E.now; eoi = E.eoi; move = E.move; frozen = T }

abbrev pub seen : World → Env
seen E = record { now = E.now; eoi = E.eoi; move = E.move }

-- E+S, E-S and E/F[S]; (E+S)[move = true]; E[eoi = true]; E[move = false]
abbrev pub with_event : ℕ → Bool → World → World
with_event s b E = world (with_event_seen s b (seen E)) E.frozen

abbrev pub generated : ℕ → World → World
generated s E = world (generated_seen s (seen E)) E.frozen

abbrev pub declared_end : World → World
declared_end E = world (declared_end_seen (seen E)) E.frozen

abbrev pub unmoved : World → World
unmoved E = world (unmoved_seen (seen E)) E.frozen

-- E{S := t}
abbrev pub associated : ℕ → Abstract → (ℕ → Abstract) → (ℕ → Abstract)
associated s t T e = cond (eqb e s) t (T e)

abbrev pub with_frozen : ℕ → Abstract → World → World
with_frozen s t E = world (seen E) (associated s t E.frozen)

-- sat(C, E), unsat(C, E), unknown(C, E)
abbrev pub sat : Config → World → Type 0
sat c E = test c (seen E) ≡ Sat

abbrev pub unsat : Config → World → Type 0
unsat c E = test c (seen E) ≡ Unsat

abbrev pub unknown : Config → World → Type 0
unknown c E = test c (seen E) ≡ Unknown

-- what a rule does: it executes an action (rule 3, "with the side-effect of executing atomically action a"), generates an
-- event (rule 16), or reads a configuration and finds it sat, unsat or unknown (every rule with such a premise; rules 42 to 45 read that of
-- one event). What it freezes stands in its environment.
pub data Deed : Type 0 where
  does generates : ℕ → Deed
  finds : Config → Verdict → Deed

-- t, E —α→ t', E' (2.3), doing l, in order, the box's values being as `eval` says
infix 4 ◌⊢◌∣◌—[◌doing◌]→◌∣◌
pub data ◌⊢◌∣◌—[◌doing◌]→◌∣◌ (eval : Values) : Abstract → World → Flag → List Deed → Abstract → World → Type 0 where
  rule1 : {E : World} → eval ⊢ Nothing ∣ E —[ TERM doing [] ]→ Nothing ∣ E
  rule2 : {E : World} → eval ⊢ Stop ∣ E —[ STOP doing [] ]→ Nothing ∣ E
  rule3 : {E : World} {a : ℕ} → eval ⊢ Atom a ∣ E —[ TERM doing does a ∷ [] ]→ Nothing ∣ E
  rule4 : {t t' u u' : Abstract} {E E' E'' : World} {α : Flag} {k l : List Deed}
      → eval ⊢ t ∣ E —[ TERM doing k ]→ t' ∣ E' → eval ⊢ u ∣ E' —[ α doing l ]→ u' ∣ E''
      → eval ⊢ Seq t u ∣ E —[ α doing k ++ l ]→ u' ∣ E''
  rule5 : {t t' u : Abstract} {E E' : World} {α : Flag} {l : List Deed}
      → eval ⊢ t ∣ E —[ α doing l ]→ t' ∣ E' → α ≢ TERM → eval ⊢ Seq t u ∣ E —[ α doing l ]→ Seq t' u ∣ E'
  -- 01: with both flags SUSP this rule only. Rules 6 and 7, which run one branch, are never taken; rule 9, the second
  -- branch first, isn't either (`Rewrites` has it as a parameter, for a later request)
  rule8 : {t t' u u' : Abstract} {E E' E'' : World} {α β : Flag} {k l : List Deed}
      → eval ⊢ t ∣ E —[ α doing k ]→ t' ∣ E' → eval ⊢ u ∣ E' —[ β doing l ]→ u' ∣ E''
      → eval ⊢ Par SUSP SUSP t u ∣ E —[ γ α β doing k ++ l ]→ leaves (γ α β) (Par (δ₁ α β) (δ₂ α β) t' u') ∣ E''
  rule10 : {t t' u : Abstract} {E E' : World} {α β : Flag} {l : List Deed}
      → β ≢ SUSP → eval ⊢ t ∣ E —[ α doing l ]→ t' ∣ E'
      → eval ⊢ Par SUSP β t u ∣ E —[ γ α β doing l ]→ leaves (γ α β) (Par (δ₁ α β) (δ₂ α β) t' u) ∣ E'
  rule11 : {t u u' : Abstract} {E E' : World} {α β : Flag} {l : List Deed}
      → α ≢ SUSP → eval ⊢ u ∣ E —[ β doing l ]→ u' ∣ E'
      → eval ⊢ Par α SUSP t u ∣ E —[ γ α β doing l ]→ leaves (γ α β) (Par (δ₁ α β) (δ₂ α β) t u') ∣ E'
  rule12 : {t t' : Abstract} {E E' : World} {α : Flag} {l : List Deed}
      → eval ⊢ t ∣ E —[ α doing l ]→ t' ∣ E' → α ≢ TERM → eval ⊢ Loop t ∣ E —[ α doing l ]→ Seq t' (Loop t) ∣ E'
  -- its second premise is in E' (001; 000 prints E)
  rule13 : {t t' u : Abstract} {E E' E'' : World} {α : Flag} {k l : List Deed}
      → eval ⊢ t ∣ E —[ TERM doing k ]→ t' ∣ E' → eval ⊢ Loop t ∣ E' —[ α doing l ]→ u ∣ E''
      → eval ⊢ Loop t ∣ E —[ α doing k ++ l ]→ u ∣ E''
  rule14 : {t : Abstract} {E : World} {n : ℕ} → n ≤ 0 → eval ⊢ Repeat n t ∣ E —[ TERM doing [] ]→ Nothing ∣ E
  rule15 : {t u : Abstract} {E E' : World} {n : ℕ} {α : Flag} {l : List Deed}
      → 0 < n → eval ⊢ Seq t (Repeat (n - 1) t) ∣ E —[ α doing l ]→ u ∣ E' → eval ⊢ Repeat n t ∣ E —[ α doing l ]→ u ∣ E'
  rule16 : {E : World} {s : ℕ} → eval ⊢ Generate s ∣ E —[ TERM doing generates s ∷ [] ]→ Nothing ∣ generated s E
  rule17 : {c : Config} {t t' u : Abstract} {E E' : World} {α : Flag} {l : List Deed}
      → sat c E → E.eoi ≡ false → eval ⊢ t ∣ E —[ α doing l ]→ t' ∣ E'
      → eval ⊢ When c t u ∣ E —[ α doing finds c Sat ∷ l ]→ t' ∣ E'
  rule18 : {c : Config} {t u : Abstract} {E : World}
      → sat c E → E.eoi ≡ true → eval ⊢ When c t u ∣ E —[ STOP doing finds c Sat ∷ [] ]→ t ∣ E
  rule19 : {c : Config} {t u u' : Abstract} {E E' : World} {α : Flag} {l : List Deed}
      → unsat c E → E.eoi ≡ false → eval ⊢ u ∣ E —[ α doing l ]→ u' ∣ E'
      → eval ⊢ When c t u ∣ E —[ α doing finds c Unsat ∷ l ]→ u' ∣ E'
  rule20 : {c : Config} {t u : Abstract} {E : World}
      → unsat c E → E.eoi ≡ true → eval ⊢ When c t u ∣ E —[ STOP doing finds c Unsat ∷ [] ]→ u ∣ E
  rule21 : {c : Config} {t u : Abstract} {E : World}
      → unknown c E → eval ⊢ When c t u ∣ E —[ SUSP doing finds c Unknown ∷ [] ]→ When c t u ∣ E
  rule22 : {c : Config} {E : World}
      → sat c E → E.eoi ≡ false → eval ⊢ Await c ∣ E —[ TERM doing finds c Sat ∷ [] ]→ Nothing ∣ E
  rule23 : {c : Config} {E : World}
      → sat c E → E.eoi ≡ true → eval ⊢ Await c ∣ E —[ STOP doing finds c Sat ∷ [] ]→ Nothing ∣ E
  rule24 : {c : Config} {E : World} → unsat c E → eval ⊢ Await c ∣ E —[ STOP doing finds c Unsat ∷ [] ]→ Await c ∣ E
  rule25 : {c : Config} {E : World} → unknown c E → eval ⊢ Await c ∣ E —[ SUSP doing finds c Unknown ∷ [] ]→ Await c ∣ E
  -- 01: it keeps the body's environment (001; 000 prints E)
  rule26 : {s : ℕ} {t t' : Abstract} {E E' : World} {α : Flag} {l : List Deed}
      → sat (Event s) E → eval ⊢ t ∣ E —[ α doing l ]→ t' ∣ E'
      → eval ⊢ Control s t ∣ E —[ α doing finds (Event s) Sat ∷ l ]→ leaves α (Control s t') ∣ E'
  rule27 : {s : ℕ} {t : Abstract} {E : World}
      → unsat (Event s) E → eval ⊢ Control s t ∣ E —[ STOP doing finds (Event s) Unsat ∷ [] ]→ Control s t ∣ E
  rule28 : {s : ℕ} {t : Abstract} {E : World}
      → unknown (Event s) E → eval ⊢ Control s t ∣ E —[ SUSP doing finds (Event s) Unknown ∷ [] ]→ Control s t ∣ E
  rule29 : {c : Config} {t t' u : Abstract} {E E' : World} {α : Flag} {l : List Deed}
      → eval ⊢ t ∣ E —[ α doing l ]→ t' ∣ E' → α ≢ STOP → eval ⊢ Until c t u ∣ E —[ α doing l ]→ leaves α (Until c t' u) ∣ E'
  rule30 : {c : Config} {t t' u v : Abstract} {E E' E'' : World} {α : Flag} {k l : List Deed}
      → eval ⊢ t ∣ E —[ STOP doing k ]→ t' ∣ E' → eval ⊢ Until* c t' u ∣ E' —[ α doing l ]→ v ∣ E''
      → eval ⊢ Until c t u ∣ E —[ α doing k ++ l ]→ v ∣ E''
  rule31 : {c : Config} {t u u' : Abstract} {E E' : World} {α : Flag} {l : List Deed}
      → sat c E → E.eoi ≡ false → eval ⊢ u ∣ E —[ α doing l ]→ u' ∣ E'
      → eval ⊢ Until* c t u ∣ E —[ α doing finds c Sat ∷ l ]→ u' ∣ E'
  rule32 : {c : Config} {t u : Abstract} {E : World}
      → sat c E → E.eoi ≡ true → eval ⊢ Until* c t u ∣ E —[ STOP doing finds c Sat ∷ [] ]→ u ∣ E
  -- 01: whether or not the end is declared (001; 000 adds eoi(E) = true)
  rule33 : {c : Config} {t u : Abstract} {E : World}
      → unsat c E → eval ⊢ Until* c t u ∣ E —[ STOP doing finds c Unsat ∷ [] ]→ Until c t u ∣ E
  rule34 : {c : Config} {t u : Abstract} {E : World}
      → unknown c E → eval ⊢ Until* c t u ∣ E —[ SUSP doing finds c Unknown ∷ [] ]→ Until* c t u ∣ E
  rule35 : {s : ℕ} {t t' : Abstract} {E E' : World} {l : List Deed}
      → eval ⊢ t ∣ with_event s false E —[ SUSP doing l ]→ t' ∣ E' → E'.now s ≡ false
      → eval ⊢ Local- s t ∣ E —[ SUSP doing l ]→ Local- s t' ∣ with_event s (E.now s) E'
  rule36 : {s : ℕ} {t t' : Abstract} {E E' : World} {l : List Deed}
      → eval ⊢ t ∣ with_event s false E —[ SUSP doing l ]→ t' ∣ E' → E'.now s ≡ true
      → eval ⊢ Local- s t ∣ E —[ SUSP doing l ]→ Local+ s t' ∣ with_event s (E.now s) E'
  rule37 : {s : ℕ} {t t' : Abstract} {E E' : World} {l : List Deed}
      → eval ⊢ t ∣ with_event s true E —[ SUSP doing l ]→ t' ∣ E'
      → eval ⊢ Local+ s t ∣ E —[ SUSP doing l ]→ Local+ s t' ∣ with_event s (E.now s) E'
  rule38 : {s : ℕ} {t t' : Abstract} {E E' : World} {α : Flag} {l : List Deed}
      → eval ⊢ t ∣ with_event s false E —[ α doing l ]→ t' ∣ E' → (α ≡ TERM) ⊎ (α ≡ STOP)
      → eval ⊢ Local- s t ∣ E —[ α doing l ]→ leaves α (Local- s t') ∣ with_event s (E.now s) E'
  rule39 : {s : ℕ} {t t' : Abstract} {E E' : World} {α : Flag} {l : List Deed}
      → eval ⊢ t ∣ with_event s true E —[ α doing l ]→ t' ∣ E' → (α ≡ TERM) ⊎ (α ≡ STOP)
      → eval ⊢ Local+ s t ∣ E —[ α doing l ]→ leaves α (Local- s t') ∣ with_event s (E.now s) E'
  rule40 : {s : ℕ} {t t' : Abstract} {E E' : World} {α : Flag} {l : List Deed}
      → eval ⊢ t ∣ E —[ α doing l ]→ t' ∣ E' → α ≢ STOP → eval ⊢ Freezable s t ∣ E —[ α doing l ]→ leaves α (Freezable s t') ∣ E'
  rule41 : {s : ℕ} {t t' v : Abstract} {E E' E'' : World} {α : Flag} {k l : List Deed}
      → eval ⊢ t ∣ E —[ STOP doing k ]→ t' ∣ E' → eval ⊢ Freezable* s t' ∣ E' —[ α doing l ]→ v ∣ E''
      → eval ⊢ Freezable s t ∣ E —[ α doing k ++ l ]→ v ∣ E''
  -- its Par is the abstract one, both flags SUSP, as it is initially (2.2)
  rule42 : {s : ℕ} {t : Abstract} {E : World}
      → E.now s ≡ true → E.eoi ≡ false
      → eval ⊢ Freezable* s t ∣ E —[ TERM doing finds (Event s) Sat ∷ [] ]→ Nothing ∣ with_frozen s (Par SUSP SUSP t (E.frozen s)) E
  rule43 : {s : ℕ} {t : Abstract} {E : World}
      → E.now s ≡ true → E.eoi ≡ true
      → eval ⊢ Freezable* s t ∣ E —[ STOP doing finds (Event s) Sat ∷ [] ]→ Nothing ∣ with_frozen s (Par SUSP SUSP t (E.frozen s)) E
  rule44 : {s : ℕ} {t : Abstract} {E : World}
      → E.now s ≡ false → E.eoi ≡ true → eval ⊢ Freezable* s t ∣ E —[ STOP doing finds (Event s) Unsat ∷ [] ]→ Freezable s t ∣ E
  rule45 : {s : ℕ} {t : Abstract} {E : World}
      → E.now s ≡ false → E.eoi ≡ false → eval ⊢ Freezable* s t ∣ E —[ SUSP doing finds (Event s) Unknown ∷ [] ]→ Freezable* s t ∣ E
  -- 001, "Boolean Test", eval(exp) = true and eval(exp) = false, and "Extended Repeat", eval(exp) = n
  if_true : {v : ℕ} {t t' u : Abstract} {E E' : World} {α : Flag} {l : List Deed}
      → nonzero (eval v) ≡ true → eval ⊢ t ∣ E —[ α doing l ]→ t' ∣ E' → eval ⊢ If v t u ∣ E —[ α doing l ]→ t' ∣ E'
  if_false : {v : ℕ} {t u u' : Abstract} {E E' : World} {α : Flag} {l : List Deed}
      → nonzero (eval v) ≡ false → eval ⊢ u ∣ E —[ α doing l ]→ u' ∣ E' → eval ⊢ If v t u ∣ E —[ α doing l ]→ u' ∣ E'
  repeat_ext : {v cap n : ℕ} {t t' : Abstract} {E E' : World} {α : Flag} {l : List Deed}
      → min cap (eval v) ≡ n → eval ⊢ Repeat n t ∣ E —[ α doing l ]→ t' ∣ E' → eval ⊢ RepeatExt v cap t ∣ E —[ α doing l ]→ t' ∣ E'

-- Instant(t), E —α→ Instant(t'), E' (5.2; 000 leaves out E before the arrow), doing what all its passes do, with their
-- number. Rule 46 runs it from an environment without events and without frozen instructions: 01 hands events in, b is its `finished`, and by L8
-- what was frozen "lasts over instants until a piece is taken".
infix 4 ◌⊢◌∣◌—[◌doing◌]—◌passes→◌∣◌
pub data ◌⊢◌∣◌—[◌doing◌]—◌passes→◌∣◌ (eval : Values) : Abstract → World → Flag → List Deed → ℕ → Abstract → World → Type 0 where
  rule47 : {t t' : Abstract} {E E' : World} {α : Flag} {l : List Deed}
      → eval ⊢ t ∣ E —[ α doing l ]→ t' ∣ E' → α ≢ SUSP → eval ⊢ t ∣ E —[ α doing l ]— 1 passes→ t' ∣ E'
  rule48 : {t t' u : Abstract} {E E' E'' : World} {α : Flag} {n : ℕ} {k l : List Deed}
      → eval ⊢ t ∣ E —[ SUSP doing k ]→ t' ∣ E' → E'.move ≡ false → eval ⊢ t' ∣ declared_end E' —[ α doing l ]— n passes→ u ∣ E''
      → eval ⊢ t ∣ E —[ α doing k ++ l ]— suc n passes→ u ∣ E''
  rule49 : {t t' u : Abstract} {E E' E'' : World} {α : Flag} {n : ℕ} {k l : List Deed}
      → eval ⊢ t ∣ E —[ SUSP doing k ]→ t' ∣ E' → E'.move ≡ true → eval ⊢ t' ∣ unmoved E' —[ α doing l ]— n passes→ u ∣ E''
      → eval ⊢ t ∣ E —[ α doing k ++ l ]— suc n passes→ u ∣ E''

-- the actions among the deeds
unfoldable pub actions : List Deed → List ℕ
actions [] = []
actions (does a ∷ l) = a ∷ actions l
actions (generates s ∷ l) = actions l
actions (finds c v ∷ l) = actions l

-- a repetition by its number of runs
abbrev pub repetition : Times → Abstract → Abstract
repetition (exactly n) t = Repeat n t
repetition (asked v cap) t = RepeatExt v cap t

-- translation (2.2; 001, 2.3)
unfoldable pub tr : Program → Abstract
tr Program.Nothing = Nothing
tr Program.Stop = Stop
tr (Program.Atom a) = Atom a
tr (Program.Seq p q) = Seq (tr p) (tr q)
tr (Program.Par p q) = Par SUSP SUSP (tr p) (tr q)
tr (Program.Loop p) = Loop (tr p)
tr (Program.Repeat n p) = repetition n (tr p)
tr (Program.Generate s) = Generate s
tr (Program.Await c) = Await c
tr (Program.When c p q) = When c (tr p) (tr q)
tr (Program.Until c p q) = Until c (tr p) (tr q)
tr (Program.Control s p) = Control s (tr p)
tr (Program.Local s p) = Local- s (tr p)
tr (Program.Freezable s p) = Freezable s (tr p)
tr (Program.If v p q) = If v (tr p) (tr q)

-- how a state reads (01, "State"; L8: "phase 1 is the pending form")
unfoldable pub reads : Term → Abstract
reads (done p) = Nothing
reads nothing = Nothing
reads stop = Stop
reads (atom a) = Atom a
reads (generate s) = Generate s
reads (await c) = Await c
reads (seq0 t q) = Seq (reads t) (tr q)
reads (seq2 p t) = reads t
reads (par α β t u) = Par α β (reads t) (reads u)
reads (loop0 p) = Loop (tr p)
reads (loop1 t) = Seq (reads t) (Loop (tr (prog t)))
reads (repeat0 n p) = repetition n (tr p)
reads (repeat1 n k t) = Seq (reads t) (Repeat k (tr (prog t)))
reads (when0 c p q) = When c (tr p) (tr q)
reads (when1 c t q) = reads t
reads (when2 c p t) = reads t
reads (until0 c t q) = Until c (reads t) (tr q)
reads (until* c t q) = Until* c (reads t) (tr q)
reads (until2 c p t) = reads t
reads (control s t) = Control s (reads t)
reads (local false s t) = Local- s (reads t)
reads (local true s t) = Local+ s (reads t)
reads (freezable0 s t) = Freezable s (reads t)
reads (freezable* s t) = Freezable* s (reads t)
reads (if0 v p q) = If v (tr p) (tr q)
reads (if1 v t q) = reads t
reads (if2 v p t) = reads t

-- what a trace does: places, environments and the answers of scopes are not 000's
unfoldable pub deeds : List Act → List Deed
deeds [] = []
deeds (did_atom a ∷ l) = does a ∷ deeds l
deeds (did_generate s ∷ l) = generates s ∷ deeds l
deeds (did_park x ∷ l) = deeds l
deeds (decided P c b E ∷ l) = finds c (verdict true b) ∷ deeds l
deeds (waits P c E ∷ l) = finds c Unknown ∷ deeds l
deeds (scope_answered n α b ∷ l) = deeds l

-- the table of frozen instructions once these pieces are parked, the newest outermost
unfoldable pub froze : List Piece → (ℕ → Abstract) → (ℕ → Abstract)
froze [] T = T
froze (x ∷ l) T = froze l (associated x.event (Par SUSP SUSP (reads x.state) (T x.event)) T)
