-- Which terms each function of a pass runs.
use Rattle.std.specs.Prelude.{ℕ, ◌≡◌, ◌≢◌}
use Rattle.junior.specs.Program.{kind}
use Rattle.junior.specs.Term.{Term, prog}
use Rattle.state.specs.Kinds.{par_kind, repeat_kind, repeat_ext_kind, when_kind, until_kind, freezable_kind, if_kind}
use Rattle.state.specs.StateBytes.{head}
use Rattle.steps.specs.Running.{Phase, KindPhase, Either}

-- how many of a node's own bytes a function does not look at: none, or the phase
abbrev pub all_seen : ℕ
all_seen = 0

abbrev pub phase_unseen : ℕ
phase_unseen = 1

-- those of a kind: each form tests for phase 3 itself
abbrev pub OfKind : ℕ → Term → Type 0
OfKind k t = kind (prog t) ≡ k

-- those of a Repeat or a RepeatExt; of a When or an If; of an Until or a Freezable, which look at their test once the body has stopped
abbrev pub Repetition : Term → Type 0
Repetition = Either repeat_kind repeat_ext_kind

abbrev pub Choice : Term → Type 0
Choice = Either when_kind if_kind

abbrev pub Break : Term → Type 0
Break = Either until_kind freezable_kind

-- Pars with both branches suspended, and all others
abbrev pub BothSuspended : Term → Type 0
BothSuspended t = OfKind par_kind t × ((head t).phase ≡ 0) × ((head t).flags ≡ 0)

abbrev pub NotBoth : Term → Type 0
NotBoth t = OfKind par_kind t × ((head t).phase ≡ 0 → (head t).flags ≢ 0)

-- a Seq, When, Until or If in its second child; a Freezable*
abbrev pub InSecond : Term → Type 0
InSecond = Phase 2

abbrev pub Pending : Term → Type 0
Pending = KindPhase freezable_kind 1
