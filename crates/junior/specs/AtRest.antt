-- States at rest (01, "State"): what an instant starts from and leaves.
use Rattle.std.specs.Prelude.{◌<◌, false, ◌≡◌}
use Rattle.junior.specs.declared.Flag.{Flag}
use Rattle.junior.specs.declared.Flag.TheVariants.{SUSP, STOP, TERM}
use Rattle.junior.specs.Program.{Program}
use Rattle.junior.specs.Term.{Term, done, nothing, stop, atom, generate, await, seq0, seq2, par, loop0, loop1}
use Rattle.junior.specs.Term.{repeat0, repeat1, when0, when1, when2, until0, until*, until2, control, local, freezable0, freezable*, if0, if1}
use Rattle.junior.specs.Term.{if2}
use Rattle.junior.specs.Values.{most}

-- Par's flags each SUSP or TERM, and not both TERM
abbrev pub Waiting : Flag → Flag → Type 0
Waiting SUSP SUSP = Unit {0}
Waiting SUSP STOP = ⊥
Waiting SUSP TERM = Unit {0}
Waiting STOP β = ⊥
Waiting TERM SUSP = Unit {0}
Waiting TERM STOP = ⊥
Waiting TERM TERM = ⊥

-- a TERM flag only over a child in phase 3
abbrev pub Over : Flag → Term → Type 0
Over SUSP t = Unit {0}
Over STOP t = Unit {0}
Over TERM t = (p : Program) × (t ≡ done p)

unfoldable pub AtRest : Term → Type 0
AtRest (done p) = Unit {0}
AtRest nothing = Unit {0}
AtRest stop = Unit {0}
AtRest (atom a) = Unit {0}
AtRest (generate s) = Unit {0}
AtRest (await c) = Unit {0}
AtRest (seq0 t q) = AtRest t
AtRest (seq2 p t) = AtRest t
AtRest (par α β t u) = Waiting α β × Over α t × Over β u × AtRest t × AtRest u
AtRest (loop0 p) = Unit {0}
AtRest (loop1 t) = AtRest t
AtRest (repeat0 n p) = Unit {0}
-- of a RepeatExt: "its count below the cap"
AtRest (repeat1 n k t) = (k < most n) × AtRest t
AtRest (when0 c p q) = Unit {0}
AtRest (when1 c t q) = AtRest t
AtRest (when2 c p t) = AtRest t
AtRest (until0 c t q) = AtRest t
AtRest (until* c t q) = ⊥
AtRest (until2 c p t) = AtRest t
AtRest (control s t) = AtRest t
AtRest (local b s t) = (b ≡ false) × AtRest t
AtRest (freezable0 s t) = AtRest t
AtRest (freezable* s t) = ⊥
AtRest (if0 v p q) = Unit {0}
AtRest (if1 v t q) = AtRest t
AtRest (if2 v p t) = AtRest t
