-- L5: "Our reviewer asks why running a Loop carries 000's rule 13, a fresh body that ends at once and starts again in the pass. No accepted
-- table can reach it. Show that, from every state at rest .. the definition keeps the rule."
use Rattle.std.specs.Prelude.{ℕ, ◌≢◌}
use Rattle.events.specs.Events.{Events}
use Rattle.junior.specs.declared.Flag.TheVariants.{TERM}
use Rattle.junior.specs.Configuration.{Env, handed_in}
use Rattle.junior.specs.Program.{Program, Loop}
use Rattle.junior.specs.Term.{Term, prog, fresh}
use Rattle.junior.specs.Trace.{Place}
use Rattle.junior.specs.Rules.{Allowed, without_13, Result, Rewrites}
use Rattle.junior.specs.Instant.{Instant}
use Rattle.junior.specs.Figures.{LoopsStop}

-- of every term t, at rest or not, whose program's Loops have bodies that stop (refusal 7), with rule 9 (`free`) and without it
pub record NeverRoundTwice : Type 1 where
  -- "a fresh body that ends at once": no Loop has one
  pub body : {free : Allowed} {P : Place} {E : Env} {r : Result} (p : Program)
      → LoopsStop (Loop p) → Rewrites free P (fresh p) E r
      → r.flag ≢ TERM
  -- no pass uses rule 13, at any depth: every pass is a pass without it, with the same result
  pub pass : {free : Allowed} {P : Place} {t : Term} {E : Env} {r : Result}
      → LoopsStop (prog t) → Rewrites free P t E r
      → Rewrites (without_13 free) P t E r
  -- so no instant does, whatever is handed in: every instant is an instant without it, of as many passes, with the same result
  pub instant : {free : Allowed} {t : Term} {X : Events} {n : ℕ} {r : Result}
      → LoopsStop (prog t) → Instant free t (handed_in X) n r
      → Instant (without_13 free) t (handed_in X) n r
