-- An instant (000, 5.2; 01, "Rules of a pass"): passes from node 0 until one answers STOP or TERM. What has no derivation doesn't happen:
-- no limit of passes or steps ever counts as an end.
use Rattle.std.specs.Prelude.{ℕ, suc, true, false, ◌≡◌, ◌≢◌}
use Rattle.junior.specs.declared.Flag.TheVariants.{SUSP}
use Rattle.junior.specs.Configuration.{Env, declared_end, unmoved}
use Rattle.junior.specs.Term.{Term}
use Rattle.junior.specs.Trace.{root}
use Rattle.junior.specs.Rules.{Allowed, Result, after, Rewrites}

-- from t in E, so many passes end the instant, with this result and the acts of all passes
pub data Instant (free : Allowed) : Term → Env → ℕ → Result → Type 0 where
  r47 : {t : Term} {E : Env} {r : Result} → Rewrites free root t E r → r.flag ≢ SUSP → Instant free t E 1 r
  r48 : {t : Term} {E : Env} {n : ℕ} {r s : Result}
      → Rewrites free root t E r
      → r.flag ≡ SUSP
      → r.env.move ≡ false
      → Instant free r.to (declared_end r.env) n s
      → Instant free t E (suc n) (after r.acts s)
  r49 : {t : Term} {E : Env} {n : ℕ} {r s : Result}
      → Rewrites free root t E r
      → r.flag ≡ SUSP
      → r.env.move ≡ true
      → Instant free r.to (unmoved r.env) n s
      → Instant free t E (suc n) (after r.acts s)
