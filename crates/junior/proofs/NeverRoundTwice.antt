-- L5: where the Loops' bodies stop no rewriting uses rule 13; and a Loop whose body doesn't, of which one does.
use Prim.Native.Nat.{ℕ}
use mathlib.Core.Path.{◌≡◌, refl, ap, sym}
use mathlib.Core.List.{[], ◌∷◌}
use native.Mathlib.Omega.{arith}
use lib.ListN.{length}
use Rattle.events.specs.Events.{put, none}
use Rattle.junior.specs.declared.Flag.TheVariants.{SUSP}
use Rattle.junior.specs.Configuration.{Config, Event, Env, handed_in, test, fixed, eval}
use Rattle.junior.specs.Program.{Program, Par, Loop, Generate, Await, Local}
use Rattle.junior.specs.Values.{zeros}
use Rattle.junior.specs.Term.{generate, await, par, prog, fresh, leave}
use Rattle.junior.specs.Trace.{Place, root, event_of, collect, generations}
use Rattle.junior.specs.Rules.{Allowed, either_first, without_13, Result, Rewrites, r8, r9, r10, r11, r12, r13}
use Rattle.junior.specs.Rules.{r16, r22, r23, r24, r25, r35_39}
use Rattle.junior.specs.Figures.{LoopsStop}
use Rattle.junior.specs.NeverRoundTwice.{NeverRoundTwice}
use Rattle.junior.proofs.Little.{TERM≢SUSP, collect-++}
use Rattle.junior.proofs.Held.{begun}
use Rattle.junior.proofs.Freer.{freer, freer_instant}

pub never_round_twice : NeverRoundTwice
unfolding LoopsStop
never_round_twice = record {
  body = λ p o d. begun p d o.0;
  pass = λ o d. freer (λ x. x) refl d o;
  instant = λ o i. freer_instant (λ x. x) refl i o;
}

-- The premise is needed. A body that ends at once only if its Par runs the right branch first goes round twice by rules 9 and 13: it ends, begins
-- again, and now waits, the left branch being first. Event 1 is then generated twice in a pass; without rule 13 it is once.
abbrev pub ends_right_first : Program
ends_right_first = Local 1 (Par (Await (Event 1)) (Generate 1))

of_await : {free : Allowed} {P : Place} {E : Env} {r : Result} {c : Config} → Rewrites free P (await c) E r → generations r.acts ≡ []
unfolding collect
of_await (r22 s h) = refl
of_await (r23 s h) = refl
of_await (r24 s) = refl
of_await (r25 s) = refl

of_generate : {free : Allowed} {P : Place} {E : Env} {r : Result} {s : ℕ} → Rewrites free P (generate s) E r → generations r.acts ≡ s ∷ []
unfolding collect
of_generate r16 = refl

of_par : {free : Allowed} {P : Place} {E : Env} {c : Config} {s : ℕ} {r : Result}
    → Rewrites free P (par SUSP SUSP (await c) (generate s)) E r
    → generations r.acts ≡ s ∷ []
of_par (r8 {r = r} {s = s} d e) = rw (collect-++ event_of r.acts s.acts, of_await d, of_generate e)
of_par (r9 {r = r} {s = s} f e d) = rw (collect-++ event_of s.acts r.acts, of_await d, of_generate e)
of_par (r10 h d) = absurd (h refl)
of_par (r11 h d) = absurd (h refl)

of_body : {free : Allowed} {P : Place} {E : Env} {r : Result}
    → Rewrites free P (fresh ends_right_first) E r
    → generations r.acts ≡ 1 ∷ []
unfolding fresh collect
of_body (r35_39 {r = r} d) = rw (collect-++ event_of r.acts (_ ∷ []), of_par d)

once : {P : Place} {E : Env} {r : Result}
    → Rewrites (without_13 (either_first zeros)) P (fresh (Loop ends_right_first)) E r
    → generations r.acts ≡ 1 ∷ []
unfolding fresh
once (r12 d n) = of_body d
once (r13 x _ _) = elim x [ ]

pub round_twice : (r : Result)
    × Rewrites (either_first zeros) root (fresh (Loop ends_right_first)) (handed_in none) r
    × (Rewrites (without_13 (either_first zeros)) root (fresh (Loop ends_right_first)) (handed_in none) r → ⊥)
unfolding fresh put test fixed eval leave prog collect
round_twice = (
  _,
  r13 tt (r35_39 (r9 tt r16 (r22 refl refl))) (r12 (r35_39 (r8 (r25 refl) r16)) (λ e. TERM≢SUSP (sym e))),
  λ d. let z : ◌≡◌ {A = ℕ} 2 1 = ap length (once d) in omega arith,
)
