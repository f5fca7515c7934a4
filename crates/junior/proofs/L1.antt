-- Request L1 of the definitions: the sentences of specs/L1.antt.
use Prim.Native.Nat.{ℕ}
use mathlib.Core.Path.{◌≡◌, refl, ◌∙◌}
use mathlib.Core.Option.{some}
use native.Mathlib.Omega.{arith}
use Rattle.junior.specs.Configuration.{Env}
use Rattle.junior.specs.Term.{Term}
use Rattle.junior.specs.Rules.{Allowed, Result}
use Rattle.junior.specs.Instant.{Instant, r47, r48, r49}
use Rattle.junior.specs.Waited.{Wait, first_wait, before_the_end, waited}
use Rattle.junior.specs.L1.{FirstSuspended, L1}
use Rattle.junior.proofs.Lower.{found_some, found_none}
use Rattle.junior.proofs.Lacking.{one_is_named}
use Rattle.junior.proofs.FirstWait.{first_suspended}
use Rattle.junior.proofs.Waited.{named_at_the_end}
use Rattle.junior.proofs.AtTheEnd.{lacks_at_the_end}

pub first_reported : {free : Allowed} {t : Term} {E : Env} {n : ℕ} {r : Result} (i : Instant free t E n r) (w : Wait)
    → waited i ≡ some w
    → FirstSuspended (before_the_end i) w
unfolding before_the_end first_wait
first_reported (r47 d h) w x = let z : ◌≡◌ {A = ℕ} 0 1 = cc in absurd (omega arith)
first_reported (r48 d h m i) w x = first_suspended d w x
first_reported (r49 d h m i) w x = first_reported i w x

pub request_1 : L1
request_1 =
    record {
      test_names = λ c E v. one_is_named c E v;
      instant_reports = λ i.
          record {
            if_declared = λ e. found_some (waited i) (named_at_the_end i refl ∙ e);
            first = λ w x. first_reported i w x;
            if_never = λ e. found_none (waited i) (named_at_the_end i refl ∙ e);
            to_the_end = λ w x. lacks_at_the_end i w x;
          };
    }
