-- A When that tests, rules 17 to 21, and a When or an If in its first branch, over all that is lent.
use Prim.Native.Nat.{ℕ, ◌+◌, ◌-◌, ◌*◌, ◌<◌}
use mathlib.Core.Bool.{Bool, true, false, cond}
use mathlib.Core.Path.{◌≡◌, refl, sym, ◌∙◌}
use mathlib.Core.Logic.{◌≢◌}
use mathlib.Core.List.{List, ◌++◌}
use native.Mathlib.Omega.{arith}
use lib.Dec.{lit<}
use lib.ListN.{length, get_or, take, drop, set}
use denote.Enum.Bare.{sameb, same_true, same_false}
use Rattle.junior.specs.declared.Flag.{Flag}
use Rattle.junior.specs.declared.Flag.TheVariants.{SUSP, STOP}
use Rattle.junior.specs.contracts.Verdict.{the_type}
use Rattle.junior.specs.declared.Verdict.{Verdict}
use Rattle.junior.specs.declared.Verdict.TheVariants.{Sat, Unsat, Unknown}
use Rattle.junior.specs.Term.{Term}
use Rattle.table.specs.Records.{size_at, kind_at}
use Rattle.state.specs.Kinds.{when_kind, if_kind}
use Rattle.state.proofs.Parts.{first_of, with_first}
use Rattle.steps.specs.Running.{Rooms, Ready, Any, TestRead, phase_after}
use Rattle.steps.proofs.Children.{own_in}
use Rattle.steps.proofs.Tally.{byte_read}
use Rattle.steps.specs.Progress.{words_of, tally_of}
use Rattle.steps.specs.Kinds.{OfKind, InSecond, Choice}
use Rattle.runner.proofs.Stages.{InThen}
use Rattle.steps.specs.Tests.{CanTest, TestIs}
use Rattle.steps.specs.Lent.{Lent, lent, Around, Stands, Went, CanRun, HasRun}
use Rattle.steps.proofs.Context.{outer, phase_in, put_phase}
use Rattle.steps.proofs.Kept.{kept_same}
use Rattle.steps.proofs.Dispatch.{phase_is, to_kind}
use Rattle.steps.proofs.ChildContext.{child_stands}
use Rattle.runner.proofs.When.{Then, then_by, then_asks, then_writes, then_ran}
use Rattle.runner.proofs.When.{When0, when0_by, when_has, when_waits, then_live, then_goes, then_later, else_live, else_goes, else_later}
use Rattle.runner.proofs.Falling.{smaller_by}
use Rattle.runner.proofs.GoesOn.{stands_as, went_as}
use Rattle.runner.proofs.EitherKind.{the_first}
use Rattle.runner.proofs.Branches.{Branches, branches_of_kind}
use Rattle.steps.specs.declared.progress.Progress.{Progress}

-- in its first branch: that runs
module _ {table : List ℕ} {i : ℕ} {state : List ℕ} {m : Progress} {rooms : Rooms} {before part behind : List ℕ}
    (o : Stands 1 InThen (lent table state m rooms) i before part behind) where
  abbrev n : ℕ
  n = size_at table (i + 1)

  the : Then o.live.0
  the = then_by o.live.0 o.live.1

  branch_stands : Stands 0 Any (lent table state m rooms) (i + 1) (before ++ take 4 part) (first_of part n)
      (drop (4 + 4 * n - 4) (drop 4 part) ++ behind)
  branch_stands =
      child_stands o.around o.holds 4 (4 + 4 * n - 4) (own_in o.live.2 3 (lit< tt)) (omega arith)
      (then_asks refl the o.live.2 1 refl).1

  branch_smaller : size_at table (i + 1) < size_at table i
  branch_smaller = smaller_by table i (i + 1) (then_asks refl the o.live.2 1 refl).0

  module _ {state' : List ℕ} {m' : Progress} {rooms' : Rooms} {f : Flag} (run : HasRun 0 Any (lent table state m rooms) (i + 1) (lent table state' m' rooms') f) where
    branch_went : Went 0 Any (lent table state m rooms) (i + 1) (before ++ take 4 part) (first_of part n)
        (drop (4 + 4 * n - 4) (drop 4 part) ++ behind) (lent table state' m' rooms') f
    branch_went = run _ _ _ branch_stands

    abbrev part_back : List ℕ
    part_back = with_first part n branch_went.part'

    around_back : Around state' i before part_back behind
    around_back = outer o.around 4 (4 + 4 * n - 4) branch_went.around

    own_back : 0 < length part_back
    own_back = then_writes refl branch_went.runs the o.live.2

    then_went : {ph : ℕ} → ph ≡ phase_after f 1
        → Went 1 InThen (lent table state m rooms) i before part behind (lent table (set state' (4 * i) ph) m' rooms') f
    then_went {ph} e =
        record {
          part' = set part_back 0 ph;
          around = put_phase around_back ph own_back;
          kept = branch_went.kept;
          runs = λ t w h. then_ran refl branch_went.runs (then_by t w) h e;
        }

-- in the words of the needs
module _ {table : List ℕ} {i : ℕ} {state : List ℕ} {m : Progress} {rooms : Rooms} where
  pub then_first : CanRun 1 InThen (lent table state m rooms) i
      → (size_at table (i + 1) < size_at table i) × CanRun 0 Any (lent table state m rooms) (i + 1)
  then_first (before, part, behind, o) = (branch_smaller o, (_, _, _, branch_stands o))

  module _ {state' : List ℕ} {m' : Progress} {rooms' : Rooms} {f : Flag} (run : HasRun 0 Any (lent table state m rooms) (i + 1) (lent table state' m' rooms') f) where
    pub then_writes_in : CanRun 1 InThen (lent table state m rooms) i → 4 * i < length state'
    then_writes_in (before, part, behind, o) = phase_in (around_back o run) (own_back o run)

    pub then_done : {ph : ℕ} → ph ≡ phase_after f 1
        → HasRun 1 InThen (lent table state m rooms) i (lent table (set state' (4 * i) ph) m' rooms') f
    then_done e before part behind o = then_went o run e

-- a test that isn't unknown is satisfied or isn't
not_unsat : (v : Verdict) → v ≢ Unknown → v ≢ Unsat → v ≡ Sat
not_unsat Sat known n = refl
not_unsat Unsat known n = absurd (n refl)
not_unsat Unknown known n = absurd (known refl)

unsat_by : (v : Verdict) {second : Bool} → second ≡ sameb the_type v Unsat → second ≡ true → v ≡ Unsat
unsat_by v says e = same_true the_type tt v Unsat (sym says ∙ e)

sat_by : (v : Verdict) → v ≢ Unknown → {second : Bool} → second ≡ sameb the_type v Unsat → second ≡ false → v ≡ Sat
sat_by v known says e = not_unsat v known (same_false the_type v Unsat (sym says ∙ e))

-- a When that tests
module _ {table : List ℕ} {i : ℕ} {state : List ℕ} (untested : get_or state (4 * i) 0 ≡ 0) where
  testing : {before part behind : List ℕ} → Around state i before part behind → {t : Term} → OfKind when_kind t
      → {words : List ℕ} {rooms : Rooms} {tally : List ℕ} → Ready 0 table i part words rooms tally t → When0 t
  testing a {t} w h = when0_by t (w, sym (phase_is a h) ∙ untested)

  module _ {m : Progress} {rooms : Rooms} where
    then_stands : {before part behind : List ℕ} → Stands 0 (OfKind when_kind) (lent table state m rooms) i before part behind
        → Stands 1 InThen (lent table state m rooms) i before part behind
    then_stands o = let (t, w, h) = o.live in stands_as o (then_live (testing o.around w h) h)

    else_stands : {before part behind : List ℕ} → Stands 0 (OfKind when_kind) (lent table state m rooms) i before part behind
        → Stands 1 InSecond (lent table state m rooms) i before part behind
    else_stands o = let (t, w, h) = o.live in stands_as o (else_live (testing o.around w h) h)

    pub when_tests : CanRun 0 (OfKind when_kind) (lent table state m rooms) i → CanTest table i m
    when_tests (before, part, behind, o) =
        let (t, w, h) = o.live in record { has = when_has (testing o.around w h) h; holds = o.holds }

    now_then : CanRun 0 (OfKind when_kind) (lent table state m rooms) i → CanRun 1 InThen (lent table state m rooms) i
    now_then (before, part, behind, o) = (_, _, _, then_stands o)

    now_else : CanRun 0 (OfKind when_kind) (lent table state m rooms) i → CanRun 1 InSecond (lent table state m rooms) i
    now_else (before, part, behind, o) = (_, _, _, else_stands o)

    module _ {v : Verdict} (reads : TestRead table i (words_of m) (tally_of m) v) where
      pub when_suspends : v ≡ Unknown → HasRun 0 (OfKind when_kind) (lent table state m rooms) i (lent table state m rooms) SUSP
      when_suspends is before part behind o =
          record {
            part' = part;
            around = o.around;
            kept = kept_same m;
            runs = λ t w h. when_waits reads (testing o.around w h) h is;
          }

      -- a branch begins, or waits for the next instant
      module _ (is : v ≡ Sat) where
        then_begins : m.ended ≡ false → {L' : Lent} {r : Flag} → HasRun 1 InThen (lent table state m rooms) i L' r
            → HasRun 0 (OfKind when_kind) (lent table state m rooms) i L' r
        then_begins z run before part behind o =
            let g = run before part behind (then_stands o) in
            went_as (kept_same m) g (λ t w h. then_goes reads (testing o.around w h) h is (byte_read m.ended ∙ z) g.runs)

        then_next : m.ended ≡ true
            → HasRun 0 (OfKind when_kind) (lent table state m rooms) i (lent table (set state (4 * i) 1) m rooms) STOP
        then_next z before part behind o =
            record {
              part' = set part 0 1;
              around = put_phase o.around 1 (own_in o.live.2 0 (lit< tt));
              kept = kept_same m;
              runs = λ t w h. then_later reads (testing o.around w h) h is (byte_read m.ended ∙ z);
            }

      module _ (is : v ≡ Unsat) where
        else_begins : m.ended ≡ false → {L' : Lent} {r : Flag} → HasRun 1 InSecond (lent table state m rooms) i L' r
            → HasRun 0 (OfKind when_kind) (lent table state m rooms) i L' r
        else_begins z run before part behind o =
            let g = run before part behind (else_stands o) in
            went_as (kept_same m) g (λ t w h. else_goes reads (testing o.around w h) h is (byte_read m.ended ∙ z) g.runs)

        else_next : m.ended ≡ true
            → HasRun 0 (OfKind when_kind) (lent table state m rooms) i (lent table (set state (4 * i) 2) m rooms) STOP
        else_next z before part behind o =
            record {
              part' = set part 0 2;
              around = put_phase o.around 2 (own_in o.live.2 0 (lit< tt));
              kept = kept_same m;
              runs = λ t w h. else_later reads (testing o.around w h) h is (byte_read m.ended ∙ z);
            }

    -- by what its test is read as
    module _ {v : Verdict} (reads : TestIs table i m v) (known : v ≢ Unknown) {second : Bool} (says : second ≡ sameb the_type v Unsat) where
      pub when_chooses : m.ended ≡ false → CanRun 0 (OfKind when_kind) (lent table state m rooms) i
          → Branches (OfKind when_kind) (lent table state m rooms) i second
      when_chooses z o =
          record {
            to_second = λ e. record { can = now_else o; has = λ run. else_begins reads (unsat_by v says e) z run };
            to_first = λ e. record { can = now_then o; has = λ run. then_begins reads (sat_by v known says e) z run };
          }

      waits : m.ended ≡ true → (b : Bool) → second ≡ b
          → HasRun 0 (OfKind when_kind) (lent table state m rooms) i (lent table (set state (4 * i) (cond b 2 1)) m rooms) STOP
      waits z true e = else_next reads (unsat_by v says e) z
      waits z false e = then_next reads (sat_by v known says e) z

      pub when_stops : m.ended ≡ true → {ph : ℕ} → ph ≡ cond second 2 1
          → HasRun 0 (OfKind when_kind) (lent table state m rooms) i (lent table (set state (4 * i) ph) m rooms) STOP
      when_stops z is = rw is (waits z second refl)

-- the same of a node of either kind that is read to be no If
pub when_branches : {table : List ℕ} {i : ℕ} {state : List ℕ} {m : Progress} {rooms : Rooms} {n : ℕ} → n ≡ kind_at table i → n ≢ if_kind → get_or state (4 * i) 0 ≡ 0
    → {v : Verdict} → TestIs table i m v → v ≢ Unknown → {second : Bool} → second ≡ sameb the_type v Unsat → m.ended ≡ false
    → CanRun 0 Choice (lent table state m rooms) i
    → Branches Choice (lent table state m rooms) i second
when_branches read other zero reads known says z o =
    let is = the_first read other o in branches_of_kind is (when_chooses zero reads known says z (to_kind refl is o))
