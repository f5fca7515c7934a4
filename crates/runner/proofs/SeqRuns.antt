-- A Seq, rules 4 and 5, and any node that has gone over into its second child, over all that is lent.
use Prim.Native.Nat.{ℕ, ◌+◌, ◌-◌, ◌*◌, ◌<◌}
use mathlib.Core.Path.{◌≡◌, refl, ◌∙◌}
use mathlib.Core.Logic.{◌≢◌}
use mathlib.Core.List.{List, ◌++◌}
use native.Mathlib.Omega.{arith}
use lib.Dec.{lit<}
use lib.ListN.{length, get_or, take, drop, set}
use Rattle.junior.specs.declared.Flag.{Flag}
use Rattle.junior.specs.declared.Flag.TheVariants.{TERM}
use Rattle.junior.specs.Term.{Term}
use Rattle.table.specs.Records.{size_at, second_child}
use Rattle.state.specs.Kinds.{seq_kind}
use Rattle.state.proofs.Parts.{first_of, with_first, rest_of, with_rest}
use Rattle.steps.specs.Running.{Rooms, Ready, Any, phase_after}
use Rattle.steps.proofs.Children.{own_in}
use Rattle.steps.specs.Kinds.{OfKind, InSecond}
use Rattle.steps.specs.Lent.{Lent, lent, Around, Stands, Went, CanRun, HasRun}
use Rattle.steps.proofs.Context.{outer, phase_at_lem, phase_in, put_phase}
use Rattle.steps.proofs.Kept.{still}
use Rattle.steps.proofs.Dispatch.{run_at, phase_is}
use Rattle.steps.proofs.ChildContext.{child_stands}
use Rattle.runner.proofs.Seq.{Second, second_by, second_reads, second_fits, second_asks, second_writes, second_ran}
use Rattle.runner.proofs.Seq.{Seq0, seq0_by, first_reads, first_asks, seq_waits, over_asks, seq_goes_over}
use Rattle.runner.proofs.GoesOn.{GoesOnAs, to_phase, by_phase, went_as}
use Rattle.runner.proofs.Falling.{weigh, child_rank, lighter, smaller_by, form_rank}
use Rattle.steps.specs.declared.progress.Progress.{Progress}

-- gone over: the second child runs
module _ {table : List ℕ} {i : ℕ} {state : List ℕ} {m : Progress} {rooms : Rooms} {before part behind : List ℕ}
    (o : Stands 1 InSecond (lent table state m rooms) i before part behind) where
  abbrev n : ℕ
  n = size_at table (i + 1)

  the_second : Second o.live.0
  the_second = second_by o.live.0 o.live.1

  pub over_stands : Stands 0 Any (lent table state m rooms) (second_child table i) (before ++ take (4 + 4 * n) part) (rest_of part n)
      (drop (length part - (4 + 4 * n)) (drop (4 + 4 * n) part) ++ behind)
  over_stands =
      child_stands o.around o.holds (4 + 4 * n) (length part - (4 + 4 * n)) (second_fits refl the_second o.live.2) (omega arith)
      (second_asks refl the_second o.live.2 1 refl).1

  pub over_smaller : size_at table (second_child table i) < size_at table i
  over_smaller = smaller_by table i (second_child table i) (second_asks refl the_second o.live.2 1 refl).0

  module _ {state' : List ℕ} {m' : Progress} {rooms' : Rooms} {f : Flag}
      (run : HasRun 0 Any (lent table state m rooms) (second_child table i) (lent table state' m' rooms') f) where
    pub over_went : Went 0 Any (lent table state m rooms) (second_child table i) (before ++ take (4 + 4 * n) part) (rest_of part n)
        (drop (length part - (4 + 4 * n)) (drop (4 + 4 * n) part) ++ behind) (lent table state' m' rooms') f
    over_went = run _ _ _ over_stands

    abbrev pub part_over : List ℕ
    part_over = with_rest part n over_went.part'

    around_over : Around state' i before part_over behind
    around_over = outer o.around (4 + 4 * n) (length part - (4 + 4 * n)) over_went.around

    writes : 0 < length part_over
    writes = second_writes refl over_went.runs the_second o.live.2

    pub over_writes : 4 * i < length state'
    over_writes = phase_in around_over writes

    pub second_went : {ph : ℕ} → ph ≡ phase_after f 2
        → Went 1 InSecond (lent table state m rooms) i before part behind (lent table (set state' (4 * i) ph) m' rooms') f
    second_went {ph} e =
        record {
          part' = set part_over 0 ph;
          around = put_phase around_over ph writes;
          kept = over_went.kept;
          runs = λ t w h. second_ran refl over_went.runs (second_by t w) h e;
        }

module _ {table : List ℕ} {i : ℕ} {state : List ℕ} {m : Progress} {rooms : Rooms} where
  pub second_in : CanRun 1 InSecond (lent table state m rooms) i → 6 * i + 11 < length table
  second_in (before, part, behind, o) = omega (arith, second_reads (second_by o.live.0 o.live.1) o.live.2)

  module _ {second : ℕ} (is : second ≡ second_child table i) where
    pub goes_into : CanRun 1 InSecond (lent table state m rooms) i
        → (size_at table second < size_at table i) × CanRun 0 Any (lent table state m rooms) second
    goes_into (before, part, behind, o) = rw is (over_smaller o, (_, _, _, over_stands o))

    module _ {state' : List ℕ} {m' : Progress} {rooms' : Rooms} {f : Flag} (run : HasRun 0 Any (lent table state m rooms) second (lent table state' m' rooms') f) where
      pub second_writes_in : CanRun 1 InSecond (lent table state m rooms) i → 4 * i < length state'
      second_writes_in (before, part, behind, o) = over_writes o (run_at is run)

      pub second_done : {ph : ℕ} → ph ≡ phase_after f 2
          → HasRun 1 InSecond (lent table state m rooms) i (lent table (set state' (4 * i) ph) m' rooms') f
      second_done e before part behind o = second_went o (run_at is run) e

-- a node that has gone over, by its phase
module _ {table : List ℕ} {i : ℕ} {state : List ℕ} {m : Progress} {rooms : Rooms} {W : Term → Type 0} (gone_over : get_or state (4 * i) 0 ≡ 2) where
  pub to_second : CanRun 0 W (lent table state m rooms) i → CanRun 1 InSecond (lent table state m rooms) i
  to_second o = to_phase (λ t w p. p) gone_over o

  pub by_second : {L' : Lent} {r : Flag} → HasRun 1 InSecond (lent table state m rooms) i L' r → HasRun 0 W (lent table state m rooms) i L' r
  by_second run = by_phase (λ t w p. p) gone_over run

-- in its first child
module _ {table : List ℕ} {i : ℕ} {state : List ℕ} (on : get_or state (4 * i) 0 ≢ 3) (in_first : get_or state (4 * i) 0 ≢ 2) {m : Progress} {rooms : Rooms}
    {before part behind : List ℕ}
    (o : Stands 0 (OfKind seq_kind) (lent table state m rooms) i before part behind) where
  own : 0 < length part
  own = own_in o.live.2 0 (lit< tt)

  seq0 : {t : Term} → OfKind seq_kind t → {words tally : List ℕ} → Ready 0 table i part words rooms tally t → Seq0 t
  seq0 w h = seq0_by (w, λ e. on (phase_is o.around h ∙ e)) h (λ e. in_first (phase_at_lem o.around own ∙ e))

  the : Seq0 o.live.0
  the = seq0 o.live.1 o.live.2

  pub first_reads_in : 6 * (i + 1) + 5 < length table
  first_reads_in = first_reads the o.live.2

  pub first_stands : Stands 0 Any (lent table state m rooms) (i + 1) (before ++ take 4 part) (first_of part (size_at table (i + 1)))
      (drop (4 + 4 * size_at table (i + 1) - 4) (drop 4 part) ++ behind)
  first_stands =
      child_stands o.around o.holds 4 (4 + 4 * size_at table (i + 1) - 4) (own_in o.live.2 3 (lit< tt)) (omega arith)
      (first_asks refl the o.live.2 1 refl).1

  pub first_smaller : size_at table (i + 1) < size_at table i
  first_smaller = smaller_by table i (i + 1) (first_asks refl the o.live.2 1 refl).0

  module _ {state₁ : List ℕ} {m₁ : Progress} {rooms₁ : Rooms} {f : Flag} (run : HasRun 0 Any (lent table state m rooms) (i + 1) (lent table state₁ m₁ rooms₁) f) where
    pub first_went : Went 0 Any (lent table state m rooms) (i + 1) (before ++ take 4 part) (first_of part (size_at table (i + 1)))
        (drop (4 + 4 * size_at table (i + 1) - 4) (drop 4 part) ++ behind) (lent table state₁ m₁ rooms₁) f
    first_went = run _ _ _ first_stands

    abbrev pub part₁ : List ℕ
    part₁ = with_first part (size_at table (i + 1)) first_went.part'

    pub around₁ : Around state₁ i before part₁ behind
    around₁ = outer o.around 4 (4 + 4 * size_at table (i + 1) - 4) first_went.around

    pub seq_went : f ≢ TERM → Went 0 (OfKind seq_kind) (lent table state m rooms) i before part behind (lent table state₁ m₁ rooms₁) f
    seq_went n =
        record {
          part' = part₁;
          around = around₁;
          kept = first_went.kept;
          runs = λ t w h. seq_waits refl first_went.runs (seq0 w h) h n;
        }

    module _ (ended : f ≡ TERM) where
      pub now_over : Stands 1 InSecond (lent table state₁ m₁ rooms₁) i before part₁ behind
      now_over =
          record {
            around = around₁;
            holds = still o.holds first_went.kept;
            live = over_asks refl first_went.runs the o.live.2 ended;
          }

      pub over_went_on : {L' : Lent} {r : Flag} → HasRun 1 InSecond (lent table state₁ m₁ rooms₁) i L' r
          → Went 0 (OfKind seq_kind) (lent table state m rooms) i before part behind L' r
      over_went_on then =
          let g = then before part₁ behind now_over in
          went_as first_went.kept g (λ t w h. seq_goes_over refl first_went.runs (seq0 w h) h ended g.runs)

module _ {table : List ℕ} {i : ℕ} {state : List ℕ} {m : Progress} {rooms : Rooms} (on : get_or state (4 * i) 0 ≢ 3) (in_first : get_or state (4 * i) 0 ≢ 2) where
  pub seq_first : CanRun 0 (OfKind seq_kind) (lent table state m rooms) i → {k : ℕ} → weigh table i 2 ≡ k
      → (weigh table (i + 1) child_rank < k) × CanRun 0 Any (lent table state m rooms) (i + 1)
  seq_first (before, part, behind, o) e =
      (lighter form_rank child_rank (lit< tt) (first_smaller on in_first o) e, (_, _, _, first_stands on in_first o))

  pub seq_second_in : CanRun 0 (OfKind seq_kind) (lent table state m rooms) i → 6 * i + 11 < length table
  seq_second_in (before, part, behind, o) = omega (arith, first_reads_in on in_first o)

  module _ {state₁ : List ℕ} {m₁ : Progress} {rooms₁ : Rooms} {f : Flag} (run : HasRun 0 Any (lent table state m rooms) (i + 1) (lent table state₁ m₁ rooms₁) f) where
    pub seq_stays : f ≢ TERM → HasRun 0 (OfKind seq_kind) (lent table state m rooms) i (lent table state₁ m₁ rooms₁) f
    seq_stays n before part behind o = seq_went on in_first o run n

    -- its first child has ended
    pub seq_goes_on : f ≡ TERM → CanRun 0 (OfKind seq_kind) (lent table state m rooms) i
        → GoesOnAs InSecond (OfKind seq_kind) (lent table state m rooms) i (lent table state₁ m₁ rooms₁)
    seq_goes_on e (before, part, behind, o) =
        record { can = (_, _, _, now_over on in_first o run e); has = λ then before part behind o. over_went_on on in_first o run e then }
