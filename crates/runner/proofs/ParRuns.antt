-- A Par with both branches suspended, rule 8, over all that is lent.
use Prim.Native.Nat.{ℕ, ◌+◌, ◌-◌, ◌*◌, ◌≤◌, ◌<◌}
use mathlib.Core.Path.{◌≡◌, refl, ◌∙◌}
use mathlib.Core.List.{List, ◌++◌}
use native.Mathlib.Omega.{arith}
use lib.Dec.{lit<}
use lib.ListN.{length, get_or, take, drop}
use Rattle.junior.specs.declared.Flag.{Flag}
use Rattle.junior.specs.declared.Flag.TheVariants.{SUSP}
use Rattle.junior.specs.Term.{Term}
use Rattle.table.specs.Records.{size_at, second_child}
use Rattle.state.specs.Kinds.{par_kind}
use Rattle.state.proofs.Parts.{first_of, with_first, rest_of, with_rest, own_flags}
use Rattle.steps.specs.Running.{Rooms, Ready, Any, Kind, par_end}
use Rattle.steps.proofs.Children.{byte_is, own_in}
use Rattle.steps.specs.Kinds.{BothSuspended}
use Rattle.steps.specs.Flags.{ParEnds}
use Rattle.steps.specs.Lent.{lent, Around, Stands, Went, CanRun, HasRun}
use Rattle.steps.proofs.Context.{byte_at, byte_in, outer}
use Rattle.steps.proofs.Kept.{kept_then, still}
use Rattle.steps.proofs.Dispatch.{run_at}
use Rattle.steps.proofs.ChildContext.{child_stands, front_stays, par_end_around}
use Rattle.runner.proofs.Par.{First, par_by, both_by, par_reads, first_asks, both_fits, then_asks, both_end_asks, both_ran}
use Rattle.runner.proofs.Falling.{weigh, child_rank, lighter, smaller_by, form_rank}
use Rattle.steps.specs.declared.progress.Progress.{Progress}

module _ {table : List ℕ} {i : ℕ} {part words : List ℕ} {rooms : Rooms} {tally : List ℕ} {t : Term} (w : BothSuspended t)
    (h : Ready 0 table i part words rooms tally t) where
  pub as_par : Kind par_kind t
  as_par = (w.0, λ e. omega (arith, w.1))

  no_flags : own_flags part ≡ 0
  no_flags = byte_is h 1 (omega arith) ∙ w.2

  pub both_of : First SUSP t
  both_of = both_by h as_par no_flags

module _ {table : List ℕ} {i : ℕ} {state : List ℕ} {m : Progress} {rooms : Rooms} {before part behind : List ℕ}
    (o : Stands 0 BothSuspended (lent table state m rooms) i before part behind) where
  abbrev n : ℕ
  n = size_at table (i + 1)

  the : First SUSP o.live.0
  the = both_of o.live.1 o.live.2

  pub par_reads_in : 6 * (i + 1) + 5 < length table
  par_reads_in = par_reads (par_by (as_par o.live.1 o.live.2) o.live.2) o.live.2

  pub first_stands : Stands 0 Any (lent table state m rooms) (i + 1) (before ++ take 4 part) (first_of part n)
      (drop (4 + 4 * n - 4) (drop 4 part) ++ behind)
  first_stands =
      child_stands o.around o.holds 4 (4 + 4 * n - 4) (own_in o.live.2 3 (omega arith)) (omega arith)
      (first_asks refl the o.live.2 1 refl).1

  pub first_smaller : size_at table (i + 1) < size_at table i
  first_smaller = smaller_by table i (i + 1) (first_asks refl the o.live.2 1 refl).0

  module _ {state₁ : List ℕ} {m₁ : Progress} {rooms₁ : Rooms} {f : Flag} (run : HasRun 0 Any (lent table state m rooms) (i + 1) (lent table state₁ m₁ rooms₁) f) where
    pub first_went : Went 0 Any (lent table state m rooms) (i + 1) (before ++ take 4 part) (first_of part n)
        (drop (4 + 4 * n - 4) (drop 4 part) ++ behind) (lent table state₁ m₁ rooms₁) f
    first_went = run _ _ _ first_stands

    abbrev pub part₁ : List ℕ
    part₁ = with_first part n first_went.part'

    pub around₁ : Around state₁ i before part₁ behind
    around₁ = outer o.around 4 (4 + 4 * n - 4) first_went.around

    fits : 4 + 4 * n ≤ length part₁
    fits = both_fits refl first_went.runs the o.live.2

    pub second_stands : Stands 0 Any (lent table state₁ m₁ rooms₁) (second_child table i) (before ++ take (4 + 4 * n) part₁) (rest_of part₁ n)
        (drop (length part₁ - (4 + 4 * n)) (drop (4 + 4 * n) part₁) ++ behind)
    second_stands =
        child_stands around₁ (still o.holds first_went.kept) (4 + 4 * n) (length part₁ - (4 + 4 * n)) fits (omega arith)
        (then_asks refl first_went.runs the o.live.2 1 refl).1

    pub second_smaller : size_at table (second_child table i) < size_at table i
    second_smaller = smaller_by table i (second_child table i) (then_asks refl first_went.runs the o.live.2 1 refl).0

    module _ {state₂ : List ℕ} {m₂ : Progress} {rooms₂ : Rooms} {g : Flag}
        (then : HasRun 0 Any (lent table state₁ m₁ rooms₁) (second_child table i) (lent table state₂ m₂ rooms₂) g) where
      pub second_went : Went 0 Any (lent table state₁ m₁ rooms₁) (second_child table i) (before ++ take (4 + 4 * n) part₁) (rest_of part₁ n)
          (drop (length part₁ - (4 + 4 * n)) (drop (4 + 4 * n) part₁) ++ behind) (lent table state₂ m₂ rooms₂) g
      second_went = then _ _ _ second_stands

      abbrev pub part₂ : List ℕ
      part₂ = with_rest part₁ n second_went.part'

      pub around₂ : Around state₂ i before part₂ behind
      around₂ = outer around₁ (4 + 4 * n) (length part₁ - (4 + 4 * n)) second_went.around

      long : (4 < length part₂) × (4 + 4 * n < length part₂)
      long = both_end_asks refl first_went.runs second_went.runs the o.live.2

      -- what joining them asks
      pub join_asks : (4 * i + 4 < length state₂) × (4 * second_child table i < length state₂)
      join_asks =
          let e : 4 * i + (4 + 4 * n) ≡ 4 * second_child table i = omega arith in
          (byte_in around₂ 4 long.0, rw e at (byte_in around₂ (4 + 4 * n) long.1))

      pub still_no_flags : get_or state₂ (4 * i + 1) 0 ≡ 0
      still_no_flags =
          byte_at around₂ 1 (omega (arith, long.0))
          ∙ (front_stays (4 + 4 * n) (length part₁ - (4 + 4 * n)) part₁ second_went.part' 1 (omega arith) fits
          ∙ (front_stays 4 (4 + 4 * n - 4) part first_went.part' 1 (omega arith) (own_in o.live.2 3 (omega arith))
          ∙ no_flags o.live.1 o.live.2))

      pub par_went : {state₃ : List ℕ} {r : Flag} → ParEnds f g (4 * i) (4 * second_child table i) state₂ state₃ r
          → Went 0 BothSuspended (lent table state m rooms) i before part behind (lent table state₃ m₂ rooms₂) r
      par_went e =
          let d : 4 * i + (4 + 4 * n) ≡ 4 * second_child table i = omega arith in
          record {
            part' = par_end f g (4 + 4 * n) part₂;
            around = rw (e.bytes, ← d) (par_end_around around₂ f g (4 + 4 * n) long.0 long.1);
            kept = kept_then first_went.kept second_went.kept;
            runs = λ t w h. both_ran refl first_went.runs second_went.runs (both_of w h) h (e.flag, refl);
          }

-- in the words of the needs
module _ {table : List ℕ} {i : ℕ} {state : List ℕ} {m : Progress} {rooms : Rooms} where
  pub par_first : CanRun 0 BothSuspended (lent table state m rooms) i → {k : ℕ} → weigh table i 2 ≡ k
      → (weigh table (i + 1) child_rank < k) × CanRun 0 Any (lent table state m rooms) (i + 1)
  par_first (before, part, behind, o) e = (lighter form_rank child_rank (lit< tt) (first_smaller o) e, (_, _, _, first_stands o))

  pub par_second_in : CanRun 0 BothSuspended (lent table state m rooms) i → 6 * i + 11 < length table
  par_second_in (before, part, behind, o) = omega (arith, par_reads_in o)

  module _ {state₁ : List ℕ} {m₁ : Progress} {rooms₁ : Rooms} {f : Flag} (run : HasRun 0 Any (lent table state m rooms) (i + 1) (lent table state₁ m₁ rooms₁) f)
      {second : ℕ} (is : second ≡ second_child table i) where
    pub par_second : CanRun 0 BothSuspended (lent table state m rooms) i
        → (size_at table second < size_at table i) × CanRun 0 Any (lent table state₁ m₁ rooms₁) second
    par_second (before, part, behind, o) = rw is (second_smaller o run, (_, _, _, second_stands o run))

    module _ {state₂ : List ℕ} {m₂ : Progress} {rooms₂ : Rooms} {g : Flag} (then : HasRun 0 Any (lent table state₁ m₁ rooms₁) second (lent table state₂ m₂ rooms₂) g) where
      pub par_joins : CanRun 0 BothSuspended (lent table state m rooms) i
          → ((4 * i + 4 < length state₂) × (4 * second < length state₂)) × (get_or state₂ (4 * i + 1) 0 ≡ 0)
      par_joins (before, part, behind, o) = rw is (join_asks o run (run_at is then), still_no_flags o run (run_at is then))

      pub par_done : {state₃ : List ℕ} {r : Flag} → ParEnds f g (4 * i) (4 * second) state₂ state₃ r
          → HasRun 0 BothSuspended (lent table state m rooms) i (lent table state₃ m₂ rooms₂) r
      par_done e before part behind o = par_went o run (run_at is then) (rw is at e)
