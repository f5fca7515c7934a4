-- A Loop over all that is lent: rule 12 when its body begins, 4 and 5 in the rest of it. Rule 13 never comes about.
use Prim.Native.Nat.{ℕ, ◌+◌, ◌-◌, ◌*◌, ◌<◌}
use mathlib.Core.Path.{◌≡◌, refl, ◌∙◌}
use mathlib.Core.Logic.{◌≢◌}
use mathlib.Core.List.{List, ◌++◌}
use native.Mathlib.Omega.{arith}
use lib.Dec.{lit<}
use lib.ListN.{length, get_or, take, drop, set}
use borrow.Rule.Slice.PartMut.{mid_of, put_mid}
use Rattle.junior.specs.declared.Flag.{Flag}
use Rattle.junior.specs.declared.Flag.TheVariants.{TERM}
use Rattle.junior.specs.Term.{Term}
use Rattle.table.specs.Records.{size_at}
use Rattle.state.specs.Kinds.{loop_kind}
use Rattle.state.proofs.Shape.{Shape, is_done, is_loop0, is_loop1, shape_by}
use Rattle.steps.specs.Running.{Rooms, Ready, Any}
use Rattle.steps.proofs.Children.{own_in, unseen}
use Rattle.steps.specs.Kinds.{OfKind}
use Rattle.runner.proofs.Stages.{Beginning}
use Rattle.steps.specs.Lent.{Lent, lent, Around, Stands, Went, CanRun, HasRun}
use Rattle.steps.proofs.Context.{outer, phase_at_lem, phase_in, put_phase}
use Rattle.steps.proofs.Kept.{kept_same, kept_then, still}
use Rattle.steps.proofs.Dispatch.{phase_is}
use Rattle.steps.proofs.ChildContext.{child_stands}
use Rattle.runner.proofs.Loop.{Begins, begins_by, begin_asks, begin_writes, begin_ran}
use Rattle.runner.proofs.Loop.{Loops, loops_by, loop_asks, loop_waits, anew_asks, loop_again}
use Rattle.runner.proofs.Falling.{weigh, child_rank, form_rank, smaller_by}
use Rattle.runner.proofs.GoesOn.{GoesOnAs, went_as}
use Rattle.steps.specs.declared.progress.Progress.{Progress}

-- the body begins
module _ {table : List ℕ} {i : ℕ} {state : List ℕ} {m : Progress} {rooms : Rooms} {before part behind : List ℕ}
    (o : Stands 1 Beginning (lent table state m rooms) i before part behind) where
  the_begun : Begins o.live.0
  the_begun = begins_by o.live.0 o.live.1

  pub begun_stands : Stands 0 Any (lent table state m rooms) (i + 1) (before ++ take 4 part) (mid_of 4 (length part - 4) part)
      (drop (length part - 4) (drop 4 part) ++ behind)
  begun_stands =
      child_stands o.around o.holds 4 (length part - 4) (own_in o.live.2 3 (lit< tt)) (omega arith)
      (begin_asks the_begun o.live.2 1 refl).1

  pub begun_smaller : size_at table (i + 1) < size_at table i
  begun_smaller = smaller_by table i (i + 1) (begin_asks the_begun o.live.2 1 refl).0

  module _ {state₁ : List ℕ} {m₁ : Progress} {rooms₁ : Rooms} {f : Flag} (run : HasRun 0 Any (lent table state m rooms) (i + 1) (lent table state₁ m₁ rooms₁) f) where
    pub begun_went : Went 0 Any (lent table state m rooms) (i + 1) (before ++ take 4 part) (mid_of 4 (length part - 4) part)
        (drop (length part - 4) (drop 4 part) ++ behind) (lent table state₁ m₁ rooms₁) f
    begun_went = run _ _ _ begun_stands

    abbrev pub part_begun : List ℕ
    part_begun = put_mid 4 (length part - 4) part begun_went.part'

    around_begun : Around state₁ i before part_begun behind
    around_begun = outer o.around 4 (length part - 4) begun_went.around

    has_phase : 0 < length part_begun
    has_phase = begin_writes begun_went.runs the_begun o.live.2

    pub begun_writes : 4 * i < length state₁
    begun_writes = phase_in around_begun has_phase

    pub loop_went_in : Went 1 Beginning (lent table state m rooms) i before part behind (lent table (set state₁ (4 * i) 1) m₁ rooms₁) f
    loop_went_in =
        record {
          part' = set part_begun 0 1;
          around = put_phase around_begun 1 has_phase;
          kept = begun_went.kept;
          runs = λ t w h. begin_ran begun_went.runs (begins_by t w) h;
        }

-- a Loop that is neither gone nor begun
not_begun : {t : Term} {ph : ℕ} → Shape t loop_kind ph → ph ≢ 3 → ph ≢ 1 → ph ≡ 0
not_begun (is_loop0 p) a b = refl
not_begun (is_loop1 x) a b = absurd (b refl)
not_begun (is_done p e) a b = absurd (a refl)

module _ {table : List ℕ} {i : ℕ} {state : List ℕ} (on : get_or state (4 * i) 0 ≢ 3) (fresh : get_or state (4 * i) 0 ≢ 1) {rooms : Rooms} where
  begins_at : {before part behind : List ℕ} → Around state i before part behind → {words tally : List ℕ} (t : Term) → OfKind loop_kind t
      → Ready 0 table i part words rooms tally t → Beginning t
  begins_at a t w h =
      (w, not_begun (shape_by t w refl) (λ e. on (phase_is a h ∙ e)) (λ e. fresh (phase_is a h ∙ e)))

module _ {table : List ℕ} {i : ℕ} {state : List ℕ} {m : Progress} {rooms : Rooms} (on : get_or state (4 * i) 0 ≢ 3) (fresh : get_or state (4 * i) 0 ≢ 1) where
  begin_stands : {before part behind : List ℕ} → Stands 0 (OfKind loop_kind) (lent table state m rooms) i before part behind
      → Stands 1 Beginning (lent table state m rooms) i before part behind
  begin_stands o =
      let (t, w, h) = o.live in
      record { around = o.around; holds = o.holds; live = (t, begins_at on fresh o.around t w h, unseen h 1) }

  by_begin : {L' : Lent} {r : Flag} → HasRun 1 Beginning (lent table state m rooms) i L' r
      → HasRun 0 (OfKind loop_kind) (lent table state m rooms) i L' r
  by_begin run before part behind o =
      let g = run before part behind (begin_stands o) in
      went_as (kept_same m) g (λ t w h. g.runs t (begins_at on fresh o.around t w h) (unseen h 1))

  pub loop_begins : CanRun 0 (OfKind loop_kind) (lent table state m rooms) i
      → GoesOnAs Beginning (OfKind loop_kind) (lent table state m rooms) i (lent table state m rooms)
  loop_begins (before, part, behind, o) = record { can = (before, part, behind, begin_stands o); has = λ run. by_begin run }

-- in the rest of its body
module _ {table : List ℕ} {i : ℕ} {state : List ℕ} (begun : get_or state (4 * i) 0 ≡ 1) {m : Progress} {rooms : Rooms} {before part behind : List ℕ}
    (o : Stands 0 (OfKind loop_kind) (lent table state m rooms) i before part behind) where
  in_rest : {t : Term} → OfKind loop_kind t → {words tally : List ℕ} → Ready 0 table i part words rooms tally t → Loops t
  in_rest w h =
      let e = phase_is o.around h in
      loops_by (w, λ z. omega arith) h (λ z. omega (arith, phase_at_lem o.around (own_in h 0 (lit< tt))))

  the : Loops o.live.0
  the = in_rest o.live.1 o.live.2

  pub rest_stands : Stands 0 Any (lent table state m rooms) (i + 1) (before ++ take 4 part) (mid_of 4 (length part - 4) part)
      (drop (length part - 4) (drop 4 part) ++ behind)
  rest_stands =
      child_stands o.around o.holds 4 (length part - 4) (own_in o.live.2 3 (lit< tt)) (omega arith)
      (loop_asks the o.live.2 1 refl).1

  pub rest_smaller : size_at table (i + 1) < size_at table i
  rest_smaller = smaller_by table i (i + 1) (loop_asks the o.live.2 1 refl).0

  module _ {state₁ : List ℕ} {m₁ : Progress} {rooms₁ : Rooms} {f : Flag} (run : HasRun 0 Any (lent table state m rooms) (i + 1) (lent table state₁ m₁ rooms₁) f) where
    pub rest_went : Went 0 Any (lent table state m rooms) (i + 1) (before ++ take 4 part) (mid_of 4 (length part - 4) part)
        (drop (length part - 4) (drop 4 part) ++ behind) (lent table state₁ m₁ rooms₁) f
    rest_went = run _ _ _ rest_stands

    abbrev pub part₁ : List ℕ
    part₁ = put_mid 4 (length part - 4) part rest_went.part'

    pub around₁ : Around state₁ i before part₁ behind
    around₁ = outer o.around 4 (length part - 4) rest_went.around

    pub loop_went : f ≢ TERM → Went 0 (OfKind loop_kind) (lent table state m rooms) i before part behind (lent table state₁ m₁ rooms₁) f
    loop_went n =
        record {
          part' = part₁;
          around = around₁;
          kept = rest_went.kept;
          runs = λ t w h. loop_waits rest_went.runs (in_rest w h) h n;
        }

    module _ (ended : f ≡ TERM) where
      pub anew_stands : Stands 1 Beginning (lent table state₁ m₁ rooms₁) i before part₁ behind
      anew_stands =
          record {
            around = around₁;
            holds = still o.holds rest_went.kept;
            live = anew_asks rest_went.runs the o.live.2 ended;
          }

      pub loop_went_on : {L' : Lent} {r : Flag} → HasRun 1 Beginning (lent table state₁ m₁ rooms₁) i L' r
          → Went 0 (OfKind loop_kind) (lent table state m rooms) i before part behind L' r
      loop_went_on then =
          let g = then before part₁ behind anew_stands in
          record {
            part' = g.part';
            around = g.around;
            kept = kept_then rest_went.kept g.kept;
            runs = λ t w h. loop_again rest_went.runs (in_rest w h) h ended g.runs;
          }

-- in the words of the needs
module _ {table : List ℕ} {i : ℕ} {state : List ℕ} {m : Progress} {rooms : Rooms} where
  pub begin_body : CanRun 1 Beginning (lent table state m rooms) i → {k : ℕ} → weigh table i form_rank ≡ k
      → (weigh table (i + 1) child_rank < k) × CanRun 0 Any (lent table state m rooms) (i + 1)
  begin_body (before, part, behind, o) e = (omega (arith, begun_smaller o), (_, _, _, begun_stands o))

  module _ {state₁ : List ℕ} {m₁ : Progress} {rooms₁ : Rooms} {f : Flag} (run : HasRun 0 Any (lent table state m rooms) (i + 1) (lent table state₁ m₁ rooms₁) f) where
    pub begin_writes_in : CanRun 1 Beginning (lent table state m rooms) i → 4 * i < length state₁
    begin_writes_in (before, part, behind, o) = begun_writes o run

    pub loop_begun : HasRun 1 Beginning (lent table state m rooms) i (lent table (set state₁ (4 * i) 1) m₁ rooms₁) f
    loop_begun before part behind o = loop_went_in o run

  module _ (begun : get_or state (4 * i) 0 ≡ 1) where
    pub loop_body : CanRun 0 (OfKind loop_kind) (lent table state m rooms) i → {k : ℕ} → weigh table i form_rank ≡ k
        → (weigh table (i + 1) child_rank < k) × CanRun 0 Any (lent table state m rooms) (i + 1)
    loop_body (before, part, behind, o) e = (omega (arith, rest_smaller begun o), (_, _, _, rest_stands begun o))

    module _ {state₁ : List ℕ} {m₁ : Progress} {rooms₁ : Rooms} {f : Flag} (run : HasRun 0 Any (lent table state m rooms) (i + 1) (lent table state₁ m₁ rooms₁) f) where
      pub loop_stays : f ≢ TERM → HasRun 0 (OfKind loop_kind) (lent table state m rooms) i (lent table state₁ m₁ rooms₁) f
      loop_stays n before part behind o = loop_went begun o run n

      pub loop_anew : f ≡ TERM → CanRun 0 (OfKind loop_kind) (lent table state m rooms) i
          → GoesOnAs Beginning (OfKind loop_kind) (lent table state m rooms) i (lent table state₁ m₁ rooms₁)
      loop_anew e (before, part, behind, o) =
          record { can = (_, _, _, anew_stands begun o run e); has = λ then before part behind o. loop_went_on begun o run e then }
