-- A Par of which only one branch is suspended, rules 10 and 11, over all that is lent.
use Prim.Native.Nat.{ℕ, ◌+◌, ◌-◌, ◌*◌, ◌/◌, ◌%◌, ◌≤◌, ◌<◌}
use mathlib.Core.Path.{◌≡◌, refl, ap, sym, ◌∙◌}
use mathlib.Core.Logic.{◌≢◌}
use mathlib.Core.List.{List, ◌++◌}
use native.Mathlib.Omega.{arith}
use lib.Dec.{lit<}
use lib.ListN.{length, get_or, take, drop}
use Rattle.junior.specs.declared.Flag.{Flag}
use Rattle.junior.specs.declared.Flag.TheVariants.{TERM}
use Rattle.junior.specs.Term.{Term}
use Rattle.table.specs.Records.{size_at, second_child}
use Rattle.state.specs.Kinds.{par_kind}
use Rattle.state.specs.StateBytes.{code}
use Rattle.state.proofs.Parts.{first_of, with_first, rest_of, with_rest, own_flags}
use Rattle.state.proofs.Shape.{Shape, is_done, is_par, shape_by}
use Rattle.steps.specs.Running.{Rooms, Ready, Any, Kind, par_end}
use Rattle.steps.proofs.Children.{own_in}
use Rattle.steps.specs.Kinds.{NotBoth}
use Rattle.steps.specs.Flags.{flag_of, ParEnds}
use Rattle.steps.specs.Lent.{lent, Around, Stands, Went, CanRun, HasRun}
use Rattle.steps.proofs.Context.{byte_at, byte_in, outer}
use Rattle.steps.proofs.FlagNumbers.{code_of}
use Rattle.steps.proofs.Dispatch.{run_at, phase_is, flags_are}
use Rattle.steps.proofs.ChildContext.{child_stands, par_end_around}
use Rattle.runner.proofs.Par.{Left, Right, par_by, left_by, right_by, par_reads, par_fits, left_flag, right_flag, first_asks}
use Rattle.runner.proofs.Par.{left_end_asks, left_keeps, left_ran, right_asks, right_end_asks, right_ran}
use Rattle.runner.proofs.Falling.{weigh, child_rank, lighter, smaller_by, form_rank}
use Rattle.steps.specs.declared.progress.Progress.{Progress}

-- a Par that doesn't read as Nothing is in phase 0
par_phase : {t : Term} {ph : ℕ} → Shape t par_kind ph → ph ≢ 3 → ph ≡ 0
par_phase (is_par α β t u) n = refl
par_phase (is_done p k) n = absurd (n refl)

module _ {table : List ℕ} {i : ℕ} {state : List ℕ} (on : get_or state (4 * i) 0 ≢ 3) {before part behind : List ℕ} (a : Around state i before part behind)
    {words : List ℕ} {rooms : Rooms} {tally : List ℕ} {t : Term} (w : NotBoth t) (h : Ready 0 table i part words rooms tally t) where
  as_par : Kind par_kind t
  as_par = (w.0, λ e. on (phase_is a h ∙ e))

  left_of : get_or state (4 * i + 1) 0 % 4 ≡ 0 → Left t
  left_of e = left_by h (as_par, ap (λ (n : ℕ). n % 4) (sym (flags_are a h)) ∙ e, w.1 (par_phase (shape_by t w.0 refl) as_par.1))

  right_of : get_or state (4 * i + 1) 0 % 4 ≢ 0 → Right t
  right_of e = right_by h (as_par, λ z. e (ap (λ (n : ℕ). n % 4) (flags_are a h) ∙ z))

  flags_in : get_or state (4 * i + 1) 0 ≡ own_flags part
  flags_in = byte_at a 1 (own_in h 1 (omega arith))

module _ {table : List ℕ} {i : ℕ} {state : List ℕ} (on : get_or state (4 * i) 0 ≢ 3) {m : Progress} {rooms : Rooms} {before part behind : List ℕ}
    (o : Stands 0 NotBoth (lent table state m rooms) i before part behind) where
  abbrev n : ℕ
  n = size_at table (i + 1)

  pub half_reads_in : 6 * (i + 1) + 5 < length table
  half_reads_in = par_reads (par_by (as_par on o.around o.live.1 o.live.2) o.live.2) o.live.2

  fits : 4 + 4 * n ≤ length part
  fits = par_fits refl (par_by (as_par on o.around o.live.1 o.live.2) o.live.2) o.live.2

  second_there : 4 * i + (4 + 4 * n) ≡ 4 * second_child table i
  second_there = omega arith

  -- rule 10: the first branch runs, the second's flag being g
  module _ (suspended : get_or state (4 * i + 1) 0 % 4 ≡ 0) where
    the_left : Left o.live.0
    the_left = left_of on o.around o.live.1 o.live.2 suspended

    pub left_flag_in : get_or state (4 * i + 1) 0 / 4 < 3
    left_flag_in = rw (flags_in on o.around o.live.1 o.live.2) (left_flag the_left o.live.2)

    pub left_stands : Stands 0 Any (lent table state m rooms) (i + 1) (before ++ take 4 part) (first_of part n)
        (drop (4 + 4 * n - 4) (drop 4 part) ++ behind)
    left_stands =
        child_stands o.around o.holds 4 (4 + 4 * n - 4) (own_in o.live.2 3 (omega arith)) (omega arith)
        (first_asks refl the_left.2 o.live.2 1 refl).1

    pub left_smaller : size_at table (i + 1) < size_at table i
    left_smaller = smaller_by table i (i + 1) (first_asks refl the_left.2 o.live.2 1 refl).0

    module _ {state' : List ℕ} {m' : Progress} {rooms' : Rooms} {f : Flag} (run : HasRun 0 Any (lent table state m rooms) (i + 1) (lent table state' m' rooms') f) where
      pub left_went : Went 0 Any (lent table state m rooms) (i + 1) (before ++ take 4 part) (first_of part n)
          (drop (4 + 4 * n - 4) (drop 4 part) ++ behind) (lent table state' m' rooms') f
      left_went = run _ _ _ left_stands

      abbrev pub left_part : List ℕ
      left_part = with_first part n left_went.part'

      pub left_around : Around state' i before left_part behind
      left_around = outer o.around 4 (4 + 4 * n - 4) left_went.around

      left_long : (4 < length left_part) × (4 + 4 * n < length left_part)
      left_long = left_end_asks refl left_went.runs the_left o.live.2

      pub left_joins : (4 * i + 4 < length state') × (4 * second_child table i < length state')
      left_joins =
          (byte_in left_around 4 left_long.0, rw second_there at (byte_in left_around (4 + 4 * n) left_long.1))

      pub left_kept : let g = flag_of (get_or state (4 * i + 1) 0 / 4) in
          (get_or state' (4 * i + 1) 0 ≡ 4 * code g) × (g ≡ TERM → get_or state' (4 * second_child table i) 0 ≡ 3)
      left_kept =
          let (flags, ended) = left_keeps refl left_went.runs the_left o.live.2 in
          let was = flags_in on o.around o.live.1 o.live.2 in
          let g = code_of _ left_flag_in in (
            byte_at left_around 1 (omega (arith, left_long.0)) ∙ rw (g, was) flags,
            λ e. rw second_there at (byte_at left_around (4 + 4 * n) left_long.1) ∙ ended (rw was at (sym g ∙ ap code e)),
          )

      pub half_went_left : {state'' : List ℕ} {r : Flag} → ParEnds f (flag_of (get_or state (4 * i + 1) 0 / 4)) (4 * i) (4 * second_child table i) state' state'' r
          → Went 0 NotBoth (lent table state m rooms) i before part behind (lent table state'' m' rooms') r
      half_went_left e =
          let g = flag_of (get_or state (4 * i + 1) 0 / 4) in
          record {
            part' = par_end f g (4 + 4 * n) left_part;
            around = rw (e.bytes, ← second_there) (par_end_around left_around f g (4 + 4 * n) left_long.0 left_long.1);
            kept = left_went.kept;
            runs = λ t w h.
                left_ran refl left_went.runs (left_of on o.around w h suspended) h g
                (code_of _ left_flag_in ∙ ap (λ (x : ℕ). x / 4) (flags_in on o.around w h)) (e.flag, refl);
          }

  -- rule 11: the second branch runs, the first's flag being f
  module _ (stood : get_or state (4 * i + 1) 0 % 4 ≢ 0) where
    the_right : Right o.live.0
    the_right = right_of on o.around o.live.1 o.live.2 stood

    pub right_flag_in : get_or state (4 * i + 1) 0 % 4 < 3
    right_flag_in = rw (flags_in on o.around o.live.1 o.live.2) (right_flag the_right o.live.2)

    pub right_stands : Stands 0 Any (lent table state m rooms) (second_child table i) (before ++ take (4 + 4 * n) part) (rest_of part n)
        (drop (length part - (4 + 4 * n)) (drop (4 + 4 * n) part) ++ behind)
    right_stands =
        child_stands o.around o.holds (4 + 4 * n) (length part - (4 + 4 * n)) fits (omega arith)
        (right_asks refl the_right o.live.2 1 refl).1

    pub right_smaller : size_at table (second_child table i) < size_at table i
    right_smaller = smaller_by table i (second_child table i) (right_asks refl the_right o.live.2 1 refl).0

    module _ {state' : List ℕ} {m' : Progress} {rooms' : Rooms} {g : Flag}
        (run : HasRun 0 Any (lent table state m rooms) (second_child table i) (lent table state' m' rooms') g) where
      pub right_went : Went 0 Any (lent table state m rooms) (second_child table i) (before ++ take (4 + 4 * n) part) (rest_of part n)
          (drop (length part - (4 + 4 * n)) (drop (4 + 4 * n) part) ++ behind) (lent table state' m' rooms') g
      right_went = run _ _ _ right_stands

      abbrev pub right_part : List ℕ
      right_part = with_rest part n right_went.part'

      pub right_around : Around state' i before right_part behind
      right_around = outer o.around (4 + 4 * n) (length part - (4 + 4 * n)) right_went.around

      right_long : (4 < length right_part) × (4 + 4 * n < length right_part)
      right_long = right_end_asks refl right_went.runs the_right o.live.2

      pub right_joins : (4 * i + 4 < length state') × (4 * second_child table i < length state')
      right_joins =
          (byte_in right_around 4 right_long.0, rw second_there at (byte_in right_around (4 + 4 * n) right_long.1))

      pub half_went_right : {state'' : List ℕ} {r : Flag} → ParEnds (flag_of (get_or state (4 * i + 1) 0 % 4)) g (4 * i) (4 * second_child table i) state' state'' r
          → Went 0 NotBoth (lent table state m rooms) i before part behind (lent table state'' m' rooms') r
      half_went_right e =
          let f = flag_of (get_or state (4 * i + 1) 0 % 4) in
          record {
            part' = par_end f g (4 + 4 * n) right_part;
            around = rw (e.bytes, ← second_there) (par_end_around right_around f g (4 + 4 * n) right_long.0 right_long.1);
            kept = right_went.kept;
            runs = λ t w h.
                right_ran refl right_went.runs (right_of on o.around w h stood) h f
                (code_of _ right_flag_in ∙ ap (λ (x : ℕ). x % 4) (flags_in on o.around w h)) (e.flag, refl);
          }

-- in the words of the needs
module _ {table : List ℕ} {i : ℕ} {state : List ℕ} {m : Progress} {rooms : Rooms} (on : get_or state (4 * i) 0 ≢ 3) where
  pub half_second_in : CanRun 0 NotBoth (lent table state m rooms) i → 6 * i + 11 < length table
  half_second_in (before, part, behind, o) = omega (arith, half_reads_in on o)

  pub half_second_few : CanRun 0 NotBoth (lent table state m rooms) i → {second : ℕ} → second ≡ second_child table i → second < 4097
  half_second_few (before, part, behind, o) is =
      let h = o.live.2 in omega (arith, fits on o, h.long, h.placed.inside, h.placed.loaded.framed.n_most)

  module _ (suspended : get_or state (4 * i + 1) 0 % 4 ≡ 0) where
    pub half_left : CanRun 0 NotBoth (lent table state m rooms) i → {k : ℕ} → weigh table i 2 ≡ k
        → (weigh table (i + 1) child_rank < k) × CanRun 0 Any (lent table state m rooms) (i + 1)
    half_left (before, part, behind, o) e =
        (lighter form_rank child_rank (lit< tt) (left_smaller on o suspended) e, (_, _, _, left_stands on o suspended))

    module _ {second : ℕ} (is : second ≡ second_child table i)
        {state' : List ℕ} {m' : Progress} {rooms' : Rooms} {f : Flag} (run : HasRun 0 Any (lent table state m rooms) (i + 1) (lent table state' m' rooms') f) where
      pub half_left_joins : CanRun 0 NotBoth (lent table state m rooms) i
          → (4 * i + 4 < length state') × (4 * second < length state')
      half_left_joins (before, part, behind, o) = rw is (left_joins on o suspended run)

      pub half_left_keeps : CanRun 0 NotBoth (lent table state m rooms) i
          → let g = flag_of (get_or state (4 * i + 1) 0 / 4) in
          (get_or state' (4 * i + 1) 0 ≡ 4 * code g) × (g ≡ TERM → get_or state' (4 * second) 0 ≡ 3)
      half_left_keeps (before, part, behind, o) = rw is (left_kept on o suspended run)

      pub half_left_done : {state'' : List ℕ} {r : Flag} → ParEnds f (flag_of (get_or state (4 * i + 1) 0 / 4)) (4 * i) (4 * second) state' state'' r
          → HasRun 0 NotBoth (lent table state m rooms) i (lent table state'' m' rooms') r
      half_left_done e before part behind o = half_went_left on o suspended run (rw is at e)

  module _ (stood : get_or state (4 * i + 1) 0 % 4 ≢ 0) {second : ℕ} (is : second ≡ second_child table i) where
    pub half_right : CanRun 0 NotBoth (lent table state m rooms) i
        → (size_at table second < size_at table i) × CanRun 0 Any (lent table state m rooms) second
    half_right (before, part, behind, o) = rw is (right_smaller on o stood, (_, _, _, right_stands on o stood))

    module _ {state' : List ℕ} {m' : Progress} {rooms' : Rooms} {g : Flag} (run : HasRun 0 Any (lent table state m rooms) second (lent table state' m' rooms') g) where
      pub half_right_joins : CanRun 0 NotBoth (lent table state m rooms) i
          → (4 * i + 4 < length state') × (4 * second < length state')
      half_right_joins (before, part, behind, o) = rw is (right_joins on o stood (run_at is run))

      pub half_right_done : {state'' : List ℕ} {r : Flag} → ParEnds (flag_of (get_or state (4 * i + 1) 0 % 4)) g (4 * i) (4 * second) state' state'' r
          → HasRun 0 NotBoth (lent table state m rooms) i (lent table state'' m' rooms') r
      half_right_done e before part behind o = half_went_right on o stood (run_at is run) (rw is at e)
