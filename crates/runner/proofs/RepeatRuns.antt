-- A Repeat or a RepeatExt, rules 14 and 15 when it begins, 4 and 5 in the rest of a run of its body, over all that is lent.
use Prim.Native.Nat.{ℕ, ◌+◌, ◌-◌, ◌*◌, ◌/◌, ◌%◌, ◌≤◌, ◌<◌}
use mathlib.Core.Path.{◌≡◌, refl, sym, subst, ◌∙◌}
use mathlib.Core.Logic.{◌≢◌, ◌⊎◌, inl, inr}
use mathlib.Core.List.{List, ◌++◌}
use native.Mathlib.Omega.{arith}
use lib.Dec.{lit<}
use lib.ListN.{length, get_or, take, drop, set, length-set}
use borrow.Rule.Slice.PartMut.{mid_of, put_mid}
use Rattle.junior.specs.declared.Flag.{Flag}
use Rattle.junior.specs.declared.Flag.TheVariants.{TERM}
use Rattle.junior.specs.Term.{Term}
use Rattle.junior.specs.Trace.{Place}
use Rattle.table.specs.Records.{word, size_at}
use Rattle.state.specs.StateBytes.{head}
use Rattle.state.proofs.Parts.{own_phase, own_flags}
use Rattle.steps.specs.Running.{Rooms, Ready, Ran, Live, Runs, Any, Times, values_in, times_at}
use Rattle.steps.proofs.Children.{falling, own_in, unseen}
use Rattle.runner.proofs.Repeat.{InRun, in_run_by, times_asks, times_below, times_writes, times_waits, times_ends, next_live, next_flags, times_again}
use Rattle.runner.proofs.Repeat.{Unbegun, begins, repeat_ends, repeat_asks, repeat_ran, counts, counts_asks}
use Rattle.steps.specs.Progress.{tally_of}
use Rattle.steps.specs.Kinds.{Repetition}
use Rattle.steps.specs.Lent.{Lent, lent, Around, Stands, Went, CanRun, HasRun}
use Rattle.steps.proofs.Context.{byte_at, byte_in, phase_at_lem, put_byte, put_phase, outer}
use Rattle.steps.proofs.Kept.{kept_same, still}
use Rattle.runner.proofs.GoesOn.{stands_as, went_as}
use Rattle.steps.proofs.Dispatch.{phase_is}
use Rattle.steps.proofs.ChildContext.{child_stands}
use Rattle.steps.specs.declared.progress.Progress.{Progress}

-- three of a node's own bytes written anew
own_put : {state : List ℕ} {i : ℕ} {before part behind : List ℕ} → Around state i before part behind → 4 ≤ length part → (a b c : ℕ)
    → Around (set (set (set state (4 * i) a) (4 * i + 2) b) (4 * i + 3) c) i before (set (set (set part 0 a) 2 b) 3 c) behind
own_put {part = part} o l a b c =
    let m = length-set part 0 a in
    let n = length-set (set part 0 a) 2 b in
    put_byte (put_byte (put_phase o a (omega arith)) 2 b (omega arith)) 3 c (omega arith)

-- one in a run of its body, k runs being still to begin
module _ {k : ℕ} {table : List ℕ} {i : ℕ} {state : List ℕ} {m : Progress} {rooms : Rooms} {before part behind : List ℕ}
    (o : Stands 4 (Times k) (lent table state m rooms) i before part behind) where
  the : InRun k o.live.0
  the = in_run_by o.live.0 o.live.1

  pub body_stands : Stands 0 Any (lent table state m rooms) (i + 1) (before ++ take 4 part) (mid_of 4 (length part - 4) part)
      (drop (length part - 4) (drop 4 part) ++ behind)
  body_stands =
      child_stands o.around o.holds 4 (length part - 4) (own_in o.live.2 3 (lit< tt)) (omega arith)
      (times_asks the o.live.2 refl).1

  pub body_smaller : size_at table (i + 1) < size_at table i
  body_smaller = let l : falling table (i + 1) 3 < falling table i 0 = (times_asks the o.live.2 refl).0 in omega arith

  pub left_below : k < 65536
  left_below = times_below the o.live.2

  flags_in : get_or state (4 * i + 1) 0 ≡ own_flags part
  flags_in = byte_at o.around 1 (own_in o.live.2 1 (lit< tt))

  module _ {state₁ : List ℕ} {m₁ : Progress} {rooms₁ : Rooms} {f : Flag} (run : HasRun 0 Any (lent table state m rooms) (i + 1) (lent table state₁ m₁ rooms₁) f) where
    pub body_went : Went 0 Any (lent table state m rooms) (i + 1) (before ++ take 4 part) (mid_of 4 (length part - 4) part)
        (drop (length part - 4) (drop 4 part) ++ behind) (lent table state₁ m₁ rooms₁) f
    body_went = run _ _ _ body_stands

    abbrev pub part₁ : List ℕ
    part₁ = put_mid 4 (length part - 4) part body_went.part'

    pub around₁ : Around state₁ i before part₁ behind
    around₁ = outer o.around 4 (length part - 4) body_went.around

    own_long : 4 ≤ length part₁
    own_long = times_writes body_went.runs the o.live.2

    pub own_there : 4 * i + 3 < length state₁
    own_there = byte_in around₁ 3 own_long

    -- it waits, or has ended as the last
    pub times_wait_went : get_or state (4 * i + 1) 0 ≡ 0 → f ≢ TERM
        → {state₂ : List ℕ} → state₂ ≡ set (set (set state₁ (4 * i) 1) (4 * i + 2) (k / 256)) (4 * i + 3) (k % 256)
        → Went 4 (Times k) (lent table state m rooms) i before part behind (lent table state₂ m₁ rooms₁) f
    times_wait_went z n is =
        record {
          part' = set (set (set part₁ 0 1) 2 (k / 256)) 3 (k % 256);
          around = rw is (own_put around₁ own_long 1 (k / 256) (k % 256));
          kept = body_went.kept;
          runs = λ t w h.
              times_waits body_went.runs (in_run_by t w) h (sym flags_in ∙ z) n refl;
        }

    pub times_end_went : get_or state (4 * i + 1) 0 ≡ 0 → f ≡ TERM → k ≡ 0
        → {state₂ : List ℕ} → state₂ ≡ set (set (set state₁ (4 * i) 0) (4 * i + 2) 0) (4 * i + 3) 0
        → Went 4 (Times k) (lent table state m rooms) i before part behind (lent table state₂ m₁ rooms₁) TERM
    times_end_went z e l is =
        record {
          part' = set (set (set part₁ 0 0) 2 0) 3 0;
          around = rw is (own_put around₁ own_long 0 0 0);
          kept = body_went.kept;
          runs = λ t w h. times_ends body_went.runs (in_run_by t w) h (sym flags_in ∙ z) e l refl;
        }

    -- it has ended, and the next begins
    module _ (e : f ≡ TERM) (l : k ≢ 0) where
      pub next_stands : Stands 4 (Times (k - 1)) (lent table state₁ m₁ rooms₁) i before part₁ behind
      next_stands =
          record {
            around = around₁;
            holds = still o.holds body_went.kept;
            live = next_live body_went.runs the o.live.2 e l;
          }

      pub next_no_flags : get_or state (4 * i + 1) 0 ≡ 0 → get_or state₁ (4 * i + 1) 0 ≡ 0
      next_no_flags z = byte_at around₁ 1 (omega (arith, own_long)) ∙ next_flags body_went.runs the o.live.2 (sym flags_in ∙ z)

      pub next_went : {L' : Lent} {r : Flag} → HasRun 4 (Times (k - 1)) (lent table state₁ m₁ rooms₁) i L' r
          → Went 4 (Times k) (lent table state m rooms) i before part behind L' r
      next_went then =
          let g = then before part₁ behind next_stands in
          went_as body_went.kept g (λ t w h. times_again body_went.runs (in_run_by t w) h e l g.runs)

-- in the words of the needs
module _ {k : ℕ} {table : List ℕ} {i : ℕ} {state : List ℕ} {m : Progress} {rooms : Rooms} where
  pub times_body : CanRun 4 (Times k) (lent table state m rooms) i
      → (size_at table (i + 1) < size_at table i) × CanRun 0 Any (lent table state m rooms) (i + 1)
  times_body (before, part, behind, o) = (body_smaller o, (_, _, _, body_stands o))

  module _ {state₁ : List ℕ} {m₁ : Progress} {rooms₁ : Rooms} {f : Flag} (run : HasRun 0 Any (lent table state m rooms) (i + 1) (lent table state₁ m₁ rooms₁) f) where
    pub times_own : CanRun 4 (Times k) (lent table state m rooms) i → (4 * i + 3 < length state₁) × (k < 65536)
    times_own (before, part, behind, o) = (own_there o run, left_below o)

    pub times_wait : get_or state (4 * i + 1) 0 ≡ 0 → f ≢ TERM
        → {state₂ : List ℕ} → state₂ ≡ set (set (set state₁ (4 * i) 1) (4 * i + 2) (k / 256)) (4 * i + 3) (k % 256)
        → HasRun 4 (Times k) (lent table state m rooms) i (lent table state₂ m₁ rooms₁) f
    times_wait z n is before part behind o = times_wait_went o run z n is

    pub times_end : get_or state (4 * i + 1) 0 ≡ 0 → f ≡ TERM → k ≡ 0
        → {state₂ : List ℕ} → state₂ ≡ set (set (set state₁ (4 * i) 0) (4 * i + 2) 0) (4 * i + 3) 0
        → HasRun 4 (Times k) (lent table state m rooms) i (lent table state₂ m₁ rooms₁) TERM
    times_end z e l is before part behind o = times_end_went o run z e l is

    module _ (e : f ≡ TERM) (l : k ≢ 0) where
      pub times_next : CanRun 4 (Times k) (lent table state m rooms) i → get_or state (4 * i + 1) 0 ≡ 0
          → CanRun 4 (Times (k - 1)) (lent table state₁ m₁ rooms₁) i × (get_or state₁ (4 * i + 1) 0 ≡ 0)
      times_next (before, part, behind, o) z = ((_, _, _, next_stands o run e l), next_no_flags o run e l z)

      pub times_then : {L' : Lent} {r : Flag} → HasRun 4 (Times (k - 1)) (lent table state₁ m₁ rooms₁) i L' r
          → HasRun 4 (Times k) (lent table state m rooms) i L' r
      times_then then before part behind o = next_went o run e l then

-- before a turn of the loop: the repetition with `left` runs still to begin can be run, and what that does now is what it does from the entry on
pub record Turn (L₀ : Lent) (i k : ℕ) (L : Lent) (left : ℕ) : Type 0 where
  pub can : CanRun 4 (Times left) L i
  pub no_flags_yet : get_or L.state (4 * i + 1) 0 ≡ 0
  pub goes_on : {L' : Lent} {r : Flag} → HasRun 4 (Times left) L i L' r → HasRun 4 (Times k) L₀ i L' r

pub first_turn : {i k : ℕ} {L : Lent} → CanRun 4 (Times k) L i → get_or L.state (4 * i + 1) 0 ≡ 0 → Turn L i k L k
first_turn o z = record { can = o; no_flags_yet = z; goes_on = λ run. run }

pub next_turn : {i k : ℕ} {L₀ : Lent} {table state : List ℕ} {m : Progress} {rooms : Rooms} {left : ℕ} → Turn L₀ i k (lent table state m rooms) left
    → {state₁ : List ℕ} {m₁ : Progress} {rooms₁ : Rooms} {f : Flag} → HasRun 0 Any (lent table state m rooms) (i + 1) (lent table state₁ m₁ rooms₁) f → f ≡ TERM → left ≢ 0
    → Turn L₀ i k (lent table state₁ m₁ rooms₁) (left - 1)
next_turn u run e l =
    let (o, z) = times_next run e l u.can u.no_flags_yet in
    record { can = o; no_flags_yet = z; goes_on = λ then. u.goes_on (times_then run e l then) }

-- a repetition has so many turns to go, the one that it is in counted: as many as the table says if it is not begun, else by its count
abbrev pub Turns : List ℕ → ℕ → List ℕ → List ℕ → ℕ → Type 0
Turns table i state tally turns =
    ((get_or state (4 * i) 0 ≡ 0) × (turns ≡ times_at table i tally))
    ⊎ ((get_or state (4 * i) 0 ≢ 0) × (turns ≡ get_or state (4 * i + 2) 0 * 256 + get_or state (4 * i + 2 + 1) 0 + 1))

abbrev pub TurnsIn : Lent → ℕ → ℕ → Type 0
TurnsIn L i turns = Turns L.table i L.state (tally_of L.progress) turns

module _ {table : List ℕ} {i : ℕ} {state : List ℕ} (on : get_or state (4 * i) 0 ≢ 3) {before part behind : List ℕ} (a : Around state i before part behind)
    {words : List ℕ} {rooms : Rooms} {tally : List ℕ} {t : Term} (w : Repetition t) (h : Ready 0 table i part words rooms tally t) where
  no_3 : (head t).phase ≢ 3
  no_3 e = on (phase_is a h ∙ e)

  phase_there : get_or state (4 * i) 0 ≡ own_phase part
  phase_there = phase_at_lem a (own_in h 0 (lit< tt))

  byte_there : (k : ℕ) → k < 4 → get_or state (4 * i + k) 0 ≡ get_or part k 0
  byte_there k l = byte_at a k (own_in h k l)

  module _ {turns : ℕ} where
    unbegun_here : get_or state (4 * i) 0 ≡ 0 → turns ≡ times_at table i tally → Unbegun (values_in tally) turns t
    unbegun_here ph is = subst (λ n. Unbegun (values_in tally) n t) (sym is) (begins w h (sym phase_there ∙ ph))

    count_is : turns ≡ get_or state (4 * i + 2) 0 * 256 + get_or state (4 * i + 2 + 1) 0 + 1 → turns - 1 ≡ word part 2
    count_is is =
        let n : 4 * i + 2 + 1 ≡ 4 * i + 3 = omega arith in
        let one_more : turns ≡ word part 2 + 1 = is ∙ rw (n, byte_there 2 (lit< tt), byte_there 3 (lit< tt)) in
        omega arith

    none_ran : Turns table i state tally turns → turns ≡ 0 → (P : Place) → Ran P t words rooms tally part words rooms tally TERM
    none_ran (inl (ph, is)) z P = repeat_ends (unbegun_here ph is) h z P
    none_ran (inr (ph, is)) z P = absurd (omega arith)

    in_turn : Turns table i state tally turns → turns ≢ 0 → Live 4 (Times (turns - 1)) table i part words rooms tally × (own_flags part ≡ 0)
    in_turn (inl (ph, is)) some = repeat_asks (unbegun_here ph is) h some
    in_turn (inr (ph, is)) some = counts_asks (w, no_3) h (λ e. ph (phase_there ∙ e)) (count_is is)

    turn_ran : Turns table i state tally turns → turns ≢ 0
        → {state' words' : List ℕ} {rooms' : Rooms} {tally' : List ℕ} {α : Flag}
        → Runs 4 (Times (turns - 1)) table i part words rooms tally state' words' rooms' tally' α
        → (P : Place)
        → P.node ≡ i
        → Ran P t words rooms tally state' words' rooms' tally' α
    turn_ran (inl (ph, is)) some run P at = repeat_ran (unbegun_here ph is) h some run P at
    turn_ran (inr (ph, is)) some run P at = run t (counts (w, no_3) h (λ e. ph (phase_there ∙ e)) (count_is is)) (unseen h 4) P at

-- in the words of the needs: one not begun, or begun
module _ {table : List ℕ} {i : ℕ} {state : List ℕ} {m : Progress} {rooms : Rooms} (on : get_or state (4 * i) 0 ≢ 3) {turns : ℕ}
    (is : Turns table i state (tally_of m) turns) where
  pub repeat_none : turns ≡ 0 → HasRun 0 Repetition (lent table state m rooms) i (lent table state m rooms) TERM
  repeat_none z before part behind o =
      record {
        part' = part;
        around = o.around;
        kept = kept_same m;
        runs = λ t w h P at. none_ran on o.around w h is z P;
      }

  module _ (some : turns ≢ 0) where
    turn_stands : {before part behind : List ℕ} → Stands 0 Repetition (lent table state m rooms) i before part behind
        → Stands 4 (Times (turns - 1)) (lent table state m rooms) i before part behind
    turn_stands o = let (t, w, h) = o.live in stands_as o (in_turn on o.around w h is some).0

    pub repeat_turn : CanRun 0 Repetition (lent table state m rooms) i
        → CanRun 4 (Times (turns - 1)) (lent table state m rooms) i × (get_or state (4 * i + 1) 0 ≡ 0)
    repeat_turn (before, part, behind, o) =
        let (t, w, h) = o.live in
        ((before, part, behind, turn_stands o), byte_there on o.around w h 1 (lit< tt) ∙ (in_turn on o.around w h is some).1)

    pub repeat_by : {L' : Lent} {f : Flag} → HasRun 4 (Times (turns - 1)) (lent table state m rooms) i L' f
        → HasRun 0 Repetition (lent table state m rooms) i L' f
    repeat_by run before part behind o =
        let g = run before part behind (turn_stands o) in
        went_as (kept_same m) g (λ t w h P at. turn_ran on o.around w h is some g.runs P at)
