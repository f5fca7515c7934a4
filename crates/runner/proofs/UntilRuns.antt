-- An Until in its body, rules 29 and 30, and Until*, rules 31 to 34, over all that is lent.
use Prim.Native.Nat.{ℕ, ◌+◌, ◌-◌, ◌*◌, ◌≤◌, ◌<◌}
use mathlib.Core.Bool.{true, false}
use mathlib.Core.Path.{◌≡◌, refl, ap, sym, ◌∙◌}
use mathlib.Core.Logic.{◌≢◌}
use mathlib.Core.List.{List, ◌++◌}
use native.Mathlib.Omega.{arith}
use borrow.Author.Rules.{rules}
use lib.Dec.{lit<}
use lib.ListN.{length, get_or, take, drop, set, replicate}
use borrow.Rule.Slice.PartMut.{mid_len}
use Rattle.junior.specs.declared.Flag.{Flag}
use Rattle.junior.specs.declared.Flag.TheVariants.{SUSP, STOP, TERM}
use Rattle.junior.specs.declared.Verdict.{Verdict}
use Rattle.junior.specs.declared.Verdict.TheVariants.{Sat, Unsat, Unknown}
use Rattle.junior.specs.Term.{Term}
use Rattle.table.specs.Records.{size_at, second_child}
use Rattle.state.specs.Kinds.{until_kind}
use Rattle.state.proofs.Parts.{first_of, with_first}
use Rattle.steps.specs.Running.{Rooms, rooms_of, Ready, Any, TestRead}
use Rattle.steps.proofs.Children.{own_in}
use Rattle.steps.proofs.Tally.{byte_read}
use Rattle.steps.specs.declared.Pass.{Pass}
use Rattle.steps.specs.Progress.{words_of, tally_of}
use Rattle.steps.specs.Kinds.{OfKind, InSecond}
use Rattle.runner.proofs.Stages.{Starred}
use Rattle.steps.specs.Tests.{CanTest, TestIs, body_cleared, StarRead, waits, refused, satisfied_late, satisfied}
use Rattle.steps.specs.Lent.{Lent, lent, lent_then, Around, Stands, Went, CanRun, HasRun}
use Rattle.steps.proofs.Context.{inner, outer, phase_at_lem, put_phase, byte_in, put_part}
use Rattle.steps.proofs.Kept.{kept_same, still}
use Rattle.steps.proofs.Dispatch.{phase_is}
use Rattle.steps.proofs.ChildContext.{child_stands}
use Rattle.runner.proofs.Until.{Until0, until0_by, body_asks, until_waits, star_asks, until_stops}
use Rattle.runner.proofs.Until.{Star, star_by, star_has, star_waits, star_fails, star_reads, star_fits}
use Rattle.runner.proofs.Until.{handler_live, handler_goes, handler_later, handler_writes}
use Rattle.runner.proofs.Falling.{smaller_by}
use Rattle.runner.proofs.GoesOn.{GoesOnAs, went_as, goes_by_phase}
use Rattle.steps.specs.declared.progress.Progress.{Progress}

-- in its body: that runs
module _ {table : List ℕ} {i : ℕ} {state : List ℕ} (on : get_or state (4 * i) 0 ≢ 3) (no_star : get_or state (4 * i) 0 ≢ 1)
    (no_handler : get_or state (4 * i) 0 ≢ 2) where
  in_body : {before part behind : List ℕ} → Around state i before part behind → {t : Term} → OfKind until_kind t
      → {words : List ℕ} {rooms : Rooms} {tally : List ℕ} → Ready 0 table i part words rooms tally t → Until0 t
  in_body a w h =
      let at = phase_at_lem a (own_in h 0 (lit< tt)) in
      until0_by (w, λ e. on (phase_is a h ∙ e)) h (λ e. no_star (at ∙ e)) (λ e. no_handler (at ∙ e))

  module _ {m : Progress} {rooms : Rooms} {before part behind : List ℕ} (o : Stands 0 (OfKind until_kind) (lent table state m rooms) i before part behind) where
    abbrev n : ℕ
    n = size_at table (i + 1)

    the : Until0 o.live.0
    the = in_body o.around o.live.1 o.live.2

    body_stands : Stands 0 Any (lent table state m rooms) (i + 1) (before ++ take 4 part) (first_of part n)
        (drop (4 + 4 * n - 4) (drop 4 part) ++ behind)
    body_stands =
        child_stands o.around o.holds 4 (4 + 4 * n - 4) (own_in o.live.2 3 (lit< tt)) (omega arith)
        (body_asks refl the o.live.2 1 refl).1

    body_smaller : size_at table (i + 1) < size_at table i
    body_smaller = smaller_by table i (i + 1) (body_asks refl the o.live.2 1 refl).0

    module _ {state₁ : List ℕ} {m₁ : Progress} {rooms₁ : Rooms} {f : Flag} (run : HasRun 0 Any (lent table state m rooms) (i + 1) (lent table state₁ m₁ rooms₁) f) where
      body_went : Went 0 Any (lent table state m rooms) (i + 1) (before ++ take 4 part) (first_of part n)
          (drop (4 + 4 * n - 4) (drop 4 part) ++ behind) (lent table state₁ m₁ rooms₁) f
      body_went = run _ _ _ body_stands

      abbrev part₁ : List ℕ
      part₁ = with_first part n body_went.part'

      around₁ : Around state₁ i before part₁ behind
      around₁ = outer o.around 4 (4 + 4 * n - 4) body_went.around

      until_went : f ≢ STOP → Went 0 (OfKind until_kind) (lent table state m rooms) i before part behind (lent table state₁ m₁ rooms₁) f
      until_went a =
          record {
            part' = part₁;
            around = around₁;
            kept = body_went.kept;
            runs = λ t w h. until_waits refl body_went.runs (in_body o.around w h) h a;
          }

      module _ (stopped : f ≡ STOP) where
        now_star : Stands 1 Starred (lent table state₁ m₁ rooms₁) i before part₁ behind
        now_star =
            record {
              around = around₁;
              holds = still o.holds body_went.kept;
              live = star_asks refl body_went.runs the o.live.2 stopped;
            }

        star_went : {L' : Lent} {r : Flag} → HasRun 1 Starred (lent table state₁ m₁ rooms₁) i L' r
            → Went 0 (OfKind until_kind) (lent table state m rooms) i before part behind L' r
        star_went then =
            let g = then before part₁ behind now_star in
            went_as body_went.kept g
            (λ t w h. until_stops refl body_went.runs (in_body o.around w h) h stopped g.runs)

  -- in the words of the needs
  module _ {m : Progress} {rooms : Rooms} where
    pub until_first : CanRun 0 (OfKind until_kind) (lent table state m rooms) i
        → (size_at table (i + 1) < size_at table i) × CanRun 0 Any (lent table state m rooms) (i + 1)
    until_first (before, part, behind, o) = (body_smaller o, (_, _, _, body_stands o))

    module _ {state₁ : List ℕ} {m₁ : Progress} {rooms₁ : Rooms} {f : Flag} (run : HasRun 0 Any (lent table state m rooms) (i + 1) (lent table state₁ m₁ rooms₁) f) where
      pub until_stays : f ≢ STOP → HasRun 0 (OfKind until_kind) (lent table state m rooms) i (lent table state₁ m₁ rooms₁) f
      until_stays a before part behind o = until_went o run a

      pub until_starred : f ≡ STOP → CanRun 0 (OfKind until_kind) (lent table state m rooms) i
          → GoesOnAs Starred (OfKind until_kind) (lent table state m rooms) i (lent table state₁ m₁ rooms₁)
      until_starred e (before, part, behind, o) =
          record { can = (_, _, _, now_star o run e); has = λ then before part behind o. star_went o run e then }

-- one that is Until* already
pub starred_already : {table : List ℕ} {i : ℕ} {state : List ℕ} {m : Progress} {rooms : Rooms} → get_or state (4 * i) 0 ≡ 1
    → CanRun 0 (OfKind until_kind) (lent table state m rooms) i
    → GoesOnAs Starred (OfKind until_kind) (lent table state m rooms) i (lent table state m rooms)
starred_already starred o = goes_by_phase (λ t k p. (k, p)) starred o

-- Until*
module _ {table : List ℕ} {i : ℕ} {state : List ℕ} {m : Progress} {rooms : Rooms} {before part behind : List ℕ}
    (o : Stands 1 Starred (lent table state m rooms) i before part behind) where
  abbrev size : ℕ
  size = size_at table (i + 1)

  the_star : Star o.live.0
  the_star = star_by o.live.0 o.live.1

  fits : 4 + 4 * size ≤ length part
  fits = star_fits the_star o.live.2 refl

  body_ends : 4 * second_child table i ≤ length state
  body_ends = omega (arith, byte_in o.around (4 * size + 3) (omega (arith, fits)))

  -- there are few nodes, so no index wraps
  few_ahead : second_child table i ≤ 4096
  few_ahead = let h = o.live.2 in omega (arith, fits, h.long, h.placed.inside, h.placed.loaded.framed.n_most)

  body_long : length (first_of part size) ≡ 4 * size
  body_long = mid_len 4 (4 + 4 * size) part fits ∙ omega arith

  abbrev zeros : List ℕ
  zeros = replicate (4 * size) 0

  abbrev cleared : List ℕ
  cleared = with_first part size zeros

  zeros_are : zeros ≡ replicate (length (first_of part size)) 0
  zeros_are = ap (λ (k : ℕ). replicate {A = ℕ} k 0) (sym body_long)

  module _ {second : ℕ} (is : second ≡ second_child table i) where
    around_cleared : Around (body_cleared (4 * i) (4 * second) state) i before cleared behind
    around_cleared =
        let body = inner o.around 4 (4 + 4 * size - 4) {j = i + 1} (omega (arith, fits)) (omega arith) in
        let from : 4 * i + 4 ≡ 4 * (i + 1) = omega arith in
        let long : 4 * second - 4 * (i + 1) ≡ 4 * size = omega arith in
        rw (from, long) (outer o.around 4 (4 + 4 * size - 4) (rw body_long at (put_part body zeros)))

    module _ {v : Verdict} (reads : TestRead table i (words_of m) (tally_of m) v) where
      handler_stands : Stands 1 InSecond (lent table (body_cleared (4 * i) (4 * second) state) m rooms) i before cleared behind
      handler_stands =
          record { around = around_cleared; holds = o.holds; live = handler_live reads refl zeros_are the_star o.live.2 }

      module _ (sat : v ≡ Sat) where
        handler_went : m.ended ≡ false → {L' : Lent} {r : Flag}
            → HasRun 1 InSecond (lent table (body_cleared (4 * i) (4 * second) state) m rooms) i L' r
            → Went 1 Starred (lent table state m rooms) i before part behind L' r
        handler_went z run =
            let g = run before cleared behind handler_stands in
            went_as (kept_same m) g (λ t w h. handler_goes reads refl zeros_are (star_by t w) h sat (byte_read m.ended ∙ z) g.runs)

        next_went : m.ended ≡ true
            → Went 1 Starred (lent table state m rooms) i before part behind
            (lent table (set (body_cleared (4 * i) (4 * second) state) (4 * i) 2) m rooms) STOP
        next_went z =
            record {
              part' = set cleared 0 2;
              around = put_phase around_cleared 2 (handler_writes reads refl zeros_are the_star o.live.2);
              kept = kept_same m;
              runs = λ t w h. handler_later reads refl zeros_are (star_by t w) h sat (byte_read m.ended ∙ z);
            }

-- node i, of which U holds in L and whose test has been read, has answered f in L₁; where f is TERM, it goes on there in its handler
pub record AfterTest (U : Term → Type 0) (L : Lent) (i : ℕ) (L₁ : Lent) (f : Flag) : Type 0 where
  pub answers : f ≢ TERM → HasRun 0 U L i L₁ f
  pub to_handler : f ≡ TERM → GoesOnAs InSecond U L i L₁

answered : {U : Term → Type 0} {L : Lent} {i : ℕ} {L₁ : Lent} {f : Flag} → f ≢ TERM → HasRun 0 U L i L₁ f → AfterTest U L i L₁ f
answered n run = record { answers = λ _. run; to_handler = λ e. absurd (n e) }

-- in the words of the needs
module _ {table : List ℕ} {i : ℕ} {state : List ℕ} {m : Progress} {rooms : Rooms} where
  pub star_tests : CanRun 1 Starred (lent table state m rooms) i → CanTest table i m
  star_tests (before, part, behind, o) =
      let (t, w, h) = o.live in record { has = star_has (star_by t w) h; holds = o.holds }

  pub star_second_in : CanRun 1 Starred (lent table state m rooms) i → 6 * i + 11 < length table
  star_second_in (before, part, behind, o) = let (t, w, h) = o.live in omega (arith, star_reads (star_by t w) h)

  -- the body lies from the next node to the handler
  module _ {second : ℕ} (is : second ≡ second_child table i) where
    pub star_few : CanRun 1 Starred (lent table state m rooms) i → second ≤ 4096
    star_few (before, part, behind, o) = omega (arith, few_ahead o)

    pub star_body : CanRun 1 Starred (lent table state m rooms) i → (4 * i + 4 ≤ 4 * second) × (4 * second ≤ length state)
    star_body (before, part, behind, o) = (omega arith, omega (arith, body_ends o))

  module _ {v : Verdict} (reads : TestRead table i (words_of m) (tally_of m) v) where
    star_suspends : v ≡ Unknown → HasRun 1 Starred (lent table state m rooms) i (lent table (set state (4 * i) 1) m rooms) SUSP
    star_suspends is before part behind o =
        record {
          part' = set part 0 1;
          around = put_phase o.around 1 (own_in o.live.2 0 (lit< tt));
          kept = kept_same m;
          runs = λ t w h. star_waits reads (star_by t w) h is;
        }

    star_refused : v ≡ Unsat → HasRun 1 Starred (lent table state m rooms) i (lent table (set state (4 * i) 0) m rooms) STOP
    star_refused is before part behind o =
        record {
          part' = set part 0 0;
          around = put_phase o.around 0 (own_in o.live.2 0 (lit< tt));
          kept = kept_same m;
          runs = λ t w h. star_fails reads (star_by t w) h is;
        }

  -- by the rules: it answers, or the handler begins
  module _ {U : Term → Type 0} {L : Lent} (on : GoesOnAs Starred U L i (lent table state m rooms)) {v : Verdict} (reads : TestIs table i m v)
      {second : ℕ} (is : second ≡ second_child table i) where
    pub star_read : {state₁ : List ℕ} {f : Flag} → StarRead v m.ended (4 * i) (4 * second) state state₁ f
        → AfterTest U L i (lent table state₁ m rooms) f
    star_read (waits e) = answered (λ n. search rules) (on.has (star_suspends reads e))
    star_read (refused e) = answered (λ n. search rules) (on.has (star_refused reads e))
    star_read (satisfied_late e z) = answered (λ n. search rules) (on.has (λ before part behind o. next_went o is reads e z))
    star_read (satisfied e z) =
        let (before, part, behind, o) = on.can in
        record {
          answers = λ n. absurd (n refl);
          to_handler = λ _. record {
            can = (_, _, _, handler_stands o is reads);
            has = λ run. on.has (λ before part behind o. handler_went o is reads e z run);
          };
        }

-- the same where what is lent stands behind a pass's references
pub star_read_in : {i : ℕ} {U : Term → Type 0} {L : Lent} (p p' : Pass) → GoesOnAs Starred U L i (lent_then p p')
    → {v : Verdict} → TestIs p.table.now i p'.progress v → {second : ℕ} → second ≡ second_child p.table.now i
    → {bytes : List ℕ} {f : Flag} → StarRead v p'.progress.ended (4 * i) (4 * second) p'.state.now bytes f
    → AfterTest U L i (lent p.table.now bytes p'.progress (rooms_of p'.atoms.now p'.store.now)) f
star_read_in p p' on reads is e = star_read on reads is e
