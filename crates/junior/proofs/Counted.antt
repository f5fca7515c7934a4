-- How visits are counted, on the examples of specs/Visits.antt: their instants, rule by rule.
use mathlib.Core.Path.{refl}
use Rattle.events.specs.Events.{put}
use Rattle.junior.specs.Configuration.{test, fixed, eval}
use Rattle.junior.specs.Term.{prog, fresh, leave}
use Rattle.junior.specs.Rules.{r1_on, r2, r3, r4, r4_on, r5, r8, r12, r4_loop, r5_loop, r15, r4_repeat, r16, r22, r24, r25, r30, r31_on, r32}
use Rattle.junior.specs.Rules.{r34, r40, r41, r44, r45}
use Rattle.junior.specs.Instant.{r47, r48}
use Rattle.junior.specs.Visits.{below, visits_by_pass, next, no_more, CountedSo}
use Rattle.junior.proofs.Little.{STOP≢SUSP, TERM≢SUSP, SUSP≢TERM, STOP≢TERM, TERM≢STOP}

pub counted_so : CountedSo
unfolding visits_by_pass below put test fixed eval prog fresh leave
counted_so = record {
  of-P =
      next (r48 (r8 (r5 (r25 refl) SUSP≢TERM) (r25 refl)) refl refl
      (r47 (r8 (r5 (r24 refl) STOP≢TERM) (r24 refl)) STOP≢SUSP)) refl
      (next (r47 (r8 (r4 (r22 refl refl) (r4 r3 r16)) (r22 refl refl)) TERM≢SUSP) refl
      (next (r47 r1_on TERM≢SUSP) refl no_more));
  of-Repeat = next (r47 (r15 refl (r4_repeat r3 (r4_repeat r3 (r4_repeat r3 r1_on)))) TERM≢SUSP) refl no_more;
  of-Loop =
      next (r47 (r12 (r4 (r22 refl refl) r2) STOP≢TERM) STOP≢SUSP) refl
      (next (r47 (r4_loop (r4_on r1_on) (r12 (r4 (r22 refl refl) r2) STOP≢TERM)) STOP≢SUSP) refl
      (next (r48 (r4_loop (r4_on r1_on) (r12 (r5 (r25 refl) SUSP≢TERM) SUSP≢TERM)) refl refl
      (r47 (r5_loop (r5 (r24 refl) STOP≢TERM) STOP≢TERM) STOP≢SUSP)) refl no_more));
  of-Until =
      next (r48 (r30 r2 (r34 refl)) refl refl (r47 (r32 refl refl) STOP≢SUSP)) refl
      (next (r47 (r31_on r3) TERM≢SUSP) refl no_more);
  of-Freezable =
      next (r48 (r41 r2 (r45 refl)) refl refl (r47 (r44 refl) STOP≢SUSP)) refl
      (next (r47 (r40 r1_on TERM≢STOP) TERM≢SUSP) refl no_more);
}
