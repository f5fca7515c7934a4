-- What an instant reports, on the examples of specs/WaitedSo.antt: their instants, rule by rule.
use mathlib.Core.Path.{refl}
use Rattle.events.specs.Events.{put}
use Rattle.junior.specs.Configuration.{test, fixed, eval}
use Rattle.junior.specs.Program.{size}
use Rattle.junior.specs.Term.{prog, fresh, leave}
use Rattle.junior.specs.Rules.{r1_on, r2, r3, r4, r4_on, r5, r8, r10, r16, r17, r17_on, r21, r22, r24, r25, r26, r27, r28, r30, r33, r34, r35_39, r40}
use Rattle.junior.specs.Rules.{r41, r43, r44, r45}
use Rattle.junior.specs.Instant.{r47, r48, r49}
use Rattle.junior.specs.Waited.{lacks, first_wait, before_the_end}
use Rattle.junior.specs.WaitedSo.{next, no_more, WaitedSo}
use Rattle.junior.proofs.Little.{STOP≢SUSP, TERM≢SUSP, SUSP≢TERM, STOP≢TERM, TERM≢STOP, SUSP≢STOP}

pub waited_so : WaitedSo
unfolding before_the_end first_wait lacks put test fixed eval prog fresh leave size
waited_so = record {
  first_of_two =
      next (r48 (r8 (r5 (r25 refl) SUSP≢TERM) (r25 refl)) refl refl
      (r47 (r8 (r5 (r24 refl) STOP≢TERM) (r24 refl)) STOP≢SUSP)) refl
      (next (r47 (r8 (r4 (r22 refl refl) (r4 r3 r16)) (r22 refl refl)) TERM≢SUSP) refl no_more);
  lowest_absent =
      next (r48 (r25 refl) refl refl (r47 (r24 refl) STOP≢SUSP)) refl
      (next (r48 (r25 refl) refl refl (r47 (r24 refl) STOP≢SUSP)) refl no_more);
  local_present =
      next (r49 (r35_39 (r4 r16 (r25 refl))) refl refl
      (r48 (r35_39 (r4_on (r25 refl))) refl refl (r47 (r35_39 (r4_on (r24 refl))) STOP≢SUSP))) refl no_more;
  local_absent = next (r48 (r35_39 (r25 refl)) refl refl (r47 (r35_39 (r24 refl)) STOP≢SUSP)) refl no_more;
  of-Control =
      next (r48 (r28 refl) refl refl (r47 (r27 refl) STOP≢SUSP)) refl
      (next (r48 (r26 refl (r25 refl)) refl refl (r47 (r26 refl (r24 refl)) STOP≢SUSP)) refl no_more);
  last_pass =
      next (r49 (r8 (r21 refl) r16) refl refl
      (r48 (r10 TERM≢SUSP (r17 refl refl (r25 refl))) refl refl (r47 (r10 TERM≢SUSP (r17_on (r24 refl))) STOP≢SUSP))) refl no_more;
  of-Until = next (r48 (r30 r2 (r34 refl)) refl refl (r47 (r33 refl) STOP≢SUSP)) refl no_more;
  of-Freezable =
      next (r48 (r41 r2 (r45 refl)) refl refl (r47 (r44 refl) STOP≢SUSP)) refl
      (next (r47 (r40 r1_on TERM≢STOP) TERM≢SUSP) refl no_more);
  of_its_body =
      next (r48 (r40 (r25 refl) SUSP≢STOP) refl refl (r47 (r41 (r24 refl) (r43 refl refl)) STOP≢SUSP)) refl
      (next (r47 r1_on TERM≢SUSP) refl no_more);
}
