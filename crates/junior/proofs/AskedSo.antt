-- The examples of specs/AskedSo.antt: their instants, rule by rule.
use mathlib.Core.Path.{refl}
use Rattle.junior.specs.Term.{prog, fresh, leave}
use Rattle.junior.specs.Trace.{collect}
use Rattle.junior.specs.Rules.{r1_on, r2, r3, r4, r5, r14, r15, r4_repeat, r5_repeat, if_true, if_true_on, if_false}
use Rattle.junior.specs.Instant.{r47}
use Rattle.junior.specs.AskedSo.{next, no_more, AskedSo}
use Rattle.junior.proofs.Little.{STOP≢SUSP, TERM≢SUSP, STOP≢TERM}

pub asked_so : AskedSo
unfolding prog fresh leave collect
asked_so = record {
  nonzero_first = next (r47 (if_true refl r3) TERM≢SUSP) refl refl no_more;
  zero_second = next (r47 (if_false refl r3) TERM≢SUSP) refl refl no_more;
  chosen_once = next (r47 (if_true refl r2) STOP≢SUSP) refl refl (next (r47 (if_true_on r1_on) TERM≢SUSP) refl refl no_more);
  by_value = next (r47 (r15 refl (r4_repeat r3 (r4_repeat r3 (r4_repeat r3 r1_on)))) TERM≢SUSP) refl refl no_more;
  by_cap =
      next (r47 (r15 refl (r4_repeat r3 (r4_repeat r3 (r4_repeat r3 (r4_repeat r3 (r4_repeat r3 r1_on)))))) TERM≢SUSP) refl refl no_more;
  not_at_all = next (r47 (r14 refl) TERM≢SUSP) refl refl no_more;
  read_once =
      next (r47 (r15 refl (r5_repeat (r5 r2 STOP≢TERM) STOP≢TERM)) STOP≢SUSP) refl refl
      (next (r47 (r4_repeat (r4 r1_on r3) (r5_repeat (r5 r2 STOP≢TERM) STOP≢TERM)) STOP≢SUSP) refl refl
      (next (r47 (r4_repeat (r4 r1_on r3) r1_on) TERM≢SUSP) refl refl no_more));
  each_round_anew =
      next (r47 (r15 refl (r5_repeat (if_true refl r2) STOP≢TERM)) STOP≢SUSP) refl refl
      (next (r47 (r4_repeat (if_true_on r1_on) (r4_repeat (if_false refl r3) (r4_repeat (if_false refl r3) r1_on))) TERM≢SUSP) refl refl no_more);
}
