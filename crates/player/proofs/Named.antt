-- The node that an instant names is one of its program's, so that something stands there to be shown.
use Prim.Native.Nat.{ℕ, ◌≤◌, ◌<◌}
use mathlib.Core.Path.{◌≡◌, refl, sym, subst, ap, ◌∙◌}
use mathlib.Core.Logic.{◌≢◌}
use mathlib.Core.List.{List}
use mathlib.Core.Option.{Option, none, some}
use native.Mathlib.Omega.{arith}
use Rattle.events.specs.Events.{Events}
use Rattle.junior.specs.Configuration.{Env}
use Rattle.junior.specs.Values.{Values}
use Rattle.junior.specs.Program.{size}
use Rattle.junior.specs.Term.{Term, prog}
use Rattle.junior.specs.Rules.{Allowed, Result}
use Rattle.junior.specs.Instant.{Instant, r47, r48, r49}
use Rattle.junior.specs.Waited.{Wait, first_wait, before_the_end, waited}
use Rattle.junior.proofs.Kept.{kept}
use Rattle.junior.proofs.WayDown.{Within, within_none, waiting_in, widen, inside}
use Rattle.junior.proofs.WayFound.{way_down}
use Rattle.table.specs.Records.{nodes}
use Rattle.kernel.specs.declared.Answer.{Answer}
use Rattle.std.specs.Prelude.{Ok}
use Rattle.kernel.specs.Answer.{node_of, Rooms, Run, Answered}
use Rattle.kernel.proofs.Outcomes.{Passed, all_passed}
use Rattle.kernel.proofs.Accepted.{Admitted, admitted}
use Rattle.player.specs.Inside.{OneOfItsNodes}

pub named_inside : {free : Allowed} {t : Term} {E : Env} {n : ℕ} {r : Result} (i : Instant free t E n r) → Within 0 (size (prog t)) (waited i)
unfolding before_the_end first_wait
named_inside (r47 d h) = within_none
named_inside (r48 {r = r} d h m i) =
    let found = waiting_in 0 r.to r.env.now in
    rw (way_down d h m) (subst (λ p. Within 0 (size p) found) (kept d) (widen (omega arith) (inside r.to 0 r.env.now)))
named_inside (r49 d h m i) = subst (λ p. Within 0 (size p) (waited i)) (kept d) (named_inside i)

node_below : {n m : ℕ} (o : Option Wait) → Within 0 m o → n ≡ node_of o → n ≢ 4096 → n < m
node_below none a e h = absurd (h e)
node_below (some w) a e h = omega (arith, (a.nodes w refl).1)

module _ {t s : List ℕ} {X : Events} {value : Values} {lent : Rooms} {s' : List ℕ} {left : Rooms} {a : Answer} (r : Answered t s X value lent s' left (Ok a)) where
  past : Passed t s X lent
  past = all_passed t s X lent (sym r.outcome_is)

  ok : Admitted t past.generations past.most past.weight past.parked
  ok = admitted t past.verdict

  pub all_its_nodes : (run : Run t s X value lent s' left a) → (size (prog run.term) ≡ nodes t) × (nodes t ≤ 4096)
  all_its_nodes run = (ap size run.program ∙ ok.whole, ok.loaded.framed.n_most)

  pub one_of_its_nodes : OneOfItsNodes t a.waits
  one_of_its_nodes =
      let run = r.leaves in
      let named = named_inside run.instant in
      record {
        loaded = ok.loaded;
        inside = λ h. rw (← (all_its_nodes run).0) (node_below (waited run.instant) named run.waits_node_is h);
      }
