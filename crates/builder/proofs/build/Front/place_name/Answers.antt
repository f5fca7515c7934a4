-- `place_name` meets its contract: the name behind the `J`, and where it ends.
use Prim.Native.Nat.{◌+◌}
use mathlib.Core.Path.{◌≡◌}
use native.Mathlib.Omega.{arith}
use lib.ListN.{drop}
use Rattle.form.specs.Inside.Rows.{form_in}
use Rattle.form.proofs.Rows.{name_after}
use Rattle.builder.proofs.TableHolds.{ready_in, places_in, places_none}
use Rattle.builder.proofs.PlacedByFunctions.{name_here, name_none}
use Rattle.builder.proofs.build.Front.place_name.Goals as goal

pub returns-in_default : goal.returns-in_default
returns-in_default c =
    places_none (λ s. name_none c.args.text.now s (rw c.behind.ensures at c.in_default.ensures))

pub overflow_sub-end : goal.overflow_sub-end
overflow_sub-end c =
    let l = name_after (6 + c.in-Some.kind) in
    omega (arith, c.name_end-end.ensures.0)

pub place_form-requires : goal.place_form-requires
place_form-requires c =
    let e = c.name_end-end.ensures in
    let k : c.in-Some.kind ≡ form_in (drop 2 c.args.text.now) = rw c.behind.ensures at c.in-Some.ensures.0 in
    record {
      name_ends = e;
      can_place = ready_in (λ n m s h. name_here c.args.text.now s c.in-Some.kind c.name_end-end.result c.behind-inside.result.now
          k c.in-Some.ensures.1 e.0 c.behind-inside.ensures) c.requires;
    }

pub returns : goal.returns
returns c =
    let e = c.name_end-end.ensures in
    let k : c.in-Some.kind ≡ form_in (drop 2 c.args.text.now) = rw c.behind.ensures at c.in-Some.ensures.0 in
    places_in (λ n m s h. name_here c.args.text.now s c.in-Some.kind c.name_end-end.result c.behind-inside.result.now
    k c.in-Some.ensures.1 e.0 c.behind-inside.ensures) c.place_form.ensures
