-- `place_asking` meets its contract: a RepeatExt, or an If.
use Rattle.builder.proofs.TableHolds.{ready_in, places_in}
use Rattle.builder.proofs.PlacedByFunctions.{asking_capped, asking_branches}
use Rattle.builder.proofs.build.Front.place_asking.Goals as goal

-- self.place_capped(kind, text, table);
pub place_capped-requires : goal.place_capped-requires
place_capped-requires c =
    ready_in (λ n m s h. asking_capped c.args.behind c.args.kind c.args.text.now s c.if-behind-eq-CAP.true) c.requires

pub returns-then-behind-eq-CAP : goal.returns-then-behind-eq-CAP
returns-then-behind-eq-CAP c =
    places_in (λ n m s h. asking_capped c.args.behind c.args.kind c.args.text.now s c.if-behind-eq-CAP.true)
    c.place_capped.ensures

-- self.place_branches(kind, number(text), table);
pub place_branches-requires : goal.place_branches-requires
place_branches-requires c =
    ready_in (λ n m s h. asking_branches c.args.behind c.args.kind c.args.text.now s
    c.number.result c.if-behind-eq-CAP.false c.number.ensures) c.requires

-- fn place_asking
pub returns-else-behind-eq-CAP : goal.returns-else-behind-eq-CAP
returns-else-behind-eq-CAP c =
    places_in (λ n m s h. asking_branches c.args.behind c.args.kind c.args.text.now s
    c.number.result c.if-behind-eq-CAP.false c.number.ensures) c.place_branches.ensures
