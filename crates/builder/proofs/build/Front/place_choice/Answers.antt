-- `place_choice` meets its contract: its test, and the label of the node in front.
use Rattle.builder.proofs.PlacedByFunctions.{choice_first, choice_second, choice_done}
use Rattle.builder.proofs.build.Front.place_choice.Goals as goal

-- self.place_event(text, table);
pub place_event-requires : goal.place_event-requires
place_event-requires c =
    choice_first c.args.kind c.args.text.now c.requires

-- self.place_branches(kind, self.left, table);
pub place_branches-requires : goal.place_branches-requires
place_branches-requires c =
    choice_second c.args.kind c.args.text.now c.requires c.place_event.ensures

-- fn place_choice
pub returns : goal.returns
returns c =
    choice_done c.args.kind c.args.text.now c.place_event.ensures c.place_branches.ensures
