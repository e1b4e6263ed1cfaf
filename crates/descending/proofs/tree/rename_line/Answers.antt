-- `descending::tree/rename_line` meets its contract. Assumes nothing.
use Rattle.descending.proofs.Descent as L
use Rattle.descending.proofs.tree.rename_line.Goals as goal

pub returns : goal.returns
returns c = let walked = c.rename_variables-spot.ensures in
    let to = c.first_spot-to.ensures in record { went = L.went_line walked.0 _ to.0 walked.1; head = L.head-is c.args.words.now c.args.nodes.now c.args.i _ _ _ _ c.requires.2 c.place.ensures.0 c.place-2.ensures.0 c.place-3.ensures.0 c.place-2.ensures.1 c.place-3.ensures.1 c.groups_of-groups.ensures }
