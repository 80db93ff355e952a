-- `changes::takes::take_emptying` meets its contract: both drops, then the additions. Assumes nothing.
use Rattle.model.specs.Holds.{emptied, wanted}
use Rattle.model.specs.Words.{unpack}
use Rattle.goals.specs.Goals.{goal_of}
use Rattle.changes.proofs.Taken.{inside_dropped, taken}
use Rattle.changes.proofs.takes.take_emptying.Goals as goal

pub returns : goal.returns
returns c =
    let t = unpack c.args.words.now in
    let p = c.args.directory.caller.process in
    let g = goal_of c.args.directory.walk in
    let gone = inside_dropped t p g c.node_of-node.ensures c.drop_overruled.ensures c.drop_inside.ensures in
    taken t (wanted p g) (emptied t p g) c.requires.1.is gone c.add_planned.ensures
