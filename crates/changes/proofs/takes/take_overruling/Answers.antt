-- `changes::takes::take_overruling` meets its contract: the drops, then the additions. Assumes nothing.
use Rattle.model.specs.Holds.{overruled, wanted}
use Rattle.model.specs.Words.{unpack}
use Rattle.goals.specs.Goals.{goal_of}
use Rattle.changes.proofs.Taken.{taken}
use Rattle.changes.proofs.takes.take_overruling.Goals as goal

pub returns : goal.returns
returns c =
    let t = unpack c.args.words.now in
    let p = c.args.reached.caller.process in
    let g = goal_of c.args.reached.walk in
    taken t (wanted p g) (overruled t p g) c.requires.1.is c.drop_overruled.ensures c.add_planned.ensures
