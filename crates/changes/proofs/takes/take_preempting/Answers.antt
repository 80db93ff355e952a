-- `changes::takes::take_preempting` meets its contract: the drops, then the additions. Assumes nothing.
use Rattle.model.specs.Holds.{preempted, wanted}
use Rattle.model.specs.Words.{unpack}
use Rattle.goals.specs.Goals.{goal_of}
use Rattle.changes.proofs.Taken.{taken}
use Rattle.changes.proofs.takes.take_preempting.Goals as goal

pub returns : goal.returns
returns c =
    let t = unpack c.args.words.now in
    let p = c.args.reached.caller.process in
    let g = goal_of c.args.reached.walk in
    taken t (wanted p g) (preempted t p g) c.requires.1.is c.drop_preempted.ensures c.add_planned.ensures
