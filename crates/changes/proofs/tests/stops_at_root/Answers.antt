-- `changes::tests::stops_at_root` meets its contract: by where the walk stopped. Assumes nothing.
use mathlib.Core.Bool.{not}
use mathlib.Core.Path.{◌∙◌, ap}
use Rattle.changes.proofs.Testing.{no_end, root_is, root_not}
use Rattle.goals.specs.Goals.{goal_of}
use Rattle.holds.proofs.Ways.{entry_end}
use Rattle.changes.proofs.tests.stops_at_root.Goals as goal
use Rattle.changes.proofs.tests.stops_at_root.Goals.{in-Entry, in_default}

pub returns : goal.returns
returns c =
    elim c.match-matches.branch [
      | in-Entry w ↦ ap not w.matches-is ∙ root_not (goal_of c.args.walk) (entry_end c.args.walk w.in-Entry.is)
      | in_default w ↦ ap not w.matches-is ∙ root_is (goal_of c.args.walk) (no_end c.args.walk w.in_default.not-Entry)
    ]
