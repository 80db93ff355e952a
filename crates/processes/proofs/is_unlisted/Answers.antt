-- `processes::is_unlisted` meets its contract. Assumes nothing.
use mathlib.Core.Bool.{not}
use mathlib.Core.Path.{ap}
use Rattle.model.specs.Calls.{unlisted}
use Rattle.processes.proofs.is_unlisted.Goals as goal

pub returns : goal.returns
unfolding unlisted
returns c = ap not c.is_listed.ensures
