-- `looks::check` meets its contract. Assumes nothing.
use Rattle.model.specs.Calls.{check}
use Rattle.looks.proofs.check.Goals as goal

pub returns : goal.returns
unfolding check
returns c = c.look_along.ensures
