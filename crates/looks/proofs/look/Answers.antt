-- `looks::look` meets its contract. Assumes nothing.
use Rattle.model.specs.Calls.{look}
use Rattle.looks.proofs.look.Goals as goal

pub returns : goal.returns
unfolding look
returns c = c.look_along.ensures
