-- `looks::use_of` meets its contract. Assumes nothing.
use Rattle.model.specs.Calls.{use_of}
use Rattle.looks.proofs.use_of.Goals as goal

pub returns : goal.returns
unfolding use_of
returns c = c.look_along.ensures
