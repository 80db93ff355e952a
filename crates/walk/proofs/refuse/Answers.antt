-- A refused walk: the number, and blank room. Assumes nothing.
use Rattle.goals.specs.Goals.{walked}
use Rattle.goals.proofs.Blanks.{blank_made}
use Rattle.walk.proofs.refuse.Goals as goal

pub returns : goal.returns
unfolding walked
returns c = rw (blank_made c.default.ensures)
