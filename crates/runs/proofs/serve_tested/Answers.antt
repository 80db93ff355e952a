-- `runs::serve_tested` meets its contract: 17, or what a whole record is told. Assumes nothing.
use Rattle.runs.proofs.Keeping.{short_served}
use Rattle.runs.proofs.serve_tested.Goals as goal

pub returns-in-Some : goal.returns-in-Some
returns-in-Some c = (c.in-Some.ensures.0.1, c.in-Some.ensures.1)

pub returns-in-None : goal.returns-in-None
returns-in-None c = (short_served c.in-None.ensures.0.0 c.in-None.ensures.0.1, c.in-None.ensures.1)
