-- `reaching::way_behind` meets its contract. Assumes nothing.
use mathlib.Core.Path.{sym, ap}
use Rattle.reaching.specs.Ways.{way_by}
use Rattle.reaching.proofs.Ways.{way_open}
use Rattle.reaching.proofs.way_behind.Goals as goal

pub returns-in-Refused : goal.returns-in-Refused
unfolding way_by
returns-in-Refused c = sym (ap (λ s. way_by s c.args.walk) c.in-Refused.is)

pub returns-in_default : goal.returns-in_default
returns-in_default c = way_open c.args.walk.stop c.args.walk c.in_default.not-Refused
