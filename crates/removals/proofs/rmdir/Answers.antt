-- `removals::rmdir` meets its contract: refused on the way, or what stands behind the walk. Assumes nothing.
use mathlib.Core.Bool.{false}
use Rattle.model.specs.Calls.{rmdir, rmdir_at}
use Rattle.model.specs.Words.{unpack}
use Rattle.reaching.proofs.Ways.{came, goes_on, refused_on_the_way}
use Rattle.removals.proofs.rmdir.Goals as goal

pub rmdir_at-requires : goal.rmdir_at-requires
rmdir_at-requires c = (came c.requires.0 c.requires.1 false c.in-Ok.ensures).behind

-- path 1 leads nowhere
pub returns-in-Err : goal.returns-in-Err
unfolding rmdir
returns-in-Err c = refused_on_the_way c.requires.0 c.requires.1 false c.in-Err.ensures _

-- or to this goal
pub returns-in-Ok : goal.returns-in-Ok
unfolding rmdir
returns-in-Ok c = goes_on (came c.requires.0 c.requires.1 false c.in-Ok.ensures) (rmdir_at (unpack c.args.words.now)) c.rmdir_at.ensures
