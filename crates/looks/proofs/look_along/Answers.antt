-- `looks::look_along` meets its contract: refused on the way, or what stands behind the walk. Assumes nothing.
use Rattle.model.specs.Calls.{look_at, looking}
use Rattle.model.specs.Words.{unpack}
use Rattle.reaching.proofs.Ways.{came, goes_on, refused_on_the_way}
use Rattle.looks.proofs.look_along.Goals as goal

pub look_at-requires : goal.look_at-requires
look_at-requires c = (came c.requires.0 c.requires.1 c.args.manner.follow_last c.in-Ok.ensures).behind

-- path 1 leads nowhere
pub returns-in-Err : goal.returns-in-Err
unfolding looking
returns-in-Err c = refused_on_the_way c.requires.0 c.requires.1 c.args.manner.follow_last c.in-Err.ensures _

-- or to this goal
pub returns-in-Ok : goal.returns-in-Ok
unfolding looking
returns-in-Ok c =
    let manner = c.args.manner in
    goes_on (came c.requires.0 c.requires.1 manner.follow_last c.in-Ok.ensures) (look_at manner.must_exist (unpack c.args.words.now)) c.look_at.ensures
