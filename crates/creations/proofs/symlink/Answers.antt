-- `creations::symlink` meets its contract: path 2 is the target. Assumes nothing.
use Rattle.model.specs.Calls.{symlink}
use Rattle.reaching.proofs.Accepting.{target_short}
use Rattle.creations.proofs.symlink.Goals as goal

pub make-requires : goal.make-requires
make-requires c =
    let ready = c.requires.0 in
    (ready, (c.requires.1.0, target_short ready.bytes ready.read c.requires.1.1))

pub returns : goal.returns
unfolding symlink
returns c = c.make.ensures
