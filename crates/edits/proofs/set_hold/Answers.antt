-- `edits::set_hold` meets its contract: the holds' part is lent. Assumes nothing.
use Rattle.edits.proofs.Written.{set_hold_is}
use Rattle.edits.proofs.set_hold.Goals as goal

pub returns : goal.returns
returns c = set_hold_is c.requires.0 c.args.row c.requires.1.0 c.args.hold c.requires.1.1.1 c.put_hold.ensures
