-- `edits::clear_hold` meets its contract: the holds' part is lent. Assumes nothing.
use Rattle.edits.proofs.Written.{clear_hold_is}
use Rattle.edits.proofs.clear_hold.Goals as goal

pub returns : goal.returns
returns c = clear_hold_is c.requires.0 c.args.row c.requires.1 c.put_zeros.ensures
