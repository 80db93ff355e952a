-- `edits::clear_entry` meets its contract: the entries' part is lent. Assumes nothing.
use Rattle.edits.proofs.Written.{clear_entry_is}
use Rattle.edits.proofs.clear_entry.Goals as goal

pub returns : goal.returns
returns c = clear_entry_is c.requires.0 c.args.row c.requires.1 c.put_zeros.ensures
