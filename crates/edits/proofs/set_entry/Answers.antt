-- `edits::set_entry` meets its contract: the entries' part is lent. Assumes nothing.
use Rattle.edits.proofs.Written.{set_entry_is}
use Rattle.edits.proofs.set_entry.Goals as goal

pub returns : goal.returns
returns c = set_entry_is c.requires.0 c.args.row c.requires.1.0 c.args.entry c.requires.1.1 c.put_named.ensures
