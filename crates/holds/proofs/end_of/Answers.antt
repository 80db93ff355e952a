-- `holds::end_of` meets its contract: by where the walk stopped. Assumes nothing.
use Rattle.holds.proofs.Ways.{end_named, entry_end, no_entry_end}
use Rattle.holds.proofs.end_of.Goals as goal

pub returns-in-Entry : goal.returns-in-Entry
returns-in-Entry c = (end_named c.args.walk c.requires c.in-Entry.is, entry_end c.args.walk c.in-Entry.is)

pub returns-in_default : goal.returns-in_default
returns-in_default c = no_entry_end c.args.walk c.in_default.not-Entry
