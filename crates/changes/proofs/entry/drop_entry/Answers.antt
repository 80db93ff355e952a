-- `changes::entry::drop_entry` meets its contract: by where the walk stopped. Assumes nothing.
use Rattle.changes.proofs.Entering.{entry_dropped, no_entry_dropped}
use Rattle.changes.proofs.Testing.{no_end}
use Rattle.goals.specs.Goals.{PlaceNamed, place_at}
use Rattle.holds.proofs.Ways.{end_named, entry_end}
use Rattle.changes.proofs.entry.drop_entry.Goals as goal

pub drop_at-requires : goal.drop_at-requires
unfolding PlaceNamed
drop_at-requires c = (c.requires.0, end_named c.args.walk c.requires.1 c.in-Entry.is)

pub returns-in-Entry : goal.returns-in-Entry
unfolding place_at
returns-in-Entry c = entry_dropped c.args.words.now (entry_end c.args.walk c.in-Entry.is) c.drop_at.ensures

pub returns-in_default : goal.returns-in_default
returns-in_default c = no_entry_dropped c.args.words.now c.requires.0 (no_end c.args.walk c.in_default.not-Entry)
