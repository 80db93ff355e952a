-- `changes::entry::add_entry` meets its contract: by where the walk stopped. Assumes nothing.
use Rattle.changes.proofs.Entering.{entry_added, no_entry_added}
use Rattle.changes.proofs.Testing.{no_end}
use Rattle.holds.proofs.Ways.{end_named, entry_end}
use Rattle.plans.proofs.Planning.{end_used}
use Rattle.changes.proofs.entry.add_entry.Goals as goal

pub put_at-requires : goal.put_at-requires
put_at-requires c = (
  c.requires.0,
  (
    end_named c.args.walk c.requires.1.0 c.in-Entry.is,
    end_used c.args.walk c.requires.1.1 c.in-Entry.is,
  ),
)

pub returns-in-Entry : goal.returns-in-Entry
returns-in-Entry c =
    entry_added c.args.words.now c.args.node
    (entry_end c.args.walk c.in-Entry.is) c.put_at.ensures

pub returns-in_default : goal.returns-in_default
returns-in_default c = no_entry_added c.args.words.now c.args.node c.requires.0 (no_end c.args.walk c.in_default.not-Entry)
