-- `changes::entry::drop_if_at` meets its contract: the row is cleared where it is at the place. Assumes nothing.
use Rattle.model.specs.Tables.{at}
use Rattle.changes.proofs.Entering.{entry_row_dropped, entry_row_left}
use Rattle.rows.specs.Blocks.{place_of}
use Rattle.changes.proofs.entry.drop_if_at.Goals as goal

pub returns-then-entry_is_at : goal.returns-then-entry_is_at
returns-then-entry_is_at c =
    entry_row_dropped c.args.words.now (at (place_of c.args.directory c.args.name)) c.args.row
    c.entry_is_at.ensures c.if-entry_is_at.true
    c.clear_entry.ensures

pub returns-else-entry_is_at : goal.returns-else-entry_is_at
returns-else-entry_is_at c =
    entry_row_left c.args.words.now (at (place_of c.args.directory c.args.name)) c.args.row c.entry_is_at.ensures c.requires.0
    c.if-entry_is_at.false
