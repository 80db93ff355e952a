-- `changes::tests::lacks_entry_row` meets its contract: no row is found free. Assumes nothing.
use Rattle.model.specs.Calls.{no_free_entry}
use Rattle.model.specs.Tables.{free_entry}
use Rattle.model.specs.Words.{unpack}
use Rattle.search.proofs.Rows.{found_lacks}
use Rattle.changes.proofs.tests.lacks_entry_row.Goals as goal

pub returns : goal.returns
unfolding no_free_entry
returns c = found_lacks free_entry (unpack c.args.words.now).entries c.free_entry_row.ensures c.is_none.ensures
