-- `changes::tests::lacks_node_row` meets its contract: no row is found free. Assumes nothing.
use Rattle.model.specs.Calls.{no_free_node}
use Rattle.model.specs.Tables.{free_node}
use Rattle.model.specs.Words.{unpack}
use Rattle.search.proofs.Rows.{found_lacks}
use Rattle.changes.proofs.tests.lacks_node_row.Goals as goal

pub returns : goal.returns
unfolding no_free_node
returns c = found_lacks free_node (unpack c.args.words.now).nodes c.free_node_row.ensures c.is_none.ensures
