-- `processes::lacks_process_row` meets its contract: no row is found free. Assumes nothing.
use Rattle.model.specs.Calls.{no_free_process}
use Rattle.model.specs.Tables.{free_process}
use Rattle.model.specs.Words.{unpack}
use Rattle.search.proofs.Rows.{found_lacks}
use Rattle.processes.proofs.lacks_process_row.Goals as goal

pub returns : goal.returns
unfolding no_free_process
returns c = found_lacks free_process (unpack c.args.words.now).processes c.free_process_row.ensures c.is_none.ensures
