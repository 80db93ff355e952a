-- `processes::drop_if_process` meets its contract: the row is cleared where it is the process's. Assumes nothing.
use Rattle.processes.proofs.Rows.{process_row_dropped, process_row_left}
use Rattle.processes.proofs.drop_if_process.Goals as goal

pub returns-then-process_number-process : goal.returns-then-process_number-process
returns-then-process_number-process c =
    process_row_dropped c.args.words.now c.args.process c.args.row c.process_number.ensures c.if-process_number-process.true
    c.clear_process.ensures

pub returns-else-process_number-process : goal.returns-else-process_number-process
returns-else-process_number-process c = process_row_left c.args.words.now c.args.process c.args.row c.process_number.ensures c.requires.0 c.if-process_number-process.false
