-- `processes::add_process` meets its contract: the lowest free row is written. Assumes nothing.
use native.Mathlib.Omega.{arith}
use Rattle.model.specs.Tables.{free_process}
use Rattle.model.specs.Words.{unpack}
use Rattle.rows.proofs.Parts.{processes_full}
use Rattle.search.proofs.Rows.{found_row}
use Rattle.processes.proofs.Rows.{process_added, process_not_added}
use Rattle.processes.proofs.add_process.Goals as goal

pub set_process-requires : goal.set_process-requires
set_process-requires c =
    let w = c.args.words.now in
    (c.requires.0, omega (arith, (found_row free_process (unpack w).processes c.in-Some.ensures).inside, processes_full w))

pub returns-in-Some : goal.returns-in-Some
returns-in-Some c = process_added c.args.words.now c.args.process c.args.user c.in-Some.ensures c.set_process.ensures

pub returns-in_default : goal.returns-in_default
returns-in_default c = process_not_added c.args.words.now c.args.process c.args.user c.in_default.ensures c.requires.0
