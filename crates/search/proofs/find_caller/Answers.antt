-- `search::find_caller` meets its contract: the row found is one of the table's, and has the user. Assumes nothing.
use mathlib.Core.Path.{◌∙◌}
use native.Mathlib.Omega.{arith}
use Rattle.model.specs.Tables.{is_process}
use Rattle.model.specs.Words.{unpack}
use Rattle.rows.proofs.Parts.{processes_full}
use Rattle.search.proofs.Callers.{caller_row, unlisted_row}
use Rattle.search.proofs.Rows.{found_row}
use Rattle.search.proofs.find_caller.Goals as goal

pub process_user-user-requires : goal.process_user-user-requires
process_user-user-requires c =
    let w = c.args.words.now in
    (c.requires, omega (arith, (found_row (is_process c.args.process) (unpack w).processes c.in_ok-row.ensures).inside, processes_full w))

pub returns : goal.returns
returns c = caller_row c.args.words.now c.args.process c.in_ok-row.ensures c.process_user-user.ensures

pub returns-in_err-row : goal.returns-in_err-row
returns-in_err-row c = c.from_residual.ensures ∙ unlisted_row c.args.words.now c.args.process c.in_err-row.ensures
