-- `search::user_of_process` meets its contract: the user in the row found. Assumes nothing.
use mathlib.Core.Path.{ap, sym}
use native.Mathlib.Omega.{arith}
use Rattle.laws.proofs.Searches.{find_missing}
use Rattle.model.specs.Tables.{Process, is_process, no_process, user_of}
use Rattle.model.specs.Words.{unpack}
use Rattle.rows.proofs.Parts.{processes_full}
use Rattle.search.proofs.Rows.{found_none, found_row}
use Rattle.search.proofs.Tests.{user_by_row}
use Rattle.search.proofs.user_of_process.Goals as goal

pub process_user-requires : goal.process_user-requires
process_user-requires c =
    let w = c.args.words.now in
    (c.requires, omega (arith, (found_row (is_process c.args.process) (unpack w).processes c.in-Some.ensures).inside, processes_full w))

pub returns-in-Some : goal.returns-in-Some
returns-in-Some c =
    let w = c.args.words.now in
    let p = c.args.process in
    user_by_row w p (found_row (is_process p) (unpack w).processes c.in-Some.ensures).is c.process_user.ensures

pub returns-in-None : goal.returns-in-None
unfolding user_of
returns-in-None c =
    let ps = (unpack c.args.words.now).processes in
    let p = c.args.process in
    ap (λ (x : Process). x.user) (sym (find_missing (is_process p) no_process ps (found_none (is_process p) ps c.in-None.ensures)))
