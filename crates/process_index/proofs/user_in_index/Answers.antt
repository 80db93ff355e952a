-- `process_index::user_in_index` meets its contract: the last row of the number is its only one. Assumes nothing.
use Rattle.process_index.proofs.Processes.{row_low, no_user, user_found, no_process_user}
use Rattle.process_index.proofs.user_in_index.Goals as goal

pub returns-then-process-eq0 : goal.returns-then-process-eq0
returns-then-process-eq0 c = no_process_user c.args.words.now c.if-process-eq0.true

pub process_user-requires : goal.process_user-requires
process_user-requires c = (c.requires.stands, row_low c.args.words.now c.args.process c.in-Some.ensures)

pub returns-in-Some : goal.returns-in-Some
returns-in-Some c =
    user_found c.args.words.now c.args.process c.in-Some.ensures c.if-process-eq0.false c.requires.distinct c.process_user.ensures

pub returns-in-None : goal.returns-in-None
returns-in-None c = no_user c.args.words.now c.args.process c.in-None.ensures
