-- `edits::clear_process` meets its contract: the processes' part is lent. Assumes nothing.
use Rattle.edits.proofs.Written.{clear_process_is}
use Rattle.edits.proofs.clear_process.Goals as goal

pub returns : goal.returns
returns c = clear_process_is c.requires.0 c.args.row c.requires.1 c.put_process.ensures
