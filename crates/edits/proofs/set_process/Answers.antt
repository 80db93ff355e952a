-- `edits::set_process` meets its contract: the processes' part is lent. Assumes nothing.
use borrow.Author.Rules.{rules}
use Rattle.edits.proofs.Written.{set_process_is}
use Rattle.edits.proofs.set_process.Goals as goal

pub returns : goal.returns
returns c =
    set_process_is c.requires.0 c.args.row c.requires.1.0 c.args.process c.args.user c.requires.1.1 (search rules)
    (search rules) c.put_process.ensures
