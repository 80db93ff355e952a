-- `edits::set_count` meets its contract: the nodes' part is lent. Assumes nothing.
use Rattle.edits.proofs.Counts.{set_count_is}
use Rattle.edits.proofs.set_count.Goals as goal

pub returns : goal.returns
returns c =
    set_count_is c.requires.0 c.args.row c.requires.1.0 c.args.count c.requires.1.1.0 c.requires.1.1.1
    c.put_count.ensures
