-- `edits::clear_node` meets its contract: the nodes' part is lent. Assumes nothing.
use Rattle.edits.proofs.Written.{clear_node_is}
use Rattle.edits.proofs.clear_node.Goals as goal

pub returns : goal.returns
returns c = clear_node_is c.requires.0 c.args.row c.requires.1 c.put_zeros.ensures
