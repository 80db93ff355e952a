-- `edits::put_node` meets its contract: the first word, then the target's. Assumes nothing.
use Prim.Native.Nat.{◌*◌}
use Rattle.edits.proofs.Written.{node_stored}
use Rattle.model.specs.Words.{node_words}
use Rattle.rows.specs.Kinds.{number_of}
use Rattle.edits.proofs.put_node.Goals as goal

pub returns : goal.returns
returns c =
    node_stored c.args.nodes.now (c.args.row * node_words) (number_of c.args.kind) c.args.count c.args.target.now
    c.node_head.ensures c.put_target.ensures
