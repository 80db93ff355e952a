-- `edits::set_node` meets its contract: the nodes' part is lent. Assumes nothing.
use native.Mathlib.Omega.{arith}
use Rattle.edits.proofs.Written.{set_node_is}
use Rattle.rows.specs.Kinds.{number_of}
use Rattle.rows.proofs.KindNumbers.{numbered}
use Rattle.edits.proofs.set_node.Goals as goal

pub returns : goal.returns
returns c =
    set_node_is (number_of c.args.kind) c.args.count c.args.target.now (numbered c.args.kind).0 c.requires.0 c.args.row
    c.requires.1.0 (numbered c.args.kind).1 c.requires.1.1.0 c.requires.1.1.1 (λ i. omega (arith, c.type_inv.target i)) c.put_node.ensures
