-- `rows::four_bytes` meets its contract: four bytes of the name. Assumes nothing.
use Rattle.rows.proofs.Bytes.{four_joined}
use Rattle.rows.proofs.four_bytes.Goals as goal

pub returns : goal.returns
returns c =
    four_joined c.args.path.now c.args.from c.args.count c.args.k c.from_be_bytes.ensures
    c.byte_or_zero.ensures c.byte_or_zero-2.ensures c.byte_or_zero-3.ensures c.byte_or_zero-4.ensures
