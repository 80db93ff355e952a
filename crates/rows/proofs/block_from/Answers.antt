-- `rows::block_from` meets its contract: the length and the bytes, four to a word. Assumes nothing.
use lib.ListN.{drop, take}
use Rattle.rows.proofs.Bytes.{block_made, first_word}
use Rattle.rows.proofs.block_from.Goals as goal

pub returns : goal.returns
returns c =
    let path = c.args.path.now in
    let count = c.args.count in
    let from = c.args.from in
    block_made (take count (drop from path))
    (first_word path from count c.requires.0 c.from_be_bytes.ensures c.byte_or_zero.ensures c.byte_or_zero-2.ensures c.byte_or_zero-3.ensures)
    c.four_bytes.ensures c.four_bytes-2.ensures c.four_bytes-3.ensures
