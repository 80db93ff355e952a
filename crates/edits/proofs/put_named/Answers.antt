-- `edits::put_named` meets its contract: five words in a row. Assumes nothing.
use Rattle.edits.proofs.Written.{named_stored}
use Rattle.edits.proofs.put_named.Goals as goal

pub returns : goal.returns
returns c =
    named_stored c.args.part.now c.args.at c.args.upper c.args.lower c.args.name c.requires c.pair_of.ensures c.copy_from_slice.ensures.after
