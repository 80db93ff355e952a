-- `edits::put_zeros` meets its contract: the range is filled. Assumes nothing.
use Rattle.edits.proofs.Written.{zeros_stored}
use Rattle.edits.proofs.put_zeros.Goals as goal

pub returns : goal.returns
returns c = zeros_stored c.args.part.now c.args.at c.args.count c.requires (c.fill.ensures.after (λ y e. e))
