-- `lines::put_text` meets its contract. Assumes nothing.
use Rattle.lines.proofs.Runs.{puts_copied}
use Rattle.lines.proofs.put_text.Goals as goal

pub returns : goal.returns
returns c = puts_copied _ _ _ c.requires c.copy_from_slice.ensures.after
