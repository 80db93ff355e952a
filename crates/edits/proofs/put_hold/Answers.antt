-- `edits::put_hold` meets its contract: what an entry begins with too, and the role. Assumes nothing.
use Prim.Native.Nat.{◌*◌}
use Rattle.edits.proofs.Written.{hold_stored}
use Rattle.model.specs.Words.{hold_words}
use Rattle.edits.proofs.put_hold.Goals as goal

pub returns : goal.returns
returns c = hold_stored c.args.holds.now (c.args.row * hold_words) c.args.hold c.put_named.ensures c.role_word.ensures
