-- `heads::write_head` meets its contract: of the number's eight bytes the last seven. Assumes nothing.
use native.Mathlib.Nat.{div-one}
use Rattle.model.specs.Words.{bits}
use Rattle.model.specs.Records.{head_bytes}
use Rattle.heads.proofs.write_head.Goals as goal

pub returns : goal.returns
unfolding head_bytes bits
returns c = rw (c.copy_from_slice.ensures.after, c.to_be_bytes-bytes.ensures, div-one)
