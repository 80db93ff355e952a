-- `lines::put_digits` meets its contract: what is printed of a number are its digits. Assumes nothing.
use mathlib.Core.Path.{◌∙◌}
use Rattle.lines.proofs.Digits.{printed}
use Rattle.lines.proofs.LineBytes.{puts_same}
use Rattle.lines.proofs.put_digits.Goals as goal

pub put_text-requires : goal.put_text-requires
put_text-requires c = rw (c.as_bytes.ensures.value ∙ c.format.ensures.text ∙ printed _ c.ranges.number.fits) c.requires

pub returns : goal.returns
returns c = puts_same (c.as_bytes.ensures.value ∙ c.format.ensures.text ∙ printed _ c.ranges.number.fits) c.put_text.ensures
