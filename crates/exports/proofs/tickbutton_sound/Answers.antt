-- What the test of soundness ensures, told as a number.
use Rattle.std.proofs.Common.{sym, ap, ◌∙◌}
use Rattle.exports.specs.Numbers.{soundness_number}
use Rattle.exports.proofs.tickbutton_sound.Goals as goal

pub returns-then-sound : goal.returns-then-sound
unfolding soundness_number
returns-then-sound c = c.told.ensures ∙ ap soundness_number (sym c.if-sound.true ∙ c.sound.ensures)

pub returns : goal.returns
unfolding soundness_number
returns c = c.told-2.ensures ∙ rw c.from.ensures (ap soundness_number (sym c.if-sound.false ∙ c.sound.ensures))
