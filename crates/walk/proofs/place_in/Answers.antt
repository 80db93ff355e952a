-- The place of a row: blank for none, and else read there. Assumes nothing.
use mathlib.Core.Path.{sym, ap, ◌∙◌}
use Rattle.goals.specs.Goals.{place_row}
use Rattle.goals.proofs.Blanks.{blank_made}
use Rattle.walk.specs.Trails.{place_in}
use Rattle.walk.proofs.place_in.Goals as goal

pub returns-in_default : goal.returns-in_default
unfolding place_in
returns-in_default c = blank_made c.default.ensures ∙ ap (place_in c.args.words.now) (sym c.in_default.is)

pub returns : goal.returns
unfolding place_in place_row
returns c = rw (c.entry_directory.ensures, c.entry_name.ensures, c.from-row.ensures) (ap (place_in c.args.words.now) (sym c.in-Some.is))
