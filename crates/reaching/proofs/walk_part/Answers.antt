-- `reaching::walk_part` meets its contract. Assumes nothing.
use mathlib.Core.Path.{◌∙◌, ap}
use native.Mathlib.Omega.{arith}
use Rattle.model.specs.Walk.{walk}
use Rattle.model.specs.Words.{unpack}
use Rattle.laws.proofs.Words.{sound_has_sound_rows}
use Rattle.goals.specs.Goals.{walked}
use Rattle.reaching.proofs.Accepting.{slice_part, slice_valid}
use Rattle.reaching.proofs.walk_part.Goals as goal

pub overflow_add-end : goal.overflow_add-end
overflow_add-end c = omega (arith, c.requires.1.1.within)

pub walk-requires : goal.walk-requires
walk-requires c =
    record { indexed = c.requires.1.0; sound = sound_has_sound_rows c.args.words.now c.requires.0; valid = slice_valid c.requires.1.1 }

pub returns : goal.returns
returns c =
    let t = unpack c.args.words.now in
    c.walk.ensures ∙ ap (λ l. walked (walk t.entries t.nodes c.args.follow_last l)) (slice_part c.args.bytes.now c.args.part)
