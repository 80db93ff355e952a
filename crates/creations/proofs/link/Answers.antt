-- `creations::link` meets its contract: refused on the way, or what stands behind both walks. Assumes nothing.
use mathlib.Core.Path.{sym}
use Rattle.model.specs.Calls.{link, link_at}
use Rattle.model.specs.Words.{unpack}
use Rattle.records.specs.Reading.{part_of}
use Rattle.reaching.proofs.Ways.{both_came, both_go_on, both_refused, old_is_refused}
use Rattle.creations.proofs.link.Goals as goal

pub link_at-requires : goal.link_at-requires
link_at-requires c =
    let goals = both_came c.requires.0 c.requires.1.0 c.requires.1.1 c.in-Ok.ensures (sym c.in-Ok-old.is) in
    (goals.0.behind, goals.1.countable)

-- path 1 leads nowhere
pub returns-in-Err : goal.returns-in-Err
unfolding link
returns-in-Err c = both_refused c.requires.0 c.requires.1.0 c.requires.1.1 c.in-Err.ensures _

-- or path 2
pub returns-in-Err-old : goal.returns-in-Err-old
unfolding link
returns-in-Err-old c = old_is_refused c.requires.0 c.requires.1.0 c.requires.1.1 c.in-Ok.ensures (sym c.in-Err-old.is) _

-- or both to these goals
pub returns-in-Ok-old : goal.returns-in-Ok-old
unfolding link
returns-in-Ok-old c =
    let t = unpack c.args.words.now in
    let bytes = c.args.call.bytes.now in
    let goals = both_came c.requires.0 c.requires.1.0 c.requires.1.1 c.in-Ok.ensures (sym c.in-Ok-old.is) in
    both_go_on t (part_of bytes c.args.call.fields.path1) (part_of bytes c.args.call.fields.path2) goals.0 goals.1 (link_at t)
    c.link_at.ensures
