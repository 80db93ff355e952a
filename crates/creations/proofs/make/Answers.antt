-- `creations::make` meets its contract: refused on the way, or what stands behind the walk. Assumes nothing.
use mathlib.Core.Bool.{false}
use native.Mathlib.Omega.{arith}
use Rattle.model.specs.Calls.{make, make_at}
use Rattle.model.specs.Words.{unpack}
use Rattle.records.specs.Reading.{part_of}
use Rattle.reaching.proofs.Accepting.{path2_within, slice_part, slice_short}
use Rattle.reaching.proofs.Ways.{came, goes_on, refused_on_the_way}
use Rattle.rows.specs.Kinds.{number_of}
use Rattle.creations.proofs.Entered.{target_as}
use Rattle.creations.proofs.make.Goals as goal

pub overflow_add-end : goal.overflow_add-end
overflow_add-end c =
    let ready = c.requires.0 in
    omega (arith, path2_within ready.bytes ready.read)

pub slice_bounds-make_at-start : goal.slice_bounds-make_at-start
slice_bounds-make_at-start c =
    let ready = c.requires.0 in
    omega (arith, path2_within ready.bytes ready.read)

pub slice_bounds-make_at-end : goal.slice_bounds-make_at-end
slice_bounds-make_at-end c =
    let ready = c.requires.0 in
    omega (arith, path2_within ready.bytes ready.read)

pub make_at-requires : goal.make_at-requires
make_at-requires c =
    let goal = came c.requires.0 c.requires.1.0 false c.in-Ok.ensures in
    (goal.behind, slice_short c.args.call.bytes.now c.args.call.fields.path2 c.requires.1.1)

-- path 1 leads nowhere
pub returns-in-Err : goal.returns-in-Err
unfolding make
returns-in-Err c = refused_on_the_way c.requires.0 c.requires.1.0 false c.in-Err.ensures _

-- or to this goal, and the target's bytes are path 2
pub returns-in-Ok : goal.returns-in-Ok
unfolding make
returns-in-Ok c =
    let t = unpack c.args.words.now in
    let kind = number_of c.args.kind in
    let target = part_of c.args.call.bytes.now c.args.call.fields.path2 in
    let goal = came c.requires.0 c.requires.1.0 false c.in-Ok.ensures in
    let bytes = slice_part c.args.call.bytes.now c.args.call.fields.path2 in
    goes_on goal (make_at kind target t) (target_as kind t _ _ bytes c.make_at.ensures)
