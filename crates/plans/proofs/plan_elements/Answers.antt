-- `plans::plan_elements` meets its contract: the plan after i elements is what is lacking of them. Assumes nothing.
use native.Mathlib.Omega.{arith}
use lib.ListN.{get_or, take}
use Rattle.model.specs.Tables.{element_role}
use Rattle.model.specs.Words.{unpack}
use Rattle.goals.specs.Goals.{blank}
use Rattle.plans.proofs.Planning.{elements_few, element_named, element_used, gather_begin, gather_end, gather_step, taken_few, wanted_fine}
use Rattle.plans.proofs.plan_elements.Goals as goal

pub loop-place-init : goal.loop-place-init
loop-place-init c =
    let walk = c.args.walk in gather_begin c.args.process (take walk.count walk.elements) (unpack c.args.words.now).holds c.new-plan.ensures

pub wish-requires : goal.wish-requires
unfolding blank
wish-requires c =
    let process = c.args.process in let walk = c.args.walk in let named = c.requires.1.0 in let elements = take walk.count walk.elements in
    let few = elements_few process c.loop-place.place-index elements in
    let fine = wanted_fine process element_role (get_or elements c.loop-place.place-index blank) c.hold_row.ensures (omega arith) (omega arith)
    (element_named walk named c.loop-place.place-index) (element_used walk c.requires.1.1 c.loop-place.place-index c.loop-place-test.true) in
    (c.requires.0, (c.loop-place.invariant.planned, (omega (arith, c.loop-place.invariant.few, few, named.few, taken_few walk.count walk.elements), fine)))

pub loop-place-preserved : goal.loop-place-preserved
unfolding blank
loop-place-preserved c =
    let walk = c.args.walk in
    gather_step c.args.process (take walk.count walk.elements) (unpack c.args.words.now).holds c.loop-place.place-index c.loop-place-test.true
    c.loop-place.invariant c.hold_row.ensures c.wish.ensures

pub returns : goal.returns
returns c =
    let walk = c.args.walk in
    gather_end c.args.process walk.count walk.elements (unpack c.args.words.now).holds c.loop-place.place-index c.loop-place-test.false
    c.loop-place.invariant
