-- `walk_told::put_elements` meets its contract: what is left to store gives the whole. Assumes nothing.
use native.Mathlib.Omega.{arith}
use Rattle.goals.specs.Goals.{blank}
use Rattle.walk_told.proofs.Stored.{places_onward, places_done}
use Rattle.walk_told.proofs.put_elements.Goals as goal

pub loop-i-preserved : goal.loop-i-preserved
unfolding blank
loop-i-preserved c = places_onward c.loop-i.goal c.args.elements c.loop-i.i (omega arith) c.put_place.ensures c.loop-i.invariant

pub returns : goal.returns
returns c = places_done c.loop-i.goal c.args.elements c.loop-i.i (omega arith) c.loop-i.invariant
