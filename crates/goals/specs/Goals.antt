-- A walk's end as the code has it and as the model has it: each case with document 01's numbers and values. Assumes nothing.
use Rattle.std.specs.Prelude.{List, ◌++◌, map, ℕ, ◌-◌, ◌≤◌, length, take, replicate}
use Rattle.std.proofs.Math.Option.{Option, none, some}
use Rattle.model.specs.Refusals.{Outcome, refused, granted}
use Rattle.model.specs.Tables as model_tables
use Rattle.model.specs.Tables.{Process}
use Rattle.model.specs.Walk.{Goal}
use Rattle.laws.specs.Each.{Each}
use Rattle.rows.specs.Blocks.{Named, block_of, place_of}
use Rattle.search.specs.Callers.{Known}
use Rattle.goals.specs.declared.Place.{Place}
use Rattle.goals.specs.declared.Stop.{Stop}
use Rattle.goals.specs.declared.Stop.TheVariants.{Refused, Root, Entry}
use Rattle.goals.specs.declared.Walk.{Walk}
use Rattle.goals.specs.declared.Reached.{Reached}

-- FROM THE MODEL TO THE CODE: what a walk answers

unfoldable pub place_row : model_tables.Place → Place
place_row q = record { directory = q.directory; name = block_of q.name }

unfoldable pub blank : Place
blank = record { directory = 0; name = record { first = 0; second = 0; third = 0; fourth = 0 } }

-- eight places, the rest of them blank
unfoldable pub room_of : List model_tables.Place → List Place
room_of elements = map place_row elements ++ replicate (8 - length elements) blank

unfoldable pub stop_of : Option model_tables.Place → ℕ → Stop
stop_of none node = Root
stop_of (some q) node = Entry (place_row q) node

-- Numbers given back, 7, 8 and 9; or where the walk stopped
unfoldable pub walked : Outcome Goal → Walk
walked (refused n) = record { stop = Refused n; count = 0; elements = replicate 8 blank }
walked (granted g) = record { stop = stop_of g.end g.node; count = length g.elements; elements = room_of g.elements }

-- FROM THE CODE TO THE MODEL: what the calls go on with

unfoldable pub place_at : Place → model_tables.Place
place_at q = place_of q.directory q.name

unfoldable pub end_at : Stop → Option model_tables.Place
end_at (Refused n) = none
end_at Root = none
end_at (Entry q node) = some (place_at q)

-- the node at the end; `/` is node 1
unfoldable pub node_at_end : Stop → ℕ
node_at_end (Refused n) = 0
node_at_end Root = 1
node_at_end (Entry q node) = node

unfoldable pub goal_of : Walk → Goal
goal_of w = record { end = end_at w.stop; node = node_at_end w.stop; elements = map place_at (take w.count w.elements) }

-- the blocks are those of their names, and there are at most eight elements
unfoldable pub StopNamed : Stop → Type 0
StopNamed (Refused n) = Unit {0}
StopNamed Root = Unit {0}
StopNamed (Entry q node) = Named q.name

unfoldable pub PlaceNamed : Place → Type 0
PlaceNamed q = Named q.name

pub record WalkNamed (w : Walk) : Type 0 where
  pub stop : StopNamed w.stop
  pub few : w.count ≤ 8
  pub elements : Each PlaceNamed w.elements

-- who calls is known among these processes, and the walk's blocks are those of their names
pub record ReachedNamed (processes : List Process) (r : Reached) : Type 0 where
  pub known : Known processes r.caller
  pub named : WalkNamed r.walk
