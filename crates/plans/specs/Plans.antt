-- Holds to be taken as the code plans them, and what the model takes. Assumes nothing.
use Rattle.std.specs.Prelude.{◌≡◌, Bool, true, false, ◌&&◌, List, [], ◌∷◌, ◌++◌, map, ℕ, ◌+◌, ◌≤◌, ◌<◌, length, get_or, take, eqb}
use Rattle.model.specs.Lists.{put}
use Rattle.model.specs.Tables.{Hold, element_role, no_hold, free_hold}
use Rattle.model.specs.Holds.{of_process, hold_by, lacking, copy_for}
use Rattle.laws.specs.Each.{Each}
use Rattle.rows.specs.declared.HoldRow.{HoldRow}
use Rattle.rows.specs.Blocks.{Named, same_block}
use Rattle.rows.specs.Rows.{hold_of, GoodHold}
use Rattle.goals.specs.declared.Place.{Place}
use Rattle.goals.specs.declared.Stop.{Stop}
use Rattle.goals.specs.declared.Stop.TheVariants.{Refused, Root, Entry}
use Rattle.goals.specs.declared.Walk.{Walk}
use Rattle.goals.specs.Goals.{place_at}

-- A row that may be compared and written
pub record Fine (h : HoldRow) : Type 0 where
  pub good : GoodHold h
  pub name : Named h.name
  pub role : h.role < 4

abbrev pub blank_row : HoldRow
blank_row = record { directory = 0; process = 0; name = record { first = 0; second = 0; third = 0; fourth = 0 }; role = 0 }

-- two rows are of one hold: process, role, directory and block agree
abbrev pub same_rows : HoldRow → HoldRow → Bool
same_rows a b = eqb a.process b.process && eqb a.role b.role && (eqb a.directory b.directory && same_block a.name b.name)

-- how many holds one call can lack: those on eight elements and on the end
abbrev pub plan_room : ℕ
plan_room = 9

-- the holds to be taken, in the order in which they are taken
abbrev pub Plan : Type 0
Plan = List HoldRow

pub record Planned (p : Plan) : Type 0 where
  pub few : length p ≤ plan_room
  pub fine : Each Fine p

-- the holds of a plan, in the order in which they are taken
unfoldable pub planned_holds : Plan → List Hold
planned_holds p = map hold_of p

-- one hold wished for is planned where it is lacking
pub record Wished (have : List Hold) (p : Plan) (h : HoldRow) (q : Plan) : Type 0 where
  pub is : planned_holds q ≡ planned_holds p ++ lacking (planned_holds p ++ have) (hold_of h ∷ [])
  pub planned : Planned q
  pub more : length q ≤ length p + 1

-- a place whose hold is no free row: directory 0 marks those
pub record PlaceUsed (q : Place) : Type 0 where
  pub some : 1 ≤ q.directory
  pub fits : q.directory < 65536

unfoldable pub StopUsed : Stop → Type 0
StopUsed (Refused n) = Unit {0}
StopUsed Root = Unit {0}
StopUsed (Entry q node) = PlaceUsed q

pub record WalkUsed (w : Walk) : Type 0 where
  pub stop : StopUsed w.stop
  pub room : length w.elements ≡ 8
  pub elements : Each PlaceUsed (take w.count w.elements)

-- the row that is wanted at a place
abbrev pub wanted_row : ℕ → ℕ → Place → HoldRow
wanted_row p role q = record { directory = q.directory; process = p; name = q.name; role = role }

-- the holds wanted on the first n of these places
unfoldable pub element_holds : ℕ → ℕ → List Place → List Hold
element_holds p n elements = map (hold_by p element_role) (map place_at (take n elements))

-- the plan for these holds: what is lacking of them
pub record PlanFor (have wants : List Hold) (q : Plan) : Type 0 where
  pub is : planned_holds q ≡ lacking have wants
  pub planned : Planned q
  pub few : length q ≤ length wants

-- fork: the hold of a row copied for the child, where it is the parent's
unfoldable pub copied_at : ℕ → ℕ → ℕ → List Hold → List Hold
copied_at parent child row holds =
    elim (of_process parent (get_or holds row no_hold)) [
      | true ↦ put free_hold (copy_for child (get_or holds row no_hold)) holds
      | false ↦ holds
    ]
