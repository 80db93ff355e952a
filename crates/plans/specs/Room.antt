-- How a plan's holds stand in its room: first the holds, then blank rows. Assumes nothing.
use Rattle.std.specs.Prelude.{◌≡◌, List, ◌++◌, ◌-◌, ◌≤◌, length, take, replicate}
use Rattle.std.proofs.Common.{sym, ap, arith, length-append, length-take}
use Rattle.std.proofs.Math.ListN.{length-replicate}
use Rattle.rows.specs.declared.HoldRow.{HoldRow}
use Rattle.plans.specs.declared.Plan.TheInside.{Inside}
use Rattle.plans.specs.Plans.{blank_row, plan_room}

abbrev pub used_rows : Inside → List HoldRow
used_rows p = take p.count p.rows

-- the holds of a plan, and blank rows up to its room
abbrev pub with_blanks : List HoldRow → List HoldRow
with_blanks rows = rows ++ replicate (plan_room - length rows) blank_row

pub record Padded (p : Inside) : Type 0 where
  pub few : p.count ≤ plan_room
  pub blank_behind : p.rows ≡ with_blanks (take p.count p.rows)

abbrev pub padded : List HoldRow → Inside
padded rows = record { count = length rows; rows = with_blanks rows }

pub used_long : (p : Inside) → Padded p → length (take p.count p.rows) ≡ p.count
used_long p h =
    let used = take p.count p.rows in
    omega (arith, h.few, ap length h.blank_behind, length-append used (replicate (plan_room - length used) blank_row), length-take p.count p.rows, length-replicate (plan_room - length used) blank_row)

-- the room is told by the holds
pub padded_back : (p : Inside) → Padded p → padded (used_rows p) ≡ p
padded_back p h = λ i. record { count = used_long p h i; rows = sym h.blank_behind i }
