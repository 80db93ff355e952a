-- What the calls rest on behind their walk: one bundle for all of them. Assumes nothing.
use Rattle.std.specs.Prelude.{List, ℕ}
use Rattle.model.specs.Words.{unpack}
use Rattle.rows.specs.Stands.{Stands}
use Rattle.goals.specs.declared.Reached.{Reached}
use Rattle.goals.specs.Goals.{ReachedNamed}
use Rattle.plans.specs.Plans.{WalkUsed}

-- the words stand for tables, the caller is known in them, and the walk's places may be compared and written
pub record Behind (w : List ℕ) (r : Reached) : Type 0 where
  pub stands : Stands w
  pub named : ReachedNamed (unpack w).processes r
  pub used : WalkUsed r.walk
