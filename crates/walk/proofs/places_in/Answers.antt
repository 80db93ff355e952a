-- The places of rows: the closure reads one place of each. Assumes nothing.
use mathlib.Core.Path.{ap}
use lib.ListN.{length}
use Rattle.std.specs.Prelude.{None}
use Rattle.std.proofs.Common.{rules, tests, arith}
use Rattle.std.proofs.lemmas.Iterator.Consumers.{YieldsList-from_shown}
use Rattle.std.proofs.lemmas.Iterator.Adapters.{serves_from_places}
use Rattle.std.proofs.lemmas.List.{get_or_default}
use Rattle.std.specs.Array.{list_steps}
use Rattle.laws.proofs.Each.{each_at}
use Rattle.rows.specs.Stands.{Stands}
use Rattle.walk.specs.Trails.{Row, place_in}
use Rattle.walk.proofs.Places.{mapped}
use Rattle.walk.proofs.places_in.Goals as goal

pub map-requires : goal.map-requires
map-requires c = (
  omega arith,
  (
    omega arith,
    (
      omega arith,
      serves_from_places (YieldsList-from_shown list_steps (λ x. x) (λ s. s) (λ s t e. ap length e) (λ s x t e. e) c.args.rows)
          (λ x q k. search (rules, tests))
          (λ x k h e. let pre : Stands c.args.words.now × Row x = (c.requires.0, rw e (rw (get_or_default c.args.rows k x None h) (each_at c.requires.1.each (omega arith) k))) in search rules),
    ),
  ),
)

pub returns : goal.returns
returns c = mapped _ (place_in c.args.words.now) _ (λ x y q k. search (rules, tests)) c.args.rows c.map.result 0 8 c.requires.1.room c.map.ensures.items.long c.map.ensures.items.each
