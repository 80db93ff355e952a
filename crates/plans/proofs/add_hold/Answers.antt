-- `plans::add_hold` meets its contract: the lowest free row is written, if there is one. Assumes nothing.
use native.Mathlib.Omega.{arith}
use Rattle.model.specs.Tables.{free_hold}
use Rattle.model.specs.Words.{unpack}
use Rattle.rows.proofs.Parts.{holds_full}
use Rattle.search.proofs.Rows.{found_row}
use Rattle.plans.proofs.Planning.{hold_added, no_row_free}
use Rattle.plans.proofs.add_hold.Goals as goal

pub set_hold-requires : goal.set_hold-requires
set_hold-requires c =
    let holds = (unpack c.args.words.now).holds in
    let found = found_row free_hold holds c.in-Some.ensures in
    (c.requires.0, (omega (arith, found.inside, holds_full c.args.words.now), (c.requires.1.role, c.requires.1.good)))

pub returns-in-Some : goal.returns-in-Some
returns-in-Some c = hold_added c.args.words.now c.args.hold c.in-Some.ensures c.set_hold.ensures

pub returns-in_default : goal.returns-in_default
returns-in_default c = no_row_free c.args.words.now c.args.hold c.requires.0 c.in_default.ensures
