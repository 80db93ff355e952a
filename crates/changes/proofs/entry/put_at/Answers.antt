-- `changes::entry::put_at` meets its contract: the lowest free row is written. Assumes nothing.
use native.Mathlib.Omega.{arith}
use Rattle.model.specs.Tables.{free_entry}
use Rattle.model.specs.Words.{unpack}
use Rattle.rows.proofs.Parts.{entries_full}
use Rattle.search.proofs.Rows.{found_row}
use Rattle.changes.proofs.Entering.{entry_not_put, entry_put, new_entry_good}
use Rattle.changes.proofs.entry.put_at.Goals as goal

pub set_entry-requires : goal.set_entry-requires
set_entry-requires c =
    let w = c.args.words.now in
    let found = found_row free_entry (unpack w).entries c.in-Some.ensures in
    (c.requires.0, (omega (arith, found.inside, entries_full w), new_entry_good c.args.place c.args.node (omega arith) c.requires.1.0 c.requires.1.1))

pub returns-in-Some : goal.returns-in-Some
returns-in-Some c = entry_put c.args.words.now c.args.place c.args.node c.in-Some.ensures c.set_entry.ensures

pub returns-in_default : goal.returns-in_default
returns-in_default c = entry_not_put c.args.words.now c.args.place c.args.node c.in_default.ensures c.requires.0
