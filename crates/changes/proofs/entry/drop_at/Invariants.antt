-- `changes::entry::drop_at` meets its contract: the rows left to clear give what the whole gives. Assumes nothing.
use Rattle.model.specs.Lists.{clear}
use Rattle.model.specs.Tables.{at, no_entry, with_entries}
use Rattle.model.specs.Words.{unpack}
use Rattle.changes.proofs.Entering.{dropping_entries}
use Rattle.rows.specs.Blocks.{place_of}
use Rattle.holds.proofs.Towards.{Towards}
use Rattle.changes.proofs.entry.drop_at.Given as goal

abbrev pub invariant-loop-row : goal.invariant-loop-row
invariant-loop-row l =
    let here = at (place_of l.directory l.name) in
    Towards (dropping_entries here) (with_entries (unpack l.initial.words) (clear here no_entry (unpack l.initial.words).entries)) l.row l.words
