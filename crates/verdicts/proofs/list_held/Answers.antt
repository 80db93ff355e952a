-- The lines fit the destination, and the bytes taken are among those held, by what `list_part` promises.
use Rattle.verdicts.proofs.Kept.{lines_fit, taken_held}
use Rattle.verdicts.proofs.list_held.Goals as goal

pub returns-clause-taken : goal.returns-clause-taken
returns-clause-taken c = taken_held _ _ c.args.bytes.now c.args.held _ _ c.list_part.ensures

pub returns-clause-fits : goal.returns-clause-fits
returns-clause-fits c = lines_fit _ _ c.args.bytes.now c.args.held _ _ c.list_part.ensures c.list_part.auto.out
