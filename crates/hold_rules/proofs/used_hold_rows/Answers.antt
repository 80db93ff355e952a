-- `hold_rules::used_hold_rows` meets its contract: rows are passed from the last on while they are free. Assumes nothing.
use Rattle.hold_rules.proofs.Used.{free_from_starts, free_from_below, last_used, none_used}
use Rattle.hold_rules.proofs.used_hold_rows.Goals as goal

pub loop-row-init : goal.loop-row-init
loop-row-init c = free_from_starts c.args.words.now

pub returns-then-hold_directory-ne0 : goal.returns-then-hold_directory-ne0
returns-then-hold_directory-ne0 c =
    last_used c.args.words.now c.loop-row.invariant c.loop-row-test.true c.hold_directory.ensures c.if-hold_directory-ne0.true

pub loop-row-preserved : goal.loop-row-preserved
loop-row-preserved c =
    free_from_below c.args.words.now c.loop-row.invariant c.loop-row-test.true c.hold_directory.ensures c.if-hold_directory-ne0.false

pub returns : goal.returns
returns c = none_used c.args.words.now c.loop-row.invariant c.loop-row-test.false
