-- The bytes between stand at the front in the end. Assumes nothing.
use Rattle.std.proofs.Common.{◌-◌, length-drop, arith}
use Rattle.verdicts.proofs.Kept.{put_front, kept_fits}
use Rattle.verdicts.proofs.keep_unread.Goals as goal

pub returns-clause-puts : goal.returns-clause-puts
returns-clause-puts c =
    put_front c.args.bytes.now c.args.from (c.args.held - c.args.from) (omega (arith, length-drop c.args.from c.args.bytes.now)) c.copy_within.ensures.after

pub returns-clause-upper_bound : goal.returns-clause-upper_bound
returns-clause-upper_bound c =
    kept_fits c.args.bytes.now c.args.from (c.args.held - c.args.from)
    (put_front c.args.bytes.now c.args.from (c.args.held - c.args.from) (omega (arith, length-drop c.args.from c.args.bytes.now)) c.copy_within.ensures.after)
