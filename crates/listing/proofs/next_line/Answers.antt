-- Each answer is that of the step, by its tests and the service's verdict; the test of the tables holds on.
use Rattle.listing.proofs.StepCases.{step_over, step_nothing_yet, step_full, step_too_short_yet, step_short_line, step_last_line, step_line}
use Rattle.listing.proofs.StepCases.{none_left, some_left, room_for_line}
use Rattle.listing.proofs.next_line.Goals as goal
use Rattle.listing.proofs.next_line.Goals.{else-taken-eq0-via-then-taken-eq0+else-not-setting, else-taken-eq0-via-else-taken-eq0}
use Rattle.listing.proofs.next_line.Goals.{then-taken-eq0-2-via-then-taken-eq0-2, then-taken-eq0-2-via-else-taken-eq0-2+then-setting-eq18446744073709551615}

pub returns-then-setting : goal.returns-then-setting
returns-then-setting c = (step_over _ _ _ _ _ (none_left c.args.bytes.now c.if-is_empty.ensures) c.if-setting.true, c.requires)

pub returns-else-setting : goal.returns-else-setting
returns-else-setting c = (step_nothing_yet _ _ _ _ _ (none_left c.args.bytes.now c.if-is_empty.ensures) c.if-setting.false, c.requires)

pub returns-then-out-lt-LONGEST_LINE : goal.returns-then-out-lt-LONGEST_LINE
returns-then-out-lt-LONGEST_LINE c =
    (step_full _ _ _ _ _ (some_left c.args.bytes.now c.if-is_empty.ensures) c.if-out-lt-LONGEST_LINE.true, c.requires)

pub returns-then-not-setting : goal.returns-then-not-setting
returns-then-not-setting c = (
  step_too_short_yet _ _ _ _ _ (some_left c.args.bytes.now c.if-is_empty.ensures) c.if-out-lt-LONGEST_LINE.false c.serve_tested-verdict.ensures.0 c.if-taken-eq0.true c.if-not-setting.true,
  c.serve_tested-verdict.ensures.1,
)

pub put_line-length-requires : goal.put_line-length-requires
put_line-length-requires c = room_for_line _ _ c.if-out-lt-LONGEST_LINE.false

pub returns-then-taken-eq0-2 : goal.returns-then-taken-eq0-2
returns-then-taken-eq0-2 c = (
  elim c.then-taken-eq0-2.branch [
    | then-taken-eq0-2-via-then-taken-eq0-2 w ↦
        step_short_line _ _ _ _ _ (some_left c.args.bytes.now c.if-is_empty.ensures) c.if-out-lt-LONGEST_LINE.false c.serve_tested-verdict.ensures.0 c.put_line-length.ensures w.if-taken-eq0-2.true
        (elim c.else-taken-eq0.branch [
          | else-taken-eq0-via-then-taken-eq0+else-not-setting v ↦ v.if-not-setting.false
          | else-taken-eq0-via-else-taken-eq0 v ↦ absurd (v.if-taken-eq0.false w.if-taken-eq0-2.true)
        ])
    | then-taken-eq0-2-via-else-taken-eq0-2+then-setting-eq18446744073709551615 w ↦
        step_last_line _ _ _ _ _ (some_left c.args.bytes.now c.if-is_empty.ensures) c.if-out-lt-LONGEST_LINE.false c.serve_tested-verdict.ensures.0 c.put_line-length.ensures w.if-taken-eq0-2.false
        w.if-setting-eq18446744073709551615.true
  ],
  c.serve_tested-verdict.ensures.1,
)

pub returns : goal.returns
returns c = (
  step_line _ _ _ _ _ (some_left c.args.bytes.now c.if-is_empty.ensures) c.if-out-lt-LONGEST_LINE.false c.serve_tested-verdict.ensures.0 c.put_line-length.ensures c.if-taken-eq0-2.false
      c.if-setting-eq18446744073709551615.false,
  c.serve_tested-verdict.ensures.1,
)
