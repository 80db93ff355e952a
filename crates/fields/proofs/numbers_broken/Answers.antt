-- `fields::numbers_broken` meets its contract. Assumes nothing.
use mathlib.Core.Path.{sym, ap}
use mathlib.Core.Bool.{not}
use Rattle.fields.proofs.FieldTests.{no_such_call, process_none, zeros_set, no_argument, an_argument}
use Rattle.fields.proofs.numbers_broken.Goals as goal
use Rattle.fields.proofs.numbers_broken.Goals.{then-not-is_call-via-then-not-is_call, then-not-is_call-via-else-not-is_call+then-numbers-eq0, then-not-is_call-via-else-not-is_call+else-numbers-eq0+then-numbers-ne0}

pub returns-then-not-is_call : goal.returns-then-not-is_call
returns-then-not-is_call c =
    elim c.then-not-is_call.branch [
      | then-not-is_call-via-then-not-is_call w ↦ sym (no_such_call _ _ c.is_call.ensures (ap not w.if-not-is_call.true))
      | then-not-is_call-via-else-not-is_call+then-numbers-eq0 w ↦
          sym (process_none _ _ c.is_call.ensures (ap not w.if-not-is_call.false) w.if-numbers-eq0.true)
      | then-not-is_call-via-else-not-is_call+else-numbers-eq0+then-numbers-ne0 w ↦ sym (zeros_set _ _ w.if-numbers-ne0.true)
    ]

pub returns-then-numbers-eq0-2 : goal.returns-then-numbers-eq0-2
returns-then-numbers-eq0-2 c = sym (no_argument _ _ c.is_call.ensures (ap not c.if-not-is_call.false) c.if-numbers-eq0.false c.if-numbers-ne0.false c.if-numbers-eq0-2.true)

pub returns : goal.returns
returns c = sym (an_argument _ _ c.is_call.ensures (ap not c.if-not-is_call.false) c.if-numbers-eq0.false c.if-numbers-ne0.false c.if-numbers-eq0-2.false)
