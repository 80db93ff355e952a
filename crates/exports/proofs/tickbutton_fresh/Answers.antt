-- What making fresh ensures, told as a number.
use Rattle.std.proofs.Common.{◌∙◌}
use Rattle.exports.proofs.Served.{ready_told, refusal_told}
use Rattle.exports.proofs.tickbutton_fresh.Goals as goal

pub returns-in-Ok : goal.returns-in-Ok
returns-in-Ok c =
    record {
      answer = c.told.ensures ∙ ready_told _ _ (rw c.in-Ok.is at c.fresh.ensures);
      words = c.fresh.ensures.words;
    }

pub returns-in-Err : goal.returns-in-Err
returns-in-Err c =
    record {
      answer = c.told-in-Err.ensures ∙ rw c.from.ensures (refusal_told _ _ _ (rw c.in-Err.is at c.fresh.ensures));
      words = c.fresh.ensures.words;
    }
