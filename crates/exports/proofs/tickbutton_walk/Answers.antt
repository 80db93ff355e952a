-- What walking ensures, told as a number.
use Rattle.std.proofs.Common.{◌∙◌}
use Rattle.exports.proofs.Walked.{node_told, refusal_told}
use Rattle.exports.proofs.tickbutton_walk.Goals as goal

pub returns-in-Ok : goal.returns-in-Ok
returns-in-Ok c =
    record {
      answer = c.told.ensures ∙ rw c.from.ensures (node_told (rw c.in-Ok.is at c.walk_to.ensures));
      numbers = c.walk_to.ensures.numbers;
    }

pub returns-in-Err : goal.returns-in-Err
returns-in-Err c =
    record {
      answer = c.told-in-Err.ensures ∙ rw c.from-in-Err.ensures (refusal_told (rw c.in-Err.is at c.walk_to.ensures));
      numbers = c.walk_to.ensures.numbers;
    }
