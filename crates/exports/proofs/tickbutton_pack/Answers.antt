-- What packing ensures, told as a number.
use Rattle.std.proofs.Common.{rules, ◌∙◌}
use Rattle.exports.proofs.Bounds.{length_small, length_told, refusal_told}
use Rattle.exports.proofs.tickbutton_pack.Goals as goal

pub told-requires : goal.told-requires
told-requires c =
    (search rules, length_small _ _ _ _ (search rules) (search rules) (rw c.in-Ok.is at c.pack.ensures), search rules)

pub returns-in-Ok : goal.returns-in-Ok
returns-in-Ok c =
    record {
      answer = c.told.ensures ∙ length_told _ _ _ _ (rw c.in-Ok.is at c.pack.ensures);
      bytes = c.pack.ensures.bytes;
    }

pub returns-in-Err : goal.returns-in-Err
returns-in-Err c =
    record {
      answer = c.told-in-Err.ensures ∙ rw c.from.ensures (refusal_told _ _ _ _ (rw c.in-Err.is at c.pack.ensures));
      bytes = c.pack.ensures.bytes;
    }
