-- What serving ensures, told as a number.
use Rattle.std.proofs.Common.{arith, ◌∙◌}
use Rattle.exports.proofs.Served.{few_taken, answer_told}
use Rattle.exports.proofs.tickbutton_serve.Goals as goal

pub told_answer-requires : goal.told_answer-requires
told_answer-requires c = omega (arith, few_taken c.serve-verdict.ensures)

pub returns : goal.returns
returns c =
    record { answer = c.told_answer.ensures ∙ answer_told c.serve-verdict.ensures; words = c.serve-verdict.ensures.words }
