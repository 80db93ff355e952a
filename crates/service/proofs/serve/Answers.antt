-- `service::serve` meets its contract. Assumes nothing.
use mathlib.Core.Path.{◌∙◌, ap}
use Rattle.records.proofs.ThereAndBack.{reading_takes}
use Rattle.records.specs.Reading.{taken_of}
use Rattle.service.proofs.Verdicts.{serves_by}
use Rattle.service.proofs.serve.Goals as goal

pub judge-answer-requires : goal.judge-answer-requires
judge-answer-requires c = c.read-found.ensures

pub returns : goal.returns
returns c = serves_by c.judge-answer.ensures (c.taken_of-taken.ensures ∙ ap taken_of c.read-found.ensures ∙ reading_takes _)
