-- `runs::serve_whole` meets its contract: nothing, or what a whole record is told. Assumes nothing.
use mathlib.Core.Path.{refl, sym, ap, ◌∙◌}
use Rattle.records.specs.Reading.{cut_short, taken_of}
use Rattle.records.proofs.ThereAndBack.{reading_takes}
use Rattle.reaching.proofs.Judging.{short_found}
use Rattle.service.proofs.Verdicts.{serves_by}
use Rattle.runs.proofs.serve_whole.Goals as goal

pub returns-then-is_cut_short : goal.returns-then-is_cut_short
returns-then-is_cut_short c =
    let asks = c.is_cut_short.ensures ∙ ap cut_short c.read-found.ensures ∙ short_found _ in
    ((sym asks ∙ c.if-is_cut_short.true, refl), c.requires)

pub serve_found-answer-requires : goal.serve_found-answer-requires
serve_found-answer-requires c = (c.requires, (c.read-found.ensures, sym c.is_cut_short.ensures ∙ c.if-is_cut_short.false))

pub returns : goal.returns
returns c =
    let asks = c.is_cut_short.ensures ∙ ap cut_short c.read-found.ensures ∙ short_found _ in
    let bytes = c.taken_of-taken.ensures ∙ ap taken_of c.read-found.ensures ∙ reading_takes _ in
    ((sym asks ∙ c.if-is_cut_short.false, serves_by c.serve_found-answer.ensures.0 bytes), c.serve_found-answer.ensures.1)
