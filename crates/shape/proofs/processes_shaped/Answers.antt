-- `shape::processes_shaped` meets its contract: each word of the table is a row. Assumes nothing.
use mathlib.Core.Path.{◌∙◌}
use mathlib.Core.List.{[], ◌∷◌}
use native.Mathlib.Omega.{arith}
use borrow.Author.Tests.{tests}
use lib.ListN.{drop, length-drop}
use lib.Seq.{take_all}
use Rattle.std.proofs.Common.{rules}
use Rattle.std.proofs.lemmas.Iterator.{YieldsList-from_slice}
use Rattle.std.proofs.lemmas.Iterator.Search.{all_from_yields_List}
use Rattle.model.specs.Tables.{process_rows}
use Rattle.model.specs.Words.{first_process_word}
use Rattle.shape.specs.Shaped.{process_shaped}
use Rattle.shape.proofs.RowByRow.{all_words}
use Rattle.shape.proofs.processes_shaped.Goals as goal

pub returns : goal.returns
returns c =
    let part = drop first_process_word c.args.words.now in
    let long = length-drop first_process_word c.args.words.now in
    let whole = c.iter.ensures.rest ∙ take_all _ part (omega arith) in
    all_from_yields_List (λ x. process_shaped (x ∷ [])) _ _ _ c.all.ensures.ran (YieldsList-from_slice part whole) (λ x b q k. search (rules, tests))
    ∙ all_words process_shaped process_rows part (omega arith)
