-- `shape::holds_shaped` meets its contract: the rows by their numbers are the table's pieces. Assumes nothing.
use mathlib.Core.Path.{refl, ◌∙◌}
use borrow.Author.Tests.{tests}
use Prim.Native.Nat.{◌+◌, ◌*◌}
use lib.ListN.{take, drop}
use Rattle.std.proofs.Common.{rules}
use Rattle.std.proofs.lemmas.Iterator.{YieldsList-from_range}
use Rattle.std.proofs.lemmas.Iterator.Search.{all_from_yields_List}
use Rattle.model.specs.Tables.{hold_rows}
use Rattle.model.specs.Words.{hold_words, first_hold_word}
use Rattle.shape.specs.Shaped.{hold_shaped}
use Rattle.shape.proofs.RowByRow.{all_rows}
use Rattle.shape.proofs.holds_shaped.Goals as goal

pub returns : goal.returns
returns c =
    all_from_yields_List (λ row. hold_shaped (take hold_words (drop (first_hold_word + row * hold_words) c.args.words.now))) _ _ _ c.all.ensures.ran
    (YieldsList-from_range 0 hold_rows hold_rows refl refl) (λ x b q k. search (rules, tests))
    ∙ all_rows hold_shaped hold_words first_hold_word c.args.words.now _ (λ row. refl) hold_rows
