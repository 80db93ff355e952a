-- `shape::entries_shaped` meets its contract: the rows by their numbers are the table's pieces. Assumes nothing.
use mathlib.Core.Path.{refl, sym, ap, ◌∙◌}
use borrow.Author.Tests.{tests}
use Prim.Native.Nat.{◌*◌}
use lib.ListN.{take, drop}
use native.Mathlib.Nat.{zero-add}
use Rattle.std.proofs.Common.{rules}
use Rattle.std.proofs.lemmas.Iterator.{YieldsList-from_range}
use Rattle.std.proofs.lemmas.Iterator.Search.{all_from_yields_List}
use Rattle.model.specs.Tables.{entry_rows}
use Rattle.model.specs.Words.{entry_words}
use Rattle.shape.specs.Shaped.{entry_shaped}
use Rattle.shape.proofs.RowByRow.{all_rows}
use Rattle.shape.proofs.entries_shaped.Goals as goal

pub returns : goal.returns
returns c =
    all_from_yields_List (λ row. entry_shaped (take entry_words (drop (row * entry_words) c.args.words.now))) _ _ _ c.all.ensures.ran
    (YieldsList-from_range 0 entry_rows entry_rows refl refl) (λ x b q k. search (rules, tests))
    ∙ all_rows entry_shaped entry_words 0 c.args.words.now _ (λ row. ap (λ m. entry_shaped (take entry_words (drop m c.args.words.now))) (sym (zero-add (row * entry_words)))) entry_rows
