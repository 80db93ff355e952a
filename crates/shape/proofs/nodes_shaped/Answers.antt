-- `shape::nodes_shaped` meets its contract: the rows by their numbers are the table's pieces. Assumes nothing.
use mathlib.Core.Path.{refl, ◌∙◌}
use borrow.Author.Tests.{tests}
use Prim.Native.Nat.{◌+◌, ◌*◌}
use lib.ListN.{take, drop}
use Rattle.std.proofs.Common.{rules}
use Rattle.std.proofs.lemmas.Iterator.{YieldsList-from_range}
use Rattle.std.proofs.lemmas.Iterator.Search.{all_from_yields_List}
use Rattle.model.specs.Tables.{node_rows}
use Rattle.model.specs.Words.{node_words, first_node_word}
use Rattle.shape.specs.Shaped.{node_shaped}
use Rattle.shape.proofs.RowByRow.{all_rows}
use Rattle.shape.proofs.nodes_shaped.Goals as goal

pub returns : goal.returns
returns c =
    all_from_yields_List (λ row. node_shaped (take node_words (drop (first_node_word + row * node_words) c.args.words.now))) _ _ _ c.all.ensures.ran
    (YieldsList-from_range 0 node_rows node_rows refl refl) (λ x b q k. search (rules, tests))
    ∙ all_rows node_shaped node_words first_node_word c.args.words.now _ (λ row. refl) node_rows
