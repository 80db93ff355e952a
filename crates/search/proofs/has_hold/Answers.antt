-- `search::has_hold` meets its contract: some row is the hold. Assumes nothing.
use mathlib.Core.Path.{refl, sym}
use borrow.Author.Rules.{rules}
use borrow.Author.Tests.{tests}
use Rattle.laws.proofs.RowChains.{any_gives}
use Rattle.model.specs.Sound.{same_hold}
use Rattle.model.specs.Tables.{no_hold}
use Rattle.model.specs.Words.{unpack}
use Rattle.rows.proofs.Parts.{holds_full}
use Rattle.rows.specs.Rows.{hold_of}
use Rattle.search.proofs.has_hold.Goals as goal

pub returns : goal.returns
returns c =
    let w = c.args.words.now in
    any_gives (same_hold (hold_of c.args.hold)) no_hold (unpack w).holds refl (sym (holds_full w)) _ c.any.result c.any.ensures.ran
    (λ x b q h. search (rules, tests))
