-- `paths::name_end` meets its contract. Assumes nothing.
use mathlib.Core.Path.{ap, ◌∙◌}
use Prim.Native.Nat.{ℕ, ◌+◌}
use lib.Dec.{eqb}
use Rattle.std.proofs.Common.{rules, tests}
use Rattle.std.proofs.lemmas.Iterator.{YieldsList-from_slice}
use Rattle.std.proofs.lemmas.Iterator.Search.{position_from_yields_List}
use Rattle.model.specs.Paths.{slash}
use Rattle.paths.proofs.Parts.{rest_whole, found_or_end}
use Rattle.paths.proofs.name_end.Goals as goal

pub returns : goal.returns
returns c =
    let whole = rest_whole c.args.path.now c.args.at in
    let given = rw whole at c.iter.ensures.rest in
    let found =
    position_from_yields_List (λ b. eqb b slash) _ _ c.position.result c.position.ensures.ran (YieldsList-from_slice _ given) (λ x b q k. search (rules, tests))
    in
    ap (λ (n : ℕ). c.args.at + n) (rw whole at c.unwrap_or.ensures ∙ found_or_end _ c.position.result found)
