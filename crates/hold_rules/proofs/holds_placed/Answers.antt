-- `hold_rules::holds_placed` meets its contract: hold after hold. Assumes nothing.
use mathlib.Core.Path.{◌≡◌, refl}
use mathlib.Core.Bool.{true, false}
use native.Mathlib.Omega.{arith}
use Prim.Native.Nat.{◌<◌}
use borrow.Author.Rules.{rules}
use Rattle.std.proofs.lemmas.Iterator.{serves_from_Range, cases_from_all, YieldsList-from_range}
use Rattle.model.specs.Tables.{hold_rows}
use Rattle.hold_rules.specs.Placed.{row_placed}
use Rattle.hold_rules.proofs.Rules.{each_below, rows_decide}
use Rattle.hold_rules.proofs.Used.{used_inside}
use Rattle.hold_rules.proofs.holds_placed.Goals as goal

pub all-requires-clause-callable : goal.all-requires-clause-callable
all-requires-clause-callable c =
    let indexed = c.requires.0 in
    serves_from_Range (λ x q a. search rules)
    (λ x a b. let inside : x < hold_rows = omega (arith, used_inside c.args.words.now c.requires.1) in search rules)

pub returns : goal.returns
returns c =
    let words = c.args.words.now in
    let rows = c.args.rows in
    rows_decide words c.requires.1 c.all.result
    (each_below (row_placed words) rows c.all.result
    (cases_from_all _ _ _ (λ k. row_placed words k ≡ true) (λ k. row_placed words k ≡ false) c.all.ensures.ran
    (YieldsList-from_range 0 rows rows refl (omega arith)) (λ x q k. search rules) (λ x q k. search rules)))
