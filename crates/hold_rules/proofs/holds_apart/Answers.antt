-- `hold_rules::holds_apart` meets its contract: each used row is looked for among the rows before it, and then chained. Assumes nothing.
use mathlib.Core.Path.{◌∙◌}
use Prim.Native.Nat.{◌<◌}
use native.Mathlib.Omega.{arith}
use borrow.Author.Rules.{rules}
use Rattle.model.specs.Tables.{hold_rows}
use Rattle.index.proofs.Descents.{none_counted, some_counted}
use Rattle.hold_rules.proofs.Holds.{comparing_starts, comparing_past, same_asked, same_last, comparing_more, comparing_twice, comparing_ends}
use Rattle.hold_rules.proofs.Used.{used_inside}
use Rattle.hold_rules.proofs.holds_apart.Goals as goal
use Rattle.hold_rules.proofs.holds_apart.Goals.{then-hold_directory-ne0+else-is_some, else-hold_directory-ne0}

pub loop-row-init : goal.loop-row-init
loop-row-init c = comparing_starts c.args.words.now c.new-holds.ensures

pub hold_directory-requires : goal.hold_directory-requires
hold_directory-requires c =
    let inside : c.loop-row.row-counter < hold_rows = omega (arith, used_inside c.args.words.now c.requires.1) in
    (c.requires.0, inside)

pub last_in_chain-requires : goal.last_in_chain-requires
last_in_chain-requires c =
    let inside : c.loop-row.row-counter < hold_rows = omega (arith, used_inside c.args.words.now c.requires.1) in
    let stands = c.requires.0 in
    let bucket = c.bucket_of_hold-bucket.ensures in
    let small : 1530 < 9223372036854775808 = omega arith in (
      small,
      (
        bucket.1,
        same_asked c.args.words.now c.loop-row.invariant inside c.hold_directory.ensures c.if-hold_directory-ne0.true
            bucket.0 bucket.1 (λ k l. search rules),
      ),
    )

pub link_row-requires : goal.link_row-requires
link_row-requires c =
    let inside : c.loop-row.row-counter < hold_rows = omega (arith, used_inside c.args.words.now c.requires.1) in
    let bucket = c.bucket_of_hold-bucket.ensures in
    search rules

pub returns-then-is_some : goal.returns-then-is_some
returns-then-is_some c =
    let inside : c.loop-row.row-counter < hold_rows = omega (arith, used_inside c.args.words.now c.requires.1) in
    let bucket = c.bucket_of_hold-bucket.ensures in
    let last =
    same_last c.args.words.now c.loop-row.invariant inside c.hold_directory.ensures c.if-hold_directory-ne0.true bucket.0 bucket.1
    c.last_in_chain.ensures (λ k answer a. search rules) in
    comparing_twice c.args.words.now c.loop-row.invariant inside c.hold_directory.ensures c.if-hold_directory-ne0.true
    last (some_counted _ c.if-is_some.ensures)

pub loop-row-preserved : goal.loop-row-preserved
loop-row-preserved c =
    let inside : c.loop-row.row-counter < hold_rows = omega (arith, used_inside c.args.words.now c.requires.1) in
    let directory = c.hold_directory.ensures in
    elim c.if-hold_directory-ne0.branch [
      | then-hold_directory-ne0+else-is_some w ↦
          let bucket = w.bucket_of_hold-bucket.ensures in
          let last =
          same_last c.args.words.now c.loop-row.invariant inside directory w.if-hold_directory-ne0.true bucket.0 bucket.1
          w.last_in_chain.ensures (λ k answer a. search rules) in
          rw (w.holds-is ∙ w.link_row.ensures)
          (comparing_more c.args.words.now c.loop-row.invariant inside directory w.if-hold_directory-ne0.true
          last (none_counted _ w.if-is_some.ensures) bucket.0 bucket.1)
      | else-hold_directory-ne0 w ↦
          rw w.holds-is (comparing_past c.args.words.now c.loop-row.invariant inside directory w.if-hold_directory-ne0.false)
    ]

pub returns : goal.returns
returns c = comparing_ends c.args.words.now c.loop-row.invariant c.requires.1 c.loop-row-test.false
