-- `process_index::index_processes` meets its contract: each used row is looked for among the rows before it, and then chained. Assumes nothing.
use mathlib.Core.Bool.{false≢true}
use mathlib.Core.Path.{◌∙◌}
use Prim.Native.Nat.{◌<◌}
use native.Mathlib.Omega.{arith}
use borrow.Author.Rules.{rules}
use Rattle.index.proofs.Descents.{none_counted, some_counted}
use Rattle.process_index.proofs.Processes.{number_asked, number_last, building_starts, building_past, building_more, building_twice, building_ends}
use Rattle.process_index.proofs.index_processes.Goals as goal
use Rattle.process_index.proofs.index_processes.Goals.{then-number-ne0+else-is_some, else-number-ne0}

pub loop-row-init : goal.loop-row-init
loop-row-init c = building_starts c.args.words.now c.requires.1

pub last_in_chain-requires : goal.last_in_chain-requires
last_in_chain-requires c =
    let stands = c.requires.0 in
    let small : 382 < 9223372036854775808 = omega arith in
    let bucket = c.bucket_of-bucket.ensures.1 in
    (small, (bucket, number_asked c.args.words.now c.loop-row.invariant.chained bucket (λ k l. search rules)))

pub returns-then-is_some : goal.returns-then-is_some
returns-then-is_some c =
    let bucket = c.bucket_of-bucket.ensures in
    let last =
    number_last c.args.words.now c.loop-row.invariant.chained bucket.1 _ c.if-number-ne0.true bucket.0 c.last_in_chain.ensures
    (λ k answer a. search rules) in (
      building_twice c.args.words.now c.loop-row.invariant c.loop-row-test.true c.process_number-number.ensures
          c.if-number-ne0.true last (some_counted _ c.if-is_some.ensures),
      λ e. absurd (false≢true e),
    )

pub loop-row-preserved : goal.loop-row-preserved
loop-row-preserved c =
    let number = c.process_number-number.ensures in
    elim c.if-number-ne0.branch [
      | then-number-ne0+else-is_some w ↦
          let bucket = w.bucket_of-bucket.ensures in
          let last =
          number_last c.args.words.now c.loop-row.invariant.chained bucket.1 _ w.if-number-ne0.true bucket.0 w.last_in_chain.ensures
          (λ k answer a. search rules) in
          rw (w.index-is ∙ w.link_row.ensures)
          (building_more c.args.words.now c.loop-row.invariant c.loop-row-test.true number w.if-number-ne0.true
          last (none_counted _ w.if-is_some.ensures) bucket.0 bucket.1)
      | else-number-ne0 w ↦
          rw w.index-is (building_past c.args.words.now c.loop-row.invariant c.loop-row-test.true number w.if-number-ne0.false)
    ]

pub returns : goal.returns
returns c = building_ends c.args.words.now c.requires.0 c.loop-row.invariant c.loop-row-test.false
