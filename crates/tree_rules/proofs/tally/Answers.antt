-- `tree_rules::tally` meets its contract: each entry is counted for the node that it leads to. Assumes nothing.
use mathlib.Core.Path.{◌∙◌}
use native.Mathlib.Omega.{arith}
use Rattle.tree_rules.proofs.Nodes.{counting_starts, counting_past, counting_more, counting_ends}
use Rattle.tree_rules.proofs.tally.Goals as goal
use Rattle.tree_rules.proofs.tally.Goals.{then-node-ne0+then-node-lt-COUNTS, else-node-ne0, else-node-ne0-via-then-node-ne0+else-node-lt-COUNTS, else-node-ne0-via-else-node-ne0}

pub loop-row-init : goal.loop-row-init
loop-row-init c = counting_starts _ _ c.requires.1

pub loop-row-preserved : goal.loop-row-preserved
loop-row-preserved c =
    let there = c.loop-row-test.true in
    let kept = c.loop-row.invariant in
    let node = c.wide-node.ensures ∙ c.entry_node.ensures in
    elim c.if-node-ne0.branch [
      | then-node-ne0+then-node-lt-COUNTS w ↦ rw w.counts-is (counting_more _ _ kept there node w.if-node-lt-COUNTS.true)
      | else-node-ne0 w ↦ rw w.counts-is (elim w.else-node-ne0.branch [
        | else-node-ne0-via-then-node-ne0+else-node-lt-COUNTS v ↦ counting_past _ _ kept there node (λ n u h e. omega (arith, v.if-node-lt-COUNTS.false))
        | else-node-ne0-via-else-node-ne0 v ↦ counting_past _ _ kept there node (λ n u h e. omega (arith, v.if-node-ne0.false))
      ])
    ]

pub returns : goal.returns
returns c = counting_ends _ _ c.loop-row.invariant c.loop-row-test.false
