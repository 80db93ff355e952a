-- `index::Links::last_in_chain` meets its contract: rows of the chain are passed while the test does not hold. Assumes nothing.
use lib.ListN.{get_or}
use Rattle.index.proofs.Descents.{Going}
use Rattle.index.proofs.Links.last_in_chain.Given as goal

abbrev pub invariant-loop-row : goal.invariant-loop-row
invariant-loop-row g l = Going (goal.F-post g l.holds) l.self.next (get_or l.self.heads l.bucket 0) l.found

abbrev pub decreases-loop-row : goal.decreases-loop-row
decreases-loop-row g l = l.found
