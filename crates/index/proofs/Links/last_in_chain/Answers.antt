-- `index::Links::last_in_chain` meets its contract: rows of the chain are passed while the test does not hold. Assumes nothing.
use borrow.Author.Rules.{rules}
use Rattle.index.proofs.Descents.{going_starts, going_inside, going_asks, going_found, going_down, going_on, going_ends}
use Rattle.index.proofs.Links.last_in_chain.Goals as goal

pub loop-row-init : goal.loop-row-init
loop-row-init g c = going_starts c.from-found.ensures

pub holds-requires : goal.holds-requires
holds-requires g c = going_asks c.loop-row.invariant c.in-Some.ensures c.requires.1

pub bounds-self-row : goal.bounds-self-row
bounds-self-row g c = let inside = going_inside c.loop-row.invariant c.in-Some.ensures c.requires.1 in search rules

pub returns-then-holds : goal.returns-then-holds
returns-then-holds g c = going_found c.loop-row.invariant c.in-Some.ensures c.if-holds.ensures

pub loop-row-smaller : goal.loop-row-smaller
loop-row-smaller g c = going_down c.loop-row.invariant c.in-Some.ensures c.from-found-in-Some.ensures c.requires.1

pub loop-row-preserved : goal.loop-row-preserved
loop-row-preserved g c = going_on c.loop-row.invariant c.in-Some.ensures c.from-found-in-Some.ensures c.if-holds.ensures

pub returns : goal.returns
returns g c = going_ends c.loop-row.invariant c.in_default.ensures
