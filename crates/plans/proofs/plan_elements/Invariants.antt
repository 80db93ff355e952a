-- `plans::plan_elements` meets its contract: the plan after i elements is what is lacking of them. Assumes nothing.
use Rattle.model.specs.Words.{unpack}
use Rattle.plans.specs.Plans.{PlanFor, element_holds}
use Rattle.plans.proofs.plan_elements.Given as goal

abbrev pub invariant-loop-place : goal.invariant-loop-place
invariant-loop-place l = PlanFor (unpack l.words).holds (element_holds l.process l.place-index l.place-items) l.plan
