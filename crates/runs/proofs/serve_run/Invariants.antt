-- `runs::serve_run` meets its contract: what was done and what is left give what the whole run gives. Assumes nothing.
use Rattle.runs.proofs.Onward.{Going}
use Rattle.runs.proofs.serve_run.Given as goal

abbrev pub invariant-loop-served : goal.invariant-loop-served
invariant-loop-served l = Going l.initial.words l.records l.initial.answers l.words l.index l.answers l.is_sound l.served l.taken
