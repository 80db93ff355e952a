-- What a run of records promises: the records served, the bytes taken, every word and every slot are those of the model's `run`. Assumes nothing.
use Rattle.std.specs.Prelude.{List, ℕ}
use Rattle.model.specs.Serve.{Ran}
use Rattle.runs.specs.declared.Run.{Run}

-- the run that the function's result, and the words and slots at exit, tell
abbrev pub told_run : Run → List ℕ → List ℕ → Ran
told_run r v slots = record { served = r.served; taken = r.taken; words = v; slots = slots }
