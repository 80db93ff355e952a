-- Whether an answer is that of an accepted call. Assumes nothing.
use Rattle.std.specs.Prelude.{Bool, true, false}
use Rattle.model.specs.declared.Answer.{Answer}
use Rattle.model.specs.declared.Answer.TheVariants.{Held, Seen, Done, Refused}

unfoldable pub accepts : Answer → Bool
accepts (Held n) = true
accepts (Seen n) = true
accepts (Done n) = true
accepts (Refused n) = false
