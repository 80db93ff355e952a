-- What serving a record promises: the answer, the bytes taken and every word afterwards are those of the model's `serve`. Assumes nothing.
use Rattle.std.specs.Prelude.{◌≡◌, List, ℕ}
use Rattle.model.specs.Serve.{Served, serve}
use Rattle.model.specs.declared.Verdict.{Verdict}

unfoldable pub verdict_of : Served → Verdict
verdict_of o = record { answer = o.answer; taken = o.taken }

pub record Serves (w s : List ℕ) (r : Verdict) (v : List ℕ) : Type 0 where
  pub verdict : r ≡ verdict_of (serve w s)
  pub words : v ≡ (serve w s).words
