-- How a run of records is told to those who link the archive. Assumes nothing.
use Rattle.std.specs.Prelude.{◌≡◌, List, [], ◌∷◌, ℕ}
use Rattle.model.specs.Serve.{run}

-- how many records were served, every word and every slot, and how many bytes were taken
pub record RunsAs (w s before : List ℕ) (r : ℕ) (v filled bytes : List ℕ) : Type 0 where
  pub served : r ≡ (run w s before).served
  pub words : v ≡ (run w s before).words
  pub slots : filled ≡ (run w s before).slots
  pub taken : bytes ≡ (run w s before).taken ∷ []
