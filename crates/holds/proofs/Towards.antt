-- A loop that changes the words row by row: what is left to do there gives what the whole does. Assumes nothing.
use mathlib.Core.Path.{◌≡◌, sym, ap, ◌∙◌}
use mathlib.Core.List.{List}
use Prim.Native.Nat.{ℕ, ◌+◌}
use Rattle.model.specs.Tables.{Tables}
use Rattle.model.specs.Words.{unpack}
use Rattle.rows.specs.Stands.{Stands, Becomes}

-- `left i` is what is to be done from row i on; t is where it leads
pub record Towards (left : ℕ → Tables → Tables) (t : Tables) (i : ℕ) (v : List ℕ) : Type 0 where
  pub stands : Stands v
  pub rest : left i (unpack v) ≡ t

module _ (left : ℕ → Tables → Tables) {t : Tables} where
  pub begin : {w : List ℕ} → Stands w → left 0 (unpack w) ≡ t → Towards left t 0 w
  begin s e = record { stands = s; rest = e }

  -- one row is done
  pub go_on : (i : ℕ) {v u : List ℕ} {s : Tables} → Towards left t i v → Becomes u s → left (i + 1) s ≡ left i (unpack v) → Towards left t (i + 1) u
  go_on i a b e = record { stands = b.stands; rest = ap (left (i + 1)) b.tables ∙ e ∙ a.rest }

  -- nothing is left
  pub arrive : (i : ℕ) {v : List ℕ} → Towards left t i v → left i (unpack v) ≡ unpack v → Becomes v t
  arrive i a e = record { stands = a.stands; tables = sym e ∙ a.rest }
