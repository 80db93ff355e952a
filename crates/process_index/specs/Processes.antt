-- The index of the processes that the test of soundness goes by: chains by number, made anew for each test. Assumes nothing.
use Rattle.std.specs.Prelude.{◌≡◌, Bool, true, not, List, ℕ, ◌%◌}
use Rattle.model.specs.Sound.{processes_distinct}
use Rattle.model.specs.Tables.{Process, no_process, free_process, is_process, process_rows}
use Rattle.model.specs.Words.{unpack}
use Rattle.rows.specs.Stands.{Stands, process_row}
use Rattle.index.specs.declared.Links.{Links}
use Rattle.index.specs.Buckets.{Chains, Chained}

-- how many chains there are
abbrev pub process_buckets : ℕ
process_buckets = 127

-- the heads and links of the processes
abbrev pub ProcessIndex : Type 0
ProcessIndex = Links process_buckets process_rows

abbrev pub process_chains : List Process → Chains Process
process_chains processes =
    record {
      every = processes;
      none = no_process;
      chosen = λ x. not (free_process x);
      bucket = λ x. x.number % process_buckets;
      size = process_buckets;
      rows = process_rows;
    }

-- the process of row k has the number
abbrev pub row_of : List ℕ → ℕ → ℕ → Bool
row_of w p k = is_process p (process_row w k)

-- the whole index, with what makes a number's last row its only one
pub record ProcessesIndexed (w : List ℕ) (x : ProcessIndex) : Type 0 where
  pub stands : Stands w
  pub chained : Chained (process_chains (unpack w).processes) x.heads x.next process_rows
  pub distinct : processes_distinct (unpack w) ≡ true
