-- The rows of processes: whether one is free, one listed, and the loop that drops one. Assumes nothing.
use mathlib.Core.Path.{◌≡◌, refl, sym, ap, ◌∙◌}
use mathlib.Core.List.{List}
use Prim.Native.Nat.{ℕ, ◌+◌, ◌≤◌, ◌<◌}
use native.Mathlib.Omega.{arith}
use borrow.Author.Tests.{eq-eqb, ne_eqb}
use lib.ListN.{set}
use Rattle.std.specs.Prelude.{Some, None}
use Rattle.model.specs.Tables.{Tables, no_process, free_process, is_process, with_processes, process_rows}
use Rattle.model.specs.Words.{unpack}
use Rattle.model.specs.Calls.{add_process, drop_process}
use Rattle.laws.specs.Clears.{clear_at}
use Rattle.laws.proofs.Clears.{clears, leaves, clear_step}
use Rattle.laws.proofs.Loops.{clear_from, clear_start, clear_done}
use Rattle.rows.specs.Stands.{Stands, Becomes, process_row}
use Rattle.rows.proofs.Parts.{processes_full}
use Rattle.search.specs.Rows.{first_row}
use Rattle.search.proofs.Rows.{put_found, put_missing}
use Rattle.holds.proofs.Towards.{Towards, begin, go_on, arrive}

module _ (w : List ℕ) where
  module _ (p user : ℕ) where
    pub process_added : {k : ℕ} → Some k ≡ first_row free_process (unpack w).processes
        → {v : List ℕ} → Becomes v (with_processes (unpack w) (set (unpack w).processes k (record { number = p; user = user })))
        → Becomes v (with_processes (unpack w) (add_process p user (unpack w).processes))
    unfolding add_process
    process_added e b =
        record {
          stands = b.stands;
          tables = b.tables ∙ ap (with_processes (unpack w)) (sym (put_found free_process (unpack w).processes (record { number = p; user = user }) e));
        }

    pub process_not_added : None ≡ first_row free_process (unpack w).processes → Stands w
        → Becomes w (with_processes (unpack w) (add_process p user (unpack w).processes))
    unfolding add_process
    process_not_added e s =
        record {
          stands = s;
          tables = ap (with_processes (unpack w)) (sym (put_missing free_process (unpack w).processes (record { number = p; user = user }) e));
        }

  module _ (p row : ℕ) {k : ℕ} (e : k ≡ (process_row w row).number) where
    pub process_row_dropped : k ≡ p → {v : List ℕ} → Becomes v (with_processes (unpack w) (set (unpack w).processes row no_process))
        → Becomes v (with_processes (unpack w) (clear_at (is_process p) no_process row (unpack w).processes))
    unfolding is_process
    process_row_dropped t c =
        record {
          stands = c.stands;
          tables = c.tables ∙ ap (with_processes (unpack w)) (clears (is_process p) no_process row (unpack w).processes refl (eq-eqb (process_row w row).number p (sym e ∙ t)));
        }

    pub process_row_left : Stands w → (k ≡ p → ⊥) → Becomes w (with_processes (unpack w) (clear_at (is_process p) no_process row (unpack w).processes))
    unfolding is_process
    process_row_left s n =
        record {
          stands = s;
          tables = ap (with_processes (unpack w)) (leaves (is_process p) no_process row (unpack w).processes refl (ne_eqb (process_row w row).number p (λ q. n (e ∙ q))));
        }

abbrev pub dropping_process : ℕ → ℕ → Tables → Tables
dropping_process p i t = with_processes t (clear_from (is_process p) no_process i t.processes)

module _ (p : ℕ) where
  pub process_begin : {w : List ℕ} → Stands w → Towards (dropping_process p) (with_processes (unpack w) (drop_process p (unpack w).processes)) 0 w
  unfolding drop_process
  process_begin {w} s = begin (dropping_process p) s (ap (with_processes (unpack w)) (clear_start (is_process p) no_process (unpack w).processes))

  pub process_on : (i : ℕ) {t : Tables} {v u : List ℕ} → i < process_rows → Towards (dropping_process p) t i v
      → Becomes u (with_processes (unpack v) (clear_at (is_process p) no_process i (unpack v).processes)) → Towards (dropping_process p) t (i + 1) u
  process_on i {v = v} h a b =
      go_on (dropping_process p) i a b
      (ap (with_processes (unpack v)) (clear_step (is_process p) no_process i (unpack v).processes (omega (arith, processes_full v))))

  pub process_end : (i : ℕ) {t : Tables} {v : List ℕ} → process_rows ≤ i → Towards (dropping_process p) t i v → Becomes v t
  process_end i {v = v} h a =
      arrive (dropping_process p) i a
      (ap (with_processes (unpack v)) (clear_done (is_process p) no_process i (unpack v).processes (omega (arith, processes_full v))))
