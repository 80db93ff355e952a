-- Entries put in and cleared: a row, the loop over the rows, and the entry at the end of a walk. Assumes nothing.
use mathlib.Core.Path.{◌≡◌, sym, ap, ◌∙◌}
use mathlib.Core.Bool.{Bool, true, false}
use mathlib.Core.List.{List}
use mathlib.Core.Option.{Option, none, some}
use Prim.Native.Nat.{ℕ, ◌+◌, ◌≤◌, ◌<◌}
use native.Mathlib.Omega.{arith}
use lib.ListN.{set}
use Rattle.std.specs.Prelude.{Some, None}
use Rattle.model.specs.Lists.{put, clear}
use Rattle.model.specs.Tables.{Place, Entry, Tables, no_entry, free_entry, at, with_entries, entry_rows}
use Rattle.model.specs.Words.{unpack}
use Rattle.model.specs.Calls.{add_entry, drop_entry}
use Rattle.laws.specs.Clears.{clear_at}
use Rattle.laws.proofs.Clears.{clears, leaves, clear_step}
use Rattle.laws.proofs.Loops.{clear_from, clear_start, clear_done}
use Rattle.rows.specs.declared.EntryRow.{EntryRow}
use Rattle.rows.specs.Rows.{entry_of, GoodEntry}
use Rattle.rows.specs.Stands.{Stands, Becomes, entry_row}
use Rattle.rows.proofs.Parts.{entries_full}
use Rattle.edits.proofs.Written.{good_entry}
use Rattle.search.specs.Rows.{first_row}
use Rattle.search.proofs.Rows.{put_found, put_missing}
use Rattle.goals.specs.declared.Place as goal_place
use Rattle.goals.specs.Goals.{place_at, PlaceNamed}
use Rattle.holds.proofs.Towards.{Towards, begin, go_on, arrive}
use Rattle.plans.specs.Plans.{PlaceUsed}

-- A ROW

module _ (w : List ℕ) (f : Entry → Bool) (row : ℕ) {b : Bool} (e : b ≡ f (entry_row w row)) where
  pub entry_row_dropped : b ≡ true → {v : List ℕ} → Becomes v (with_entries (unpack w) (set (unpack w).entries row no_entry))
      → Becomes v (with_entries (unpack w) (clear_at f no_entry row (unpack w).entries))
  entry_row_dropped t c = record { stands = c.stands; tables = c.tables ∙ ap (with_entries (unpack w)) (clears f no_entry row (unpack w).entries e t) }

  pub entry_row_left : Stands w → b ≡ false → Becomes w (with_entries (unpack w) (clear_at f no_entry row (unpack w).entries))
  entry_row_left s t = record { stands = s; tables = ap (with_entries (unpack w)) (leaves f no_entry row (unpack w).entries e t) }

abbrev pub dropping_entries : (Entry → Bool) → ℕ → Tables → Tables
dropping_entries f i t = with_entries t (clear_from f no_entry i t.entries)

module _ (f : Entry → Bool) where
  pub entries_begin : {w : List ℕ} → Stands w → Towards (dropping_entries f) (with_entries (unpack w) (clear f no_entry (unpack w).entries)) 0 w
  entries_begin {w} s = begin (dropping_entries f) s (ap (with_entries (unpack w)) (clear_start f no_entry (unpack w).entries))

  pub entries_on : (i : ℕ) {t : Tables} {v u : List ℕ} → i < entry_rows → Towards (dropping_entries f) t i v
      → Becomes u (with_entries (unpack v) (clear_at f no_entry i (unpack v).entries)) → Towards (dropping_entries f) t (i + 1) u
  entries_on i {v = v} h a b =
      go_on (dropping_entries f) i a b (ap (with_entries (unpack v)) (clear_step f no_entry i (unpack v).entries (omega (arith, entries_full v))))

  pub entries_end : (i : ℕ) {t : Tables} {v : List ℕ} → entry_rows ≤ i → Towards (dropping_entries f) t i v → Becomes v t
  entries_end i {v = v} h a =
      arrive (dropping_entries f) i a (ap (with_entries (unpack v)) (clear_done f no_entry i (unpack v).entries (omega (arith, entries_full v))))

-- A NEW ENTRY in the lowest free row

abbrev pub new_entry : goal_place.Place → ℕ → EntryRow
new_entry q n = record { directory = q.directory; node = n; name = q.name }

pub new_entry_good : (q : goal_place.Place) (n : ℕ) → n < 65536 → PlaceNamed q → PlaceUsed q → GoodEntry (new_entry q n)
unfolding PlaceNamed
new_entry_good q n h named used = good_entry (new_entry q n) used.some used.fits h named

module _ (w : List ℕ) (q : goal_place.Place) (n : ℕ) where
  pub entry_put : {k : ℕ} → Some k ≡ first_row free_entry (unpack w).entries
      → {v : List ℕ} → Becomes v (with_entries (unpack w) (set (unpack w).entries k (entry_of (new_entry q n))))
      → Becomes v (with_entries (unpack w) (put free_entry (record { place = place_at q; node = n }) (unpack w).entries))
  unfolding entry_of place_at
  entry_put e b =
      record {
        stands = b.stands;
        tables = b.tables ∙ ap (with_entries (unpack w)) (sym (put_found free_entry (unpack w).entries (entry_of (new_entry q n)) e));
      }

  pub entry_not_put : None ≡ first_row free_entry (unpack w).entries → Stands w
      → Becomes w (with_entries (unpack w) (put free_entry (record { place = place_at q; node = n }) (unpack w).entries))
  entry_not_put e s =
      record {
        stands = s;
        tables = ap (with_entries (unpack w)) (sym (put_missing free_entry (unpack w).entries (record { place = place_at q; node = n }) e));
      }

-- AT THE END OF A WALK, or nowhere

module _ (w : List ℕ) {o : Option Place} where
  pub no_entry_dropped : Stands w → o ≡ none → Becomes w (with_entries (unpack w) (drop_entry o (unpack w).entries))
  unfolding drop_entry
  no_entry_dropped s e = record { stands = s; tables = ap (λ x. with_entries (unpack w) (drop_entry x (unpack w).entries)) (sym e) }

  pub entry_dropped : {q : Place} {v : List ℕ} → o ≡ some q → Becomes v (with_entries (unpack w) (clear (at q) no_entry (unpack w).entries))
      → Becomes v (with_entries (unpack w) (drop_entry o (unpack w).entries))
  unfolding drop_entry
  entry_dropped e b = record { stands = b.stands; tables = b.tables ∙ ap (λ x. with_entries (unpack w) (drop_entry x (unpack w).entries)) (sym e) }

  pub no_entry_added : (n : ℕ) → Stands w → o ≡ none → Becomes w (with_entries (unpack w) (add_entry o n (unpack w).entries))
  unfolding add_entry
  no_entry_added n s e = record { stands = s; tables = ap (λ x. with_entries (unpack w) (add_entry x n (unpack w).entries)) (sym e) }

  pub entry_added : (n : ℕ) {q : Place} {v : List ℕ} → o ≡ some q
      → Becomes v (with_entries (unpack w) (put free_entry (record { place = q; node = n }) (unpack w).entries))
      → Becomes v (with_entries (unpack w) (add_entry o n (unpack w).entries))
  unfolding add_entry
  entry_added n e b = record { stands = b.stands; tables = b.tables ∙ ap (λ x. with_entries (unpack w) (add_entry x n (unpack w).entries)) (sym e) }
