-- Tables in order: sound, and within the widths of the words that hold them. Calls in order: those that reading accepts. Assumes nothing.
use mathlib.Core.Path.{◌≡◌, refl, ◌∙◌}
use mathlib.Core.Bool.{true, false}
use mathlib.Core.Logic.{◌≢◌}
use mathlib.Core.List.{List}
use Prim.Native.Nat.{ℕ, ◌^◌, ◌<◌}
use borrow.Author.Tests.{eqb-false}
use lib.ListN.{length}
use Rattle.model.specs.Lists.{distinct}
use Rattle.model.specs.Paths.{valid_path, valid_target}
use Rattle.model.specs.Tables.{Entry, Node, Hold, Process, Tables, free_process, listed, with_entries, with_nodes, with_holds, with_processes}
use Rattle.model.specs.Sound.{same_process, sound_rows}
use Rattle.model.specs.Records.{Call, path, target, row_of, not_valid, fields_broken, paths_broken}
use Rattle.model.specs.Calls.{unlisted}
use Rattle.laws.proofs.Bools.{neither_left, neither_right, not_false}
use Rattle.laws.proofs.Each.{Each}
use Rattle.laws.proofs.Pieces.{Byte}
use Rattle.invariants.proofs.Accepted.{fields_right, made_by_process}
use Rattle.invariants.proofs.Soundness.{Tree, Holding, Sound, facts_sound}
use Rattle.laws.proofs.Words.{EntryFits, NodeFits, HoldFits, ProcessFits, Fits}

-- TABLES

pub record InOrder (t : Tables) : Type 0 where
  pub sound : Sound t
  pub fits : Fits t

-- the rows of one table after a change: as many as before, and within their widths
pub record RowsKept {A : Type 0} (RowFits : A → Type 0) (before after : List A) : Type 0 where
  pub as_many : length after ≡ length before
  pub fit : Each RowFits after

pub rows_same : {A : Type 0} {RowFits : A → Type 0} {rows : List A} → Each RowFits rows → RowsKept RowFits rows rows
rows_same fit = record { as_many = refl; fit = fit }

-- a change keeps tables in order, where it keeps the rules and the rows of each table
pub still_in_order : (t u : Tables) → InOrder t → Sound u → RowsKept EntryFits t.entries u.entries → RowsKept NodeFits t.nodes u.nodes →
    RowsKept HoldFits t.holds u.holds → RowsKept ProcessFits t.processes u.processes → InOrder u
still_in_order t u order sound entries nodes holds processes =
    record {
      sound = sound;
      fits =
          record {
            entries_full = entries.as_many ∙ order.fits.entries_full;
            nodes_full = nodes.as_many ∙ order.fits.nodes_full;
            holds_full = holds.as_many ∙ order.fits.holds_full;
            processes_full = processes.as_many ∙ order.fits.processes_full;
            entries_fit = entries.fit;
            nodes_fit = nodes.fit;
            holds_fit = holds.fit;
            processes_fit = processes.fit;
          };
    }

-- one of holds and processes alone
pub same_tree : (t : Tables) (holds : List Hold) (processes : List Process) → InOrder t → Holding t.nodes processes holds →
    distinct free_process same_process processes ≡ true → RowsKept HoldFits t.holds holds → RowsKept ProcessFits t.processes processes →
    InOrder (with_processes (with_holds t holds) processes)
same_tree t holds processes order holding distinct_processes =
    still_in_order t (with_processes (with_holds t holds) processes) order
    (record { tree = order.sound.tree; holding = holding; distinct_processes = distinct_processes })
    (rows_same order.fits.entries_fit) (rows_same order.fits.nodes_fit)

-- one of entries, nodes and holds
pub same_processes : (t : Tables) (entries : List Entry) (nodes : List Node) (holds : List Hold) → InOrder t → Tree entries nodes →
    Holding nodes t.processes holds → RowsKept EntryFits t.entries entries → RowsKept NodeFits t.nodes nodes →
    RowsKept HoldFits t.holds holds → InOrder (with_holds (with_nodes (with_entries t entries) nodes) holds)
same_processes t entries nodes holds order tree holding entries_kept nodes_kept HoldsKept =
    still_in_order t (with_holds (with_nodes (with_entries t entries) nodes) holds) order
    (record { tree = tree; holding = holding; distinct_processes = order.sound.distinct_processes })
    entries_kept nodes_kept HoldsKept (rows_same order.fits.processes_fit)

-- tables in order pass the test
pub order_sound : (t : Tables) → InOrder t → sound_rows t ≡ true
order_sound t order = facts_sound t order.sound

-- CALLS

-- a call that reading accepts, with fields as wide as its record has them
pub record Proper (r : Call) : Type 0 where
  pub fields : fields_broken r ≡ false
  pub paths : paths_broken r ≡ false
  pub process : r.process < 2 ^ 16
  pub argument : r.argument < 2 ^ 16
  pub path1 : Each Byte r.path1
  pub path2 : Each Byte r.path2

pub process_there : (r : Call) → Proper r → r.process ≢ 0
process_there r proper = (fields_right r proper.fields).process (made_by_process r.call)

pub child_there : (r : Call) → Proper r → r.call ≡ 2 → r.argument ≢ 0
child_there r proper e = eqb-false r.argument 0 (rw e at (fields_right r proper.fields).child)

-- what the table of calls asks of each path
module _ (r : Call) (proper : Proper r) where
  first_right : not_valid (row_of r.call).path1 r.path1 ≡ false
  unfolding paths_broken
  first_right =
      neither_left (not_valid (row_of r.call).path1 r.path1) (not_valid (row_of r.call).path2 r.path2) proper.paths

  second_right : not_valid (row_of r.call).path2 r.path2 ≡ false
  unfolding paths_broken
  second_right =
      neither_right (not_valid (row_of r.call).path1 r.path1) (not_valid (row_of r.call).path2 r.path2) proper.paths

  pub path1_valid : (row_of r.call).path1 ≡ path → valid_path r.path1 ≡ true
  unfolding not_valid
  path1_valid e = not_false _ (rw e at first_right)

  pub path2_valid : (row_of r.call).path2 ≡ path → valid_path r.path2 ≡ true
  unfolding not_valid
  path2_valid e = not_false _ (rw e at second_right)

  pub target_valid : (row_of r.call).path2 ≡ target → valid_target r.path2 ≡ true
  unfolding not_valid
  target_valid e = not_false _ (rw e at second_right)

-- a listed process, by its number
pub record Caller (processes : List Process) (p : ℕ) : Type 0 where
  pub listed : listed processes p ≡ true
  pub number : p ≢ 0
  pub width : p < 2 ^ 16

pub caller_of : (t : Tables) (r : Call) → Proper r → unlisted t r.process ≡ false → Caller t.processes r.process
unfolding unlisted
caller_of t r proper e = record { listed = not_false _ e; number = process_there r proper; width = proper.process }
