-- Every call keeps tables in order, and fresh tables are in order. Assumes nothing.
use mathlib.Core.Path.{◌≡◌, refl}
use mathlib.Core.Bool.{true, false}
use mathlib.Core.List.{[]}
use native.Mathlib.Omega.{arith}
use lib.ListN.{length-replicate}
use Rattle.model.specs.Lists.{empty}
use Rattle.model.specs.Refusals.{granted}
use Rattle.model.specs.Tables.{Tables, no_entry, no_node, no_hold, no_process, a_file, a_directory, a_link, fresh, entry_rows, hold_rows, process_rows, other_nodes}
use Rattle.model.specs.Sound.{target_fits, sound_rows}
use Rattle.model.specs.Records.{Call, calls, row_of}
use Rattle.model.specs.Calls.{Change, step}
use Rattle.model.specs.Serve.{computing}
use Rattle.laws.proofs.Each.{none, one, each_replicate}
use Rattle.invariants.proofs.Cases.{Step, by_enter, by_fork, by_exec, by_exit, by_check, by_look, by_use, by_create, by_mkdir, by_symlink, by_link, by_unlink, by_rmdir, step_cases}
use Rattle.invariants.proofs.Accepted.{valid_target_short}
use Rattle.invariants.proofs.Soundness.{sound_facts}
use Rattle.laws.proofs.Words.{TargetFits, NodeFits, Fits, no_entry_fits, no_node_fits, no_hold_fits, no_process_fits}
use Rattle.invariants.proofs.Order.{InOrder, Proper, path1_valid, path2_valid, target_valid}
use Rattle.invariants.proofs.ProcessCalls.{enter_keeps, fork_keeps, exec_keeps, exit_keeps}
use Rattle.invariants.proofs.CheckCalls.{look_keeps}
use Rattle.invariants.proofs.CreationCalls.{make_keeps, link_keeps}
use Rattle.invariants.proofs.RemovalCalls.{unlink_keeps, rmdir_keeps}

no_target_fits : TargetFits []
no_target_fits = record { short = omega arith; bytes = none }

-- BY CALL

module _ (t : Tables) (order : InOrder t) (r : Call) (proper : Proper r) (c : Change) where
  by_case : Step t r c → InOrder c.tables
  unfolding row_of calls target_fits empty
  by_case (by_enter n is) = enter_keeps t order r proper c is
  by_case (by_fork n is) = fork_keeps t order r proper n c is
  by_case (by_exec n is) = exec_keeps t order r proper c is
  by_case (by_exit n is) = exit_keeps t order r proper c is
  by_case (by_check n is) = look_keeps t order r proper (path1_valid r proper (rw n)) true false c is
  by_case (by_look n is) = look_keeps t order r proper (path1_valid r proper (rw n)) false false c is
  by_case (by_use n is) = look_keeps t order r proper (path1_valid r proper (rw n)) true true c is
  by_case (by_create n is) =
      make_keeps t order r proper (path1_valid r proper (rw n)) a_file [] (omega arith) (omega arith) no_target_fits refl c is
  by_case (by_mkdir n is) =
      make_keeps t order r proper (path1_valid r proper (rw n)) a_directory [] (omega arith) (omega arith) no_target_fits refl c is
  by_case (by_symlink n is) =
      let valid = target_valid r proper (rw n) in
      make_keeps t order r proper (path1_valid r proper (rw n)) a_link r.path2 (omega arith) (omega arith)
      (record { short = valid_target_short r.path2 valid; bytes = proper.path2 }) valid c is
  by_case (by_link n is) = link_keeps t order r proper (path1_valid r proper (rw n)) (path2_valid r proper (rw n)) c is
  by_case (by_unlink n is) = unlink_keeps t order r proper (path1_valid r proper (rw n)) c is
  by_case (by_rmdir n is) = rmdir_keeps t order r proper (path1_valid r proper (rw n)) c is

  pub step_keeps : step t r ≡ granted c → InOrder c.tables
  step_keeps e = by_case (step_cases t r c e)

-- FRESH TABLES

fresh_sound : sound_rows fresh ≡ true
unfolding computing
fresh_sound = refl

fresh_fits : Fits fresh
unfolding fresh
fresh_fits =
    record {
      entries_full = length-replicate entry_rows no_entry;
      nodes_full = refl;
      holds_full = length-replicate hold_rows no_hold;
      processes_full = length-replicate process_rows no_process;
      entries_fit = each_replicate entry_rows no_entry no_entry_fits;
      nodes_fit = one top_fits (each_replicate other_nodes no_node no_node_fits);
      holds_fit = each_replicate hold_rows no_hold no_hold_fits;
      processes_fit = each_replicate process_rows no_process no_process_fits;
    }
  where
    top_fits : NodeFits (record { kind = a_directory; count = 0; target = [] })
    top_fits = record { free = λ e. absurd (omega arith); kind = omega arith; count = omega arith; target = no_target_fits }

pub fresh_in_order : InOrder fresh
fresh_in_order = record { sound = sound_facts fresh fresh_sound; fits = fresh_fits }
