-- The arms of the dispatch: which of the model's calls each number is, and what its record rests on. Assumes nothing.
use mathlib.Core.Path.{◌≡◌}
use mathlib.Core.Bool.{true}
use mathlib.Core.List.{List}
use Prim.Native.Nat.{ℕ, suc, ◌-◌, ◌≤◌}
use native.Mathlib.Omega.{arith}
use Rattle.model.specs.Refusals.{Outcome, refused}
use Rattle.model.specs.Tables.{Tables}
use Rattle.model.specs.Records.{Call, known}
use Rattle.model.specs.Calls.{Change, enter, fork, exec, exit, check, look, use_of, create, mkdir, symlink, link, unlink, rmdir, step}
use Rattle.index.specs.Indexed.{Index}
use Rattle.records.specs.declared.Fields.{Fields}
use Rattle.reaching.specs.Ready.{Ready, ReadyWhereKnown}
use Rattle.reaching.proofs.Cells.{known_by}

-- THE CALL OF EACH NUMBER

module _ (t : Tables) (r : Call) where
  abbrev Is : ℕ → Outcome Change → Type 0
  Is n o = r.call ≡ n → step t r ≡ o

  pub step_enter : Is 1 (enter t r)
  unfolding step
  step_enter e = rw e

  pub step_fork : Is 2 (fork t r)
  unfolding step
  step_fork e = rw e

  pub step_exec : Is 3 (exec t r)
  unfolding step
  step_exec e = rw e

  pub step_exit : Is 4 (exit t r)
  unfolding step
  step_exit e = rw e

  pub step_check : Is 5 (check t r)
  unfolding step
  step_check e = rw e

  pub step_look : Is 6 (look t r)
  unfolding step
  step_look e = rw e

  pub step_use : Is 7 (use_of t r)
  unfolding step
  step_use e = rw e

  pub step_create : Is 8 (create t r)
  unfolding step
  step_create e = rw e

  pub step_mkdir : Is 9 (mkdir t r)
  unfolding step
  step_mkdir e = rw e

  pub step_symlink : Is 10 (symlink t r)
  unfolding step
  step_symlink e = rw e

  pub step_link : Is 11 (link t r)
  unfolding step
  step_link e = rw e

  pub step_unlink : Is 12 (unlink t r)
  unfolding step
  step_unlink e = rw e

  pub step_rmdir : Is 13 (rmdir t r)
  unfolding step
  step_rmdir e = rw e

-- NO OTHER NUMBER

-- at least fourteen is fourteen and something
less_fourteen : (c : ℕ) → 14 ≤ c → c ≡ suc (suc (suc (suc (suc (suc (suc (suc (suc (suc (suc (suc (suc (suc (c - 14))))))))))))))
less_fourteen c h = omega arith

module _ (t : Tables) (r : Call) where
  pub step_none : r.call ≡ 0 → step t r ≡ refused 2
  unfolding step
  step_none e = rw e

  behind_all : (n : ℕ) → r.call ≡ suc (suc (suc (suc (suc (suc (suc (suc (suc (suc (suc (suc (suc (suc n))))))))))))) → step t r ≡ refused 2
  unfolding step
  behind_all n e = rw e

  pub step_beyond : 14 ≤ r.call → step t r ≡ refused 2
  step_beyond h = behind_all (r.call - 14) (less_fourteen r.call h)

-- WHAT A CALL'S RECORD RESTS ON

pub at_call : {w s : List ℕ} {index : Index} {f : Fields} → ReadyWhereKnown w index s f → (n : ℕ) → known n ≡ true → f.call ≡ n → Ready w index s f
at_call {f = f} ready n k e = ready (known_by f n k e)
