-- The process that calls: what its row gives, and what is known once it was asked for. Assumes nothing.
use mathlib.Core.Path.{◌≡◌, refl, sym, ap, ◌∙◌}
use mathlib.Core.Bool.{Bool, true, false, cond}
use mathlib.Core.List.{List}
use Prim.Native.Nat.{ℕ}
use Rattle.std.specs.Prelude.{Option, Some, None}
use Rattle.model.specs.Tables.{Process, is_process, listed}
use Rattle.model.specs.Words.{unpack}
use Rattle.rows.specs.Stands.{process_row}
use Rattle.search.specs.declared.Caller.{Caller}
use Rattle.search.specs.Callers.{caller, listing_of}
use Rattle.search.specs.Rows.{first_row}
use Rattle.search.proofs.Rows.{found_none, found_row}
use Rattle.search.proofs.Tests.{user_by_row}

module _ (w : List ℕ) (p : ℕ) where
  pub unlisted_row : None ≡ first_row (is_process p) (unpack w).processes → None ≡ listing_of (unpack w).processes p
  unfolding listing_of listed
  unlisted_row e = ap (λ b. cond b (Some (caller (unpack w).processes p)) None) (sym (found_none (is_process p) (unpack w).processes e))

  pub caller_row : {k : ℕ} → Some k ≡ first_row (is_process p) (unpack w).processes → {u : ℕ} → u ≡ (process_row w k).user
      → Some (record { process = p; user = u }) ≡ listing_of (unpack w).processes p
  unfolding listing_of listed
  caller_row e g =
      let found = found_row (is_process p) (unpack w).processes e in
      ap (λ u. Some (record { process = p; user = u })) (user_by_row w p found.is g)
      ∙ ap (λ b. cond b (Some (caller (unpack w).processes p)) None) (sym found.some)

-- WHAT THE ANSWER TELLS

module _ (processes : List Process) (p : ℕ) {r : Option Caller} (e : r ≡ listing_of processes p) where
  pub told_unlisted : r ≡ None → listed processes p ≡ false
  unfolding listing_of
  told_unlisted u = go (listed processes p) refl
    where
      go : (b : Bool) → listed processes p ≡ b → b ≡ false
      go false t = refl
      go true t = let f : None ≡ Some (caller processes p) = sym u ∙ e ∙ ap (λ x. cond x (Some (caller processes p)) None) t in cc

  module _ {c : Caller} (s : r ≡ Some c) where
    pub told_listed : listed processes p ≡ true
    unfolding listing_of
    told_listed = go (listed processes p) refl
      where
        go : (b : Bool) → listed processes p ≡ b → b ≡ true
        go true t = refl
        go false t = let f : Some c ≡ None = sym s ∙ e ∙ ap (λ x. cond x (Some (caller processes p)) None) t in cc

    pub told_caller : c ≡ caller processes p
    unfolding listing_of
    told_caller = let f : Some c ≡ Some (caller processes p) = sym s ∙ e ∙ ap (λ x. cond x (Some (caller processes p)) None) told_listed in cc
