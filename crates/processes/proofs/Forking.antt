-- Fork: its 16, that parent and child are two, and its edits one behind the other. Assumes nothing.
use mathlib.Core.Path.{◌≡◌, refl, sym, ap, ◌∙◌}
use mathlib.Core.Bool.{Bool, true, false, not}
use mathlib.Core.Logic.{◌≢◌}
use mathlib.Core.List.{List}
use Prim.Native.Nat.{ℕ}
use lib.Dec.{ltb}
use Rattle.std.specs.Prelude.{Some, None}
use Rattle.model.specs.Lists.{count}
use Rattle.model.specs.Tables.{Tables, Hold, free_hold, listed, user_of, with_holds, with_processes}
use Rattle.model.specs.Words.{unpack}
use Rattle.model.specs.Holds.{of_process, no_room, copies}
use Rattle.model.specs.Calls.{unlisted, add_process}
use Rattle.laws.proofs.Bools.{clash, not_false}
use Rattle.rows.specs.Stands.{Becomes}
use Rattle.search.specs.declared.Caller.{Caller}
use Rattle.search.specs.Callers.{listing_of}
use Rattle.search.proofs.Callers.{told_unlisted, told_listed, told_caller}
use Rattle.plans.proofs.Copying.{copies_count}

module _ (w : List ℕ) where
  -- fork's 16
  pub copies_room : (parent child : ℕ) {n m : ℕ} → n ≡ count free_hold (unpack w).holds → m ≡ count (of_process parent) (unpack w).holds
      → ltb n m ≡ no_room (unpack w) (copies parent child (unpack w).holds)
  unfolding no_room
  copies_room parent child {m = m} e f =
      ap (λ x. ltb x m) e ∙ ap (ltb (count free_hold (unpack w).holds)) (f ∙ sym (copies_count parent child (unpack w).holds))

-- fork's 4, and the parent's user
module _ (t : Tables) (p : ℕ) where
  pub told_4 : None ≡ listing_of t.processes p → true ≡ unlisted t p
  unfolding unlisted
  told_4 e = ap not (sym (told_unlisted t.processes p e refl))

  module _ {c : Caller} (e : Some c ≡ listing_of t.processes p) where
    pub told_not_4 : false ≡ unlisted t p
    unfolding unlisted
    told_not_4 = ap not (sym (told_listed t.processes p e refl))

    pub told_user : c.user ≡ user_of t.processes p
    told_user = ap (λ (x : Caller). x.user) (told_caller t.processes p e refl)

-- a listed process and one that is not are two
pub two_processes : (t : Tables) (p q : ℕ) {a b : Bool} → a ≡ unlisted t p → a ≡ false → b ≡ listed t.processes q → b ≡ false → p ≢ q
unfolding unlisted
two_processes t p q e s f r h =
    clash (not_false (listed t.processes p) (sym e ∙ s)) (ap (listed t.processes) h ∙ sym f ∙ r)

-- the copies, then the child with the parent's user
pub forked : (w : List ℕ) (p child : ℕ) {user : ℕ} {holds : List Hold} {v u : List ℕ} → user ≡ user_of (unpack w).processes p
    → Becomes v (with_holds (unpack w) holds) → Becomes u (with_processes (unpack v) (add_process child user (unpack v).processes))
    → Becomes u (with_processes (with_holds (unpack w) holds) (add_process child (user_of (unpack w).processes p) (unpack w).processes))
forked w p child {user} {holds} e a b =
    record {
      stands = b.stands;
      tables = b.tables ∙ ap (λ t. with_processes t (add_process child user t.processes)) a.tables
          ∙ ap (λ n. with_processes (with_holds (unpack w) holds) (add_process child n (unpack w).processes)) e;
    }
