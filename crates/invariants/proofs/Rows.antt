-- Rows one by one: the node at a number, before and after one node is set; the tests for free and alike rows. Assumes nothing.
use mathlib.Core.Path.{◌≡◌, refl, sym}
use mathlib.Core.Bool.{Bool, true, false, ◌||◌, true≢false}
use mathlib.Core.Logic.{◌≢◌, ◌⊎◌, inl, inr}
use mathlib.Core.List.{List}
use Prim.Native.Nat.{ℕ, zero, suc, ◌+◌, ◌≤◌}
use native.Mathlib.Omega.{arith}
use borrow.Author.Tests.{eqb-true, eqb-false, eq-eqb, leb-true, leb-false}
use lib.Dec.{eqb, leb}
use lib.ListN.{get_or, length, length-set, get_or-eq_default}
use lib.Seq.{get_or-set_same, get_or-set_other}
use Rattle.model.specs.Tables.{Place, Entry, Node, Hold, Process, a_directory, no_entry, no_node, no_hold, no_process, free_entry, free_node, free_hold, free_process, same_place, node_at, is_directory}
use Rattle.model.specs.Sound.{each_used, each_node, same_entry, same_hold, same_process}
use Rattle.model.specs.Calls.{set_node}
use Rattle.laws.proofs.Bools.{true_or_false}
use Rattle.laws.proofs.Members.{◌∈◌, at_in, from_set, all_in, in_all}
use Rattle.laws.proofs.Places.{same_place_self, same_place_equal, same_place_directory, free_together}
use Rattle.laws.proofs.Rules.{all_from_at, at_all_from}

pub equal_or_not : (m n : ℕ) → (m ≡ n) ⊎ (m ≢ n)
equal_or_not m n = go (true_or_false (eqb m n))
  where
    go : (eqb m n ≡ true) ⊎ (eqb m n ≡ false) → (m ≡ n) ⊎ (m ≢ n)
    go (inl e) = inl (eqb-true m n e)
    go (inr e) = inr (eqb-false m n e)

-- NODES BY NUMBER

pub used_in_range : (nodes : List Node) (n : ℕ) → free_node (node_at nodes n) ≡ false → (n ≢ 0) × (n ≤ length nodes)
unfolding free_node node_at
used_in_range nodes zero e = absurd (true≢false e)
used_in_range nodes (suc n) e = (omega arith, go (true_or_false (leb (suc n) (length nodes))))
  where
    go : (leb (suc n) (length nodes) ≡ true) ⊎ (leb (suc n) (length nodes) ≡ false) → suc n ≤ length nodes
    go (inl h) = leb-true (suc n) (length nodes) h
    go (inr h) =
        let past : length nodes ≤ n = omega (arith, leb-false (suc n) (length nodes) h) in
        absurd (true≢false (rw (get_or-eq_default nodes no_node {n = n} past) at e))

pub node_in : (nodes : List Node) (n : ℕ) → free_node (node_at nodes n) ≡ false → node_at nodes n ∈ nodes
unfolding free_node node_at
node_in nodes zero e = absurd (true≢false e)
node_in nodes (suc n) e = at_in nodes n no_node (used_in_range nodes (suc n) e).1

pub directory_used : (nodes : List Node) (n : ℕ) → is_directory nodes n ≡ true → free_node (node_at nodes n) ≡ false
unfolding is_directory free_node
directory_used nodes n e = rw (eqb-true (node_at nodes n).kind a_directory e)

module _ (nodes : List Node) (n : ℕ) (x : Node) where
  pub node_set : n ≢ 0 → n ≤ length nodes → node_at (set_node n x nodes) n ≡ x
  unfolding node_at set_node
  node_set = go n
    where
      go : (k : ℕ) → k ≢ 0 → k ≤ length nodes → node_at (set_node k x nodes) k ≡ x
      go zero nz h = absurd (nz refl)
      go (suc k) nz h = get_or-set_same nodes k x no_node h

  pub node_set_other : (m : ℕ) → m ≢ n → node_at (set_node n x nodes) m ≡ node_at nodes m
  unfolding node_at set_node
  node_set_other m differ = go n m differ
    where
      go : (k m : ℕ) → m ≢ k → node_at (set_node k x nodes) m ≡ node_at nodes m
      go zero m d = refl
      go (suc k) zero d = refl
      go (suc k) (suc m) d = get_or-set_other nodes k m x no_node (λ e. d (rw e))

  pub from_set_node : {y : Node} → y ∈ set_node n x nodes → (y ≡ x) ⊎ (y ∈ nodes)
  unfolding set_node
  from_set_node {y} = go n
    where
      go : (k : ℕ) → y ∈ set_node k x nodes → (y ≡ x) ⊎ (y ∈ nodes)
      go zero m = inr m
      go (suc k) m = from_set nodes k x m

  pub length_set_node : length (set_node n x nodes) ≡ length nodes
  unfolding set_node
  length_set_node = go n
    where
      go : (k : ℕ) → length (set_node k x nodes) ≡ length nodes
      go zero = refl
      go (suc k) = length-set nodes k x

-- RULES FOR USED ROWS

module _ {A : Type 0} (free f : A → Bool) (rows : List A) where
  pub used_meets : each_used free f rows ≡ true → (x : A) → x ∈ rows → free x ≡ false → f x ≡ true
  unfolding each_used
  used_meets e x m used = simp used at (all_in (λ y. free y || f y) rows e m)

  pub meets_used : ((x : A) → x ∈ rows → free x ≡ false → f x ≡ true) → each_used free f rows ≡ true
  unfolding each_used
  meets_used h = in_all (λ y. free y || f y) rows (λ x m. go x m (free x) refl)
    where
      go : (x : A) → x ∈ rows → (b : Bool) → free x ≡ b → (b || f x) ≡ true
      go x m true e = refl
      go x m false e = h x m e

module _ (f : ℕ → Node → Bool) (nodes : List Node) where
  free_or : ℕ → Node → Bool
  free_or n x = free_node x || f n x

  pub node_meets : each_node f nodes ≡ true → (n : ℕ) → free_node (node_at nodes n) ≡ false → f n (node_at nodes n) ≡ true
  unfolding each_node node_at free_or
  node_meets e n used = go n used (used_in_range nodes n used)
    where
      go : (k : ℕ) → free_node (node_at nodes k) ≡ false → (k ≢ 0) × (k ≤ length nodes) → f k (node_at nodes k) ≡ true
      go zero u r = absurd (r.0 refl)
      go (suc k) u r =
          let z : 1 + k ≡ suc k = omega arith in
          simp u at (rw z at (all_from_at no_node free_or 1 nodes e k r.1))

  pub meets_node : ((n : ℕ) → free_node (node_at nodes n) ≡ false → f n (node_at nodes n) ≡ true) → each_node f nodes ≡ true
  unfolding each_node node_at free_or
  meets_node h =
      at_all_from no_node free_or 1 nodes
      (λ k l. let z : 1 + k ≡ suc k = omega arith in rw z (go k (free_node (get_or nodes k no_node)) refl))
    where
      go : (k : ℕ) (b : Bool) → free_node (get_or nodes k no_node) ≡ b → (b || f (suc k) (get_or nodes k no_node)) ≡ true
      go k true e = refl
      go k false e = h (suc k) e

-- ALIKE ROWS

pub same_place_turned : (a b : Place) → same_place a b ≡ true → same_place b a ≡ true
same_place_turned a b e = rw (same_place_equal a b e) (same_place_self b)

pub same_entry_turned : (a b : Entry) → same_entry a b ≡ true → same_entry b a ≡ true
unfolding same_entry
same_entry_turned a b e = same_place_turned a.place b.place e

pub same_process_turned : (a b : Process) → same_process a b ≡ true → same_process b a ≡ true
unfolding same_process
same_process_turned a b e = eq-eqb b.number a.number (sym (eqb-true a.number b.number e))

-- what is like a free row is free
pub like_no_entry : (e : Entry) → same_entry e no_entry ≡ true → free_entry e ≡ true
unfolding same_entry free_entry
like_no_entry e i = eq-eqb e.place.directory 0 (same_place_directory e.place no_entry.place i)

pub like_no_hold : (h : Hold) → same_hold h no_hold ≡ true → free_hold h ≡ true
unfolding free_hold
like_no_hold h i = free_together h no_hold i

pub like_no_process : (q : Process) → same_process q no_process ≡ true → free_process q ≡ true
unfolding same_process free_process
like_no_process q i = i
