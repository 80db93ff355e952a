-- One change of one table, and what it leaves: a hold of a process, the entry at another place, another node, another process.
-- Assumes nothing.
use mathlib.Core.Path.{◌≡◌, refl, ap, sym, ◌∙◌}
use mathlib.Core.Bool.{Bool, true, false, ◌&&◌}
use mathlib.Core.Logic.{◌≢◌}
use mathlib.Core.List.{List, [], ◌∷◌}
use Prim.Native.Nat.{ℕ, zero, suc, ◌+◌}
use native.Mathlib.Omega.{arith}
use lib.Dec.{eqb}
use lib.ListN.{get_or, set}
use lib.Seq.{get_or-set_other}
use borrow.Author.Tests.{eqb-true, ne_eqb}
use Rattle.model.specs.Lists.{any, first, put, clear}
use Rattle.model.specs.Tables.{Place, Entry, Node, Hold, Process, Tables, no_entry, no_node, no_hold, no_process, free_entry, free_node, free_hold, free_process, node_at, at, lookup, is_process, listed, user_of}
use Rattle.model.specs.Sound.{same_hold}
use Rattle.model.specs.Holds.{hold_by, add_holds, drop_holds, taking}
use Rattle.model.specs.Calls.{add_process, drop_process, set_node, new_node}
use Rattle.laws.proofs.Bools.{and_left, and_right, and_false, is_false, clash}
use Rattle.laws.proofs.Places.{other_place, other_directory, same_place_equal, same_hold_one}
use Rattle.laws.proofs.Searches.{any_none, any_weaker, any_put_other, find_put_other, any_put_all_keeps, any_clear_other, find_clear_other}
use Rattle.guard.proofs.Pins.{Has, Alike}
use Rattle.guard.proofs.Seen.{SeesNoMore}

-- HOLDS

-- what a hold in the rows passes, some row passes
pub has_shows : (h : Hold) (test : Hold → Bool) → SeesNoMore test → (holds : List Hold) → test h ≡ true → Has holds h → any test holds ≡ true
has_shows h test sees holds e = any_weaker (same_hold h) test (λ a f. sym (sees h a (same_hold_one h a f)) ∙ e) holds

module _ (h : Hold) (used : h.place.directory ≢ 0) where
  pub free_other : (a : Hold) → free_hold a ≡ true → same_hold h a ≡ false
  unfolding free_hold
  free_other a e =
      is_false (same_hold h a)
      (λ f. used (ap (λ (q : Place). q.directory) (same_hold_one h a f).place ∙ eqb-true a.place.directory 0 e))

  pub has_add : (new holds : List Hold) → Has holds h → Has (add_holds new holds) h
  unfolding add_holds
  has_add new holds e = any_put_all_keeps (same_hold h) free_hold free_other new holds e

  -- a hold that is not dropped
  pub has_drop : (f : Hold → Bool) → SeesNoMore f → (holds : List Hold) → f h ≡ false → Has holds h → Has (drop_holds f holds) h
  unfolding drop_holds free_hold
  has_drop f sees holds misses e =
      any_clear_other (same_hold h) f no_hold (free_other no_hold refl) holds
      (any_none (λ a. f a && same_hold h a)
      (λ a. is_false (f a && same_hold h a)
      (λ g. clash (sees h a (same_hold_one h a (and_right (f a) _ g)) ∙ and_left (f a) _ g) misses))
      holds)
      ∙ e

-- holds of one process, whatever is added
pub mine_add : (p : ℕ) (new holds : List Hold) (role : ℕ) (q : Place) → q.directory ≢ 0 → Has holds (hold_by p role q) →
    Has (add_holds new holds) (hold_by p role q)
unfolding hold_by
mine_add p new holds role q used = has_add (hold_by p role q) used new holds

-- and whatever another process takes, after drops that miss it
pub mine_taking : (p : ℕ) (t : Tables) (wants : List Hold) (gone : Hold → Bool) → SeesNoMore gone → (role : ℕ) (at : Place) → at.directory ≢ 0 →
    gone (hold_by p role at) ≡ false → Has t.holds (hold_by p role at) → Has (taking t wants gone) (hold_by p role at)
unfolding taking hold_by
mine_taking p t wants gone sees role at used misses h =
    has_add (hold_by p role at) used _ (drop_holds gone t.holds) (has_drop (hold_by p role at) used gone sees t.holds misses h)

-- ENTRIES: those at another place than the changed one; a free row is at no place in a directory

at_other : (q₀ q : Place) → q ≢ q₀ → (e : Entry) → at q₀ e ≡ true → at q e ≡ false
unfolding at
at_other q₀ q differ e f =
    other_place e.place q (λ g. differ (sym g ∙ same_place_equal e.place q₀ f))

free_entry_off : (q : Place) → q.directory ≢ 0 → (e : Entry) → free_entry e ≡ true → at q e ≡ false
unfolding at free_entry
free_entry_off q used e f =
    other_directory e.place q (λ g. used (sym g ∙ eqb-true e.place.directory 0 f))

pub lookup_put : (q₀ q : Place) (n : ℕ) (entries : List Entry) → q.directory ≢ 0 → q ≢ q₀ →
    lookup (put free_entry (record { place = q₀; node = n }) entries) q ≡ lookup entries q
unfolding lookup at
lookup_put q₀ q n entries used differ =
    ap (λ (e : Entry). e.node)
    (find_put_other (at q) free_entry (record { place = q₀; node = n }) (free_entry_off q used) no_entry
    (other_place q₀ q (λ g. differ (sym g))) entries)

pub lookup_clear : (q₀ q : Place) (entries : List Entry) → q.directory ≢ 0 → q ≢ q₀ →
    lookup (clear (at q₀) no_entry entries) q ≡ lookup entries q
unfolding lookup free_entry
lookup_clear q₀ q entries used differ =
    ap (λ (e : Entry). e.node)
    (find_clear_other (at q) (at q₀) no_entry (free_entry_off q used no_entry refl) no_entry entries
    (any_none (λ e. at q₀ e && at q e) (λ e. and_false (at q₀ e) (at q e) (at_other q₀ q differ e)) entries))

-- NODES

pub alike : (x : Node) → Alike x x
alike x = record { kind = refl; target = refl }

pub node_other : (n m : ℕ) (x : Node) (nodes : List Node) → m ≢ n → node_at (set_node n x nodes) m ≡ node_at nodes m
unfolding node_at set_node
node_other zero m x nodes differ = refl
node_other (suc n) zero x nodes differ = refl
node_other (suc n) (suc m) x nodes differ = get_or-set_other nodes n m x no_node (λ e. differ (ap suc e))

-- a node set to one like it leaves all nodes alike
alike_set : (i j : ℕ) (x : Node) (nodes : List Node) → Alike x (get_or nodes i no_node) →
    Alike (get_or (set nodes i x) j no_node) (get_or nodes j no_node)
alike_set i j x [] a = alike (get_or [] j no_node)
alike_set zero zero x (y ∷ nodes) a = a
alike_set zero (suc j) x (y ∷ nodes) a = alike (get_or nodes j no_node)
alike_set (suc i) zero x (y ∷ nodes) a = alike y
alike_set (suc i) (suc j) x (y ∷ nodes) a = alike_set i j x nodes a

pub node_alike : (n m : ℕ) (x : Node) (nodes : List Node) → Alike x (node_at nodes n) →
    Alike (node_at (set_node n x nodes) m) (node_at nodes m)
unfolding node_at set_node
node_alike zero m x nodes a = alike (node_at nodes m)
node_alike (suc n) zero x nodes a = alike no_node
node_alike (suc n) (suc m) x nodes a = alike_set n m x nodes a

-- the new node was free
first_free : (i : ℕ) (nodes : List Node) → (k : ℕ) × (first free_node i nodes ≡ i + k) × (free_node (get_or nodes k no_node) ≡ true)
unfolding first free_node
first_free i [] = (0, omega arith, refl)
first_free i (x ∷ nodes) = go (eqb x.kind 0) refl (first_free (suc i) nodes)
  where
    go : (b : Bool) → free_node x ≡ b →
        (k : ℕ) × (first free_node (suc i) nodes ≡ suc i + k) × (free_node (get_or nodes k no_node) ≡ true) →
        (k : ℕ) × (first free_node i (x ∷ nodes) ≡ i + k) × (free_node (get_or (x ∷ nodes) k no_node) ≡ true)
    go true e ih = (0, simp (e, first) (omega arith), e)
    go false e ih = (suc ih.0, simp (e, first) (omega (arith, ih.1)), ih.2)

pub new_node_free : (nodes : List Node) → free_node (node_at nodes (new_node nodes)) ≡ true
unfolding node_at new_node
new_node_free nodes =
    let f = first_free 1 nodes in
    let e : first free_node 1 nodes ≡ suc f.0 = omega (arith, f.1) in
    rw e f.2

pub new_node_not_zero : (nodes : List Node) → new_node nodes ≢ 0
unfolding new_node
new_node_not_zero nodes e = let f = first_free 1 nodes in omega (arith, f.1)

-- PROCESSES

module _ (p q : ℕ) (used : p ≢ 0) (differ : q ≢ p) where
  free_process_off : (a : Process) → free_process a ≡ true → is_process p a ≡ false
  unfolding free_process is_process
  free_process_off a e = ne_eqb a.number p (λ z. used (sym z ∙ eqb-true a.number 0 e))

  is_other : (a : Process) → is_process q a ≡ true → is_process p a ≡ false
  unfolding is_process
  is_other a e = ne_eqb a.number p (λ z. differ (sym (eqb-true a.number q e) ∙ z))

  new_off : (user : ℕ) → is_process p (record { number = q; user = user }) ≡ false
  unfolding is_process
  new_off user = ne_eqb q p differ

  pub listed_add : (user : ℕ) (processes : List Process) → listed (add_process q user processes) p ≡ listed processes p
  unfolding listed add_process
  listed_add user processes =
      any_put_other (is_process p) free_process (record { number = q; user = user }) free_process_off (new_off user) processes

  pub user_add : (user : ℕ) (processes : List Process) → user_of (add_process q user processes) p ≡ user_of processes p
  unfolding user_of add_process
  user_add user processes =
      ap (λ (a : Process). a.user)
      (find_put_other (is_process p) free_process (record { number = q; user = user }) free_process_off no_process (new_off user) processes)

  none_both : (processes : List Process) → any (λ a. is_process q a && is_process p a) processes ≡ false
  none_both processes = any_none (λ a. is_process q a && is_process p a) (λ a. and_false (is_process q a) (is_process p a) (is_other a)) processes

  pub listed_drop : (processes : List Process) → listed (drop_process q processes) p ≡ listed processes p
  unfolding listed drop_process free_process
  listed_drop processes =
      any_clear_other (is_process p) (is_process q) no_process (free_process_off no_process refl) processes (none_both processes)

  pub user_drop : (processes : List Process) → user_of (drop_process q processes) p ≡ user_of processes p
  unfolding user_of drop_process free_process
  user_drop processes =
      ap (λ (a : Process). a.user)
      (find_clear_other (is_process p) (is_process q) no_process (free_process_off no_process refl) no_process processes (none_both processes))
