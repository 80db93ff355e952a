-- Calls 12 and 13, unlink and rmdir: tables in order stay in order. Assumes nothing.
use mathlib.Core.Path.{◌≡◌, refl, sym, ap, ◌∙◌}
use mathlib.Core.Bool.{Bool, true, false}
use mathlib.Core.Logic.{◌≢◌}
use mathlib.Core.List.{List}
use mathlib.Core.Option.{Option, some}
use Prim.Native.Nat.{ℕ}
use native.Mathlib.Omega.{arith}
use borrow.Author.Tests.{eqb-true, eqb-false, eq-eqb}
use lib.Dec.{eqb}
use lib.ListN.{length}
use Rattle.model.specs.Lists.{clear}
use Rattle.model.specs.Paths.{valid_path}
use Rattle.model.specs.Tables.{Place, Entry, Node, Hold, Tables, no_entry, free_entry, free_node, free_hold, node_at, is_directory, at, lookup}
use Rattle.model.specs.Sound.{leading_to}
use Rattle.model.specs.Records.{Call}
use Rattle.model.specs.Walk.{Goal}
use Rattle.model.specs.Holds.{inside, overruled, emptied, taking, wanted}
use Rattle.model.specs.Calls.{Change, absent, set_node, drop_entry, one_less, without_entry, has_entries}
use Rattle.laws.proofs.Bools.{clash, neither_left, neither_right}
use Rattle.laws.proofs.Each.{each_clear}
use Rattle.laws.proofs.Members.{◌∈◌, each_in, in_none}
use Rattle.laws.proofs.Rules.{count_some, length_clear}
use Rattle.invariants.proofs.Cases.{Unlinked, Rmdired}
use Rattle.invariants.proofs.Rows.{node_in, directory_used}
use Rattle.laws.proofs.Words.{NodeFits, no_entry_fits, no_node_fits}
use Rattle.invariants.proofs.Walks.{Arrived}
use Rattle.invariants.proofs.Holdings.{Met, element, end}
use Rattle.invariants.proofs.Lookups.{at_place, entry_at, lookup_used}
use Rattle.invariants.proofs.EntryRemoved.{Removable, Less, cleared, kept, less_cases, directory_left, tree_less}
use Rattle.invariants.proofs.Order.{InOrder, same_processes, Proper, Caller, caller_of}
use Rattle.invariants.proofs.Goals.{Valid, goal_arrives, StopsAt, stops_at, stops_at_file, stops_below_root, met_stands, holding_after, taken_kept, node_set_kept}
use Rattle.invariants.proofs.InTheWay.{EndsOurs, entry_ours, directory_way}

-- WHAT REMOVALS SHARE

one_less_fits : (x : Node) → free_node x ≡ false → NodeFits x → NodeFits (one_less x)
unfolding free_node
one_less_fits x used fits = go (less_cases x)
  where
    go : Less x → NodeFits (one_less x)
    go (cleared one e) = rw e no_node_fits
    go (kept many e) =
        let small = fits.count in
        rw e (record { free = λ i. absurd (eqb-false x.kind 0 used i); kind = fits.kind; count = omega arith; target = fits.target })

-- The entry at the end of the walk is removed. None of the holds that are not `dropped`, and no place that the walk met, is in the node that
-- the entry leads to.
module _ (t : Tables) (order : InOrder t) (p : ℕ) (caller : Caller t.processes p) (g : Goal)
    (arrived : Arrived Valid t.entries t.nodes g)
    (q : Place) (at_q : g.end ≡ some q) (gone : Removable t.entries t.nodes q g.node) (dropped : Hold → Bool)
    (elsewhere : (h : Hold) → h ∈ t.holds → free_hold h ≡ false → dropped h ≡ false → h.place.directory ≢ g.node)
    (walked_elsewhere : (s : Place) → Met g s → s.directory ≢ g.node) (clean : EndsOurs t p g dropped) where
  nodes : List Node
  nodes = set_node g.node (one_less (node_at t.nodes g.node)) t.nodes

  still : (d : ℕ) → d ≢ g.node → is_directory t.nodes d ≡ true → is_directory nodes d ≡ true
  unfolding nodes
  still = directory_left t.entries t.nodes order.sound.tree q g.node gone

  entries_after : drop_entry g.end t.entries ≡ clear (at q) no_entry t.entries
  unfolding drop_entry
  entries_after = ap (λ (e : Option Place). drop_entry e t.entries) at_q

  node_used : free_node (node_at t.nodes g.node) ≡ false
  node_used =
      rw gone.found at
      (lookup_used t.entries t.nodes order.sound.tree q gone.in_directory (λ z. gone.there (sym gone.found ∙ z)))

  pub without_entry_order : InOrder (without_entry t g (taking t (wanted p g) dropped))
  unfolding without_entry nodes
  without_entry_order =
      same_processes t (drop_entry g.end t.entries) nodes (taking t (wanted p g) dropped) order
      (rw entries_after (tree_less t.entries t.nodes order.sound.tree q g.node gone))
      (holding_after t order p caller g arrived nodes dropped (λ h m used kept. still h.place.directory (elsewhere h m used kept))
      (λ s met. still s.directory (walked_elsewhere s met)) clean)
      (record {
        as_many = ap length entries_after ∙ length_clear (at q) no_entry t.entries;
        fit = rw entries_after (each_clear (at q) order.fits.entries_fit no_entry_fits);
      })
      (node_set_kept t order g.node (one_less (node_at t.nodes g.node))
      (one_less_fits (node_at t.nodes g.node) node_used (each_in order.fits.nodes_fit (node_in t.nodes g.node node_used))))
      (taken_kept t order p caller g arrived dropped)

-- 12, UNLINK

-- a node that is no directory has nothing inside
module _ (t : Tables) (order : InOrder t) (n : ℕ) (no_directory : is_directory t.nodes n ≡ false) where
  directory_other : (d : ℕ) → is_directory t.nodes d ≡ true → d ≢ n
  directory_other d h e = clash h (rw e no_directory)

  nothing_inside : n ≢ 0 → (e : Entry) → e ∈ t.entries → e.place.directory ≢ n
  unfolding free_entry
  nothing_inside nz e m = go (free_entry e) refl
    where
      go : (b : Bool) → free_entry e ≡ b → e.place.directory ≢ n
      go true f i = nz (sym i ∙ eqb-true e.place.directory 0 f)
      go false f i = directory_other e.place.directory (order.sound.tree.in_directory e m f) i

pub unlink_keeps : (t : Tables) → InOrder t → (r : Call) → Proper r → valid_path r.path1 ≡ true → (c : Change) → Unlinked t r c →
    InOrder c.tables
unfolding absent
unlink_keeps t order r proper valid c is =
    let g = is.goal in
    let p = r.process in
    let arrived = goal_arrives t order false r.path1 g proper.path1 valid is.walked in
    let end = stops_at_file t g arrived is.no_directory in
    let q = end.0 in
    let stop = end.1 in
    let there = eqb-false g.node 0 is.there in
    rw is.gives.tables
    (without_entry_order t order p (caller_of t r proper is.caller) g arrived q stop.at_end
    (record {
      in_directory = stop.numbered;
      found = stop.found;
      there = there;
      not_top = λ e. clash order.sound.tree.top (rw e at is.no_directory);
      nothing_inside = nothing_inside t order g.node is.no_directory there;
    })
    (overruled t p g)
    (λ h m used kept. directory_other t order g.node is.no_directory h.place.directory
    (order.sound.holding.right h m used).in_directory)
    (λ s met. directory_other t order g.node is.no_directory s.directory (met_stands t g arrived s met).directory)
    (entry_ours t p g is.way))

-- 13, RMDIR

-- no entry leads to node 1
not_the_top : (t : Tables) → InOrder t → (q : Place) → lookup t.entries q ≢ 0 → lookup t.entries q ≢ 1
unfolding leading_to
not_the_top t order q there e =
    let found = entry_at t.entries q there in
    let some = count_some (λ (x : Entry). eqb x.node 1) t.entries found.1.listed (eq-eqb _ _ (found.1.node ∙ e)) in
    let tree = order.sound.tree in
    let counted = tree.counted 1 (directory_used t.nodes 1 tree.top) in
    let none = tree.top_count in
    omega arith

-- a directory with no entry: where an entry is, the place is elsewhere
module _ (t : Tables) (n : ℕ) (empty : has_entries t.entries n ≡ false) where
  none_inside : (e : Entry) → e ∈ t.entries → e.place.directory ≢ n
  unfolding has_entries
  none_inside e m = eqb-false e.place.directory n (in_none (λ (x : Entry). eqb x.place.directory n) empty m)

  present_elsewhere : (s : Place) → lookup t.entries s ≢ 0 → s.directory ≢ n
  present_elsewhere s there e =
      let found = entry_at t.entries s there in
      none_inside found.0 found.1.listed (ap (λ (x : Place). x.directory) (at_place s found.0 found.1.there) ∙ e)

pub rmdir_keeps : (t : Tables) → InOrder t → (r : Call) → Proper r → valid_path r.path1 ≡ true → (c : Change) → Rmdired t r c →
    InOrder c.tables
unfolding absent inside emptied
rmdir_keeps t order r proper valid c is =
    rw is.gives.tables
    (without_entry_order t order p (caller_of t r proper is.caller) g arrived q stop.at_end
    (record {
      in_directory = stop.numbered;
      found = stop.found;
      there = there;
      not_top = λ e. not_the_top t order q found (stop.found ∙ e);
      nothing_inside = none_inside t g.node is.empty;
    })
    (emptied t p g)
    (λ h m used kept. eqb-false h.place.directory g.node (neither_right (overruled t p g h) _ kept)) met_elsewhere
    (λ k m kept. entry_ours t p g (directory_way t p g is.way) k m (neither_left _ _ kept)))
  where
    g : Goal
    g = is.goal

    p : ℕ
    p = r.process

    arrived : Arrived Valid t.entries t.nodes g
    arrived = goal_arrives t order false r.path1 g proper.path1 valid is.walked

    q : Place
    q = (stops_below_root t g arrived is.not_root).0

    stop : StopsAt t g q
    stop = (stops_below_root t g arrived is.not_root).1

    there : g.node ≢ 0
    there = eqb-false g.node 0 is.there

    found : lookup t.entries q ≢ 0
    found z = there (sym stop.found ∙ z)

    met_elsewhere : (s : Place) → Met g s → s.directory ≢ g.node
    met_elsewhere s (element m) = present_elsewhere t g.node is.empty s (each_in arrived.present m)
    met_elsewhere s (end e) =
        present_elsewhere t g.node is.empty s (λ z. there (sym (stops_at t g arrived s e).found ∙ z))
