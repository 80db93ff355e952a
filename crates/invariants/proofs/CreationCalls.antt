-- Calls 8 to 11, create, mkdir, symlink and link: tables in order stay in order. Assumes nothing.
use mathlib.Core.Path.{◌≡◌, refl, sym, ap, ◌∙◌}
use mathlib.Core.Bool.{Bool, true, false, ◌||◌, true≢false}
use mathlib.Core.Logic.{◌≢◌}
use mathlib.Core.List.{List}
use mathlib.Core.Option.{Option}
use Prim.Native.Nat.{ℕ, suc, ◌+◌, ◌≤◌, ◌<◌}
use native.Mathlib.Omega.{arith}
use borrow.Author.Tests.{eqb-true, eqb-false, ne_eqb, le-leb}
use lib.Dec.{eqb, leb}
use lib.ListN.{length}
use Rattle.model.specs.Lists.{any, first, put}
use Rattle.model.specs.Paths.{valid_path}
use Rattle.model.specs.Tables.{Place, Entry, Node, Tables, a_directory, no_node, free_entry, free_node, node_at, is_directory, lookup, entry_rows}
use Rattle.model.specs.Sound.{leading_to, count_fits, target_fits}
use Rattle.model.specs.Records.{Call}
use Rattle.model.specs.Walk.{Goal}
use Rattle.model.specs.Holds.{overruled, taking, wanted}
use Rattle.model.specs.Calls.{Change, absent, blocked, no_free_entry, no_free_node, new_node, set_node, add_entry, one_more, with_entry}
use Rattle.laws.proofs.Bools.{clash, is_false, not_false}
use Rattle.laws.proofs.Each.{each_put}
use Rattle.laws.proofs.Members.{◌∈◌, each_in}
use Rattle.laws.proofs.Rules.{count_none, count_within, first_at, length_put}
use Rattle.invariants.proofs.Cases.{Made, Linked}
use Rattle.invariants.proofs.Rows.{used_in_range, node_in, directory_used}
use Rattle.laws.proofs.Words.{EntryFits, NodeFits, TargetFits}
use Rattle.invariants.proofs.Walks.{Stands, Arrived}
use Rattle.invariants.proofs.Lookups.{lookup_used}
use Rattle.invariants.proofs.EntryAdded.{RoomFor, still_directory, tree_more}
use Rattle.invariants.proofs.Order.{InOrder, same_processes, Proper, Caller, caller_of}
use Rattle.invariants.proofs.Goals.{Valid, valid_fits, goal_arrives, StopsAt, stops_at_absence, stops_at_file, holding_after, taken_kept, node_set_kept}
use Rattle.invariants.proofs.InTheWay.{entry_ours}

-- WHAT CREATIONS SHARE

-- free entries lead nowhere
pub blank_entries : (t : Tables) → InOrder t → (e : Entry) → e ∈ t.entries → free_entry e ≡ true → e.node ≡ 0
unfolding free_entry
blank_entries t order e m free =
    ap (λ (x : Entry). x.node) ((each_in order.fits.entries_fit m).free (eqb-true e.place.directory 0 free))

module _ (t : Tables) (order : InOrder t) (p : ℕ) (caller : Caller t.processes p) (g : Goal)
    (arrived : Arrived Valid t.entries t.nodes g)
    (way : blocked t p g ≡ false) (q : Place) (stop : StopsAt t g q) (n : ℕ) (x : Node) (room : RoomFor t.entries t.nodes q n x)
    (fits : NodeFits x) where
  nodes : List Node
  nodes = set_node n x t.nodes

  entry_fits : EntryFits (record { place = q; node = n })
  entry_fits =
      let range = used_in_range t.nodes q.directory (directory_used t.nodes q.directory stop.stands.directory) in
      let full = order.fits.nodes_full in
      let within = room.in_range in
      record {
        free = λ e. absurd (range.0 e);
        directory = omega arith;
        name = valid_fits q.name stop.stands.name;
        node = omega arith;
      }

  still : (d : ℕ) → is_directory t.nodes d ≡ true → is_directory nodes d ≡ true
  unfolding nodes
  still = still_directory t.entries t.nodes order.sound.tree q n x room

  entries_after : add_entry g.end n t.entries ≡ put free_entry (record { place = q; node = n }) t.entries
  unfolding add_entry
  entries_after = ap (λ (e : Option Place). add_entry e n t.entries) stop.at_end

  pub with_entry_order : InOrder (with_entry t p g n x)
  unfolding with_entry nodes
  with_entry_order =
      same_processes t (add_entry g.end n t.entries) nodes (taking t (wanted p g) (overruled t p g)) order
      (rw entries_after (tree_more t.entries t.nodes order.sound.tree q n x room))
      (holding_after t order p caller g arrived nodes (overruled t p g) (λ h m used kept. still h.place.directory) (λ q met. still q.directory)
      (entry_ours t p g way))
      (record {
        as_many = ap length entries_after ∙ length_put free_entry (record { place = q; node = n }) t.entries;
        fit = rw entries_after (each_put free_entry order.fits.entries_fit entry_fits);
      })
      (node_set_kept t order n x fits) (taken_kept t order p caller g arrived (overruled t p g))

-- 8 TO 10, CREATE, MKDIR AND SYMLINK

-- a free node: no directory, and nothing leads to it
module _ (t : Tables) (order : InOrder t) (row : any free_node t.nodes ≡ true) where
  new_number : ℕ
  new_number = new_node t.nodes

  pub new_node_free : free_node (node_at t.nodes (new_node t.nodes)) ≡ true
  unfolding new_node node_at
  new_node_free =
      let found = first_at no_node free_node 1 t.nodes row in
      let number : first free_node 1 t.nodes ≡ suc found.0 = found.1 ∙ omega arith in
      rw number found.3

  new_in_range : (new_number ≢ 0) × (new_number ≤ length t.nodes)
  unfolding new_number new_node
  new_in_range = let found = first_at no_node free_node 1 t.nodes row in (omega (arith, found.1), omega (arith, found.1, found.2))

  new_no_directory : is_directory t.nodes new_number ≡ false
  unfolding new_number
  new_no_directory =
      is_false (is_directory t.nodes (new_node t.nodes))
      (λ h. clash new_node_free (directory_used t.nodes (new_node t.nodes) h))

  none_leads : leading_to t.entries new_number ≡ 0
  unfolding leading_to new_number
  none_leads =
      count_none (λ e. eqb e.node (new_node t.nodes)) t.entries
      (λ e m. is_false _ (λ h. go e m (eqb-true _ _ h) (free_entry e) refl))
    where
      go : (e : Entry) → e ∈ t.entries → e.node ≡ new_node t.nodes → (b : Bool) → free_entry e ≡ b → ⊥
      go e m i true f = new_in_range.0 (sym i ∙ blank_entries t order e m f)
      go e m i false f = true≢false (sym new_node_free ∙ rw i at (order.sound.tree.leads e m f))

  pub room_for_new : (q : Place) → Stands Valid t.nodes q → lookup t.entries q ≡ 0 → any free_entry t.entries ≡ true →
      (kind : ℕ) (target : List ℕ) →
      kind ≢ 0 → target_fits (record { kind = kind; count = 1; target = target }) ≡ true →
      RoomFor t.entries t.nodes q (new_node t.nodes) (record { kind = kind; count = 1; target = target })
  unfolding new_number free_node count_fits
  room_for_new q stands absence entry_row kind target used target_right =
      record {
        blank = blank_entries t order;
        row = entry_row;
        in_directory = stands.directory;
        named = stands.name.valid;
        absence = absence;
        number = new_in_range.0;
        not_top = λ e. clash order.sound.tree.top (rw e at new_no_directory);
        in_range = new_in_range.1;
        no_directory = new_no_directory;
        used = ne_eqb kind 0 used;
        counted = let none = none_leads in omega arith;
        count_right = either_way (eqb (new_node t.nodes) 1) (eqb kind a_directory);
        target_right = target_right;
      }
    where
      either_way : (a b : Bool) → (a || elim b as (λ _. Bool) [ true ↦ eqb 1 1 | false ↦ leb 1 1 ]) ≡ true
      either_way true b = refl
      either_way false true = refl
      either_way false false = refl

pub make_keeps : (t : Tables) → InOrder t → (r : Call) → Proper r → valid_path r.path1 ≡ true → (kind : ℕ) (target : List ℕ) →
    kind ≢ 0 → kind < 4 →
    TargetFits target → target_fits (record { kind = kind; count = 1; target = target }) ≡ true → (c : Change) → Made kind target t r c →
    InOrder c.tables
unfolding absent no_free_entry no_free_node
make_keeps t order r proper valid kind target used width fits target_right c is =
    let arrived = goal_arrives t order false r.path1 is.goal proper.path1 valid is.walked in
    let z : is.goal.node ≡ 0 = eqb-true _ _ (not_false _ is.absence) in
    let end = stops_at_absence t is.goal arrived z in
    let q = end.0 in
    let stop = end.1 in
    rw is.gives.tables
    (with_entry_order t order r.process (caller_of t r proper is.caller) is.goal arrived is.way q stop (new_node t.nodes)
    (record { kind = kind; count = 1; target = target })
    (room_for_new t order (not_false _ is.node_row) q stop.stands (stop.found ∙ z)
    (not_false _ is.entry_row) kind target used target_right)
    (record { free = λ e. absurd (used e); kind = width; count = omega arith; target = fits }))

-- 11, LINK

-- what stands at the end of a walk and is no directory is a used node
pub file_used : (t : Tables) → InOrder t → (g : Goal) → Arrived Valid t.entries t.nodes g → g.node ≢ 0 →
    is_directory t.nodes g.node ≡ false → free_node (node_at t.nodes g.node) ≡ false
file_used t order g arrived there no_directory =
    let end = stops_at_file t g arrived no_directory in
    let stop = end.1 in
    rw stop.found at
    (lookup_used t.entries t.nodes order.sound.tree end.0 stop.numbered (λ z. there (sym stop.found ∙ z)))

-- one entry more may lead to a used node that is no directory
module _ (t : Tables) (order : InOrder t) (n : ℕ) (used : free_node (node_at t.nodes n) ≡ false)
    (no_directory : is_directory t.nodes n ≡ false) where
  few : (node_at t.nodes n).count ≤ entry_rows
  unfolding leading_to
  few =
      let within = count_within (λ (e : Entry). eqb e.node n) t.entries in
      let counted = order.sound.tree.counted n used in
      let full = order.fits.entries_full in
      omega arith

  one_more_fits : NodeFits (one_more (node_at t.nodes n))
  unfolding one_more free_node
  one_more_fits =
      let fits = each_in order.fits.nodes_fit (node_in t.nodes n used) in
      let small = few in
      record {
        free = λ e. absurd (eqb-false (node_at t.nodes n).kind 0 used e);
        kind = fits.kind;
        count = omega arith;
        target = fits.target;
      }

  not_first : n ≢ 1
  not_first e = clash order.sound.tree.top (rw e at no_directory)

  room_for_link : (q : Place) → Stands Valid t.nodes q → lookup t.entries q ≡ 0 → any free_entry t.entries ≡ true →
      RoomFor t.entries t.nodes q n (one_more (node_at t.nodes n))
  unfolding one_more free_node count_fits is_directory target_fits
  room_for_link q stands absence entry_row =
      let range = used_in_range t.nodes n used in
      record {
        blank = blank_entries t order;
        row = entry_row;
        in_directory = stands.directory;
        named = stands.name.valid;
        absence = absence;
        number = range.0;
        not_top = not_first;
        in_range = range.1;
        no_directory = no_directory;
        used = used;
        counted = let counted = order.sound.tree.counted n used in omega arith;
        count_right = simp (ne_eqb n 1 not_first, no_directory) (le-leb 1 ((node_at t.nodes n).count + 1) (omega arith));
        target_right = order.sound.tree.target_right (node_at t.nodes n) (node_in t.nodes n used) used;
      }

pub link_keeps : (t : Tables) → InOrder t → (r : Call) → Proper r → valid_path r.path1 ≡ true → valid_path r.path2 ≡ true →
    (c : Change) →
    Linked t r c → InOrder c.tables
unfolding absent no_free_entry
link_keeps t order r proper valid old_valid c is =
    let arrived = goal_arrives t order false r.path1 is.goal proper.path1 valid is.walked in
    let old_arrived = goal_arrives t order false r.path2 is.old proper.path2 old_valid is.old_walked in
    let z : is.goal.node ≡ 0 = eqb-true _ _ (not_false _ is.absence) in
    let end = stops_at_absence t is.goal arrived z in
    let q = end.0 in
    let stop = end.1 in
    let n = is.old.node in
    let used = file_used t order is.old old_arrived (eqb-false n 0 is.old_there) is.old_no_directory in
    rw is.gives.tables
    (with_entry_order t order r.process (caller_of t r proper is.caller) is.goal arrived is.way q stop n
    (one_more (node_at t.nodes n))
    (room_for_link t order n used is.old_no_directory q stop.stands (stop.found ∙ z) (not_false _ is.entry_row))
    (one_more_fits t order n used is.old_no_directory))
