-- Where a walk over tables in order stops: every place that it meets is in a directory and has a valid name, so that a hold on it is right
-- and fits. Assumes nothing.
use mathlib.Core.Path.{◌≡◌, refl, ◌∙◌}
use mathlib.Core.Bool.{Bool, true, false, not, ◌&&◌, ◌||◌, true≢false, false≢true}
use mathlib.Core.Logic.{◌≢◌}
use mathlib.Core.List.{List, [], ◌∷◌}
use mathlib.Core.Option.{Option, none, some}
use Prim.Native.Nat.{ℕ, zero, suc, ◌<◌}
use native.Mathlib.Omega.{arith}
use borrow.Author.Tests.{eqb-true, leb-true}
use lib.Dec.{eqb, leb}
use lib.ListN.{length}
use Rattle.model.specs.Lists.{same, empty, all}
use Rattle.model.specs.Refusals.{granted}
use Rattle.model.specs.Paths.{Name, slash, dot, before, parts, names_behind, names, absolute, name_byte, valid_name, valid_path, valid_target, longest_name, longest_path, longest_target, valid_names}
use Rattle.model.specs.Tables.{Place, Entry, Node, Hold, Tables, no_hold, a_file, a_directory, a_link, end_role, element_role, free_node, free_hold, node_at, is_directory, lookup}
use Rattle.model.specs.Sound.{target_fits}
use Rattle.model.specs.Walk.{Goal, Found, nothing, file, directory, link, found_node, found, walk}
use Rattle.model.specs.Holds.{add_holds, drop_holds, taking, wanted}
use Rattle.model.specs.Calls.{set_node, at_root}
use Rattle.laws.proofs.Bools.{clash, and_left, and_right}
use Rattle.laws.proofs.Each.{Each, none, one, each_at, each_set, each_put_all, each_clear, passes_each}
use Rattle.laws.proofs.Members.{◌∈◌, each_in, in_each}
use Rattle.laws.proofs.Pieces.{Byte}
use Rattle.invariants.proofs.Cases.{new_holds}
use Rattle.laws.proofs.Rules.{length_put_all, length_clear}
use Rattle.invariants.proofs.Rows.{used_in_range, node_in, directory_used, length_set_node}
use Rattle.invariants.proofs.Soundness.{Holding, RightHold}
use Rattle.laws.proofs.Words.{NameFits, NodeFits, HoldFits, no_node_fits, no_hold_fits}
use Rattle.invariants.proofs.Order.{InOrder, RowsKept, Caller}
use Rattle.invariants.proofs.Walks.{Stands, Stopped, Arrived, walk_arrives, directory_not_zero}
use Rattle.invariants.proofs.Holdings.{Met, element, end, WantedHold, new_wanted, from_drop, holding_fewer, holding_still, holding_taken}
use Rattle.invariants.proofs.InTheWay.{EndsOurs}

-- NAMES

-- a valid name of bytes
pub record Valid (n : Name) : Type 0 where
  pub valid : valid_name n ≡ true
  pub bytes : Each Byte n

pub valid_fits : (n : Name) → Valid n → NameFits n
unfolding valid_name
valid_fits n v =
    record {
      short =
          leb-true (length n) longest_name
          (and_right (leb 1 (length n)) (leb (length n) longest_name)
          (and_left (leb 1 (length n) && leb (length n) 14) (all name_byte n)
          (and_left (leb 1 (length n) && leb (length n) longest_name && all name_byte n) (not (same n (dot ∷ [])))
          (and_left
          (leb 1 (length n) && leb (length n) longest_name && all name_byte n && not (same n (dot ∷ [])))
          (not (same n (dot ∷ dot ∷ []))) v.valid))));
      bytes = v.bytes;
    }

-- the parts of a list of bytes are lists of bytes
parts_bytes : (s : List ℕ) → Each Byte s → Each (Each Byte) (parts s)
unfolding parts before
parts_bytes [] bytes = one none none
parts_bytes (b ∷ s) (one p ps) = go (eqb b slash) (parts s) (parts_bytes s ps)
  where
    go : (c : Bool) (ns : List Name) → Each (Each Byte) ns → Each (Each Byte) (before c b ns)
    go true ns v = one none v
    go false [] v = one (one p none) none
    go false (n ∷ ns) (one v vs) = one (one p v) vs

names_bytes : (s : List ℕ) → Each Byte s → Each (Each Byte) (names s)
unfolding names names_behind
names_bytes [] bytes = none
names_bytes (b ∷ s) (one p ps) = go (eqb b slash) s ps (parts_bytes (b ∷ s) (one p ps))
  where
    go : (c : Bool) (s : List ℕ) → Each Byte s → Each (Each Byte) (parts (b ∷ s)) →
        Each (Each Byte) (elim c as (λ _. List Name) [ true ↦ names_behind s | false ↦ parts (b ∷ s) ])
    go true [] qs v = none
    go true (a ∷ s) qs v = parts_bytes (a ∷ s) qs
    go false s qs v = v

each_valid : (s : List ℕ) → Each Byte s → valid_names s ≡ true → Each Valid (names s)
each_valid s bytes v = both_of (names s) (passes_each valid_name (names s) v) (names_bytes s bytes)
  where
    both_of : (ns : List Name) → Each (λ n. valid_name n ≡ true) ns → Each (Each Byte) ns → Each Valid ns
    both_of [] none none = none
    both_of (n ∷ ns) (one p ps) (one q qs) = one (record { valid = p; bytes = q }) (both_of ns ps qs)

pub path_names : (s : List ℕ) → Each Byte s → valid_path s ≡ true → Each Valid (names s)
unfolding valid_path
path_names s bytes v = each_valid s bytes (and_right (leb 1 (length s) && leb (length s) longest_path && absolute s) (valid_names s) v)

target_names : (s : List ℕ) → Each Byte s → valid_target s ≡ true → Each Valid (names s)
unfolding valid_target
target_names s bytes v = each_valid s bytes (and_right (leb 1 (length s) && leb (length s) longest_target) (valid_names s) v)

-- WALKS

-- a link was found: its target is the node's
found_target : (entries : List Entry) (nodes : List Node) (q : Place) (n : ℕ) (s : List ℕ) → found entries nodes q ≡ link n s →
    (node_at nodes (lookup entries q)).target ≡ s
unfolding found found_node
found_target entries nodes q n s = go (eqb at 0) (eqb x.kind a_file) (eqb x.kind a_directory)
  where
    at : ℕ
    at = lookup entries q

    x : Node
    x = node_at nodes at

    go : (none_there its_file its_directory : Bool) →
        elim none_there as (λ _. Found) [
          | true ↦ nothing
          | false ↦
              elim its_file as (λ _. Found) [
                | true ↦ file at
                | false ↦ elim its_directory as (λ _. Found) [ true ↦ directory at | false ↦ link at x.target ]
              ]
        ]
        ≡ link n s →
        x.target ≡ s
    go true a b f = let z : ◌≡◌ {A = ℕ} 0 1 = cc in absurd (omega arith)
    go false true b f = let z : ◌≡◌ {A = ℕ} 0 1 = cc in absurd (omega arith)
    go false false true f = let z : ◌≡◌ {A = ℕ} 0 1 = cc in absurd (omega arith)
    go false false false f = cc

pub node_fits : (nodes : List Node) (n : ℕ) → Each NodeFits nodes → NodeFits (node_at nodes n)
unfolding node_at
node_fits nodes zero fits = no_node_fits
node_fits nodes (suc n) fits = each_at fits no_node_fits n

pub node_set_kept : (t : Tables) → InOrder t → (n : ℕ) (x : Node) → NodeFits x → RowsKept NodeFits t.nodes (set_node n x t.nodes)
unfolding set_node
node_set_kept t order n x f = record { as_many = length_set_node t.nodes n x; fit = go n }
  where
    go : (m : ℕ) → Each NodeFits (set_node m x t.nodes)
    go zero = order.fits.nodes_fit
    go (suc m) = each_set m order.fits.nodes_fit f

module _ (t : Tables) (order : InOrder t) where
  -- the names of a node's target
  node_names : (n : ℕ) → Each Valid (names (node_at t.nodes n).target)
  unfolding free_node target_fits names empty
  node_names n = go (free_node x) refl
    where
      x : Node
      x = node_at t.nodes n

      fits : NodeFits x
      fits = node_fits t.nodes n order.fits.nodes_fit

      nothing_named : (s : List ℕ) → s ≡ [] → Each Valid (names s)
      nothing_named s e = rw e none

      no_target : (s : List ℕ) → empty s ≡ true → s ≡ []
      no_target [] e = refl
      no_target (b ∷ s) e = absurd (false≢true e)

      used : (b : Bool) → elim b as (λ _. Bool) [ true ↦ valid_target x.target | false ↦ empty x.target ] ≡ true →
          Each Valid (names x.target)
      used true e = target_names x.target fits.target.bytes e
      used false e = nothing_named x.target (no_target x.target e)

      go : (b : Bool) → free_node x ≡ b → Each Valid (names x.target)
      go true e = nothing_named x.target (rw (fits.free (eqb-true x.kind 0 e)))
      go false e = used (eqb x.kind a_link) (order.sound.tree.target_right x (node_in t.nodes n e) e)

  pub goal_arrives : (last : Bool) (s : List ℕ) (g : Goal) → Each Byte s → valid_path s ≡ true →
      walk t.entries t.nodes last s ≡ granted g → Arrived Valid t.entries t.nodes g
  goal_arrives last s g bytes v e =
      walk_arrives Valid t.entries t.nodes order.sound.tree.top
      (λ q n target f. rw (found_target t.entries t.nodes q n target f) at (node_names (lookup t.entries q))) last s g
      (path_names s bytes v) e

-- HOLDS ON THE PLACES MET

-- the walk stopped at the entry q: what is found there is the walk's node
pub record StopsAt (t : Tables) (g : Goal) (q : Place) : Type 0 where
  pub at_end : g.end ≡ some q
  pub stands : Stands Valid t.nodes q
  pub found : lookup t.entries q ≡ g.node
  pub numbered : q.directory ≢ 0

module _ (t : Tables) (g : Goal) (arrived : Arrived Valid t.entries t.nodes g) where
  pub stops_at : (q : Place) → g.end ≡ some q → StopsAt t g q
  stops_at q e =
      let stop : Stands Valid t.nodes q × (lookup t.entries q ≡ g.node) = rw e at arrived.end in
      record {
        at_end = e;
        stands = stop.0;
        found = stop.1;
        numbered = directory_not_zero t.nodes q.directory stop.0.directory;
      }

  -- by `/` a walk stops at a directory: one that did not, stopped at an entry
  stops_at_some : (is_directory t.nodes g.node ≡ true → ⊥) → (q : Place) × StopsAt t g q
  stops_at_some no_directory = go g.end refl arrived.end
    where
      go : (e : Option Place) → g.end ≡ e → Stopped Valid t.entries t.nodes e g.node → (q : Place) × StopsAt t g q
      go none i s = absurd (no_directory s)
      go (some q) i s = (q, stops_at q i)

  pub stops_at_absence : g.node ≡ 0 → (q : Place) × StopsAt t g q
  stops_at_absence z = stops_at_some (λ h. directory_not_zero t.nodes g.node h z)

  pub stops_at_file : is_directory t.nodes g.node ≡ false → (q : Place) × StopsAt t g q
  stops_at_file no_directory = stops_at_some (λ h. clash h no_directory)

  pub stops_below_root : at_root g ≡ false → (q : Place) × StopsAt t g q
  unfolding at_root
  stops_below_root = go g.end refl
    where
      go : (e : Option Place) → g.end ≡ e → elim e as (λ _. Bool) [ none ↦ true | some q ↦ false ] ≡ false → (q : Place) × StopsAt t g q
      go none i h = absurd (true≢false h)
      go (some q) i h = (q, stops_at q i)

  pub met_stands : (q : Place) → Met g q → Stands Valid t.nodes q
  met_stands q (element m) = each_in arrived.elements m
  met_stands q (end e) = (stops_at q e).stands

module _ (t : Tables) (order : InOrder t) (p : ℕ) (caller : Caller t.processes p) (g : Goal)
    (arrived : Arrived Valid t.entries t.nodes g)
    (h : Hold) (w : WantedHold p g h) where
  stands : Stands Valid t.nodes h.place
  stands = met_stands t g arrived h.place w.met

  -- also in nodes that have changed, where its directory has not
  pub wanted_right : (nodes : List Node) → is_directory nodes h.place.directory ≡ true → RightHold nodes t.processes h
  wanted_right nodes still =
      record {
        in_directory = still;
        named = stands.name.valid;
        role = w.role;
        holder = rw w.process caller.listed;
        holder_numbered = rw w.process caller.number;
      }

  pub wanted_fits : HoldFits h
  wanted_fits =
      let range = used_in_range t.nodes h.place.directory (directory_used t.nodes h.place.directory stands.directory) in
      let full = order.fits.nodes_full in
      record {
        free = λ e. absurd (range.0 e);
        directory = omega arith;
        name = valid_fits h.place.name stands.name;
        process = rw w.process caller.width;
        role = small (eqb h.role end_role) refl w.role;
      }
    where
      small : (b : Bool) → eqb h.role end_role ≡ b → (b || eqb h.role element_role) ≡ true → h.role < 4
      small true e f = let i = eqb-true h.role end_role e in omega arith
      small false e f = let i = eqb-true h.role element_role f in omega arith

-- The call of process p takes what it lacks, after drops: the holds that stay and the places met are in directories of the nodes after it.
pub holding_after : (t : Tables) → InOrder t → (p : ℕ) → Caller t.processes p → (g : Goal) → Arrived Valid t.entries t.nodes g →
    (nodes : List Node) (gone : Hold → Bool) →
    ((h : Hold) → h ∈ t.holds → free_hold h ≡ false → gone h ≡ false → is_directory t.nodes h.place.directory ≡ true →
    is_directory nodes h.place.directory ≡ true) →
    ((q : Place) → Met g q → is_directory t.nodes q.directory ≡ true → is_directory nodes q.directory ≡ true) → EndsOurs t p g gone →
    Holding nodes t.processes (taking t (wanted p g) gone)
holding_after t order p caller g arrived nodes gone stay met clean =
    holding_taken t p g nodes gone
    (holding_still t.nodes nodes t.processes t.processes (drop_holds gone t.holds)
    (holding_fewer t.nodes t.processes gone t.holds order.sound.holding)
    (λ h m used.
    let was = from_drop gone t.holds h m used in
    let right = order.sound.holding.right h was.0 used in
    record { directory = stay h was.0 used was.1 right.in_directory; holder = right.holder; user = refl }))
    (λ h w. wanted_right t order p caller g arrived h w nodes (met h.place w.met (met_stands t g arrived h.place w.met).directory))
    clean

-- what a call takes fits, and so do the holds with it, in as many rows
pub taken_kept : (t : Tables) → InOrder t → (p : ℕ) → Caller t.processes p → (g : Goal) → Arrived Valid t.entries t.nodes g →
    (gone : Hold → Bool) → RowsKept HoldFits t.holds (taking t (wanted p g) gone)
unfolding taking add_holds drop_holds
taken_kept t order p caller g arrived gone =
    record {
      as_many = length_put_all free_hold (new_holds t p g) (drop_holds gone t.holds) ∙ length_clear gone no_hold t.holds;
      fit =
          each_put_all free_hold
          (in_each (new_holds t p g) (λ h m. wanted_fits t order p caller g arrived h (new_wanted t p g h m)))
          (each_clear gone order.fits.holds_fit no_hold_fits);
    }
