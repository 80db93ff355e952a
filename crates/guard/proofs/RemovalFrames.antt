-- Calls 12 and 13, unlink and rmdir, leave what process p pins: another user removes no pinned entry, and a node that a pinned entry leads to
-- has another entry left. Assumes nothing.
use mathlib.Core.Path.{◌≡◌, refl, ap, sym, ◌∙◌}
use mathlib.Core.Bool.{Bool, true, false}
use mathlib.Core.Logic.{◌≢◌}
use mathlib.Core.List.{List}
use mathlib.Core.Option.{none}
use Prim.Native.Nat.{ℕ}
use lib.Dec.{eqb}
use borrow.Author.Tests.{eqb-true, eqb-false, eq-eqb, ne_eqb}
use Rattle.model.specs.Paths.{Name}
use Rattle.model.specs.Tables.{Place, Entry, Node, Hold, Tables, node_at, lookup}
use Rattle.model.specs.Records.{Call}
use Rattle.model.specs.Holds.{inside, inside_held, hold_by, overruled, emptied, taking, wanted}
use Rattle.model.specs.Walk.{Goal}
use Rattle.model.specs.Calls.{Change, absent, set_node, drop_entry, one_less, without_entry, at_root, has_entries}
use Rattle.laws.proofs.Bools.{clash, neither}
use Rattle.laws.proofs.Members.{in_any}
use Rattle.invariants.proofs.Cases.{Unlinked, Rmdired}
use Rattle.invariants.proofs.Lookups.{at_place, entry_at}
use Rattle.invariants.proofs.Walks.{directory_not_zero}
use Rattle.guard.proofs.Pins.{Has, Pinned, mine, above, Alike, Frame}
use Rattle.guard.proofs.Edits.{mine_taking, lookup_clear, alike, node_other, node_alike}
use Rattle.guard.proofs.AnotherUser.{OfAnotherUser, overrules_none, way_clear, directory_way_clear, not_mine_inside, not_pinned}
use Rattle.guard.proofs.Steady.{Steady, Landed, landed}
use Rattle.guard.proofs.Seen.{overruled_sees, emptied_sees}

-- a node with another entry left stays
one_less_alike : (x : Node) → x.count ≢ 1 → Alike (one_less x) x
unfolding one_less
one_less_alike x more = simp (ne_eqb x.count 1 more, one_less) (record { kind = refl; target = refl })

something_there : (g : Goal) → absent g ≡ false → g.node ≢ 0
unfolding absent
something_there g e = eqb-false g.node 0 e

-- the entry at a place that is not pinned is gone
removed_frame : (p : ℕ) (t : Tables) (g : Goal) (holds : List Hold) → Steady t → (land : Landed t g) → g.node ≢ 0 →
    (Pinned p t land.place → ⊥) →
    ((role : ℕ) (q : Place) → q.directory ≢ 0 → Has t.holds (hold_by p role q) → Has holds (hold_by p role q)) →
    Frame p t (without_entry t g holds)
unfolding without_entry drop_entry
removed_frame p t g holds steady land there free kept =
    record {
      listing = refl;
      user = refl;
      holds = kept;
      entry = λ q used pin. rw land.end (lookup_clear land.place q t.entries used (other q pin));
      node = λ q used pin. go q used pin (eqb (lookup t.entries q) g.node) refl;
    }
  where
    x : Node
    x = node_at t.nodes g.node

    other : (q : Place) → Pinned p t q → q ≢ land.place
    other q pin e = free (rw e at pin)

    -- two entries lead to the node
    more_than_one : (q : Place) → q.directory ≢ 0 → Pinned p t q → lookup t.entries q ≡ g.node → x.count ≢ 1
    more_than_one q used pin e one =
        other q pin
        (steady.single q land.place used land.used (λ z. there (sym e ∙ z)) (e ∙ sym land.there) (rw e one))

    go : (q : Place) → q.directory ≢ 0 → Pinned p t q → (b : Bool) → eqb (lookup t.entries q) g.node ≡ b →
        Alike (node_at (set_node g.node (one_less x) t.nodes) (lookup t.entries q)) (node_at t.nodes (lookup t.entries q))
    go q used pin true e =
        node_alike g.node (lookup t.entries q) (one_less x) t.nodes
        (one_less_alike x (more_than_one q used pin (eqb-true (lookup t.entries q) g.node e)))
    go q used pin false e =
        rw (node_other g.node (lookup t.entries q) (one_less x) t.nodes (eqb-false (lookup t.entries q) g.node e)) (alike _)

pub unlink_frame : (p : ℕ) (t : Tables) (r : Call) (c : Change) → Steady t → OfAnotherUser p r.process t → Unlinked t r c →
    Frame p t c.tables
unlink_frame p t r c steady another e =
    let q = r.process in
    let g = e.goal in
    let land = landed t steady false r.path1 g e.walked (λ end d. clash d e.no_directory) in
    rw e.gives.tables
    (removed_frame p t g (taking t (wanted q g) (overruled t q g)) steady land (something_there g e.there)
    (not_pinned p q t another g land.place land.used land.end (way_clear p q t another g e.way)
    (λ d name pin. clash (rw land.there at d) e.no_directory))
    (λ role at used. mine_taking p t (wanted q g) (overruled t q g) (overruled_sees t q g) role at used (overrules_none p q t another g _)))

-- RMDIR

-- what a place leads to stands in a row of its directory
entry_inside : (entries : List Entry) (q : Place) → lookup entries q ≢ 0 → has_entries entries q.directory ≡ true
unfolding has_entries
entry_inside entries q there =
    let e = entry_at entries q there in
    in_any (λ (x : Entry). eqb x.place.directory q.directory) e.1.listed
    (eq-eqb e.0.place.directory q.directory (ap (λ (a : Place). a.directory) (at_place q e.0 e.1.there)))

-- nothing is pinned inside an empty directory in which another user finds nobody's hold
inside_not_pinned : (p q d : ℕ) (t : Tables) → OfAnotherUser p q t → d ≢ 0 → has_entries t.entries d ≡ false → inside_held t q d ≡ false →
    (name : Name) → Pinned p t (record { directory = d; name = name }) → ⊥
inside_not_pinned p q d t another used empty way name (mine role h) =
    not_mine_inside p q t another d (record { directory = d; name = name }) role used refl way h
inside_not_pinned p q d t another used empty way name (above below dir pin) =
    let at : Place = record { directory = d; name = name } in
    clash (entry_inside t.entries at (directory_not_zero t.nodes (lookup t.entries at) dir)) empty

-- the holds that another user drops are not p's
empties_none : (p q : ℕ) (t : Tables) (g : Goal) → OfAnotherUser p q t → inside_held t q g.node ≡ false → (role : ℕ) (at : Place) →
    at.directory ≢ 0 → Has t.holds (hold_by p role at) → emptied t q g (hold_by p role at) ≡ false
unfolding emptied inside hold_by
empties_none p q t g another way role at used h =
    neither (overrules_none p q t another g _)
    (ne_eqb at.directory g.node (λ e. not_mine_inside p q t another g.node at role used e way h))

ends_at_root : (g : Goal) → g.end ≡ none → at_root g ≡ true
unfolding at_root
ends_at_root g e = simp (e, at_root)

pub rmdir_frame : (p : ℕ) (t : Tables) (r : Call) (c : Change) → Steady t → OfAnotherUser p r.process t → Rmdired t r c → Frame p t c.tables
rmdir_frame p t r c steady another e =
    let q = r.process in
    let g = e.goal in
    let there = something_there g e.there in
    let way = directory_way_clear p q t another g e.way in
    let land = landed t steady false r.path1 g e.walked (λ end d. clash (ends_at_root g end) e.not_root) in
    rw e.gives.tables
    (removed_frame p t g (taking t (wanted q g) (emptied t q g)) steady land there
    (not_pinned p q t another g land.place land.used land.end way.0
    (λ d. rw land.there (inside_not_pinned p q g.node t another there e.empty way.1)))
    (λ role at used h. mine_taking p t (wanted q g) (emptied t q g) (emptied_sees t q g) role at used (empties_none p q t g another way.1 role at used h) h))
