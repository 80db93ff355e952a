-- Calls 8 to 11, create, mkdir, symlink and link, leave what process p pins: another user's new entry is not at a pinned place, and the node
-- that it leads to is new, or stays as it was but for its count. Assumes nothing.
use mathlib.Core.Path.{◌≡◌, refl, sym, ◌∙◌}
use mathlib.Core.Bool.{false, not}
use mathlib.Core.Logic.{◌≢◌}
use mathlib.Core.List.{List}
use Prim.Native.Nat.{ℕ}
use borrow.Author.Tests.{eqb-true}
use Rattle.model.specs.Tables.{Place, Node, Tables, node_at, lookup}
use Rattle.model.specs.Records.{Call}
use Rattle.model.specs.Holds.{entry_held, overruled, wanted}
use Rattle.model.specs.Walk.{Goal}
use Rattle.model.specs.Calls.{Change, absent, new_node, set_node, add_entry, one_more, with_entry}
use Rattle.laws.proofs.Bools.{clash, not_false}
use Rattle.invariants.proofs.Cases.{Made, Linked}
use Rattle.invariants.proofs.Walks.{directory_not_zero}
use Rattle.guard.proofs.Pins.{Pinned, Alike, Frame}
use Rattle.guard.proofs.Edits.{mine_taking, lookup_put, alike, node_other, node_alike, new_node_free, new_node_not_zero}
use Rattle.guard.proofs.AnotherUser.{OfAnotherUser, overrules_none, way_clear, not_pinned}
use Rattle.guard.proofs.Steady.{Steady, Landed, landed}
use Rattle.guard.proofs.Seen.{overruled_sees}

module _ (p q : ℕ) (t : Tables) (another : OfAnotherUser p q t) where
  -- a new entry at a place that is not pinned
  created_frame : (g : Goal) (land : Landed t g) (n : ℕ) (x : Node) → (Pinned p t land.place → ⊥) →
      ((at : Place) → at.directory ≢ 0 → Pinned p t at →
      Alike (node_at (set_node n x t.nodes) (lookup t.entries at)) (node_at t.nodes (lookup t.entries at))) →
      Frame p t (with_entry t q g n x)
  unfolding with_entry add_entry
  created_frame g land n x free nodes =
      record {
        listing = refl;
        user = refl;
        holds = λ role at used. mine_taking p t (wanted q g) (overruled t q g) (overruled_sees t q g) role at used (overrules_none p q t another g _);
        entry = λ at used pin. rw land.end (lookup_put land.place at n t.entries used (λ e. free (rw e at pin)));
        node = nodes;
      }

  -- the place of an absence that nobody holds is not pinned
  absence_not_pinned : (g : Goal) (land : Landed t g) → g.node ≡ 0 → entry_held t q g ≡ false → Pinned p t land.place → ⊥
  absence_not_pinned g land absence way =
      not_pinned p q t another g land.place land.used land.end way
      (λ d name pin. directory_not_zero t.nodes (lookup t.entries land.place) d (land.there ∙ absence))

-- no entry leads to a free node
new_node_other : (t : Tables) → Steady t → (at : Place) → at.directory ≢ 0 → lookup t.entries at ≢ new_node t.nodes
new_node_other t steady at used e =
    clash (rw (← e) at (new_node_free t.nodes)) (steady.leads at used (λ z. new_node_not_zero t.nodes (sym e ∙ z)))

nothing_there : (g : Goal) → not (absent g) ≡ false → g.node ≡ 0
unfolding absent
nothing_there g e = eqb-true g.node 0 (not_false (absent g) e)

pub make_frame : (p : ℕ) (t : Tables) (r : Call) (c : Change) {kind : ℕ} {target : List ℕ} → Steady t → OfAnotherUser p r.process t →
    Made kind target t r c → Frame p t c.tables
make_frame p t r c {kind = kind} {target = target} steady another e =
    let q = r.process in
    let g = e.goal in
    let n = new_node t.nodes in
    let x : Node = record { kind = kind; count = 1; target = target } in
    let absence = nothing_there g e.absence in
    let land = landed t steady false r.path1 g e.walked (λ end d. directory_not_zero t.nodes g.node d absence) in
    rw e.gives.tables
    (created_frame p q t another g land n x
    (absence_not_pinned p q t another g land absence (way_clear p q t another g e.way))
    (λ at used pin. rw (node_other n (lookup t.entries at) x t.nodes (new_node_other t steady at used)) (alike _)))

pub link_frame : (p : ℕ) (t : Tables) (r : Call) (c : Change) → Steady t → OfAnotherUser p r.process t → Linked t r c → Frame p t c.tables
unfolding one_more
link_frame p t r c steady another e =
    let q = r.process in
    let g = e.goal in
    let n = e.old.node in
    let x = node_at t.nodes n in
    let absence = nothing_there g e.absence in
    let land = landed t steady false r.path1 g e.walked (λ end d. directory_not_zero t.nodes g.node d absence) in
    rw e.gives.tables
    (created_frame p q t another g land n (one_more x)
    (absence_not_pinned p q t another g land absence (way_clear p q t another g e.way))
    (λ at used pin. node_alike n (lookup t.entries at) (one_more x) t.nodes (record { kind = refl; target = refl })))
