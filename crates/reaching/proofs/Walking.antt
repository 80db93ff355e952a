-- What an outcome of a path tells the call behind it: the code can hold it, and its goal stands in the tables. Assumes nothing.
use mathlib.Core.Path.{◌≡◌, refl, sym, subst, ◌∙◌}
use mathlib.Core.Bool.{Bool, true, false}
use mathlib.Core.Logic.{◌≢◌}
use mathlib.Core.List.{List, ◌++◌, map}
use mathlib.Core.Option.{Option, none, some}
use Prim.Native.Nat.{ℕ, zero, suc, ◌-◌, ◌≤◌}
use native.Mathlib.Omega.{arith}
use borrow.Author.Tests.{eqb-false}
use lib.Dec.{eqb}
use lib.ListN.{length, replicate, length-append, length-map, length-replicate}
use lib.Seq.{take_at}
use Rattle.model.specs.Refusals.{Outcome, refused, granted, ◌when◌, ◌>>◌}
use Rattle.model.specs.Sound.{leading_to, sound}
use Rattle.model.specs.Tables as model_tables
use Rattle.model.specs.Tables.{Entry, Tables, free_node, node_at, listed}
use Rattle.model.specs.Walk.{Goal, walk}
use Rattle.model.specs.Words.{unpack}
use Rattle.model.specs.Calls.{unlisted, reaching}
use Rattle.laws.proofs.Each.{Each, none, each_map}
use Rattle.laws.proofs.Grants.{not_granted}
use Rattle.laws.proofs.Rules.{count_within}
use Rattle.invariants.proofs.Goals.{Valid, goal_arrives}
use Rattle.invariants.proofs.Lookups.{lookup_used}
use Rattle.invariants.proofs.Order.{InOrder}
use Rattle.invariants.proofs.Rows.{used_in_range, directory_used}
use Rattle.invariants.proofs.Served.{words_in_order}
use Rattle.invariants.proofs.Walks.{Stands, Stopped, Arrived, directory_not_zero}
use Rattle.laws.proofs.Words.{sound_back, sound_has_sound_rows, sound_length}
use Rattle.rows.specs.Stands as rows
use Rattle.goals.specs.Goals.{place_row, blank, room_of, stop_of, walked}
use Rattle.goals.proofs.Back.{GoalFits, OutcomeFits}
use Rattle.walk.proofs.Goals.{walk_fits}
use Rattle.records.specs.declared.Fields.{Fields}
use Rattle.records.specs.Reading.{Part, part_of}
use Rattle.plans.specs.Plans.{PlaceUsed, StopUsed, WalkUsed}
use Rattle.edits.specs.Counts.{Countable}
use Rattle.index.specs.Indexed.{Index}
use Rattle.reaching.specs.Ready.{Ready, PathIn, Walks}
use Rattle.reaching.proofs.Accepting.{part_bytes, path1_in}

-- THE WORDS

pub stands_sound : (w : List ℕ) → sound w ≡ true → rows.Stands w
stands_sound w e = record { long = sound_length w e; same = sound_back w e }

-- A NODE

-- a directory's number fits an entry and marks no free row
directory_place : (t : Tables) → InOrder t → (q : model_tables.Place) → Stands Valid t.nodes q → PlaceUsed (place_row q)
unfolding place_row
directory_place t order q s =
    let range = used_in_range t.nodes q.directory (directory_used t.nodes q.directory s.directory) in
    let full = order.fits.nodes_full in
    let below = range.1 in
    let above = range.0 in
    record { some = omega arith; fits = omega arith }

-- the count of a used node is that of its entries, of which there are 512
node_countable : (t : Tables) → InOrder t → (n : ℕ) → (n ≢ 0 → free_node (node_at t.nodes n) ≡ false) → Countable t.nodes n
unfolding free_node node_at leading_to
node_countable t order zero used = record { used = λ h. absurd (h refl); low = omega arith }
node_countable t order (suc n) used =
    let there = used (omega arith) in
    let counted = order.sound.tree.counted (suc n) there in
    let full = order.fits.entries_full in
    let within = count_within (λ (e : Entry). eqb e.node (suc n)) t.entries in
    let kind = eqb-false (node_at t.nodes (suc n)).kind 0 there in
    record { used = λ h. omega arith; low = omega arith }

-- A GOAL

module _ (t : Tables) (order : InOrder t) (g : Goal) (arrived : Arrived Valid t.entries t.nodes g) where
  pub goal_countable : Countable t.nodes g.node
  goal_countable = node_countable t order g.node (go g.end arrived.end)
    where
      go : (e : Option model_tables.Place) → Stopped Valid t.entries t.nodes e g.node → g.node ≢ 0
          → free_node (node_at t.nodes g.node) ≡ false
      go none s nz = directory_used t.nodes g.node s
      go (some q) s nz =
          let numbered = directory_not_zero t.nodes q.directory s.0.directory in
          rw (← s.1) (lookup_used t.entries t.nodes order.sound.tree q numbered (λ z. nz (sym s.1 ∙ z)))

  pub goal_used : GoalFits g → WalkUsed (walked (granted g))
  unfolding walked stop_of StopUsed room_of
  goal_used fits =
      record {
        stop = go g.end arrived.end;
        room = roomy fits.few;
        elements =
            subst (Each PlaceUsed) (sym (take_at (map place_row g.elements) _ (length g.elements) (length-map g.elements place_row)))
            (each_map place_row (directory_place t order) arrived.elements);
      }
    where
      go : (e : Option model_tables.Place) → Stopped Valid t.entries t.nodes e g.node → StopUsed (stop_of e g.node)
      go none s = tt
      go (some q) s = directory_place t order q s.0

      roomy : length g.elements ≤ 8 → length (map place_row g.elements ++ replicate (8 - length g.elements) blank) ≡ 8
      roomy few =
          let places = map place_row g.elements in
          let blanks = replicate (8 - length g.elements) blank in
          rw (length-append places blanks, length-map g.elements place_row, length-replicate (8 - length g.elements) blank) (omega arith)

-- AN OUTCOME

-- an outcome that the code can hold, and whose goal stands in the tables
pub record Leading (w : List ℕ) (o : Outcome Goal) : Type 0 where
  pub order : InOrder (unpack w)
  pub fits : OutcomeFits o
  pub arrives : (g : Goal) → o ≡ granted g → Arrived Valid (unpack w).entries (unpack w).nodes g

module _ {w s : List ℕ} {x : Index} {f : Fields} (ready : Ready w x s f) (follow_last : Bool) where
  -- `at`: the part is a path
  pub path_leads : (p : Part) → PathIn s p → Leading w (walk (unpack w).entries (unpack w).nodes follow_last (part_of s p))
  path_leads p at =
      let order = words_in_order w ready.sound in
      let bytes = part_bytes p ready.bytes in
      record {
        order = order;
        fits = walk_fits w (sound_has_sound_rows w ready.sound) follow_last (part_of s p) bytes at.valid;
        arrives = λ g e. goal_arrives (unpack w) order follow_last (part_of s p) g bytes at.valid e;
      }

  pub reach_leads : Walks f → Leading w (reaching (unpack w) f.process follow_last (part_of s f.path1))
  unfolding reaching ◌>>◌ OutcomeFits
  reach_leads walks = go (unlisted (unpack w) f.process)
    where
      go : (b : Bool) → Leading w ((4 when b) >> walk (unpack w).entries (unpack w).nodes follow_last (part_of s f.path1))
      go true = record { order = words_in_order w ready.sound; fits = tt; arrives = λ g e. not_granted e }
      go false = path_leads f.path1 (path1_in ready.bytes ready.read walks)

-- a caller that is listed is asked for nothing more
module _ (t : Tables) (p : ℕ) (follow_last : Bool) (path : List ℕ) where
  pub reach_refused : listed t.processes p ≡ false → reaching t p follow_last path ≡ refused 4
  unfolding reaching unlisted ◌>>◌
  reach_refused h = rw h

  pub reach_walked : listed t.processes p ≡ true → reaching t p follow_last path ≡ walk t.entries t.nodes follow_last path
  unfolding reaching unlisted ◌>>◌
  reach_walked h = rw h
