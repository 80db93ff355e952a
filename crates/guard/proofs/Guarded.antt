-- A guarded path: the process holds every place that the walk goes by. A check that is held sets the guard, a frame keeps it, and a check or
-- use of a guarded path changes nothing. Assumes nothing.
use mathlib.Core.Path.{◌≡◌, refl, sym, ◌∙◌}
use mathlib.Core.Bool.{Bool, true, false, not, ◌&&◌, false≢true}
use mathlib.Core.Logic.{◌≢◌}
use mathlib.Core.List.{List, [], ◌∷◌, ◌++◌, map}
use mathlib.Core.Option.{Option, none, some}
use Prim.Native.Nat.{ℕ, ◌≤◌}
use native.Mathlib.Omega.{arith}
use lib.Dec.{leb-suc-zero}
use lib.ListN.{length}
use borrow.Author.Tests.{ltb-false, eq-eqb}
use Rattle.model.specs.Refusals.{granted, ◌when◌, ◌>>◌, ◌>>=◌}
use Rattle.model.specs.Lists.{any, count, put_all}
use Rattle.model.specs.Tables.{Place, Node, Hold, Tables, element_role, no_hold, free_hold, listed, user_of}
use Rattle.model.specs.Sound.{is_end}
use Rattle.model.specs.Records.{Call}
use Rattle.model.specs.Walk.{Goal, walk}
use Rattle.model.specs.Holds.{root, foreign, on, end_held, hold_by, end_wanted, wanted, no_room, add_holds, drop_holds, preempted, taking}
use Rattle.model.specs.Calls.{Change, grant, absent, unlisted, hold_at, seen_or_held, look_at, looking, reaching}
use Rattle.model.specs.declared.Answer.{Answer}
use Rattle.model.specs.declared.Answer.TheVariants.{Held, Seen}
use Rattle.laws.proofs.Bools.{and_false, not_false}
use Rattle.laws.proofs.Counts.{clear_leaves_room}
use Rattle.laws.proofs.Each.{Each, none, one, each_append, each_map, each_head, each_tail}
use Rattle.laws.proofs.Searches.{any_none, none_weaker, clear_none}
use Rattle.invariants.proofs.Cases.{new_holds, Saw, seen, held, Looked}
use Rattle.invariants.proofs.Walks.{directory_not_zero, Stands, Stopped, Arrived}
use Rattle.guard.proofs.Pins.{Has, Frame, walk_same}
use Rattle.guard.proofs.Edits.{has_drop}
use Rattle.guard.proofs.AnotherUser.{Present}
use Rattle.guard.proofs.Steady.{Steady, arrived, AnyName}
use Rattle.guard.proofs.Taking.{Of, lacks_none, takes_all}
use Rattle.guard.proofs.Seen.{preempted_sees}

-- Process p, of user U, holds every place that the walk of the path goes by, and the walk ends at goal g.
pub record Guarded (p U : ℕ) (path : List ℕ) (g : Goal) (t : Tables) : Type 0 where
  pub present : Present p t
  pub user : user_of t.processes p ≡ U
  pub walks : walk t.entries t.nodes true path ≡ granted g
  pub ours : Each (Of p) (wanted p g)
  pub holding : Each (Has t.holds) (wanted p g)

-- A FRAME KEEPS THE GUARD

frame_keeps : (p : ℕ) (t u : Tables) → Frame p t u → (h : Hold) → Of p h → Has t.holds h → Has u.holds h
unfolding hold_by
frame_keeps p t u frame h of has =
    let same : hold_by p h.role h.place ≡ h = λ i. record { place = h.place; process = sym of.whose i; role = h.role } in
    rw same at (frame.holds h.role h.place of.used (rw same has))

holding_kept : (p : ℕ) (t u : Tables) → Frame p t u → {wants : List Hold} → Each (Of p) wants → Each (Has t.holds) wants →
    Each (Has u.holds) wants
holding_kept p t u frame none none = none
holding_kept p t u frame (one {x = h} of ofs) (one has hass) =
    one (frame_keeps p t u frame h of has) (holding_kept p t u frame ofs hass)

pub guarded_kept : (p U : ℕ) (path : List ℕ) (g : Goal) (t u : Tables) → Frame p t u → Guarded p U path g t → Guarded p U path g u
guarded_kept p U path g t u frame guarded =
    record {
      present = record { used = guarded.present.used; listing = frame.listing ∙ guarded.present.listing };
      user = frame.user ∙ guarded.user;
      walks = walk_same p t u frame true path (rw guarded.walks guarded.holding) ∙ guarded.walks;
      ours = guarded.ours;
      holding = holding_kept p t u frame guarded.ours guarded.holding;
    }

-- A GUARDED CHECK OR USE CHANGES NOTHING

-- p has the end hold, so no other user has one
ends_none : (p : ℕ) (t : Tables) → Steady t → (elements : List Place) (end : Option Place) →
    Each (Has t.holds) (map (hold_by p element_role) elements ++ end_wanted p end) →
    any (λ h. is_end h && on end h && foreign t p h) t.holds ≡ false
unfolding on end_wanted
ends_none p t steady [] none e = any_none (λ h. is_end h && false && foreign t p h) (λ h. and_nothing (is_end h) (foreign t p h)) t.holds
  where
    and_nothing : (b c : Bool) → (b && false && c) ≡ false
    and_nothing true c = refl
    and_nothing false c = refl
ends_none p t steady [] (some q) e = steady.ends p q (each_head e)
ends_none p t steady (l ∷ elements) end e = ends_none p t steady elements end (each_tail e)

module _ (p U : ℕ) (path : List ℕ) (g : Goal) (t : Tables) (steady : Steady t) (guarded : Guarded p U path g t) where
  nobody_else : end_held t p g ≡ false
  unfolding end_held wanted
  nobody_else = ends_none p t steady g.elements g.end guarded.holding

  preempts_nobody : drop_holds (preempted t p g) t.holds ≡ t.holds
  unfolding drop_holds preempted end_held
  preempts_nobody =
      clear_none (preempted t p g) no_hold t.holds
      (none_weaker (preempted t p g) (λ h. is_end h && on g.end h && foreign t p h)
      (λ h. without_root (root t p) (is_end h) (on g.end h) (foreign t p h)) t.holds nobody_else)
    where
      without_root : (a b c d : Bool) → (a && b && c && d) ≡ true → (b && c && d) ≡ true
      without_root true b c d e = e
      without_root false b c d e = absurd (false≢true e)

  held_again : hold_at t p g ≡ grant (Held g.node) t
  unfolding hold_at taking no_room add_holds put_all ◌>>◌
  held_again = rw (lacks_none t.holds guarded.holding, leb-suc-zero (count free_hold t.holds), preempts_nobody)

  -- the outcome of a check or use: `must_exist` where an absence is refused
  look_again : (must_exist : Bool) → look_at must_exist t p g ≡ ((10 when must_exist && absent g) >> grant (Held g.node) t)
  unfolding look_at seen_or_held
  look_again must_exist = simp (nobody_else, held_again, seen_or_held)

  listed_here : unlisted t p ≡ false
  unfolding unlisted
  listed_here = rw guarded.present.listing

  pub looking_again : (must_exist : Bool) (r : Call) → r.process ≡ p → r.path1 ≡ path →
      looking true must_exist t r ≡ ((10 when must_exist && absent g) >> grant (Held g.node) t)
  unfolding looking reaching ◌>>◌ ◌>>=◌
  looking_again must_exist r process same = rw (process, same, listed_here, guarded.walks) (look_again must_exist)

-- A HELD CHECK SETS THE GUARD

-- every hold that a walk asks for is p's, in a directory
element_of : (p : ℕ) (nodes : List Node) (q : Place) → Stands AnyName nodes q → Of p (hold_by p element_role q)
unfolding hold_by
element_of p nodes q s = record { whose = refl; used = directory_not_zero nodes q.directory s.directory }

end_of : (p n : ℕ) (t : Tables) (end : Option Place) → Stopped AnyName t.entries t.nodes end n → Each (Of p) (end_wanted p end)
unfolding end_wanted hold_by
end_of p n t none s = none
end_of p n t (some q) s =
    one (record { whose = refl; used = directory_not_zero t.nodes q.directory s.0.directory }) none

wanted_of : (p : ℕ) (t : Tables) (g : Goal) → Arrived AnyName t.entries t.nodes g → Each (Of p) (wanted p g)
unfolding wanted
wanted_of p t g a =
    each_append (each_map (hold_by p element_role) (element_of p t.nodes) a.elements) (end_of p g.node t g.end a.end)

-- p's own holds are not another user's
not_foreign : (p : ℕ) (t : Tables) (h : Hold) → h.process ≡ p → foreign t p h ≡ false
unfolding foreign free_hold
not_foreign p t h e = rw e (go (free_hold h) (eq-eqb (user_of t.processes p) (user_of t.processes p) refl))
  where
    go : (b : Bool) {c : Bool} → c ≡ true → (not b && not c) ≡ false
    go true e = refl
    go false e = rw e

own_kept : (p : ℕ) (t : Tables) (g : Goal) (h : Hold) → Of p h → Has t.holds h → Has (drop_holds (preempted t p g) t.holds) h
unfolding preempted
own_kept p t g h of has =
    has_drop h of.used (preempted t p g) (preempted_sees t p g) t.holds
    (and_false (root t p && is_end h && on g.end h) (foreign t p h) (λ e. not_foreign p t h of.whose)) has

room_left : (p : ℕ) (t : Tables) (g : Goal) (new : List Hold) → no_room t new ≡ false →
    length new ≤ count free_hold (drop_holds (preempted t p g) t.holds)
unfolding no_room drop_holds free_hold
room_left p t g new room =
    let few = ltb-false (count free_hold t.holds) (length new) room in
    let more = clear_leaves_room free_hold (preempted t p g) no_hold refl t.holds in
    omega arith

-- the node that a held check was told is the goal's
held_node : (a : Answer) (m n : ℕ) → a ≡ Held m → a ≡ Held n → m ≡ n
held_node a m n e f = cc

-- what was seen was not held
seen_not_held : (a : Answer) (m n : ℕ) → a ≡ Seen m → a ≡ Held n → ⊥
seen_not_held a m n e f = let z : ◌≡◌ {A = ℕ} 0 1 = cc in omega arith

saw_guards : (p : ℕ) (path : List ℕ) (t : Tables) (g : Goal) (c : Change) (node : ℕ) → Steady t → Present p t →
    walk t.entries t.nodes true path ≡ granted g → Saw t p g c → c.answer ≡ Held node →
    Guarded p (user_of t.processes p) path g c.tables × (g.node ≡ node)
saw_guards p path t g c node steady present walks (seen way gives) answer =
    absurd (seen_not_held c.answer g.node node gives.answer answer)
saw_guards p path t g c node steady present walks (held way room gives) answer =
    let ours = wanted_of p t g (arrived t steady true path g walks) in (
      rw gives.tables
          (record {
            present = record { used = present.used; listing = present.listing };
            user = refl;
            walks = walks;
            ours = ours;
            holding =
                unfold taking in takes_all p t.holds (drop_holds (preempted t p g) t.holds) (own_kept p t g) ours (room_left p t g (new_holds t p g) room);
          }),
      held_node c.answer g.node node gives.answer answer,
    )

pub check_guards : (t : Tables) (r : Call) (c : Change) (node : ℕ) → Steady t → r.process ≢ 0 → Looked true false t r c →
    c.answer ≡ Held node →
    (g : Goal) × Guarded r.process (user_of t.processes r.process) r.path1 g c.tables × (g.node ≡ node)
unfolding unlisted
check_guards t r c node steady used e answer =
    let present : Present r.process t =
    record { used = used; listing = not_false (listed t.processes r.process) e.caller } in
    let guards = saw_guards r.process r.path1 t e.goal c node steady present e.walked e.saw answer in
    (e.goal, guards.0, guards.1)
