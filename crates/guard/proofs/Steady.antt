-- What the guard needs of sound tables, and where a walk over such tables lands. Assumes nothing.
use mathlib.Core.Path.{◌≡◌, refl, ap, sym, ◌∙◌}
use mathlib.Core.Bool.{Bool, true, false, not, ◌&&◌}
use mathlib.Core.Logic.{◌≢◌}
use mathlib.Core.List.{List, [], ◌∷◌}
use mathlib.Core.Option.{Option, none, some}
use Prim.Native.Nat.{ℕ}
use lib.Dec.{eqb}
use borrow.Author.Tests.{eqb-false, eq-eqb}
use Rattle.model.specs.Refusals.{granted}
use Rattle.model.specs.Lists.{any}
use Rattle.model.specs.Paths.{Name, names}
use Rattle.model.specs.Tables.{Place, Entry, Hold, Tables, end_role, free_node, free_hold, same_place, node_at, is_directory, lookup, user_of}
use Rattle.model.specs.Sound.{leading_to, same_hold, is_end}
use Rattle.model.specs.Holds.{foreign, hold_by}
use Rattle.model.specs.Walk.{Goal, walk}
use Rattle.laws.proofs.Bools.{and_left, and_right, not_true, is_false}
use Rattle.laws.proofs.Counts.{count_single}
use Rattle.laws.proofs.Each.{Each, none, one}
use Rattle.laws.proofs.Members.{◌∈◌, any_in, none_in}
use Rattle.laws.proofs.Places.{same_place_equal, same_hold_one}
use Rattle.invariants.proofs.Lookups.{at_place, entry_at, lookup_used}
use Rattle.invariants.proofs.Order.{InOrder}
use Rattle.invariants.proofs.Soundness.{Sound}
use Rattle.invariants.proofs.Walks.{directory_not_zero, Stopped, Arrived, walk_arrives}
use Rattle.guard.proofs.Pins.{Has}

pub record Steady (t : Tables) : Type 0 where
  -- node 1 is a directory
  pub top : is_directory t.nodes 1 ≡ true
  -- an entry leads to a used node
  pub leads : (q : Place) → q.directory ≢ 0 → lookup t.entries q ≢ 0 → free_node (node_at t.nodes (lookup t.entries q)) ≡ false
  -- one entry leads to a node whose count is 1
  pub single : (a b : Place) → a.directory ≢ 0 → b.directory ≢ 0 → lookup t.entries a ≢ 0 →
      lookup t.entries a ≡ lookup t.entries b → (node_at t.nodes (lookup t.entries a)).count ≡ 1 → a ≡ b
  -- where a process has an end hold, no other user has one
  pub ends : (p : ℕ) (q : Place) → Has t.holds (hold_by p end_role q) →
      any (λ h. is_end h && same_place h.place q && foreign t p h) t.holds ≡ false

-- A WALK LANDS

-- of names nothing is asked here
abbrev pub AnyName : Name → Type 0
AnyName n = Unit {0}

any_names : (ns : List Name) → Each AnyName ns
any_names [] = none
any_names (n ∷ ns) = one tt (any_names ns)

pub arrived : (t : Tables) → Steady t → (last : Bool) (path : List ℕ) (g : Goal) → walk t.entries t.nodes last path ≡ granted g →
    Arrived AnyName t.entries t.nodes g
arrived t steady last path g =
    walk_arrives AnyName t.entries t.nodes steady.top (λ q n target e. any_names (names target)) last path g
    (any_names (names path))

-- at a place, which leads to the goal's node
pub record Landed (t : Tables) (g : Goal) : Type 0 where
  pub place : Place
  pub end : g.end ≡ some place
  pub used : place.directory ≢ 0
  pub there : lookup t.entries place ≡ g.node

-- a walk lands at a place, unless it stopped at node 1, which is a directory
pub landed : (t : Tables) → Steady t → (last : Bool) (path : List ℕ) (g : Goal) → walk t.entries t.nodes last path ≡ granted g →
    (g.end ≡ none → is_directory t.nodes g.node ≡ true → ⊥) → Landed t g
landed t steady last path g e not_top = go g.end refl (arrived t steady last path g e).end
  where
    go : (end : Option Place) → g.end ≡ end → Stopped AnyName t.entries t.nodes end g.node → Landed t g
    go none f s = absurd (not_top f s)
    go (some q) f s =
        record { place = q; end = f; used = directory_not_zero t.nodes q.directory s.0.directory; there = s.1 }

-- SOUND TABLES ARE STEADY

module _ (t : Tables) (order : InOrder t) where
  sound : Sound t
  sound = order.sound

  sound_single : (a b : Place) → a.directory ≢ 0 → b.directory ≢ 0 → lookup t.entries a ≢ 0 →
      lookup t.entries a ≡ lookup t.entries b → (node_at t.nodes (lookup t.entries a)).count ≡ 1 → a ≡ b
  unfolding leading_to
  sound_single a b used_a used_b leads same only =
      let n = lookup t.entries a in
      let e = entry_at t.entries a leads in
      let f = entry_at t.entries b (λ z. leads (same ∙ z)) in
      let used = lookup_used t.entries t.nodes sound.tree a used_a leads in
      let alone =
      count_single (λ (x : Entry). eqb x.node n) t.entries (sym (sound.tree.counted n used) ∙ only) e.1.listed f.1.listed
      (eq-eqb e.0.node n e.1.node) (eq-eqb f.0.node n (f.1.node ∙ sym same)) in
      sym (at_place a e.0 e.1.there) ∙ ap (λ (x : Entry). x.place) alone ∙ at_place b f.0 f.1.there

  -- an end hold of another user beside p's
  two_users : (p : ℕ) (q : Place) → Has t.holds (hold_by p end_role q) → (h : Hold) → h ∈ t.holds → is_end h ≡ true →
      h.place ≡ q → foreign t p h ≡ true → ⊥
  unfolding hold_by foreign is_end
  two_users p q has h among ending place other =
      let found = any_in (same_hold (hold_by p end_role q)) t.holds has in
      let one = same_hold_one (hold_by p end_role q) found.0 found.2 in
      let free = not_true (free_hold h) (and_left (not (free_hold h)) _ other) in
      let users = sound.holding.one_user h found.0 among found.1 free ending (rw (← one.role) refl) (place ∙ one.place) in
      let mine = users ∙ ap (user_of t.processes) (sym one.process) in
      eqb-false (user_of t.processes h.process) (user_of t.processes p) (not_true _ (and_right (not (free_hold h)) _ other)) mine

  sound_ends : (p : ℕ) (q : Place) → Has t.holds (hold_by p end_role q) →
      any (λ h. is_end h && same_place h.place q && foreign t p h) t.holds ≡ false
  sound_ends p q has =
      none_in (λ h. is_end h && same_place h.place q && foreign t p h) t.holds
      (λ h among. is_false (is_end h && same_place h.place q && foreign t p h)
      (λ e. let on = and_left (is_end h && same_place h.place q) (foreign t p h) e in
      two_users p q has h among (and_left (is_end h) _ on) (same_place_equal h.place q (and_right (is_end h) _ on))
      (and_right (is_end h && same_place h.place q) (foreign t p h) e)))

  pub sound_steady : Steady t
  sound_steady = record { top = sound.tree.top; leads = lookup_used t.entries t.nodes sound.tree; single = sound_single; ends = sound_ends }
