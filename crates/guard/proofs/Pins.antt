-- What a process holds pins entries, and a change that leaves the pinned entries leaves every walk whose places the process holds.
-- Assumes nothing.
use mathlib.Core.Path.{◌≡◌, refl, ap, ap₂}
use mathlib.Core.Bool.{Bool, true, false}
use mathlib.Core.Logic.{◌≢◌}
use mathlib.Core.List.{List, [], ◌∷◌, ◌++◌}
use Prim.Native.Nat.{ℕ, zero, suc}
use native.Mathlib.Omega.{arith}
use Rattle.model.specs.Refusals.{Outcome, refused, granted}
use Rattle.model.specs.Lists.{any}
use Rattle.model.specs.Paths.{Name, names, absolute}
use Rattle.model.specs.Tables.{Place, Node, Hold, Tables, end_role, element_role, node_at, is_directory, lookup, listed, user_of}
use Rattle.model.specs.Sound.{same_hold}
use Rattle.model.specs.Holds.{hold_by, end_wanted, wanted}
use Rattle.model.specs.Walk.{Goal, Found, nothing, file, directory, link, found_node, found, Trip, here, astray, past, after_link, start, follow, turn, trip_names, trip_within, trip, walk}
use Rattle.laws.proofs.Each.{Each, each_head, each_tail}
use Rattle.invariants.proofs.Walks.{directory_not_zero, found_directory}

-- the hold stands in some row
abbrev pub Has : List Hold → Hold → Type 0
Has holds h = any (same_hold h) holds ≡ true

-- an entry that p holds as end or element, or one of a directory in which something is pinned
pub data Pinned (p : ℕ) (t : Tables) : Place → Type 0 where
  mine : {q : Place} (role : ℕ) → Has t.holds (hold_by p role q) → Pinned p t q
  above : {q : Place} (name : Name) → is_directory t.nodes (lookup t.entries q) ≡ true →
      Pinned p t (record { directory = lookup t.entries q; name = name }) → Pinned p t q

-- the same to a walk: how many entries lead to a node does not matter there
pub record Alike (x y : Node) : Type 0 where
  pub kind : x.kind ≡ y.kind
  pub target : x.target ≡ y.target

-- What another user's call leaves of tables t, for process p: u are the tables after it.
pub record Frame (p : ℕ) (t u : Tables) : Type 0 where
  pub listing : listed u.processes p ≡ listed t.processes p
  pub user : user_of u.processes p ≡ user_of t.processes p
  pub holds : (role : ℕ) (q : Place) → q.directory ≢ 0 → Has t.holds (hold_by p role q) → Has u.holds (hold_by p role q)
  pub entry : (q : Place) → q.directory ≢ 0 → Pinned p t q → lookup u.entries q ≡ lookup t.entries q
  pub node : (q : Place) → q.directory ≢ 0 → Pinned p t q →
      Alike (node_at u.nodes (lookup t.entries q)) (node_at t.nodes (lookup t.entries q))

-- p has all holds that the walk asks for
abbrev pub Guarding : Tables → ℕ → Outcome Goal → Type 0
Guarding t p (refused n) = ⊥
Guarding t p (granted g) = Each (Has t.holds) (wanted p g)

-- the first place of a walk of these names is pinned
abbrev First : ℕ → Tables → ℕ → List Name → Type 0
First p t d [] = Unit {0}
First p t d (name ∷ rest) = Pinned p t (record { directory = d; name = name })

here_pinned : (t : Tables) (p : ℕ) (q : Place) (n : ℕ) → Guarding t p (here q n).outcome → Pinned p t q
unfolding here wanted end_wanted
here_pinned t p q n g = mine end_role (each_head g)

link_pinned : (t : Tables) (p : ℕ) (q : Place) (w : Outcome Goal) → Guarding t p (past q w) → Pinned p t q
unfolding past wanted
link_pinned t p q (refused n) g = absurd g
link_pinned t p q (granted goal) g = mine element_role (each_head g)

link_guarding : (t : Tables) (p : ℕ) (q : Place) (w : Outcome Goal) → Guarding t p (past q w) → Guarding t p w
unfolding past wanted
link_guarding t p q (refused n) g = absurd g
link_guarding t p q (granted goal) g = each_tail g

start_not_zero : (d : ℕ) (target : List ℕ) → d ≢ 0 → start d target ≢ 0
unfolding start
start_not_zero d target used = go (absolute target)
  where
    go : (b : Bool) → ◌≢◌ {A = ℕ} (elim b as (λ _. ℕ) [ true ↦ 1 | false ↦ d ]) 0
    go true = omega arith
    go false = used

found_alike : (n : ℕ) (x y : Node) → Alike x y → found_node n x ≡ found_node n y
unfolding found_node
found_alike n x y a = ap₂ (λ (kind : ℕ) (target : List ℕ). found_node n (record { kind = kind; count = 0; target = target })) a.kind a.target

module _ (p : ℕ) (t u : Tables) (frame : Frame p t u) where
  found_same : (q : Place) → q.directory ≢ 0 → Pinned p t q → found u.entries u.nodes q ≡ found t.entries t.nodes q
  unfolding found
  found_same q used pin =
      let n = lookup t.entries q in
      rw (frame.entry q used pin) (found_alike n (node_at u.nodes n) (node_at t.nodes n) (frame.node q used pin))

  module _ (jump jump_after : ℕ → List Name → Trip)
      (same : (d : ℕ) (ns : List Name) → d ≢ 0 → Guarding t p (jump d ns).outcome → jump_after d ns ≡ jump d ns) where
    follow_same : (q : Place) (target : List ℕ) (rest : List Name) → q.directory ≢ 0 → Guarding t p (follow jump q target rest).outcome →
        (follow jump_after q target rest ≡ follow jump q target rest) × Pinned p t q
    unfolding follow after_link
    follow_same q target rest used g =
        let d = start q.directory target in
        let w = jump d (names target ++ rest) in (
          ap (after_link q) (same d (names target ++ rest) (start_not_zero q.directory target used) (link_guarding t p q w.outcome g)),
          link_pinned t p q w.outcome g,
        )

    turn_same : (last : Bool) (on on_after : ℕ → Trip) (q : Place) (f : Found) (rest : List Name) → q.directory ≢ 0 →
        found t.entries t.nodes q ≡ f →
        ((n : ℕ) → n ≢ 0 → Guarding t p (on n).outcome → (on_after n ≡ on n) × First p t n rest) → Guarding t p (turn jump on last q f rest).outcome →
        (turn jump_after on_after last q f rest ≡ turn jump on last q f rest) × Pinned p t q
    unfolding turn astray
    turn_same last on on_after q nothing [] used e h g = (refl, here_pinned t p q 0 g)
    turn_same last on on_after q nothing (next ∷ rest) used e h g = absurd g
    turn_same last on on_after q (file n) [] used e h g = (refl, here_pinned t p q n g)
    turn_same last on on_after q (file n) (next ∷ rest) used e h g = absurd g
    turn_same last on on_after q (directory n) [] used e h g = (refl, here_pinned t p q n g)
    turn_same last on on_after q (directory n) (next ∷ rest) used e h g =
        let is = found_directory t.entries t.nodes q n e in
        let after = h n (directory_not_zero t.nodes n is.kind) g in
        (after.0, above {q = q} next (rw is.there is.kind) (rw is.there after.1))
    turn_same true on on_after q (link n target) [] used e h g = follow_same q target [] used g
    turn_same false on on_after q (link n target) [] used e h g = (refl, here_pinned t p q n g)
    turn_same true on on_after q (link n target) (next ∷ rest) used e h g = follow_same q target (next ∷ rest) used g
    turn_same false on on_after q (link n target) (next ∷ rest) used e h g = follow_same q target (next ∷ rest) used g

    names_same : (last : Bool) (d : ℕ) (ns : List Name) → d ≢ 0 → Guarding t p (trip_names (found t.entries t.nodes) last jump d ns).outcome →
        (trip_names (found u.entries u.nodes) last jump_after d ns ≡ trip_names (found t.entries t.nodes) last jump d ns) × First p t d ns
    unfolding trip_names
    names_same last d [] used g = (refl, tt)
    names_same last d (name ∷ rest) used g =
        let q : Place = record { directory = d; name = name } in
        let turned =
        turn_same last (λ n. trip_names (found t.entries t.nodes) last jump n rest)
        (λ n. trip_names (found u.entries u.nodes) last jump_after n rest) q (found t.entries t.nodes q) rest used refl
        (λ n f. names_same last n rest f) g in
        (rw (found_same q used turned.1) turned.0, turned.1)

  within_same : (last : Bool) (k d : ℕ) (ns : List Name) → d ≢ 0 → Guarding t p (trip_within (found t.entries t.nodes) last k d ns).outcome →
      trip_within (found u.entries u.nodes) last k d ns ≡ trip_within (found t.entries t.nodes) last k d ns
  unfolding trip_within astray
  within_same last zero d ns used g = (names_same (λ d rest. astray 7) (λ d rest. astray 7) (λ d rest f. absurd) last d ns used g).0
  within_same last (suc k) d ns used g =
      (names_same (trip_within (found t.entries t.nodes) last k) (trip_within (found u.entries u.nodes) last k) (within_same last k) last d ns used g).0

  pub walk_same : (last : Bool) (path : List ℕ) → Guarding t p (walk t.entries t.nodes last path) →
      walk u.entries u.nodes last path ≡ walk t.entries t.nodes last path
  unfolding walk trip
  walk_same last path g = ap (λ (x : Trip). x.outcome) (within_same last 8 1 (names path) (omega arith) g)
