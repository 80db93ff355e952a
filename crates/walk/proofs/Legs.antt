-- A walk in two legs: to walk names and then more of them is to walk the first, a link at their end followed too, and to go on from the node
-- that was reached with the links that are left. Assumes nothing.
use mathlib.Core.Path.{◌≡◌, refl, sym, ap, ◌∙◌}
use mathlib.Core.Bool.{Bool, true, false}
use mathlib.Core.Option.{none}
use mathlib.Core.List.{List, [], ◌∷◌, ◌++◌, append_assoc}
use Prim.Native.Nat.{ℕ, zero, suc, ◌-◌}
use native.Mathlib.Omega.{arith}
use borrow.Author.Tests.{eqb-true, eq-eqb, ne_eqb}
use lib.Dec.{eqb}
use lib.ListN.{length}
use Rattle.model.specs.Refusals.{Outcome, refused, granted, ◌>>=◌}
use Rattle.model.specs.Paths.{Name, names}
use Rattle.model.specs.Tables.{Place, Entry, Node, a_directory, node_at, is_directory}
use Rattle.model.specs.Walk.{Goal, Found, nothing, file, directory, link, found, Trip, here, astray, past, after_link, start, follow, turn, trip_names, trip_within}
use Rattle.invariants.proofs.Walks.{found_directory, start_directory}
use Rattle.walk.specs.Trails.{walk_within}
use Rattle.walk.proofs.Found.{Walkable, found_file}

-- the links of a first leg, before all that came after it
unfoldable pub prefixed : List Place → Outcome Goal → Outcome Goal
prefixed [] o = o
prefixed (q ∷ qs) o = past q (prefixed qs o)

module _ (entries : List Entry) (nodes : List Node) where
  -- the names that are left, from the node that was reached: it has to be there, and a directory
  unfoldable pub entered : Bool → ℕ → ℕ → List Name → Outcome Goal
  entered follow_last k n rest =
      elim (eqb (node_at nodes n).kind 0) [
        | true ↦ refused 8
        | false ↦
            elim (eqb (node_at nodes n).kind a_directory) [
              | true ↦ walk_within entries nodes follow_last k n rest
              | false ↦ refused 9
            ]
      ]

  -- the second leg: k links were left before the first
  unfoldable pub onward : Bool → ℕ → List Name → Goal → Outcome Goal
  onward follow_last k rest g = prefixed g.elements (entered follow_last (k - length g.elements) g.node rest)

  -- ENTERING A NODE, by its kind

  pub enter_nothing : (follow_last : Bool) (k n : ℕ) (rest : List Name) → (node_at nodes n).kind ≡ 0 → entered follow_last k n rest ≡ refused 8
  unfolding entered
  enter_nothing follow_last k n rest e = simp (eq-eqb (node_at nodes n).kind 0 e, entered)

  pub enter_other : (follow_last : Bool) (k n : ℕ) (rest : List Name) → ((node_at nodes n).kind ≡ 0 → ⊥) → ((node_at nodes n).kind ≡ a_directory → ⊥) →
      entered follow_last k n rest ≡ refused 9
  unfolding entered
  enter_other follow_last k n rest f g = simp (ne_eqb (node_at nodes n).kind 0 f, ne_eqb (node_at nodes n).kind a_directory g, entered)

  pub enter_directory : (follow_last : Bool) (k n : ℕ) (rest : List Name) → is_directory nodes n ≡ true →
      entered follow_last k n rest ≡ walk_within entries nodes follow_last k n rest
  unfolding entered is_directory
  enter_directory follow_last k n rest e =
      let used : eqb (node_at nodes n).kind 0 ≡ false = rw (eqb-true (node_at nodes n).kind a_directory e) in
      simp (used, e, entered)

  -- WALKS AND JUMPS

  -- what follows a link where k links are left: one of them is spent, and where none is left the walk is refused
  unfoldable pub jump_within : Bool → ℕ → ℕ → List Name → Trip
  jump_within follow_last zero d rest = astray 7
  jump_within follow_last (suc k) d rest = trip_within (found entries nodes) follow_last k d rest

  pub within_names : (follow_last : Bool) (k d : ℕ) (ns : List Name) →
      trip_within (found entries nodes) follow_last k d ns ≡ trip_names (found entries nodes) follow_last (jump_within follow_last k) d ns
  unfolding trip_within jump_within
  within_names follow_last zero d ns = refl
  within_names follow_last (suc k) d ns = refl

  past_onward : (follow_last : Bool) (q : Place) (k : ℕ) (rest : List Name) (o : Outcome Goal) →
      past q (o >>= onward follow_last k rest) ≡ (past q o >>= onward follow_last (suc k) rest)
  unfolding past ◌>>=◌ onward prefixed
  past_onward follow_last q k rest (refused n) = refl
  past_onward follow_last q k rest (granted g) =
      let e : k - length g.elements ≡ suc k - suc (length g.elements) = omega arith in
      ap (λ (j : ℕ). past q (prefixed g.elements (entered follow_last j g.node rest))) e

  -- THE LAW

  -- of jumps with k links left, met at any place
  abbrev Jumps : ℕ → Type 0
  Jumps k =
      (follow_last : Bool) (q : Place) (s : ℕ) (ns : List Name) (m : Name) (rest : List Name) → is_directory nodes s ≡ true →
      past q (jump_within follow_last k s (ns ++ (m ∷ rest))).outcome
      ≡ (past q (jump_within true k s ns).outcome >>= onward follow_last k (m ∷ rest))

  module _ (walkable : Walkable entries nodes) (follow_last : Bool) (k : ℕ) (jumps : Jumps k) (m : Name) (rest : List Name) where
    follow_legs : (q : Place) (target : List ℕ) (ns : List Name) → is_directory nodes q.directory ≡ true →
        (follow (jump_within follow_last k) q target (ns ++ (m ∷ rest))).outcome
        ≡ ((follow (jump_within true k) q target ns).outcome >>= onward follow_last k (m ∷ rest))
    unfolding follow after_link
    follow_legs q target ns d =
        ap (λ (l : List Name). past q (jump_within follow_last k (start q.directory target) l).outcome) (sym (append_assoc (names target) ns (m ∷ rest)))
        ∙ jumps follow_last q (start q.directory target) (names target ++ ns) m rest (start_directory nodes q.directory target walkable.top d)

    reached_directory : (n : ℕ) → is_directory nodes n ≡ true →
        (trip_names (found entries nodes) follow_last (jump_within follow_last k) n (m ∷ rest)).outcome
        ≡ onward follow_last k (m ∷ rest) (record { end = none; node = n; elements = [] })
    unfolding onward prefixed
    reached_directory n d =
        let e : k ≡ k - 0 = omega arith in
        ap (λ (x : Trip). x.outcome) (sym (within_names follow_last k n (m ∷ rest))) ∙ sym (enter_directory follow_last k n (m ∷ rest) d)
        ∙ ap (λ (j : ℕ). entered follow_last j n (m ∷ rest)) e

    turn_legs : (q : Place) (f : Found) (ns : List Name) → found entries nodes q ≡ f → is_directory nodes q.directory ≡ true →
        ((n : ℕ) → is_directory nodes n ≡ true →
        (trip_names (found entries nodes) follow_last (jump_within follow_last k) n (ns ++ (m ∷ rest))).outcome
        ≡ ((trip_names (found entries nodes) true (jump_within true k) n ns).outcome >>= onward follow_last k (m ∷ rest))) →
        (turn (jump_within follow_last k) (λ n. trip_names (found entries nodes) follow_last (jump_within follow_last k) n (ns ++ (m ∷ rest))) follow_last q f
        (ns ++ (m ∷ rest))).outcome
        ≡ ((turn (jump_within true k) (λ n. trip_names (found entries nodes) true (jump_within true k) n ns) true q f ns).outcome >>= onward follow_last k (m ∷ rest))
    unfolding turn ◌>>=◌ here astray onward prefixed entered node_at
    turn_legs q nothing [] e d h = refl
    turn_legs q nothing (n ∷ ns) e d h = refl
    turn_legs q (file n) [] e d h =
        let kind = found_file entries nodes walkable q n e in
        sym (enter_other follow_last (k - 0) n (m ∷ rest) (λ z. omega arith) (λ z. omega arith))
    turn_legs q (file x) (n ∷ ns) e d h = refl
    turn_legs q (directory n) [] e d h = reached_directory n (found_directory entries nodes q n e).kind
    turn_legs q (directory x) (n ∷ ns) e d h = h x (found_directory entries nodes q x e).kind
    turn_legs q (link n target) [] e d h = follow_legs q target [] d
    turn_legs q (link x target) (n ∷ ns) e d h = follow_legs q target (n ∷ ns) d

    names_legs : (d : ℕ) (ns : List Name) → is_directory nodes d ≡ true →
        (trip_names (found entries nodes) follow_last (jump_within follow_last k) d (ns ++ (m ∷ rest))).outcome
        ≡ ((trip_names (found entries nodes) true (jump_within true k) d ns).outcome >>= onward follow_last k (m ∷ rest))
    unfolding trip_names ◌>>=◌
    names_legs d [] e = reached_directory d e
    names_legs d (n ∷ ns) e =
        let q : Place = record { directory = d; name = n } in
        turn_legs q (found entries nodes q) ns refl e (λ x f. names_legs x ns f)

    within_legs : (d : ℕ) (ns : List Name) → is_directory nodes d ≡ true →
        walk_within entries nodes follow_last k d (ns ++ (m ∷ rest)) ≡ (walk_within entries nodes true k d ns >>= onward follow_last k (m ∷ rest))
    within_legs d ns e =
        ap (λ (x : Trip). x.outcome) (within_names follow_last k d (ns ++ (m ∷ rest))) ∙ names_legs d ns e
        ∙ ap (λ (x : Trip). x.outcome >>= onward follow_last k (m ∷ rest)) (sym (within_names true k d ns))

  jump_legs : Walkable entries nodes → (k : ℕ) → Jumps k
  unfolding jump_within astray past ◌>>=◌
  jump_legs walkable zero follow_last q s ns m rest e = refl
  jump_legs walkable (suc k) follow_last q s ns m rest e =
      ap (past q) (within_legs walkable follow_last k (jump_legs walkable k) m rest s ns e)
      ∙ past_onward follow_last q k (m ∷ rest) (walk_within entries nodes true k s ns)

  pub walk_legs : Walkable entries nodes → (follow_last : Bool) (k d : ℕ) (ns : List Name) (m : Name) (rest : List Name) → is_directory nodes d ≡ true →
      walk_within entries nodes follow_last k d (ns ++ (m ∷ rest)) ≡ (walk_within entries nodes true k d ns >>= onward follow_last k (m ∷ rest))
  walk_legs walkable follow_last k d ns m rest e = within_legs walkable follow_last k (jump_legs walkable k) m rest d ns e
