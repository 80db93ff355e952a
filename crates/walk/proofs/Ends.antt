-- How a walk over sound tables ends: by `/` at node 1 only, with no more elements than it had links to follow, and each of them there.
-- Assumes nothing.
use mathlib.Core.Path.{◌≡◌, refl, sym, subst, ◌∙◌}
use mathlib.Core.Logic.{◌≢◌}
use mathlib.Core.Bool.{Bool, true, false}
use mathlib.Core.Option.{none}
use mathlib.Core.List.{List, [], ◌∷◌, ◌++◌}
use Prim.Native.Nat.{ℕ, zero, suc, ◌≤◌}
use native.Mathlib.Omega.{arith}
use lib.Dec.{eqb}
use lib.ListN.{length}
use Rattle.model.specs.Refusals.{Outcome, refused, granted}
use Rattle.model.specs.Paths.{Name, slash, names, names_behind, parts, absolute}
use Rattle.model.specs.Tables.{Place, Entry, Node, lookup}
use Rattle.model.specs.Walk.{Goal, Found, nothing, file, directory, link, found, Trip, here, astray, past, after_link, start, follow, turn, trip_names}
use Rattle.laws.proofs.Each.{Each, none as none_left, one}
use Rattle.invariants.proofs.Walks.{found_link}
use Rattle.paths.proofs.Parts.{parts_split}
use Rattle.walk.specs.Trails.{walk_within}
use Rattle.walk.proofs.Found.{Walkable, found_target}
use Rattle.walk.proofs.Legs.{jump_within, within_names}

pub record Ended (k : ℕ) (g : Goal) : Type 0 where
  pub root : g.end ≡ none → g.node ≡ 1
  pub few : length g.elements ≤ k

unfoldable pub Ends : ℕ → Outcome Goal → Type 0
Ends k (refused n) = Unit {0}
Ends k (granted g) = Ended k g

-- the same, and each element is there
pub record EndedThere (entries : List Entry) (k : ℕ) (g : Goal) : Type 0 where
  pub ended : Ended k g
  pub present : Each (λ q. lookup entries q ≢ 0) g.elements

unfoldable pub EndsThere : List Entry → ℕ → Outcome Goal → Type 0
EndsThere entries k (refused n) = Unit {0}
EndsThere entries k (granted g) = EndedThere entries k g

pub ends : (entries : List Entry) (k : ℕ) (o : Outcome Goal) → EndsThere entries k o → Ends k o
unfolding Ends EndsThere
ends entries k (refused n) e = tt
ends entries k (granted g) e = e.ended

-- a target that has bytes but no names is `/`
no_names_from_root : (d : ℕ) (s : List ℕ) → 1 ≤ length s → names s ≡ [] → start d s ≡ 1
unfolding names start absolute
no_names_from_root d [] h e = absurd (omega arith)
no_names_from_root d (b ∷ s) h e = go (eqb b slash) refl e
  where
    go : (c : Bool) → eqb b slash ≡ c → ◌≡◌ {A = List Name} (elim c as (λ _. List Name) [ true ↦ names_behind s | false ↦ parts (b ∷ s) ]) [] →
        ◌≡◌ {A = ℕ} (elim c as (λ _. ℕ) [ true ↦ 1 | false ↦ d ]) 1
    go true q f = refl
    go false q f = let some_part = sym (parts_split (b ∷ s)) ∙ f in let z : ◌≡◌ {A = ℕ} 0 1 = cc in absurd (omega arith)

nothing_joined : (xs ys : List Name) → xs ++ ys ≡ [] → xs ≡ []
nothing_joined [] ys e = refl
nothing_joined (x ∷ xs) ys e = let z : ◌≡◌ {A = ℕ} 0 1 = cc in absurd (omega arith)

module _ (entries : List Entry) (nodes : List Node) (walkable : Walkable entries nodes) where
  past_ends : (k : ℕ) (q : Place) (o : Outcome Goal) → lookup entries q ≢ 0 → EndsThere entries k o → EndsThere entries (suc k) (past q o)
  unfolding EndsThere past
  past_ends k q (refused n) there e = tt
  past_ends k q (granted g) there e = record { ended = record { root = e.ended.root; few = let h = e.ended.few in omega arith }; present = one there e.present }

  here_ends : (k : ℕ) (q : Place) (n : ℕ) → EndsThere entries k (here q n).outcome
  unfolding EndsThere here
  here_ends k q n = record { ended = record { root = λ e. let z : ◌≡◌ {A = ℕ} 0 1 = cc in absurd (omega arith); few = omega arith }; present = none_left }

  -- jumps with k links left
  abbrev JumpsEnd : Bool → ℕ → Type 0
  JumpsEnd follow_last k =
      (q : Place) (d : ℕ) (ns : List Name) → lookup entries q ≢ 0 → (ns ≡ [] → d ≡ 1)
      → EndsThere entries k (past q (jump_within entries nodes follow_last k d ns).outcome)

  module _ (follow_last : Bool) (k : ℕ) (jumps : JumpsEnd follow_last k) where
    follow_ends : (q : Place) (n : ℕ) (target : List ℕ) (rest : List Name) → found entries nodes q ≡ link n target →
        EndsThere entries k (follow (jump_within entries nodes follow_last k) q target rest).outcome
    unfolding follow after_link
    follow_ends q n target rest e =
        jumps q (start q.directory target) (names target ++ rest) (found_link entries nodes q n target e)
        (λ f. no_names_from_root q.directory target (found_target entries nodes walkable q n target e).long (nothing_joined (names target) rest f))

    turn_ends : (on : ℕ → Trip) (q : Place) (f : Found) (rest : List Name) → found entries nodes q ≡ f →
        ((n : ℕ) → (rest ≡ [] → ⊥) → EndsThere entries k (on n).outcome) → EndsThere entries k (turn (jump_within entries nodes follow_last k) on follow_last q f rest).outcome
    unfolding turn astray EndsThere
    turn_ends on q nothing [] e h = here_ends k q 0
    turn_ends on q nothing (next ∷ rest) e h = tt
    turn_ends on q (file n) [] e h = here_ends k q n
    turn_ends on q (file n) (next ∷ rest) e h = tt
    turn_ends on q (directory n) [] e h = here_ends k q n
    turn_ends on q (directory n) (next ∷ rest) e h = h n (λ f. let z : ◌≡◌ {A = ℕ} 0 1 = cc in omega arith)
    turn_ends on q (link n target) (next ∷ rest) e h = follow_ends q n target (next ∷ rest) e
    turn_ends on q (link n target) [] e h = last_link follow_last
      where
        last_link : (l : Bool) → EndsThere entries k (turn (jump_within entries nodes follow_last k) on l q (link n target) []).outcome
        last_link true = follow_ends q n target [] e
        last_link false = here_ends k q n

    names_end : (d : ℕ) (ns : List Name) → (ns ≡ [] → d ≡ 1) → EndsThere entries k (trip_names (found entries nodes) follow_last (jump_within entries nodes follow_last k) d ns).outcome
    unfolding trip_names EndsThere
    names_end d [] r = record { ended = record { root = λ e. r refl; few = omega arith }; present = none_left }
    names_end d (n ∷ ns) r =
        turn_ends (λ x. trip_names (found entries nodes) follow_last (jump_within entries nodes follow_last k) x ns) (record { directory = d; name = n })
        (found entries nodes (record { directory = d; name = n })) ns refl (λ x m. names_end x ns (λ e. absurd (m e)))

  within_ends : (follow_last : Bool) (k : ℕ) → JumpsEnd follow_last k → (d : ℕ) (ns : List Name) → (ns ≡ [] → d ≡ 1) →
      EndsThere entries k (walk_within entries nodes follow_last k d ns)
  within_ends follow_last k jumps d ns r =
      subst (λ (x : Trip). EndsThere entries k x.outcome) (sym (within_names entries nodes follow_last k d ns))
      (names_end follow_last k jumps d ns r)

  jumps_end : (follow_last : Bool) (k : ℕ) → JumpsEnd follow_last k
  unfolding jump_within astray past EndsThere
  jumps_end follow_last zero q d ns there r = tt
  jumps_end follow_last (suc k) q d ns there r =
      past_ends k q (walk_within entries nodes follow_last k d ns) there (within_ends follow_last k (jumps_end follow_last k) d ns r)

  -- a walk with k links to follow, from node 1 where it has no names
  pub walk_ends_there : (follow_last : Bool) (k d : ℕ) (ns : List Name) → (ns ≡ [] → d ≡ 1) → EndsThere entries k (walk_within entries nodes follow_last k d ns)
  walk_ends_there follow_last k = within_ends follow_last k (jumps_end follow_last k)

  pub walk_ends : (follow_last : Bool) (k d : ℕ) (ns : List Name) → (ns ≡ [] → d ≡ 1) → Ends k (walk_within entries nodes follow_last k d ns)
  walk_ends follow_last k d ns r = ends entries k (walk_within entries nodes follow_last k d ns) (walk_ends_there follow_last k d ns r)
