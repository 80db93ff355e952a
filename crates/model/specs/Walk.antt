-- Document 01, 'Walking a path'. Assumes nothing.
use Rattle.std.specs.Prelude.{Bool, true, false, List, [], ◌∷◌, ◌++◌, ℕ, zero, suc, eqb}
use Rattle.std.proofs.Math.Option.{Option, none, some}
use Rattle.model.specs.Refusals.{Outcome, refused, granted}
use Rattle.model.specs.Paths.{Name, names, absolute}
use Rattle.model.specs.Tables.{Place, Entry, Node, a_file, a_directory, node_at, lookup}

-- Walking a path, where it stopped: the end entry, or none where it stopped at node 1 by `/`; the node there, 0 for an absence; and the elements, the
-- places of the links that it followed, in the order met.
pub record Goal : Type 0 where
  pub end : Option Place
  pub node : ℕ
  pub elements : List Place

-- Walking a path: all that a walk tells, also one that is refused
pub record Trip : Type 0 where
  pub outcome : Outcome Goal

-- Walking a path: what a name is looked up as
pub data Found : Type 0 where
  nothing : Found
  file : ℕ → Found
  directory : ℕ → Found
  link : ℕ → List ℕ → Found

-- The lent tables: a node by its kind; node 0 is an absence
unfoldable pub found_node : ℕ → Node → Found
found_node n x =
    elim (eqb n 0) [
      | true ↦ nothing
      | false ↦
          elim (eqb x.kind a_file) [
            | true ↦ file n
            | false ↦ elim (eqb x.kind a_directory) [ true ↦ directory n | false ↦ link n x.target ]
          ]
    ]

-- Walking a path: a name is looked up in its directory
unfoldable pub found : List Entry → List Node → Place → Found
found entries nodes q = found_node (lookup entries q) (node_at nodes (lookup entries q))

-- Walking a path: the walk stops at the end entry q, where node n is
unfoldable pub here : Place → ℕ → Trip
here q n = record { outcome = granted (record { end = some q; node = n; elements = [] }) }

-- Numbers given back: the walk is refused
unfoldable pub astray : ℕ → Trip
astray n = record { outcome = refused n }

-- Walking a path, elements: a link was followed at q before all that the rest of the walk followed
unfoldable pub past : Place → Outcome Goal → Outcome Goal
past q (refused n) = refused n
past q (granted g) = granted (record { end = g.end; node = g.node; elements = q ∷ g.elements })

unfoldable pub after_link : Place → Trip → Trip
after_link q onward = record { outcome = past q onward.outcome }

-- Walking a path: where a target's walk begins, at the top where the target is absolute and else beside the link
unfoldable pub start : ℕ → List ℕ → ℕ
start d target = elim (absolute target) [ true ↦ 1 | false ↦ d ]

-- Walking a path: a link at q is followed, its target's names first and then the rest. `jump` is the walk with one link less to follow
unfoldable pub follow : (ℕ → List Name → Trip) → Place → List ℕ → List Name → Trip
follow jump q target rest = after_link q (jump (start q.directory target) (names target ++ rest))

-- Walking a path, one name: by what was found at its place q and by whether names come after it. `on` walks those from a directory;
-- `follow_last` says whether a link at the last name is followed. Numbers given back, while names are left: 8 where nothing is found, 9 where a file is.
unfoldable pub turn : (ℕ → List Name → Trip) → (ℕ → Trip) → Bool → Place → Found → List Name → Trip
turn jump on follow_last q nothing [] = here q 0
turn jump on follow_last q nothing (next ∷ rest) = astray 8
turn jump on follow_last q (file n) [] = here q n
turn jump on follow_last q (file n) (next ∷ rest) = astray 9
turn jump on follow_last q (directory n) [] = here q n
turn jump on follow_last q (directory n) (next ∷ rest) = on n
turn jump on true q (link n target) [] = follow jump q target []
turn jump on false q (link n target) [] = here q n
turn jump on follow_last q (link n target) (next ∷ rest) = follow jump q target (next ∷ rest)

-- Walking a path, over whatever is found at a place
module _ (look : Place → Found) (follow_last : Bool) where
  -- Walking a path: names one after the other, from directory d; there is no name only where `/` ends the walk
  unfoldable pub trip_names : (ℕ → List Name → Trip) → ℕ → List Name → Trip
  trip_names jump d [] = record { outcome = granted (record { end = none; node = d; elements = [] }) }
  trip_names jump d (name ∷ rest) =
      let q : Place = record { directory = d; name = name } in
      turn jump (λ n. trip_names jump n rest) follow_last q (look q) rest

  -- Numbers given back, 7: the walk with at most k links to follow; one more is refused
  unfoldable pub trip_within : ℕ → ℕ → List Name → Trip
  trip_within zero = trip_names (λ d rest. astray 7)
  trip_within (suc k) = trip_names (trip_within k)

  -- Walking a path: the whole path, from the top, with eight links at most
  unfoldable pub trip : List ℕ → Trip
  trip path = trip_within 8 1 (names path)

-- Walking a path: over the lent tables, how it ends
unfoldable pub walk : List Entry → List Node → Bool → List ℕ → Outcome Goal
walk entries nodes follow_last path = (trip (found entries nodes) follow_last path).outcome

unfoldable pub computing_walk : Unit {0}
unfolding found_node found here astray past after_link start follow turn trip_names trip_within trip walk
computing_walk = tt
