-- How a walk goes on from the links that it has followed: the code's shape of the model's walk. Assumes nothing.
use Rattle.std.specs.Prelude.{◌≡◌, Bool, true, false, List, map, ℕ, zero, suc, ◌+◌, ◌-◌, ◌≤◌, eqb, ltb, length, set, replicate}
use Rattle.std.specs.Prelude.{Option, Some, None, Result, Ok, Err}
use Rattle.std.proofs.Math.Option as model_option
use Rattle.std.proofs.lemmas.List.Edits.{sets}
use Rattle.model.specs.Refusals.{Outcome, refused, granted}
use Rattle.model.specs.Paths.{Name, names}
use Rattle.model.specs.Tables as model_tables
use Rattle.model.specs.Tables.{Entry as TableEntry, Node, a_directory, entry_rows, node_at, is_directory}
use Rattle.model.specs.Words.{unpack}
use Rattle.model.specs.Sound.{sound_rows}
use Rattle.model.specs.Walk.{Goal, found, start, trip_within}
use Rattle.laws.specs.Each.{Each}
use Rattle.rows.specs.Stands.{entry_row}
use Rattle.index.specs.Buckets.{counted}
use Rattle.index.specs.Indexed.{Index, Indexed, row_found}
use Rattle.goals.specs.declared.Place.{Place}
use Rattle.goals.specs.declared.Stop.{Stop}
use Rattle.goals.specs.declared.Stop.TheVariants.{Root, Entry}
use Rattle.goals.specs.Goals.{place_row, blank}
use Rattle.walk.specs.declared.Stretch.{Stretch}
use Rattle.walk.specs.declared.Trail.{Trail}

-- LINKS BY ROW

-- a row of the entries, or none
abbrev pub Row : Option ℕ → Type 0
Row found = counted found ≤ entry_rows

-- room for eight of them
pub record RowsKept (rows : List (Option ℕ)) : Type 0 where
  pub room : length rows ≡ 8
  pub each : Each Row rows

-- the place of the entry there
unfoldable pub place_in : List ℕ → Option ℕ → Place
place_in w None = blank
place_in w (Some row) = place_row (entry_row w row).place

-- the row of the entry at a place
unfoldable pub row_of : ℕ → Option ℕ
row_of zero = None
row_of (suc row) = Some row

unfoldable pub row_there : List ℕ → model_tables.Place → Option ℕ
row_there w q = row_of (row_found w q)

-- WHERE NAMES LED

-- the end entry's place as the code has it
unfoldable pub end_row : model_option.Option model_tables.Place → Option Place
end_row model_option.none = None
end_row (model_option.some q) = Some (place_row q)

-- what the code keeps where a walk has come to a node by some links more; `row` tells where the entry of a place is
unfoldable pub trail_after : (model_tables.Place → Option ℕ) → Trail → ℕ → List model_tables.Place → Trail
trail_after row t n es = record { node = n; count = t.count + length es; rows = sets t.rows t.count (map row es) }

-- the outcome of what is left, behind the links followed before
unfoldable pub continued : (model_tables.Place → Option ℕ) → Trail → Outcome Goal → Result Stretch ℕ
continued row t (refused n) = Err n
continued row t (granted g) = Ok (record { end = end_row g.end; trail = trail_after row t g.node g.elements })

-- how a whole walk stopped
abbrev pub stopped : Option Place → ℕ → Stop
stopped None node = Root
stopped (Some q) node = Entry q node

-- a walk that begins: at node 1, with no link followed
unfoldable pub no_links : Trail
no_links = record { node = 1; count = 0; rows = replicate 8 None }

-- one more link was followed, and the walk stands where its target starts
abbrev pub through : Trail → Option ℕ → ℕ → Trail
through t found begin = record { node = begin; count = t.count + 1; rows = set t.rows t.count found }

-- Walking a path: how names end from a directory, with so many links to follow
abbrev pub walk_within : List TableEntry → List Node → Bool → ℕ → ℕ → List Name → Outcome Goal
walk_within entries nodes follow_last k d ns = (trip_within (found entries nodes) follow_last k d ns).outcome

-- Walking a path: names, from where the trail has come to
unfoldable pub walked_from : List ℕ → Bool → Trail → List Name → Result Stretch ℕ
walked_from w follow_last t ns = continued (row_there w) t (walk_within (unpack w).entries (unpack w).nodes follow_last (8 - t.count) t.node ns)

-- Walking a path, and Numbers given back, 7: the names of a link's target, where a link may still be followed
unfoldable pub link_walked : List ℕ → Trail → Option ℕ → List ℕ → Result Stretch ℕ
link_walked w t found target =
    elim (ltb t.count 8) [
      | true ↦ walked_from w true (through t found (start t.node target)) (names target)
      | false ↦ Err 7
    ]

-- Walking a path: a link is followed before the last name, and at the last where the call does so
unfoldable pub followed : Bool → Bool → Bool
followed true follow_last = follow_last
followed false follow_last = true

-- Numbers given back, 8 and 9: whether a walk goes on from a node, by its kind
unfoldable pub by_kind : ℕ → Result (Unit {0}) ℕ
by_kind kind = elim (eqb kind 0) [ true ↦ Err 8 | false ↦ elim (eqb kind a_directory) [ true ↦ Ok tt | false ↦ Err 9 ] ]

abbrev pub only_directory : List Node → ℕ → Result (Unit {0}) ℕ
only_directory nodes n = by_kind (node_at nodes n).kind

-- the tables and their index are fit to be walked; the trail stands in a directory, and has followed eight links at most
pub record Ready (w : List ℕ) (index : Index) (t : Trail) : Type 0 where
  pub sound : sound_rows (unpack w) ≡ true
  pub indexed : Indexed w index
  pub there : is_directory (unpack w).nodes t.node ≡ true
  pub few : t.count ≤ 8
