-- What each answer on the way of a walk comes to, in plain values: the walk of the names that are left, behind the links followed before.
-- Assumes nothing.
use mathlib.Core.Path.{◌≡◌, refl, sym, ap, ◌∙◌}
use mathlib.Core.Bool.{Bool, true, false, true≢false}
use mathlib.Core.Logic.{◌≢◌, ◌⊎◌, inl, inr}
use mathlib.Core.List.{List, [], ◌∷◌, append-nil}
use Prim.Native.Nat.{ℕ, zero, suc, ◌+◌}
use native.Mathlib.Omega.{arith}
use Rattle.std.specs.Prelude.{Option, Some, None, Ok}
use Rattle.model.specs.Refusals.{Outcome, refused}
use Rattle.model.specs.Paths.{Name, names}
use Rattle.model.specs.Tables as model_tables
use Rattle.model.specs.Tables.{Node, a_link, node_at, lookup}
use Rattle.model.specs.Walk.{Goal, Found, link, found, Trip, here, astray, past, after_link, start, follow, turn, trip_names}
use Rattle.goals.specs.Goals.{place_row}
use Rattle.walk.specs.declared.Trail.{Trail}
use Rattle.walk.specs.Trails.{end_row, trail_after, continued, walk_within}
use Rattle.walk.proofs.Found.{Walkable, Stood, absent, of_file, of_directory, of_link, found_stood, numbered}
use Rattle.walk.proofs.Legs.{jump_within, within_names}

-- ONE NAME, by the kind of the node that it leads to

module _ (entries : List model_tables.Entry) (nodes : List Node) (walkable : Walkable entries nodes) (follow_last : Bool) (k : ℕ) (q : model_tables.Place) where
  -- the walk of that name alone
  abbrev pub OneName : Outcome Goal
  OneName = walk_within entries nodes follow_last k q.directory (q.name ∷ [])

  -- what comes of what is found there
  abbrev by_found : Bool → Found → Outcome Goal
  by_found last f = (turn (jump_within entries nodes follow_last k) (λ n. trip_names (found entries nodes) follow_last (jump_within entries nodes follow_last k) n []) last q f []).outcome

  one_name : OneName ≡ by_found follow_last (found entries nodes q)
  unfolding trip_names
  one_name = ap (λ (x : Trip). x.outcome) (within_names entries nodes follow_last k q.directory (q.name ∷ []))

  link_there : (node_at nodes (lookup entries q)).kind ≡ a_link → found entries nodes q ≡ link (lookup entries q) (node_at nodes (lookup entries q)).target
  link_there kind = go (found entries nodes q) (found_stood entries nodes walkable q)
    where
      go : (f : Found) → Stood (lookup entries q) (node_at nodes (lookup entries q)) f → f ≡ link (lookup entries q) (node_at nodes (lookup entries q)).target
      go _ (absent z) = absurd (numbered nodes (lookup entries q) (λ e. omega arith) z)
      go _ (of_file a) = absurd (omega arith)
      go _ (of_directory a) = absurd (omega arith)
      go _ (of_link a) = refl

  -- nothing is followed
  pub stops_there : ((node_at nodes (lookup entries q)).kind ≢ a_link) ⊎ (follow_last ≡ false) → OneName ≡ (here q (lookup entries q)).outcome
  unfolding turn
  stops_there no_link = one_name ∙ go follow_last no_link (found entries nodes q) (found_stood entries nodes walkable q)
    where
      go : (l : Bool) → ((node_at nodes (lookup entries q)).kind ≢ a_link) ⊎ (l ≡ false) → (f : Found) →
          Stood (lookup entries q) (node_at nodes (lookup entries q)) f → by_found l f ≡ (here q (lookup entries q)).outcome
      go l c _ (absent z) = ap (λ (n : ℕ). (here q n).outcome) (sym z)
      go l c _ (of_file a) = refl
      go l c _ (of_directory a) = refl
      go true (inl not_there) _ (of_link a) = absurd (not_there a)
      go true (inr not_followed) _ (of_link a) = absurd (true≢false not_followed)
      go false c _ (of_link a) = refl

  pub follows_link : follow_last ≡ true → (node_at nodes (lookup entries q)).kind ≡ a_link →
      OneName ≡ (follow (jump_within entries nodes true k) q (node_at nodes (lookup entries q)).target []).outcome
  unfolding turn
  follows_link f kind = one_name ∙ ap (by_found follow_last) (link_there kind) ∙ rw f

-- STOPPING

module _ (row : model_tables.Place → Option ℕ) (t : Trail) where
  same_count : t.count ≡ t.count + 0
  same_count = omega arith

  pub stopped_at : (q : model_tables.Place) (n : ℕ) →
      Ok (record { end = Some (place_row q); trail = record { node = n; count = t.count; rows = t.rows } }) ≡ continued row t (here q n).outcome
  unfolding continued trail_after end_row here
  stopped_at q n = λ i. Ok (record { end = Some (place_row q); trail = record { node = n; count = same_count i; rows = t.rows } })

  pub stopped_by_slash : (entries : List model_tables.Entry) (nodes : List Node) (follow_last : Bool) (k : ℕ) (ns : List Name) → ns ≡ [] →
      Ok (record { end = None; trail = t }) ≡ continued row t (walk_within entries nodes follow_last k t.node ns)
  unfolding continued trail_after end_row trip_names
  stopped_by_slash entries nodes follow_last k ns none_left =
      (λ i. Ok (record { end = None; trail = record { node = t.node; count = same_count i; rows = t.rows } }))
      ∙ ap (λ (x : Trip). continued row t x.outcome) (sym (within_names entries nodes follow_last k t.node [])) ∙ rw none_left

-- FOLLOWING

-- no link is left
pub ninth_link : (entries : List model_tables.Entry) (nodes : List Node) (k : ℕ) (q : model_tables.Place) (target : List ℕ) → k ≡ 0 →
    (follow (jump_within entries nodes true k) q target []).outcome ≡ refused 7
unfolding follow jump_within astray past after_link
ninth_link entries nodes zero q target e = refl
ninth_link entries nodes (suc k) q target e = absurd (omega arith)

-- one link is spent on the target's names
pub one_link : (entries : List model_tables.Entry) (nodes : List Node) (k j : ℕ) (q : model_tables.Place) (target : List ℕ) → k ≡ suc j →
    past q (walk_within entries nodes true j (start q.directory target) (names target))
    ≡ (follow (jump_within entries nodes true k) q target []).outcome
unfolding follow jump_within after_link
one_link entries nodes zero j q target e = absurd (omega arith)
one_link entries nodes (suc k) j q target e = let same : k ≡ j = omega arith in rw (same, append-nil)
