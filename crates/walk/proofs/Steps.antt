-- The steps of the code, as facts about the values it holds: the name that was met, the link that is followed, and what each return is.
-- Assumes nothing.
use mathlib.Core.Path.{◌≡◌, refl, sym, ap, subst, ◌∙◌}
use mathlib.Core.Bool.{Bool, true, false, true≢false}
use mathlib.Core.Logic.{◌≢◌, ◌⊎◌}
use mathlib.Core.List.{List, [], ◌∷◌}
use Prim.Native.Nat.{ℕ, zero, suc, ◌+◌, ◌-◌, ◌≤◌, ◌<◌}
use native.Mathlib.Omega.{arith}
use lib.Dec.{eqb, ltb}
use lib.ListN.{length, get_or, take, drop}
use borrow.Author.Tests.{eqb-true, eqb-false, ltb-true, ltb-false, le-ltb, lt-ltb}
use Rattle.std.specs.Prelude.{Option, Some, None, Result, Ok, Err}
use Rattle.model.specs.Lists.{filled}
use Rattle.model.specs.Refusals.{Outcome, ◌>>=◌}
use Rattle.model.specs.Paths.{Name, longest_name, longest_target, slash, names, absolute, valid_name, valid_names}
use Rattle.model.specs.Tables as model_tables
use Rattle.model.specs.Tables.{Node, node_rows, a_link, free_node, node_at, is_directory, lookup}
use Rattle.model.specs.Words.{unpack}
use Rattle.model.specs.Walk.{Goal, start, follow}
use Rattle.laws.proofs.Each.{each_by_place, each_drop, each_take}
use Rattle.laws.proofs.Pieces.{filled_length, filled_front}
use Rattle.invariants.proofs.Goals.{valid_fits}
use Rattle.invariants.proofs.Rows.{used_in_range}
use Rattle.invariants.proofs.Walks.{start_directory}
use Rattle.laws.proofs.Words.{NameFits}
use Rattle.laws.proofs.Words as model_words
use Rattle.rows.specs.declared.Block.{Block}
use Rattle.rows.specs.Blocks.{Named, name_of, block_of, place_of}
use Rattle.rows.specs.Stands.{node_row}
use Rattle.rows.proofs.Blocks.{name_back, block_named}
use Rattle.rows.proofs.Fields.{node_in_row}
use Rattle.rows.proofs.Parts.{nodes_full}
use Rattle.goals.specs.Goals.{place_row}
use Rattle.paths.specs.Split.{next}
use Rattle.paths.proofs.Parts.{parts_split}
use Rattle.paths.proofs.Splits.{SplitsValid, next_splits, next_splits_valid}
use Rattle.index.specs.Buckets.{counted}
use Rattle.index.specs.Indexed.{Index, row_found, node_in}
use Rattle.index.proofs.Entries.{block_back, node_found_there}
use Rattle.walk.specs.declared.Stretch.{Stretch}
use Rattle.walk.specs.declared.Trail.{Trail}
use Rattle.walk.specs.Trails.{continued, through, followed, only_directory, walk_within, walked_from, link_walked, row_of, row_there, Ready}
use Rattle.walk.proofs.Found.{Walkable, GoodTarget, good_target, numbered, sound_walkable}
use Rattle.walk.proofs.Legs.{jump_within, onward, walk_legs}
use Rattle.walk.proofs.Ends.{Ends, walk_ends}
use Rattle.walk.proofs.Continues.{continued_link, refused_leg, stopped_leg, next_leg}
use Rattle.walk.proofs.Answers.{stops_there, follows_link, stopped_at, stopped_by_slash, ninth_link, one_link}

-- A NAME IS MET

pub name_fits : (path : List ℕ) (start size : ℕ) → ((i : ℕ) → get_or path i 0 < 256) → valid_name (take size (drop start path)) ≡ true →
    NameFits (take size (drop start path))
name_fits path start size bytes v =
    valid_fits (take size (drop start path))
    (record { valid = v; bytes = each_take size (each_drop start (each_by_place path 0 (λ i h. bytes i))) })

-- what is known of a name that comes next
pub record NextName (path : List ℕ) (at start size : ℕ) : Type 0 where
  pub split : SplitsValid path at start size
  pub inside : start + size ≤ length path
  pub onward : at < start + size
  pub short : size ≤ longest_name
  pub back : name_of (block_of (take size (drop start path))) ≡ take size (drop start path)
  pub named : Named (block_of (take size (drop start path)))

pub next_name_met : (path : List ℕ) (at start size : ℕ) → ((i : ℕ) → get_or path i 0 < 256) → valid_names (drop at path) ≡ true →
    next path at ≡ Some (record { start = start; length = size }) → NextName path at start size
next_name_met path at start size bytes v e =
    let s = next_splits path at start size e in
    let u = next_splits_valid path at start size v e in
    let fits = name_fits path start size bytes u.valid in
    let there = model_words.name_back fits in
    let long = s.long in
    let short = fits.short in
    record {
      split = u;
      inside = s.inside;
      onward = s.onward;
      short = omega arith;
      back = name_back (take size (drop start path)) there;
      named = block_named (take size (drop start path)) there;
    }

-- the block names its name, so that a place is the same either way
pub place_there_and_back : (d : ℕ) (b : Block) → Named b → place_row (place_of d b) ≡ record { directory = d; name = b }
unfolding place_row place_of
place_there_and_back d b n = λ i. record { directory = d; name = block_back b n i }

-- the names that are left, where the next is known by its block
module _ (path : List ℕ) (at start size : ℕ) (n : NextName path at start size) (b : Block) (e : b ≡ block_of (take size (drop start path))) where
  pub block_names : Named b
  block_names = subst Named (sym e) n.named

  pub names_from : names (drop at path) ≡ name_of b ∷ names (drop (start + size) path)
  names_from = n.split.name ∙ ap (λ (m : Name). m ∷ names (drop (start + size) path)) (sym (ap name_of e ∙ n.back))

  pub last_of_names : start + size ≡ length path → names (drop at path) ≡ name_of b ∷ []
  last_of_names end = names_from ∙ ap (λ (l : List Name). name_of b ∷ l) (n.split.last end)

  pub more_names : start + size ≢ length path → names (drop (start + size) path) ≢ []
  more_names end none_left =
      let some_part = sym (n.split.more end ∙ parts_split (drop (start + size + 1) path)) ∙ none_left in
      let z : ◌≡◌ {A = ℕ} 0 1 = cc in omega arith

-- ONE NAME IS RESOLVED

-- the directory is a node
pub in_no_directory : {w : List ℕ} {index : Index} {t : Trail} → Ready w index t → t.node ≢ 0
unfolding is_directory node_at
in_no_directory {w} ready z = let no : is_directory (unpack w).nodes 0 ≡ true = rw z at ready.there in true≢false (sym no)

-- the node of the row that was found is the one that the name leads to
pub node_met : {w : List ℕ} {index : Index} {t : Trail} → Ready w index t → (b : Block) {found node : ℕ} → found ≡ row_found w (place_of t.node b) →
    node ≡ node_in w found → node ≡ lookup (unpack w).entries (place_of t.node b)
unfolding place_of
node_met {w} {t = t} ready b e f = f ∙ rw e (node_found_there w (place_of t.node b) (in_no_directory ready) ready.indexed.distinct)

-- where no entry is, no link is
pub nothing_found : (w : List ℕ) (node : ℕ) {found : Option ℕ} → node ≡ node_in w (counted found) → found ≡ None → (node_at (unpack w).nodes node).kind ≢ a_link
unfolding node_in
nothing_found w node e f k = numbered (unpack w).nodes node (λ z. omega (arith, k, z)) (rw f at e)

row_told : (w : List ℕ) (q : model_tables.Place) {found : Option ℕ} → counted found ≡ row_found w q → found ≡ row_there w q
unfolding row_there row_of
row_told w q {found = None} e = rw (← e)
row_told w q {found = Some row} e = rw (← e)

-- a link followed alone, by the row of its entry and by its place
link_alone : (w : List ℕ) (t : Trail) (b : Block) (target : List ℕ) →
    link_walked w t (row_there w (place_of t.node b)) target
    ≡ continued (row_there w) t (follow (jump_within (unpack w).entries (unpack w).nodes true (8 - t.count)) (place_of t.node b) target []).outcome
unfolding link_walked walked_from continued place_of
link_alone w t b target = go (ltb t.count 8) refl
  where
    place : model_tables.Place
    place = place_of t.node b

    alone : Outcome Goal
    alone = (follow (jump_within (unpack w).entries (unpack w).nodes true (8 - t.count)) place target []).outcome

    inside : Outcome Goal
    inside = walk_within (unpack w).entries (unpack w).nodes true (8 - (t.count + 1)) (start t.node target) (names target)

    go : (free : Bool) → ltb t.count 8 ≡ free → link_walked w t (row_there w place) target ≡ continued (row_there w) t alone
    go true e =
        let few = ltb-true t.count 8 e in
        simp (e, link_walked) (continued_link (row_there w) t place (start t.node target) inside
        ∙ ap (continued (row_there w) t) (one_link (unpack w).entries (unpack w).nodes (8 - t.count) (8 - (t.count + 1)) place target (omega arith)))
    go false e =
        let full = ltb-false t.count 8 e in
        simp (e, link_walked) (ap (continued (row_there w) t) (sym (ninth_link (unpack w).entries (unpack w).nodes (8 - t.count) place target (omega arith))))

module _ (w : List ℕ) (walkable : Walkable (unpack w).entries (unpack w).nodes) (t : Trail) (b : Block) (node : ℕ)
    (there : node ≡ lookup (unpack w).entries (place_of t.node b)) (follow_last : Bool) where
  abbrev place : model_tables.Place
  place = place_of t.node b

  pub resolves_link : (found : Option ℕ) {r : Result Stretch ℕ} → counted found ≡ row_found w place → follow_last ≡ true → (node_at (unpack w).nodes node).kind ≡ a_link →
      r ≡ link_walked w t found (node_at (unpack w).nodes node).target → r ≡ walked_from w follow_last t (name_of b ∷ [])
  unfolding walked_from place_of
  resolves_link found same f kind e =
      let link_there = ap (λ (n : ℕ). (node_at (unpack w).nodes n).kind) (sym there) ∙ kind in
      e ∙ rw (row_told w place same, there) (link_alone w t b (node_at (unpack w).nodes (lookup (unpack w).entries place)).target)
      ∙ ap (continued (row_there w) t) (sym (follows_link (unpack w).entries (unpack w).nodes walkable follow_last (8 - t.count) place f link_there))

  pub stops_at_entry : Named b → ((node_at (unpack w).nodes node).kind ≢ a_link) ⊎ (follow_last ≡ false) →
      Ok (record { end = Some (record { directory = t.node; name = b }); trail = record { node = node; count = t.count; rows = t.rows } })
      ≡ walked_from w follow_last t (name_of b ∷ [])
  unfolding walked_from place_of
  stops_at_entry named c =
      let same = sym (place_there_and_back t.node b named) in
      let no_link : ((node_at (unpack w).nodes (lookup (unpack w).entries place)).kind ≢ a_link) ⊎ (follow_last ≡ false) = rw there at c in
      let alone = stops_there (unpack w).entries (unpack w).nodes walkable follow_last (8 - t.count) place no_link in
      (λ i. Ok (record { end = Some (same i); trail = record { node = there i; count = t.count; rows = t.rows } }))
      ∙ stopped_at (row_there w) t place (lookup (unpack w).entries place) ∙ ap (continued (row_there w) t) (sym alone)

-- NAMES ONE AFTER THE OTHER

-- Where the loop over names stands: what is left of the path, from the trail, comes to what the whole of it comes to.
pub record Walking (w : List ℕ) (index : Index) (path : List ℕ) (follow_last : Bool) (from : Trail) (at : ℕ) (trail : Trail) : Type 0 where
  pub ready : Ready w index trail
  pub valid : valid_names (drop at path) ≡ true
  pub more : from.count ≤ trail.count
  pub same : walked_from w follow_last trail (names (drop at path)) ≡ walked_from w follow_last from (names path)

-- What the loop knows where it has resolved a name alone.
pub record Met (w path : List ℕ) (follow_last : Bool) (at : ℕ) (trail : Trail) (start size : ℕ) (met : Result Stretch ℕ) : Type 0 where
  pub name : NextName path at start size
  pub block : Block
  pub made : block ≡ block_of (take size (drop start path))
  pub follow : Bool
  pub asked : follow ≡ followed (eqb (start + size) (length path)) follow_last
  pub is : met ≡ walked_from w follow trail (name_of block ∷ [])

two_legs : (w : List ℕ) → Walkable (unpack w).entries (unpack w).nodes → (follow_last : Bool) (k d : ℕ) (n : Name) (rest : List Name) → rest ≢ [] →
    is_directory (unpack w).nodes d ≡ true →
    walk_within (unpack w).entries (unpack w).nodes follow_last k d (n ∷ rest)
    ≡ (walk_within (unpack w).entries (unpack w).nodes true k d (n ∷ []) >>= onward (unpack w).entries (unpack w).nodes follow_last k rest)
two_legs w walkable follow_last k d n [] more e = absurd (more refl)
two_legs w walkable follow_last k d n (m ∷ rest) more e = walk_legs (unpack w).entries (unpack w).nodes walkable follow_last k d (n ∷ []) m rest e

module _ {w : List ℕ} {index : Index} {path : List ℕ} {follow_last : Bool} {from : Trail} {at : ℕ} {trail : Trail} (walking : Walking w index path follow_last from at trail) where
  -- no name is left
  pub stops_by_slash : names (drop at path) ≡ [] →
      Ok (record { end = None; trail = trail }) ≡ walked_from w follow_last from (names path)
  unfolding walked_from
  stops_by_slash none_left =
      stopped_by_slash (row_there w) trail (unpack w).entries (unpack w).nodes follow_last (8 - trail.count) (names (drop at path)) none_left
      ∙ walking.same

  module _ {start size : ℕ} {met : Result Stretch ℕ} (m : Met w path follow_last at trail start size met) where
    resolved : {last : Bool} → eqb (start + size) (length path) ≡ last → met ≡ walked_from w (followed last follow_last) trail (name_of m.block ∷ [])
    resolved h =
        m.is ∙ ap (λ (l : Bool). walked_from w l trail (name_of m.block ∷ [])) (m.asked ∙ ap (λ (l : Bool). followed l follow_last) h)

    -- it is the last name
    pub last_resolved : eqb (start + size) (length path) ≡ true → met ≡ walked_from w follow_last from (names path)
    unfolding followed
    last_resolved end =
        let only = last_of_names path at start size m.name m.block m.made (eqb-true (start + size) (length path) end) in
        resolved end ∙ ap (walked_from w follow_last trail) (sym only) ∙ walking.same

    -- others come behind it: it is a first leg
    module _ (end : eqb (start + size) (length path) ≡ false) where
      abbrev others : List Name
      others = names (drop (start + size) path)

      abbrev First : Outcome Goal
      First = walk_within (unpack w).entries (unpack w).nodes true (8 - trail.count) trail.node (name_of m.block ∷ [])

      walkable : Walkable (unpack w).entries (unpack w).nodes
      walkable = sound_walkable w walking.ready.sound

      first_leg : met ≡ continued (row_there w) trail First
      unfolding followed walked_from
      first_leg = resolved end

      ends : Ends (8 - trail.count) First
      ends =
          walk_ends (unpack w).entries (unpack w).nodes walkable true (8 - trail.count) trail.node (name_of m.block ∷ [])
          (λ z. let y : ◌≡◌ {A = ℕ} 0 1 = cc in absurd (omega arith))

      both : continued (row_there w) trail (First >>= onward (unpack w).entries (unpack w).nodes follow_last (8 - trail.count) others)
          ≡ walked_from w follow_last from (names path)
      unfolding walked_from
      both =
          let more = more_names path at start size m.name m.block m.made (eqb-false (start + size) (length path) end) in
          let legs = two_legs w walkable follow_last (8 - trail.count) trail.node (name_of m.block) others more walking.ready.there in
          ap (continued (row_there w) trail) (sym legs) ∙ ap (walked_from w follow_last trail) (sym (names_from path at start size m.name m.block m.made))
          ∙ walking.same

      refused_first : {n : ℕ} → Err n ≡ met → Err n ≡ walked_from w follow_last from (names path)
      refused_first e = refused_leg (row_there w) (unpack w).entries (unpack w).nodes follow_last others trail First (e ∙ first_leg) ∙ both

      stopped_first : {r : Stretch} {n : ℕ} → Ok r ≡ met → only_directory (unpack w).nodes r.trail.node ≡ Err n → Err n ≡ walked_from w follow_last from (names path)
      stopped_first e s = stopped_leg (row_there w) (unpack w).entries (unpack w).nodes follow_last others trail First (e ∙ first_leg) s ∙ both

      walks_on_first : {r : Stretch} → Ok r ≡ met → only_directory (unpack w).nodes r.trail.node ≡ Ok tt →
          Walking w index path follow_last from (start + size) r.trail
      unfolding walked_from
      walks_on_first e s =
          let on = next_leg (row_there w) (unpack w).entries (unpack w).nodes follow_last others trail walking.ready.few First ends (e ∙ first_leg) s in
          record {
            ready = record { sound = walking.ready.sound; indexed = walking.ready.indexed; there = on.directory; few = on.few };
            valid = m.name.split.others_valid;
            more = omega (arith, walking.more, on.more);
            same = on.same ∙ both;
          }

  -- what comes of it: refused, at an end, or onward
  module _ {start size : ℕ} where
    pub refused_whole : {n : ℕ} → Met w path follow_last at trail start size (Err n) → Err n ≡ walked_from w follow_last from (names path)
    refused_whole {n = n} m = go (eqb (start + size) (length path)) refl
      where
        go : (last : Bool) → eqb (start + size) (length path) ≡ last → Err n ≡ walked_from w follow_last from (names path)
        go true e = last_resolved m e
        go false e = refused_first m e refl

    pub stopped_on_the_way : {r : Stretch} {n : ℕ} → Met w path follow_last at trail start size (Ok r) → eqb (start + size) (length path) ≡ false →
        only_directory (unpack w).nodes r.trail.node ≡ Err n → Err n ≡ walked_from w follow_last from (names path)
    stopped_on_the_way m end s = stopped_first m end refl s

    pub walks_on : {r : Stretch} → Met w path follow_last at trail start size (Ok r) → eqb (start + size) (length path) ≡ false →
        only_directory (unpack w).nodes r.trail.node ≡ Ok tt → Walking w index path follow_last from (start + size) r.trail
    walks_on m end s = walks_on_first m end refl s

-- A LINK IS FOLLOWED

-- the target as the code has it
pub record TargetRead (w : List ℕ) (node n : ℕ) (bytes : List ℕ) : Type 0 where
  pub good : GoodTarget (node_at (unpack w).nodes node).target
  pub count : n ≡ length (node_at (unpack w).nodes node).target
  pub room : length bytes ≡ longest_target
  pub whole : take n bytes ≡ (node_at (unpack w).nodes node).target
  pub first : get_or bytes 0 0 ≡ get_or (node_at (unpack w).nodes node).target 0 0

module _ (w : List ℕ) (walkable : Walkable (unpack w).entries (unpack w).nodes) (node : ℕ) (kind : (node_at (unpack w).nodes node).kind ≡ a_link) where
  pub link_in_range : (node ≢ 0) × (node ≤ node_rows)
  unfolding free_node
  link_in_range =
      let used : free_node (node_at (unpack w).nodes node) ≡ false = rw kind in
      let range = used_in_range (unpack w).nodes node used in
      (range.0, omega (arith, nodes_full w, range.1))

  pub target_read : (n : ℕ) (bytes : List ℕ) → n ≡ length (node_row w (node - 1)).target → bytes ≡ filled longest_target (node_row w (node - 1)).target →
      TargetRead w node n bytes
  target_read n bytes p q =
      let same = node_in_row (unpack w).nodes node (let z = link_in_range.0 in omega arith) in
      let target = (node_at (unpack w).nodes node).target in
      let good = good_target target (walkable.target node kind) in
      let count : n ≡ length target = p ∙ ap (λ (x : Node). length x.target) (sym same) in
      let filled_is : bytes ≡ filled longest_target target = q ∙ ap (λ (x : Node). filled longest_target x.target) (sym same) in
      let whole : take n bytes ≡ target = (λ i. take (count i) (filled_is i)) ∙ filled_front longest_target target good.short in
      record {
        good = good;
        count = count;
        room = ap length filled_is ∙ filled_length longest_target target;
        whole = whole;
        first = sym (first_of_part n bytes (omega (arith, good.long))) ∙ ap (λ (l : List ℕ). get_or l 0 0) whole;
      }
    where
      first_of_part : (n : ℕ) (bytes : List ℕ) → 1 ≤ n → get_or (take n bytes) 0 0 ≡ get_or bytes 0 0
      first_of_part zero bytes h = absurd (omega arith)
      first_of_part (suc n) [] h = refl
      first_of_part (suc n) (c ∷ bytes) h = refl

pub started : (d : ℕ) (target : List ℕ) (first s : ℕ) → first ≡ get_or target 0 0 → s ≡ elim (eqb first slash) as (λ _. ℕ) [ true ↦ 1 | false ↦ d ] → s ≡ start d target
unfolding start absolute
started d target first s e f = f ∙ ap (λ (c : ℕ). elim (eqb c slash) as (λ _. ℕ) [ true ↦ 1 | false ↦ d ]) e

module _ (w : List ℕ) (t : Trail) (found : Option ℕ) (target : List ℕ) where
  pub no_link_left : 8 ≤ t.count → Err 7 ≡ link_walked w t found target
  unfolding link_walked
  no_link_left full = sym (simp (le-ltb t.count 8 full, link_walked))

  -- from what the code computed for it
  pub follows_target : t.count < 8 → {u : Trail} {s : ℕ} {bytes : List ℕ} {r : Result Stretch ℕ} → u ≡ through t found s → s ≡ start t.node target → bytes ≡ target →
      r ≡ walked_from w true u (names bytes) → r ≡ link_walked w t found target
  unfolding link_walked
  follows_target free e f g h = h ∙ rw (e, f, g) (sym (simp (lt-ltb t.count 8 free, link_walked)))

  -- the trail is fit for the target's names
  pub ready_inside : {index : Index} {s : ℕ} → s ≡ start t.node target → Ready w index t → t.count < 8 → Ready w index (through t found s)
  ready_inside e ready free =
      record {
        sound = ready.sound;
        indexed = ready.indexed;
        there = rw e (start_directory (unpack w).nodes t.node target (sound_walkable w ready.sound).top ready.there);
        few = omega arith;
      }
