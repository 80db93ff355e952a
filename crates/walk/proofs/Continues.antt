-- A walk goes on behind the links followed before: what the code keeps of them is what the model puts in front. Assumes nothing.
use mathlib.Core.Path.{◌≡◌, refl, sym, ap, ◌∙◌}
use mathlib.Core.Bool.{Bool, true, false}
use mathlib.Core.List.{List, [], ◌∷◌, ◌++◌, map}
use Prim.Native.Nat.{ℕ, zero, suc, ◌+◌, ◌-◌, ◌≤◌}
use native.Mathlib.Omega.{arith}
use native.Mathlib.Numerals.{add-one}
use lib.Dec.{eqb}
use lib.ListN.{length, set, drop, replicate, length-replicate}
use lib.Seq.{sets, sets-eq}
use Rattle.std.specs.Prelude.{Option, Result, Ok, Err}
use Rattle.model.specs.Refusals.{Outcome, refused, granted, ◌>>=◌}
use Rattle.model.specs.Paths.{Name}
use Rattle.model.specs.Tables.{Place, Entry, Node, a_directory, node_at, is_directory}
use Rattle.model.specs.Walk.{Goal, past}
use Rattle.walk.specs.declared.Stretch.{Stretch}
use Rattle.walk.specs.declared.Trail.{Trail}
use Rattle.walk.specs.Trails.{end_row, trail_after, continued, through, by_kind, only_directory, walk_within}
use Rattle.walk.proofs.Legs.{prefixed, entered, onward, enter_directory}
use Rattle.walk.proofs.Ends.{Ends}

prefixed_refused : (es : List Place) (n : ℕ) → prefixed es (refused n) ≡ refused n
unfolding prefixed past
prefixed_refused [] n = refl
prefixed_refused (q ∷ es) n = ap (past q) (prefixed_refused es n)

module _ (row : Place → Option ℕ) where
  -- ONE LINK MORE

  trail_after_one : (t : Trail) (q : Place) (begin n : ℕ) (es : List Place) → trail_after row (through t (row q) begin) n es ≡ trail_after row t n (q ∷ es)
  unfolding trail_after
  trail_after_one t q begin n es =
      let many : t.count + 1 + length es ≡ t.count + suc (length es) = omega arith in
      let room : sets (set t.rows t.count (row q)) (t.count + 1) (map row es) ≡ sets (set t.rows t.count (row q)) (suc t.count) (map row es)
      = rw (add-one) in
      λ i. record { node = n; count = many i; rows = room i }

  pub continued_link : (t : Trail) (q : Place) (begin : ℕ) (o : Outcome Goal) → continued row (through t (row q) begin) o ≡ continued row t (past q o)
  unfolding continued past
  continued_link t q begin (refused n) = refl
  continued_link t q begin (granted g) = ap (λ (u : Trail). Ok (record { end = end_row g.end; trail = u })) (trail_after_one t q begin g.node g.elements)

  -- ALL LINKS OF A FIRST LEG

  -- where the walk stands does not show in what it has followed
  trail_after_none : (t : Trail) (n : ℕ) (o : Outcome Goal) → continued row (trail_after row t n []) o ≡ continued row t o
  unfolding continued trail_after
  trail_after_none t n (refused m) = refl
  trail_after_none t n (granted g) = let e : t.count + 0 ≡ t.count = omega arith in rw e

  continued_leg : (t : Trail) (n : ℕ) (es : List Place) (o : Outcome Goal) → continued row (trail_after row t n es) o ≡ continued row t (prefixed es o)
  unfolding prefixed
  continued_leg t n [] o = trail_after_none t n o
  continued_leg t n (q ∷ es) o =
      ap (λ (u : Trail). continued row u o) (sym (trail_after_one t q n n es)) ∙ continued_leg (through t (row q) n) n es o
      ∙ continued_link t q n (prefixed es o)

-- ENTERING A NODE, by what `only_directory` answers

module _ (entries : List Entry) (nodes : List Node) (n : ℕ) where
  not_entered : (follow_last : Bool) (k : ℕ) (rest : List Name) {m : ℕ} → only_directory nodes n ≡ Err m → entered entries nodes follow_last k n rest ≡ refused m
  unfolding entered by_kind
  not_entered follow_last k rest {m} e = go (eqb (node_at nodes n).kind 0) (eqb (node_at nodes n).kind a_directory) e
    where
      go : (none_there its_directory : Bool)
          → ◌≡◌ {A = Result (Unit {0}) ℕ}
          (elim none_there as (λ _. Result (Unit {0}) ℕ) [ true ↦ Err 8 | false ↦ elim its_directory as (λ _. Result (Unit {0}) ℕ) [ true ↦ Ok tt | false ↦ Err 9 ] ]) (Err m)
          → elim none_there as (λ _. Outcome Goal) [
            | true ↦ refused 8
            | false ↦ elim its_directory as (λ _. Outcome Goal) [ true ↦ walk_within entries nodes follow_last k n rest | false ↦ refused 9 ]
          ]
          ≡ refused m
      go true d e = let same : 8 ≡ m = cc in ap refused same
      go false true e = let z : ◌≡◌ {A = ℕ} 0 1 = cc in absurd (omega arith)
      go false false e = let same : 9 ≡ m = cc in ap refused same

  enters : only_directory nodes n ≡ Ok tt → is_directory nodes n ≡ true
  unfolding by_kind is_directory
  enters e = go (eqb (node_at nodes n).kind 0) (eqb (node_at nodes n).kind a_directory) e
    where
      go : (none_there its_directory : Bool)
          → ◌≡◌ {A = Result (Unit {0}) ℕ}
          (elim none_there as (λ _. Result (Unit {0}) ℕ) [ true ↦ Err 8 | false ↦ elim its_directory as (λ _. Result (Unit {0}) ℕ) [ true ↦ Ok tt | false ↦ Err 9 ] ]) (Ok tt)
          → its_directory ≡ true
      go true d e = let z : ◌≡◌ {A = ℕ} 0 1 = cc in absurd (omega arith)
      go false true e = refl
      go false false e = let z : ◌≡◌ {A = ℕ} 0 1 = cc in absurd (omega arith)

-- HOW A LEG ENDED

module _ (row : Place → Option ℕ) (entries : List Entry) (nodes : List Node) (follow_last : Bool) (rest : List Name) (t : Trail) where
  -- the links that were left
  abbrev k : ℕ
  k = 8 - t.count

  -- both legs, of which the first came to o
  abbrev pub BothLegs : Outcome Goal → Outcome Goal
  BothLegs o = o >>= onward entries nodes follow_last k rest

  -- a first leg that was refused
  pub refused_leg : (o : Outcome Goal) {n : ℕ} → Err n ≡ continued row t o → Err n ≡ continued row t (BothLegs o)
  unfolding continued ◌>>=◌
  refused_leg (refused m) e = e
  refused_leg (granted g) e = let z : ◌≡◌ {A = ℕ} 0 1 = cc in absurd (omega arith)

  -- what the code has of a first leg that came to g
  came_to : (g : Goal) {met : Stretch} → Ok met ≡ continued row t (granted g) → met.trail ≡ trail_after row t g.node g.elements
  unfolding continued
  came_to g {met} e = let same : met ≡ record { end = end_row g.end; trail = trail_after row t g.node g.elements } = cc in ap (λ (r : Stretch). r.trail) same

  -- one behind which the walk cannot go on
  pub stopped_leg : (o : Outcome Goal) {met : Stretch} {n : ℕ} → Ok met ≡ continued row t o → only_directory nodes met.trail.node ≡ Err n →
      Err n ≡ continued row t (BothLegs o)
  unfolding continued ◌>>=◌ onward trail_after
  stopped_leg (refused m) e s = let z : ◌≡◌ {A = ℕ} 0 1 = cc in absurd (omega arith)
  stopped_leg (granted g) {n = n} e s =
      let node = ap (λ (u : Trail). u.node) (came_to g e) in
      let none_entered = not_entered entries nodes g.node follow_last (k - length g.elements) rest (rw node at s) in
      rw (none_entered, prefixed_refused g.elements n)

  -- what the code has of a leg behind which the walk goes on
  pub record NextLeg (o : Outcome Goal) (met : Trail) : Type 0 where
    pub directory : is_directory nodes met.node ≡ true
    pub more : t.count ≤ met.count
    pub few : met.count ≤ 8
    pub same : continued row met (walk_within entries nodes follow_last (8 - met.count) met.node rest) ≡ continued row t (BothLegs o)

  pub next_leg : t.count ≤ 8 → (o : Outcome Goal) {met : Stretch} → Ends k o → Ok met ≡ continued row t o → only_directory nodes met.trail.node ≡ Ok tt → NextLeg o met.trail
  unfolding continued Ends ◌>>=◌ onward trail_after
  next_leg room (refused m) ends e s = let z : ◌≡◌ {A = ℕ} 0 1 = cc in absurd (omega arith)
  next_leg room (granted g) {met} ends e s =
      let trail = came_to g e in
      let directory = enters entries nodes g.node (rw (ap (λ (u : Trail). u.node) trail) at s) in
      let few = ends.few in
      let left : 8 - (t.count + length g.elements) ≡ k - length g.elements = omega arith in
      rw trail
      (record {
        directory = directory;
        more = omega arith;
        few = omega arith;
        same =
            rw left
            (ap (continued row (trail_after row t g.node g.elements))
            (sym (enter_directory entries nodes follow_last (k - length g.elements) g.node rest directory))
            ∙ continued_leg row t g.node g.elements (entered entries nodes follow_last (k - length g.elements) g.node rest));
      })

-- A WHOLE WALK

drop_replicate : {A : Type 0} (n k m : ℕ) (x : A) → m ≡ n - k → drop k (replicate n x) ≡ replicate m x
drop_replicate n zero m x e = let same : n ≡ m = omega arith in ap (λ (j : ℕ). replicate j x) same
drop_replicate zero (suc k) m x e = let same : 0 ≡ m = omega arith in ap (λ (j : ℕ). replicate j x) same
drop_replicate (suc n) (suc k) m x e = drop_replicate n k m x (omega arith)

-- a list that stands at the front of room for eight
pub front_of_room : {A : Type 0} (xs : List A) (blank : A) → length xs ≤ 8 → sets (replicate 8 blank) 0 xs ≡ xs ++ replicate (8 - length xs) blank
front_of_room xs blank short =
    sets-eq xs (replicate 8 blank) 0 (omega (arith, length-replicate 8 blank)) ∙ ap (λ l. xs ++ l) (drop_replicate 8 (0 + length xs) (8 - length xs) blank (omega arith))
