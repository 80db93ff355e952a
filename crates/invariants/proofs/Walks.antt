-- What a walk that is granted tells of where it stopped and of the links that it followed: every one of these places is in a directory, and
-- the node given is the one that the end entry leads to. Assumes nothing.
use mathlib.Core.Path.{◌≡◌, refl, sym, ◌∙◌}
use mathlib.Core.Bool.{Bool, true, false, true≢false}
use mathlib.Core.Logic.{◌≢◌}
use mathlib.Core.List.{List, [], ◌∷◌, ◌++◌}
use mathlib.Core.Option.{Option, none, some}
use Prim.Native.Nat.{ℕ, zero, suc}
use native.Mathlib.Omega.{arith}
use lib.Dec.{eqb}
use borrow.Author.Tests.{eqb-true}
use Rattle.model.specs.Refusals.{Outcome, refused, granted}
use Rattle.model.specs.Paths.{Name, names, absolute}
use Rattle.model.specs.Tables.{Place, Entry, Node, a_file, a_directory, node_at, is_directory, lookup}
use Rattle.model.specs.Walk.{Goal, Found, nothing, file, directory, link, found_node, found, Trip, here, astray, past, after_link, start, follow, turn, trip_names, trip_within, trip, walk}
use Rattle.laws.proofs.Each.{Each, none, one, each_head, each_tail, each_append}

-- WHAT WAS FOUND

-- no directory has number 0
pub directory_not_zero : (nodes : List Node) (n : ℕ) → is_directory nodes n ≡ true → n ≢ 0
unfolding is_directory node_at
directory_not_zero nodes n e z = let w : false ≡ true = rw z at e in true≢false (sym w)

-- a directory was found: it is the node that the entry leads to
pub record LeadsToDirectory (entries : List Entry) (nodes : List Node) (q : Place) (n : ℕ) : Type 0 where
  pub there : lookup entries q ≡ n
  pub kind : is_directory nodes n ≡ true

pub found_directory : (entries : List Entry) (nodes : List Node) (q : Place) (n : ℕ) → found entries nodes q ≡ directory n →
    LeadsToDirectory entries nodes q n
unfolding found found_node is_directory
found_directory entries nodes q n = go (eqb at 0) (eqb x.kind a_file) (eqb x.kind a_directory) refl
  where
    at : ℕ
    at = lookup entries q

    x : Node
    x = node_at nodes at

    go : (none_there its_file its_directory : Bool) → eqb x.kind a_directory ≡ its_directory →
        elim none_there as (λ _. Found) [
          | true ↦ nothing
          | false ↦
              elim its_file as (λ _. Found) [
                | true ↦ file at
                | false ↦ elim its_directory as (λ _. Found) [ true ↦ directory at | false ↦ link at x.target ]
              ]
        ]
        ≡ directory n →
        LeadsToDirectory entries nodes q n
    go true a b e f = let z : ◌≡◌ {A = ℕ} 0 1 = cc in absurd (omega arith)
    go false true b e f = let z : ◌≡◌ {A = ℕ} 0 1 = cc in absurd (omega arith)
    go false false true e f = let same : at ≡ n = cc in record { there = same; kind = rw (← same) e }
    go false false false e f = let z : ◌≡◌ {A = ℕ} 0 1 = cc in absurd (omega arith)

-- the node that was found, 0 for nothing
abbrev node_of : Found → ℕ
node_of nothing = 0
node_of (file n) = n
node_of (directory n) = n
node_of (link n target) = n

found_there : (entries : List Entry) (nodes : List Node) (q : Place) → node_of (found entries nodes q) ≡ lookup entries q
unfolding found found_node
found_there entries nodes q = go (eqb at 0) refl (eqb x.kind a_file) (eqb x.kind a_directory)
  where
    at : ℕ
    at = lookup entries q

    x : Node
    x = node_at nodes at

    go : (none_there : Bool) → eqb at 0 ≡ none_there → (its_file its_directory : Bool) →
        node_of
        (elim none_there as (λ _. Found) [
          | true ↦ nothing
          | false ↦
              elim its_file as (λ _. Found) [
                | true ↦ file at
                | false ↦ elim its_directory as (λ _. Found) [ true ↦ directory at | false ↦ link at x.target ]
              ]
        ])
        ≡ at
    go true e a b = sym (eqb-true at 0 e)
    go false e true b = refl
    go false e false true = refl
    go false e false false = refl

-- a link was found: some entry leads there
pub found_link : (entries : List Entry) (nodes : List Node) (q : Place) (n : ℕ) (target : List ℕ) → found entries nodes q ≡ link n target →
    lookup entries q ≢ 0
unfolding found found_node
found_link entries nodes q n target e z = let w : nothing ≡ link n target = rw z at e in let y : ◌≡◌ {A = ℕ} 0 1 = cc in omega arith

-- a target is walked from a directory
pub start_directory : (nodes : List Node) (d : ℕ) (target : List ℕ) → is_directory nodes 1 ≡ true → is_directory nodes d ≡ true →
    is_directory nodes (start d target) ≡ true
unfolding start
start_directory nodes d target top e = go (absolute target)
  where
    go : (b : Bool) → is_directory nodes (elim b as (λ _. ℕ) [ true ↦ 1 | false ↦ d ]) ≡ true
    go true = top
    go false = e

-- THE PLACES OF A WALK

-- a place in a directory; `Valid` is what is asked of names
pub record Stands (Valid : Name → Type 0) (nodes : List Node) (q : Place) : Type 0 where
  pub directory : is_directory nodes q.directory ≡ true
  pub name : Valid q.name

-- where the walk stopped: at node 1 by `/`, a directory, or at a place that leads to the node given
abbrev pub Stopped : (Name → Type 0) → List Entry → List Node → Option Place → ℕ → Type 0
Stopped Valid entries nodes none n = is_directory nodes n ≡ true
Stopped Valid entries nodes (some q) n = Stands Valid nodes q × (lookup entries q ≡ n)

pub record Arrived (Valid : Name → Type 0) (entries : List Entry) (nodes : List Node) (g : Goal) : Type 0 where
  pub end : Stopped Valid entries nodes g.end g.node
  pub elements : Each (Stands Valid nodes) g.elements
  pub present : Each (λ q. lookup entries q ≢ 0) g.elements

abbrev Fine : (Name → Type 0) → List Entry → List Node → Outcome Goal → Type 0
Fine Valid entries nodes (refused n) = Unit {0}
Fine Valid entries nodes (granted g) = Arrived Valid entries nodes g

-- `targets`: the names of a link that is found are valid
module _ (Valid : Name → Type 0) (entries : List Entry) (nodes : List Node) (top : is_directory nodes 1 ≡ true)
    (targets : (q : Place) (n : ℕ) (target : List ℕ) → found entries nodes q ≡ link n target → Each Valid (names target)) where
  past_fine : (q : Place) (w : Outcome Goal) → Stands Valid nodes q → lookup entries q ≢ 0 → Fine Valid entries nodes w →
      Fine Valid entries nodes (past q w)
  unfolding past
  past_fine q (refused n) s there f = tt
  past_fine q (granted g) s there f = record { end = f.end; elements = one s f.elements; present = one there f.present }

  here_fine : (q : Place) (n : ℕ) → Stands Valid nodes q → lookup entries q ≡ n → Fine Valid entries nodes (here q n).outcome
  unfolding here
  here_fine q n s e = record { end = (s, e); elements = none; present = none }

  module _ (jump : ℕ → List Name → Trip)
      (jump_fine : (d : ℕ) (ns : List Name) → is_directory nodes d ≡ true → Each Valid ns → Fine Valid entries nodes (jump d ns).outcome) where
    follow_fine : (q : Place) (n : ℕ) (target : List ℕ) (rest : List Name) → Stands Valid nodes q → Each Valid rest →
        found entries nodes q ≡ link n target → Fine Valid entries nodes (follow jump q target rest).outcome
    unfolding follow after_link
    follow_fine q n target rest s valid e =
        past_fine q (jump (start q.directory target) (names target ++ rest)).outcome s (found_link entries nodes q n target e)
        (jump_fine (start q.directory target) (names target ++ rest) (start_directory nodes q.directory target top s.directory)
        (each_append (targets q n target e) valid))

    turn_fine : (last : Bool) (on : ℕ → Trip) (q : Place) (f : Found) (rest : List Name) → found entries nodes q ≡ f →
        Stands Valid nodes q → Each Valid rest → ((n : ℕ) → is_directory nodes n ≡ true → Fine Valid entries nodes (on n).outcome) →
        Fine Valid entries nodes (turn jump on last q f rest).outcome
    unfolding turn astray
    turn_fine last on q nothing [] e s v h = here_fine q 0 s (sym (found_there entries nodes q) ∙ rw e)
    turn_fine last on q nothing (next ∷ rest) e s v h = tt
    turn_fine last on q (file n) [] e s v h = here_fine q n s (sym (found_there entries nodes q) ∙ rw e)
    turn_fine last on q (file n) (next ∷ rest) e s v h = tt
    turn_fine last on q (directory n) [] e s v h = here_fine q n s (sym (found_there entries nodes q) ∙ rw e)
    turn_fine last on q (directory n) (next ∷ rest) e s v h = h n (found_directory entries nodes q n e).kind
    turn_fine true on q (link n target) [] e s v h = follow_fine q n target [] s v e
    turn_fine false on q (link n target) [] e s v h = here_fine q n s (sym (found_there entries nodes q) ∙ rw e)
    turn_fine true on q (link n target) (next ∷ rest) e s v h = follow_fine q n target (next ∷ rest) s v e
    turn_fine false on q (link n target) (next ∷ rest) e s v h = follow_fine q n target (next ∷ rest) s v e

    names_fine : (last : Bool) (d : ℕ) (ns : List Name) → is_directory nodes d ≡ true → Each Valid ns →
        Fine Valid entries nodes (trip_names (found entries nodes) last jump d ns).outcome
    unfolding trip_names
    names_fine last d [] e v = record { end = e; elements = none; present = none }
    names_fine last d (name ∷ rest) e v =
        turn_fine last (λ n. trip_names (found entries nodes) last jump n rest) (record { directory = d; name = name })
        (found entries nodes (record { directory = d; name = name })) rest refl (record { directory = e; name = each_head v }) (each_tail v)
        (λ n f. names_fine last n rest f (each_tail v))

  within_fine : (last : Bool) (k d : ℕ) (ns : List Name) → is_directory nodes d ≡ true → Each Valid ns →
      Fine Valid entries nodes (trip_within (found entries nodes) last k d ns).outcome
  unfolding trip_within astray
  within_fine last zero d ns e v = names_fine (λ d rest. astray 7) (λ d rest h w. tt) last d ns e v
  within_fine last (suc k) d ns e v = names_fine (trip_within (found entries nodes) last k) (within_fine last k) last d ns e v

  pub walk_arrives : (last : Bool) (path : List ℕ) (g : Goal) → Each Valid (names path) → walk entries nodes last path ≡ granted g →
      Arrived Valid entries nodes g
  unfolding walk trip
  walk_arrives last path g valid e = rw e at (within_fine last 8 1 (names path) top valid)
