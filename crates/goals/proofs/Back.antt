-- What a walk answers tells the model's outcome again: a refusal its number, and a goal whose names fit comes back whole. Assumes nothing.
use mathlib.Core.Path.{◌≡◌, refl, sym, ap, ◌∙◌}
use mathlib.Core.Option.{Option, none, some}
use mathlib.Core.List.{List, ◌∷◌, map}
use Prim.Native.Nat.{ℕ, ◌-◌, ◌≤◌}
use native.Mathlib.Omega.{arith}
use lib.ListN.{length, take, replicate, length-map}
use lib.Seq.{take_at}
use Rattle.model.specs.Lists.{filled}
use Rattle.model.specs.Refusals.{Outcome, refused, granted}
use Rattle.model.specs.Tables as model_tables
use Rattle.model.specs.Walk.{Goal}
use Rattle.model.specs.Words.{bits, words, bytes, pack_name, unpack_name}
use Rattle.laws.proofs.Each.{Each, none, one, each_append, each_map, each_replicate}
use Rattle.laws.proofs.Words as model_words
use Rattle.laws.proofs.Words.{NameFits}
use Rattle.rows.specs.Blocks.{Named, name_of, place_of}
use Rattle.rows.proofs.Blocks.{name_back, block_named}
use Rattle.goals.specs.declared.Stop.TheVariants.{Refused}
use Rattle.goals.specs.declared.Walk.{Walk}
use Rattle.goals.specs.Goals.{place_row, blank, room_of, stop_of, walked, place_at, end_at, node_at_end, goal_of, StopNamed, PlaceNamed, WalkNamed}

-- what the code can hold of a goal: eight elements, names of a block, and by `/` node 1
pub record GoalFits (g : Goal) : Type 0 where
  pub root : g.end ≡ none → g.node ≡ 1
  pub few : length g.elements ≤ 8
  pub end : (q : model_tables.Place) → g.end ≡ some q → NameFits q.name
  pub elements : Each (λ (q : model_tables.Place). NameFits q.name) g.elements

unfoldable pub OutcomeFits : Outcome Goal → Type 0
OutcomeFits (refused n) = Unit {0}
OutcomeFits (granted g) = GoalFits g

-- A PLACE

place_back : (q : model_tables.Place) → NameFits q.name → place_at (place_row q) ≡ q
unfolding place_at place_row place_of
place_back q f = let e = name_back q.name (model_words.name_back f) in λ i. record { directory = q.directory; name = e i }

place_named : (q : model_tables.Place) → NameFits q.name → PlaceNamed (place_row q)
unfolding PlaceNamed place_row
place_named q f = block_named q.name (model_words.name_back f)

places_back : {es : List model_tables.Place} → Each (λ (q : model_tables.Place). NameFits q.name) es → map place_at (map place_row es) ≡ es
places_back none = refl
places_back (one {x = q} {xs = es} f fs) = λ i. place_back q f i ∷ places_back fs i

-- A GOAL

-- the elements stand in front of the blank room
elements_back : (es : List model_tables.Place) → Each (λ (q : model_tables.Place). NameFits q.name) es → map place_at (take (length es) (room_of es)) ≡ es
unfolding room_of
elements_back es fs =
    ap (map place_at) (take_at (map place_row es) (replicate (8 - length es) blank) (length es) (length-map es place_row)) ∙ places_back fs

pub goal_back : (g : Goal) → GoalFits g → goal_of (walked (granted g)) ≡ g
unfolding goal_of walked end_at stop_of node_at_end
goal_back g f =
    let front = end_back g.end refl in
    let node = node_back g.end refl in
    let back = elements_back g.elements f.elements in
    λ i. record { end = front i; node = node i; elements = back i }
  where
    end_back : (e : Option model_tables.Place) → g.end ≡ e → end_at (stop_of e g.node) ≡ e
    end_back none h = refl
    end_back (some q) h = ap some (place_back q (f.end q h))

    node_back : (e : Option model_tables.Place) → g.end ≡ e → node_at_end (stop_of e g.node) ≡ g.node
    node_back none h = sym (f.root h)
    node_back (some q) h = refl

-- AN OUTCOME

blank_named : PlaceNamed blank
unfolding PlaceNamed blank Named name_of pack_name unpack_name words bytes bits filled
blank_named = refl

pub walked_named : (o : Outcome Goal) → OutcomeFits o → WalkNamed (walked o)
unfolding walked OutcomeFits StopNamed PlaceNamed stop_of room_of
walked_named (refused n) f = record { stop = tt; few = omega arith; elements = each_replicate 8 blank blank_named }
walked_named (granted g) f =
    record {
      stop = go g.end refl;
      few = f.few;
      elements = each_append (each_map place_row place_named f.elements) (each_replicate (8 - length g.elements) blank blank_named);
    }
  where
    go : (e : Option model_tables.Place) → g.end ≡ e → StopNamed (stop_of e g.node)
    go none h = tt
    go (some q) h = place_named q (f.end q h)

module _ (o : Outcome Goal) (r : Walk) (e : r ≡ walked o) where
  stop_there : r.stop ≡ (walked o).stop
  stop_there = ap (λ (w : Walk). w.stop) e

  pub refused_back : (n : ℕ) → r.stop ≡ Refused n → o ≡ refused n
  unfolding walked stop_of
  refused_back n s = go o (sym stop_there ∙ s)
    where
      at_end : (q : Option model_tables.Place) (m : ℕ) (g : Goal) → stop_of q m ≡ Refused n → granted g ≡ refused n
      at_end none m g h = let z : ◌≡◌ {A = ℕ} 0 1 = cc in absurd (omega arith)
      at_end (some q) m g h = let z : ◌≡◌ {A = ℕ} 0 1 = cc in absurd (omega arith)

      go : (p : Outcome Goal) → (walked p).stop ≡ Refused n → p ≡ refused n
      go (refused m) h = let same : m ≡ n = cc in ap refused same
      go (granted g) h = at_end g.end g.node g h

  pub granted_back : OutcomeFits o → ((n : ℕ) → r.stop ≡ Refused n → ⊥) → o ≡ granted (goal_of r)
  unfolding walked OutcomeFits
  granted_back f s = go o f (ap goal_of e) (λ n h. s n (stop_there ∙ h))
    where
      go : (p : Outcome Goal) → OutcomeFits p → goal_of r ≡ goal_of (walked p) → ((n : ℕ) → (walked p).stop ≡ Refused n → ⊥) → p ≡ granted (goal_of r)
      go (refused n) f g h = absurd (h n refl)
      go (granted p) f g h = ap granted (sym (g ∙ goal_back p f))
