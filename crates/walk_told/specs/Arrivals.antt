-- A path walked over any words, and the walk's goal as numbers: for those who ask where a path leads and make no call. Assumes nothing.
use Rattle.std.specs.Prelude.{◌≡◌, Bool, not, Result, Ok, Err, List, ◌∷◌, ◌++◌, ℕ, ◌-◌, ◌*◌, length, replicate}
use Rattle.std.proofs.Math.Option.{Option, none, some}
use Rattle.model.specs.Lists.{joined}
use Rattle.model.specs.Refusals.{Outcome, refused, granted, ◌when◌, ◌>>◌}
use Rattle.model.specs.Paths.{valid_path}
use Rattle.model.specs.Tables as model_tables
use Rattle.model.specs.Walk.{Goal, walk}
use Rattle.model.specs.Words.{pack_name, unpack}
use Rattle.model.specs.Sound.{sound}
use Rattle.rows.specs.Blocks.{block_words}
use Rattle.goals.specs.declared.Place.{Place}
use Rattle.goals.specs.declared.Stop.{Stop}
use Rattle.goals.specs.declared.Stop.TheVariants as stop_cases
use Rattle.goals.specs.declared.Walk.{Walk}
use Rattle.goals.specs.Goals.{blank}

-- Numbers given back: the tables are tested first, then the path, and then comes what the walk itself refuses
unfoldable pub walking : List ℕ → List ℕ → Bool → Outcome Goal
walking w path follow_last = do
  1 when not (sound w)
  3 when not (valid_path path)
  walk (unpack w).entries (unpack w).nodes follow_last path

-- THE NUMBERS OF A GOAL: how many elements, the end entry, and room for the elements

abbrev pub goal_size : ℕ
goal_size = 46

-- a directory and the four words of a name block
abbrev pub place_size : ℕ
place_size = 5

abbrev pub most_elements : ℕ
most_elements = 8

-- where the elements start
abbrev pub elements_at : ℕ
elements_at = 6

-- BY THE MODEL

-- refused, or the node at the end, 0 for an absence
unfoldable pub arrival_of : Outcome Goal → Result ℕ ℕ
arrival_of (refused n) = Err n
arrival_of (granted g) = Ok g.node

unfoldable pub place_numbers : model_tables.Place → List ℕ
place_numbers q = q.directory ∷ pack_name q.name

-- the end entry, zeros where there is none
unfoldable pub end_numbers : Option model_tables.Place → List ℕ
end_numbers none = replicate place_size 0
end_numbers (some q) = place_numbers q

-- how many elements, the end entry, and the elements in the order met; zeros in the room that is left, and for a refusal
unfoldable pub goal_numbers : Outcome Goal → List ℕ
goal_numbers (refused n) = replicate goal_size 0
goal_numbers (granted g) =
    length g.elements ∷ (end_numbers g.end ++ (joined place_numbers g.elements ++ replicate ((most_elements - length g.elements) * place_size) 0))

-- a walk that comes to o is answered r and leaves these numbers
pub record Arrives (o : Outcome Goal) (r : Result ℕ ℕ) (goal : List ℕ) : Type 0 where
  pub answer : r ≡ arrival_of o
  pub numbers : goal ≡ goal_numbers o

-- BY THE CODE

unfoldable pub place_words : Place → List ℕ
place_words q = q.directory ∷ block_words q.name

-- the end entry's place, blank where there is none
unfoldable pub end_place : Stop → Place
end_place (stop_cases.Refused n) = blank
end_place stop_cases.Root = blank
end_place (stop_cases.Entry q node) = q

unfoldable pub goal_words : Walk → List ℕ
goal_words x = x.count ∷ (place_words (end_place x.stop) ++ joined place_words x.elements)

unfoldable pub arrival_at : Stop → Result ℕ ℕ
arrival_at (stop_cases.Refused n) = Err n
arrival_at stop_cases.Root = Ok 1
arrival_at (stop_cases.Entry q node) = Ok node
