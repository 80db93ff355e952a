-- The split of a path, by the model's `names`, and what the path test asks on its way. Assumes nothing.
use Rattle.std.specs.Prelude.{Bool, true, false, not, ◌&&◌, ◌||◌, leb, Option, None, Some, List, [], ◌∷◌, ℕ, ◌+◌, length, drop}
use Rattle.model.specs.Lists.{same}
use Rattle.model.specs.Paths.{longest_name, dot, parts, absolute, names}
use Rattle.paths.specs.declared.Part.{Part}

-- how many bytes stand in front of the first name: its slash, where it has one
unfoldable pub slashes : List ℕ → ℕ
slashes s = elim (absolute s) [ true ↦ 1 | false ↦ 0 ]

-- the first of the names, which starts at a known position
unfoldable pub located : ℕ → List (List ℕ) → Option Part
located start [] = None
located start (name ∷ others) = Some (record { start = start; length = length name })

-- where the first name of what stands from a position on starts, and how long it is
unfoldable pub next : List ℕ → ℕ → Option Part
next path at = located (at + slashes (drop at path)) (names (drop at path))

-- what stands before the first slash
unfoldable pub first_of : List (List ℕ) → List ℕ
first_of [] = []
first_of (part ∷ others) = part

unfoldable pub first_part : List ℕ → List ℕ
first_part s = first_of (parts s)

-- the two names that no name may be
unfoldable pub dots : List ℕ → Bool
dots n = same n (dot ∷ []) || same n (dot ∷ dot ∷ [])

-- what a name has to meet beside its bytes
unfoldable pub right_length : List ℕ → Bool
right_length n = leb 1 (length n) && leb (length n) longest_name && not (dots n)
