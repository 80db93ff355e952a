-- Document 01, 'Paths': valid names, paths and targets. A path is the list of its bytes. Assumes nothing.
use Rattle.std.specs.Prelude.{Bool, true, false, not, ◌&&◌, List, [], ◌∷◌, ℕ, eqb, leb, length, get_or}
use Rattle.model.specs.Lists.{same, all}

abbrev pub Name : Type 0
Name = List ℕ

-- the bytes `/` and `.`
abbrev pub slash : ℕ
slash = 47

abbrev pub dot : ℕ
dot = 46

-- Paths: how many bytes a name, a path and a target may have
abbrev pub longest_name : ℕ
longest_name = 14

abbrev pub longest_path : ℕ
longest_path = 255

abbrev pub longest_target : ℕ
longest_target = 64

-- a byte in front of parts: a slash begins a part of its own, any other byte belongs to the first part
unfoldable pub before : Bool → ℕ → List Name → List Name
before true b parts = [] ∷ parts
before false b [] = (b ∷ []) ∷ []
before false b (part ∷ parts) = (b ∷ part) ∷ parts

-- what stands between the slashes, empty parts too
unfoldable pub parts : List ℕ → List Name
parts [] = [] ∷ []
parts (b ∷ s) = before (eqb b slash) b (parts s)

-- the path begins with a slash
unfoldable pub absolute : List ℕ → Bool
absolute s = eqb (get_or s 0 0) slash

-- the names behind a path's first slash: none where the path is `/` alone
unfoldable pub names_behind : List ℕ → List Name
names_behind [] = []
names_behind (b ∷ s) = parts (b ∷ s)

-- the names of a path, or of a target that lacks the first slash
unfoldable pub names : List ℕ → List Name
names [] = []
names (b ∷ s) = elim (eqb b slash) [ true ↦ names_behind s | false ↦ parts (b ∷ s) ]

-- Paths, a name's bytes: neither 0 nor a slash
unfoldable pub name_byte : ℕ → Bool
name_byte b = not (eqb b 0) && not (eqb b slash)

-- Paths, a name: 1 to 14 such bytes, and not one dot or two dots alone
unfoldable pub valid_name : Name → Bool
valid_name n =
    leb 1 (length n) && leb (length n) longest_name && all name_byte n && not (same n (dot ∷ [])) && not (same n (dot ∷ dot ∷ []))

-- Paths: valid names between single slashes, or no name at all
abbrev pub valid_names : List ℕ → Bool
valid_names s = all valid_name (names s)

-- Paths, a path: 1 to 255 bytes, a slash first, and valid names
unfoldable pub valid_path : List ℕ → Bool
valid_path s = leb 1 (length s) && leb (length s) longest_path && absolute s && valid_names s

-- Paths, a target: 1 to 64 bytes, a path or one without its first slash
unfoldable pub valid_target : List ℕ → Bool
valid_target s = leb 1 (length s) && leb (length s) longest_target && valid_names s

unfoldable pub computing_paths : Unit {0}
unfolding before parts absolute names_behind names name_byte valid_name valid_path valid_target
computing_paths = tt
