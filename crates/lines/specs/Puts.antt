-- What writing into a lent slice promises. Assumes nothing.
use Rattle.std.specs.Prelude.{◌≡◌, List, [], ◌∷◌, ◌++◌, ℕ, ◌+◌, length}
use Rattle.std.proofs.lemmas.List.Edits.{sets}
use Rattle.model.specs.Listing.{digits}

-- these bytes stand from `at` on, all others are as they were, and `end` is where they end
pub record Puts (before : List ℕ) (at : ℕ) (bytes : List ℕ) (end : ℕ) (after : List ℕ) : Type 0 where
  pub end_is : end ≡ at + length bytes
  pub bytes_are : after ≡ sets before at bytes

-- a line, of the word with its spaces
unfoldable pub line_around : ℕ → List ℕ → ℕ → List ℕ
line_around place word number = digits 19 place ++ (word ++ (digits 19 number ++ (10 ∷ [])))

-- no line has more bytes: 20 digits, the longest word and 5 digits, two spaces and the end of the line
abbrev pub longest_line : ℕ
longest_line = 35
