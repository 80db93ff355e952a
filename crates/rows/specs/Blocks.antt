-- A name as the code has it, the four words of its block, and as the model has it, its bytes. Assumes nothing.
use Rattle.std.specs.Prelude.{◌≡◌, Bool, ◌&&◌, List, [], ◌∷◌, ℕ, ◌+◌, ◌*◌, eqb, get_or}
use Rattle.model.specs.Paths.{Name}
use Rattle.model.specs.Tables.{Place}
use Rattle.model.specs.Words.{pack_name, unpack_name}
use Rattle.rows.specs.declared.Block.{Block}

abbrev pub block_words : Block → List ℕ
block_words b = b.first ∷ b.second ∷ b.third ∷ b.fourth ∷ []

-- the block that stands in the words from a place on
abbrev pub block_in : List ℕ → ℕ → Block
block_in w at = record { first = get_or w at 0; second = get_or w (at + 1) 0; third = get_or w (at + 2) 0; fourth = get_or w (at + 3) 0 }

-- how many words a link's target has
abbrev pub target_words : ℕ
target_words = 16

-- the name that a block holds
unfoldable pub name_of : Block → Name
name_of b = unpack_name (block_words b)

-- the block is the one of its name: zeros behind the name, and a length of at most 14
unfoldable pub Named : Block → Type 0
Named b = pack_name (name_of b) ≡ block_words b

-- the block of a name
unfoldable pub block_of : Name → Block
block_of n =
    record {
      first = get_or (pack_name n) 0 0;
      second = get_or (pack_name n) 1 0;
      third = get_or (pack_name n) 2 0;
      fourth = get_or (pack_name n) 3 0;
    }

unfoldable pub same_block : Block → Block → Bool
same_block a b =
    eqb a.first b.first && (eqb a.second b.second && (eqb a.third b.third && eqb a.fourth b.fourth))

-- a place as the code has it: a directory and a block
unfoldable pub place_of : ℕ → Block → Place
place_of d b = record { directory = d; name = name_of b }

-- four bytes of a list as a word, zeros behind its end
unfoldable pub word_from : List ℕ → ℕ → ℕ
word_from s k = ((get_or s k 0 * 256 + get_or s (k + 1) 0) * 256 + get_or s (k + 2) 0) * 256 + get_or s (k + 3) 0
