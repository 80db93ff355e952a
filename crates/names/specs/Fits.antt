-- What the words of a name block have to be: bytes of a valid name, then zeros. Assumes nothing.
use Rattle.std.specs.Prelude.{Bool, true, false, ◌&&◌, List, [], ◌∷◌, ℕ, zero, suc, ◌+◌, ◌*◌, eqb}
use Rattle.std.specs.Int.Bits.{bit_and, bit_or, bit_xor}
use Rattle.model.specs.Lists.{same}
use Rattle.model.specs.Paths.{name_byte, valid_name}
use Rattle.model.specs.Words.{pack_name}
use Rattle.rows.specs.declared.Block.{Block}
use Rattle.rows.specs.Blocks.{block_words, name_of}

-- a byte of the name, or one behind it
unfoldable pub byte_fits : Bool → ℕ → Bool
byte_fits true b = name_byte b
byte_fits false b = eqb b 0

-- the first n bytes can be a name's, and all behind them are zeros
unfoldable pub fits : ℕ → List ℕ → Bool
fits n [] = true
fits zero (b ∷ s) = byte_fits false b && fits zero s
fits (suc n) (b ∷ s) = byte_fits true b && fits n s

-- the block is the one of its name, and the name is valid
unfoldable pub good_name : Block → Bool
good_name b = same (pack_name (name_of b)) (block_words b) && valid_name (name_of b)

-- EIGHT BYTES AS ONE NUMBER

-- bytes behind a number, the first the most significant
unfoldable pub number : ℕ → List ℕ → ℕ
number n [] = n
number n (b ∷ s) = number (n * 256 + b) s

-- the top bits of the first n of `room` bytes
unfoldable pub tops : ℕ → ℕ → List ℕ
tops n zero = []
tops zero (suc room) = 0 ∷ tops zero room
tops (suc n) (suc room) = 128 ∷ tops n room

-- of eight bytes the lower seven bits each, and the top bits; and eight slashes
abbrev pub low_bits : ℕ
low_bits = 9187201950435737471

abbrev pub top_bits : ℕ
top_bits = 9259542123273814144

abbrev pub slashes : ℕ
slashes = 3399988123389603631

-- by the lower bits and the top bit of every byte: the top bit of each byte of x that is not the byte of `other` at its place
unfoldable pub differing : ℕ → ℕ → ℕ → ℕ → ℕ
differing lows highs other x = bit_and (bit_or (bit_xor (bit_and x lows) other + lows) x) highs
