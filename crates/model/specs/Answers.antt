-- Document 01, 'Numbers given back' and 'The listing': the word and the number of each answer. Assumes nothing.
use Rattle.std.specs.Prelude.{ℕ, ◌+◌, ◌*◌, ◌^◌}
use Prim.Native.String as S
use Rattle.model.specs.declared.Answer.{Answer}
use Rattle.model.specs.declared.Answer.TheVariants.{Held, Seen, Done, Refused}

-- Numbers given back: a success is held, seen or done, and else the call is refused
unfoldable pub word_of : Answer → S.String
word_of (Held n) = "held"
word_of (Seen n) = "seen"
word_of (Done n) = "done"
word_of (Refused n) = "refused"

-- Numbers given back: the node (0 for an absence), the node or the process, or the number of the reason
unfoldable pub number_of : Answer → ℕ
number_of (Held n) = n
number_of (Seen n) = n
number_of (Done n) = n
number_of (Refused n) = n

-- AS ONE NUMBER, for those who link the archive

-- the words held, seen, done and refused are 0, 1, 2 and 3
unfoldable pub word_number : Answer → ℕ
word_number (Held n) = 0
word_number (Seen n) = 1
word_number (Done n) = 2
word_number (Refused n) = 3

-- the number in 32 bits, the word in two above them, the bytes taken above those
unfoldable pub answer_number : ℕ → ℕ → ℕ → ℕ
answer_number word number bytes = bytes * 2 ^ 34 + word * 2 ^ 32 + number

-- an answer alone
unfoldable pub answer_slot : Answer → ℕ
answer_slot a = answer_number (word_number a) (number_of a) 0

unfoldable pub computing_answers : Unit {0}
unfolding word_of number_of word_number answer_number answer_slot
computing_answers = tt
