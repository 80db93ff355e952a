-- Document 01, 'The listing': the text that `verdicts` prints. Assumes nothing.
use Rattle.std.specs.Prelude.{true, false, List, [], ◌∷◌, ◌++◌, ℕ, zero, suc, ◌+◌, ◌/◌, ◌%◌, ltb}
use Prim.Native.Char.{code}
use Prim.Native.String as S
use Rattle.model.specs.Answers.{word_of, number_of}
use Rattle.model.specs.Serve.{answers, fresh_words, records, computing}
use Rattle.model.specs.declared.Answer.{Answer}

-- the bytes of a text
unfoldable pub text : S.String → List ℕ
text S.[] = []
text (S.◌∷◌ c s) = code c ∷ text s

-- the decimal digits of a number that has at most k + 1 of them
unfoldable pub digits : ℕ → ℕ → List ℕ
digits zero n = (48 + n) ∷ []
digits (suc k) n = elim (ltb n 10) [ true ↦ (48 + n) ∷ [] | false ↦ digits k (n / 10) ++ ((48 + n % 10) ∷ []) ]

-- The listing, a line: the record's place, the word and the number
unfoldable pub line : ℕ → Answer → List ℕ
line place a = digits 19 place ++ (text " " ++ (text (word_of a) ++ (text " " ++ (digits 4 (number_of a) ++ text "\n"))))

unfoldable pub lines : ℕ → List Answer → List ℕ
lines place [] = []
lines place (a ∷ rest) = line place a ++ lines (suc place) rest

-- The listing: from fresh tables, places from 1, no header
unfoldable pub listing : List ℕ → List ℕ
listing s = lines 1 (answers fresh_words (records s))

unfoldable pub computing_listing : Unit {0}
unfolding computing text digits line lines listing
computing_listing = tt
