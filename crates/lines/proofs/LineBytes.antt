-- The bytes of a line: those that are written for each answer, and how many they are at most. Assumes nothing.
use mathlib.Core.Path.{◌≡◌}
use mathlib.Core.List.{List, [], ◌∷◌, ◌++◌}
use Prim.Native.Nat.{ℕ, ◌+◌, ◌^◌, ◌≤◌, ◌<◌}
use native.Mathlib.Omega.{arith}
use lib.ListN.{length, length-append}
use Rattle.model.specs.Answers.{word_of, number_of}
use Rattle.model.specs.Listing.{text, digits, line}
use Rattle.model.specs.declared.Answer.{Answer}
use Rattle.model.specs.declared.Answer.TheVariants.{Held, Seen, Done, Refused}
use Rattle.lines.specs.Puts.{Puts, line_around, longest_line}
use Rattle.lines.proofs.Runs.{puts_both, front_fits, rest_fits}
use Rattle.lines.proofs.Digits.{digit_count, five_digits}

-- THE FOUR PARTS OF A LINE, one behind the other: where the line has room, each part has when its turn comes
module _ (place : ℕ) (word : List ℕ) (number : ℕ) (l : List ℕ) (h : length (line_around place word number) ≤ length l) where
  line_room : 0 + length (digits 19 place ++ (word ++ (digits 19 number ++ (10 ∷ [])))) ≤ length l
  unfolding line_around
  line_room = omega arith

  pub place_fits : 0 + length (digits 19 place) ≤ length l
  place_fits = front_fits 0 (digits 19 place) (word ++ (digits 19 number ++ (10 ∷ []))) line_room

  module _ {m : List ℕ} {i : ℕ} (p : Puts l 0 (digits 19 place) i m) where
    word_room : i + length (word ++ (digits 19 number ++ (10 ∷ []))) ≤ length m
    word_room = rest_fits 0 (digits 19 place) (word ++ (digits 19 number ++ (10 ∷ []))) line_room p

    pub word_fits : i + length word ≤ length m
    word_fits = front_fits i word (digits 19 number ++ (10 ∷ [])) word_room

    module _ {n : List ℕ} {j : ℕ} (q : Puts m i word j n) where
      number_room : j + length (digits 19 number ++ (10 ∷ [])) ≤ length n
      number_room = rest_fits i word (digits 19 number ++ (10 ∷ [])) word_room q

      pub number_fits : j + length (digits 19 number) ≤ length n
      number_fits = front_fits j (digits 19 number) (10 ∷ []) number_room

      module _ {o : List ℕ} {k : ℕ} (r : Puts n j (digits 19 number) k o) where
        pub end_fits : k < length o
        end_fits = let f = rest_fits j (digits 19 number) (10 ∷ []) number_room r in omega arith

        pub puts_line : {e : List ℕ} {z : ℕ} → Puts o k (10 ∷ []) z e → Puts l 0 (line_around place word number) z e
        unfolding line_around
        puts_line s = puts_both p (puts_both q (puts_both r s))

-- THE LINE OF AN ANSWER, of the word with a space on either side and the number as one of 64 bits

module _ (place : ℕ) {answer : Answer} {n number : ℕ} (wide : number ≡ n) (h : n < 2 ^ 16) where
  pub held_line : answer ≡ Held n → line_around place (32 ∷ 104 ∷ 101 ∷ 108 ∷ 100 ∷ 32 ∷ []) number ≡ line place answer
  unfolding line_around line text word_of number_of
  held_line e = rw (e, wide, five_digits h)

  pub seen_line : answer ≡ Seen n → line_around place (32 ∷ 115 ∷ 101 ∷ 101 ∷ 110 ∷ 32 ∷ []) number ≡ line place answer
  unfolding line_around line text word_of number_of
  seen_line e = rw (e, wide, five_digits h)

  pub done_line : answer ≡ Done n → line_around place (32 ∷ 100 ∷ 111 ∷ 110 ∷ 101 ∷ 32 ∷ []) number ≡ line place answer
  unfolding line_around line text word_of number_of
  done_line e = rw (e, wide, five_digits h)

  pub refused_line : answer ≡ Refused n → line_around place (32 ∷ 114 ∷ 101 ∷ 102 ∷ 117 ∷ 115 ∷ 101 ∷ 100 ∷ 32 ∷ []) number ≡ line place answer
  unfolding line_around line text word_of number_of
  refused_line e = rw (e, wide, five_digits h)

-- so what is shown of one is shown of the other
module _ {new text : List ℕ} (e : new ≡ text) where
  pub same_fits : {size : ℕ} → length text ≤ size → length new ≤ size
  same_fits h = rw e h

  pub puts_same : {l m : List ℕ} {at end : ℕ} → Puts l at new end m → Puts l at text end m
  puts_same p = rw e at p

-- no word is longer than `refused`
word_length : (a : Answer) → length (text (word_of a)) ≤ 7
unfolding text word_of
word_length (Held n) = omega arith
word_length (Seen n) = omega arith
word_length (Done n) = omega arith
word_length (Refused n) = omega arith

-- 20 digits, a space, 7 letters, a space, 5 digits and the end of the line
pub line_length : (place : ℕ) (a : Answer) → length (line place a) ≤ longest_line
unfolding line text
line_length place a =
    simp length-append (omega (arith, digit_count 19 place, word_length a, digit_count 4 (number_of a)))
