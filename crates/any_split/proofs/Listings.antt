-- The listing of input that comes in parts: its text is that of the model's listing, however the input is split. Places are numbers of 64
-- bits, so the text has at most 2^64 - 1 lines; fewer bytes than 2^64 never come to more. Assumes nothing.
use mathlib.Core.Path.{◌≡◌, refl, sym, ap, ◌∙◌}
use mathlib.Core.Bool.{Bool, true, false}
use mathlib.Core.List.{List, [], ◌∷◌}
use Prim.Native.Nat.{ℕ, zero, suc, ◌≤◌}
use native.Mathlib.Omega.{arith}
use lib.ListN.{length, drop}
use lib.Seq.{take_all}
use Rattle.model.specs.Lists.{empty, joined}
use Rattle.model.specs.Records.{short, taken}
use Rattle.model.specs.Serve.{serve, answers, fresh_words, records_within, records}
use Rattle.model.specs.Listing.{lines, listing}
use Rattle.invariants.proofs.Cuts.{records_of_nothing}
use Rattle.listing.specs.Steps.{longest_line, last_place}
use Rattle.any_split.specs.Machine.{text_of}
use Rattle.any_split.proofs.Rests.{rest}
use Rattle.any_split.proofs.AnySplit.{any_split}

-- HOW MANY LINES THERE ARE

records_count : (n : ℕ) (s : List ℕ) → length (records_within n s) ≤ n
unfolding records_within
records_count zero s = omega arith
records_count (suc n) s = go (empty s) refl (short s) refl (records_count n (drop (taken s) s))
  where
    go : (a : Bool) → empty s ≡ a → (b : Bool) → short s ≡ b → length (records_within n (drop (taken s) s)) ≤ n
        → length (records_within (suc n) s) ≤ suc n
    go true e b q h = simp (e, records_within) (omega arith)
    go false e true q h = simp (e, q, records_within) (omega arith)
    go false e false q h = simp (e, q, records_within) (omega arith)

answers_count : (w : List ℕ) (rs : List (List ℕ)) → length (answers w rs) ≡ length rs
unfolding answers
answers_count w [] = refl
answers_count w (s ∷ rs) = ap suc (answers_count (serve w s).words rs)

-- there are no more than bytes
lines_count : (w s : List ℕ) → length (answers w (records s)) ≤ length s
unfolding records
lines_count w s = omega (arith, answers_count w (records s), records_count (length s) s)

-- where places reach, the text is the listing's
pub rest_listing : (s : List ℕ) → length s ≤ last_place → rest fresh_words 1 s ≡ listing s
unfolding rest listing
rest_listing s h =
    ap (lines 1) (take_all last_place (answers fresh_words (records s)) (omega (arith, lines_count fresh_words s)))

-- THE LISTING

-- `out n`, with room for a line, is what the step at place n is lent to write to
module _ (out : ℕ → List ℕ) (room : (n : ℕ) → longest_line ≤ length (out n)) where
  -- any parts, of any length, empty ones too
  pub listing_of_parts : (parts : List (List ℕ)) → length (joined (λ part. part) parts) ≤ last_place
      → text_of out parts ≡ listing (joined (λ part. part) parts)
  listing_of_parts parts h = any_split out room parts ∙ rest_listing (joined (λ part. part) parts) h

  -- two ways to split the same bytes give the same text, also past the last place
  pub split_alike : (parts others : List (List ℕ)) → joined (λ part. part) parts ≡ joined (λ part. part) others
      → text_of out parts ≡ text_of out others
  split_alike parts others e =
      any_split out room parts ∙ ap (rest fresh_words 1) e ∙ sym (any_split out room others)

  -- no input, no text
  pub listing_of_nothing : text_of out [] ≡ []
  unfolding joined listing answers lines
  listing_of_nothing = listing_of_parts [] (omega arith) ∙ rw records_of_nothing
