-- What making words fresh comes to. Assumes nothing.
use mathlib.Core.Path.{◌≡◌, refl, sym, ap, ◌∙◌}
use mathlib.Core.List.{List}
use Prim.Native.Nat.{ℕ, ◌*◌, ◌^◌}
use borrow.Author.Tests.{eq-eqb, ne_eqb}
use lib.ListN.{length, set, replicate}
use Rattle.model.specs.Refusals.{refused, granted, ◌>>◌}
use Rattle.model.specs.Tables.{a_directory}
use Rattle.model.specs.Words.{word_count, first_node_word}
use Rattle.model.specs.Serve.{made_fresh, fresh_words, computing}
use Rattle.std.proofs.Common.{Ok, Err}
use Rattle.fresh.specs.Prepared.{answer_of, words_after, Prepares}

-- the first word of a directory to which no entry leads
abbrev empty_directory : ℕ
empty_directory = a_directory * 2 ^ 30

fresh_words_are : set (replicate word_count 0) first_node_word empty_directory ≡ fresh_words
unfolding computing
fresh_words_are = refl

made_of_length : (w : List ℕ) → length w ≡ word_count → made_fresh w ≡ granted fresh_words
unfolding made_fresh ◌>>◌
made_of_length w h = simp (eq-eqb (length w) word_count h)

refused_of_length : (w : List ℕ) → (length w ≡ word_count → ⊥) → made_fresh w ≡ refused 1
unfolding made_fresh ◌>>◌
refused_of_length w h = simp (ne_eqb (length w) word_count h)

pub prepares : (w : List ℕ) {v : List ℕ} → length w ≡ word_count → v ≡ replicate (length w) 0 → Prepares w (made_fresh w) (Ok tt) (set v first_node_word empty_directory)
prepares w h e =
    let m = made_of_length w h in
    record {
      answer = ap answer_of (sym m);
      words = ap (λ l. set l first_node_word empty_directory) (e ∙ ap (λ n. replicate n 0) h) ∙ fresh_words_are ∙ ap (words_after w) (sym m);
    }

pub refuses : (w : List ℕ) → (length w ≡ word_count → ⊥) → Prepares w (made_fresh w) (Err 1) w
refuses w h = let m = refused_of_length w h in record { answer = ap answer_of (sym m); words = ap (words_after w) (sym m) }
