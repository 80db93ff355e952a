-- A row cleared where it passes a test, and rows that are cleared by tests that say the same. Assumes nothing.
use mathlib.Core.Path.{◌≡◌, refl, sym, ap, ◌∙◌}
use mathlib.Core.Bool.{Bool, true, false}
use mathlib.Core.List.{List, [], ◌∷◌}
use Prim.Native.Nat.{ℕ, ◌+◌, ◌<◌}
use lib.ListN.{length, get_or, set}
use Rattle.model.specs.Lists.{clear}
use Rattle.laws.specs.Clears.{clear_at}
use Rattle.laws.proofs.Loops.{clear_from, clear_here, clear_onward}

module _ {A : Type 0} (f : A → Bool) (blank : A) where
  pub clears : (i : ℕ) (xs : List A) {b : Bool} → b ≡ f (get_or xs i blank) → b ≡ true → set xs i blank ≡ clear_at f blank i xs
  unfolding clear_at
  clears i xs {b} e t = let k : f (get_or xs i blank) ≡ true = cc in simp (k, clear_at)

  pub leaves : (i : ℕ) (xs : List A) {b : Bool} → b ≡ f (get_or xs i blank) → b ≡ false → xs ≡ clear_at f blank i xs
  unfolding clear_at
  leaves i xs {b} e t = let k : f (get_or xs i blank) ≡ false = cc in simp (k, clear_at)

  -- one row more
  pub clear_step : (i : ℕ) (xs : List A) → i < length xs → clear_from f blank (i + 1) (clear_at f blank i xs) ≡ clear_from f blank i xs
  unfolding clear_at
  clear_step i xs h = go (f (get_or xs i blank)) refl
    where
      go : (b : Bool) → f (get_or xs i blank) ≡ b
          → clear_from f blank (i + 1) (elim b as (λ _. List A) [ true ↦ set xs i blank | false ↦ xs ]) ≡ clear_from f blank i xs
      go true e = clear_here f blank blank i xs h e
      go false e = clear_onward f blank blank i xs h e

pub clear_alike : {A : Type 0} (f g : A → Bool) (blank : A) → ((x : A) → f x ≡ g x) → (xs : List A) → clear f blank xs ≡ clear g blank xs
unfolding clear
clear_alike f g blank alike [] = refl
clear_alike {A = A} f g blank alike (x ∷ xs) = go (f x) refl (clear_alike f g blank alike xs)
  where
    go : (b : Bool) → f x ≡ b → clear f blank xs ≡ clear g blank xs → clear f blank (x ∷ xs) ≡ clear g blank (x ∷ xs)
    go true e r = let k : g x ≡ true = sym (alike x) ∙ e in simp (e, k, clear) (ap {B = List A} (λ l. blank ∷ l) r)
    go false e r = let k : g x ≡ false = sym (alike x) ∙ e in simp (e, k, clear) (ap {B = List A} (λ l. x ∷ l) r)
