-- What a process lacks of the holds that are wanted, taken in two parts: the second part is asked with the first already had. Assumes nothing.
use mathlib.Core.Path.{◌≡◌, refl, sym, ap, ◌∙◌}
use mathlib.Core.Bool.{Bool, true, false, ◌||◌}
use mathlib.Core.List.{List, [], ◌∷◌, ◌++◌}
use Rattle.model.specs.Lists.{any}
use Rattle.model.specs.Tables.{Hold}
use Rattle.model.specs.Sound.{same_hold}
use Rattle.model.specs.Holds.{lacking}

pub any_append : {A : Type 0} (f : A → Bool) (xs ys : List A) → any f (xs ++ ys) ≡ (any f xs || any f ys)
unfolding any
any_append f [] ys = refl
any_append f (x ∷ xs) ys = go (f x) (any_append f xs ys)
  where
    go : (b : Bool) → any f (xs ++ ys) ≡ (any f xs || any f ys) → (b || any f (xs ++ ys)) ≡ ((b || any f xs) || any f ys)
    go true r = refl
    go false r = r

-- a row between two lists is found as at the front
any_between : {A : Type 0} (f : A → Bool) (xs : List A) (x : A) (ys : List A) → any f (xs ++ (x ∷ ys)) ≡ (f x || any f (xs ++ ys))
unfolding any
any_between f xs x ys = any_append f xs (x ∷ ys) ∙ go (any f xs) (f x) ∙ ap (λ b. f x || b) (sym (any_append f xs ys))
  where
    go : (a b : Bool) → (a || (b || any f ys)) ≡ (b || (a || any f ys))
    go true true = refl
    go true false = refl
    go false true = refl
    go false false = refl

module _ (have : List Hold) (h : Hold) (hs : List Hold) where
  pub had_already : any (same_hold h) have ≡ true → lacking have (h ∷ hs) ≡ lacking have hs
  unfolding lacking
  had_already e = simp (e, lacking)

  pub had_not : any (same_hold h) have ≡ false → lacking have (h ∷ hs) ≡ h ∷ lacking (h ∷ have) hs
  unfolding lacking
  had_not e = simp (e, lacking)

-- only what is had counts, and not in which order
lacking_alike : (a b : List Hold) → ((x : Hold) → any (same_hold x) a ≡ any (same_hold x) b) → (hs : List Hold) → lacking a hs ≡ lacking b hs
unfolding lacking any
lacking_alike a b e [] = refl
lacking_alike a b e (h ∷ hs) =
    go (any (same_hold h) a) refl (lacking_alike a b e hs) (lacking_alike (h ∷ a) (h ∷ b) (λ x. ap (λ c. same_hold x h || c) (e x)) hs)
  where
    go : (c : Bool) → any (same_hold h) a ≡ c → lacking a hs ≡ lacking b hs → lacking (h ∷ a) hs ≡ lacking (h ∷ b) hs → lacking a (h ∷ hs) ≡ lacking b (h ∷ hs)
    go true p r s = had_already a h hs p ∙ r ∙ sym (had_already b h hs (sym (e h) ∙ p))
    go false p r s = had_not a h hs p ∙ ap {B = List Hold} (λ l. h ∷ l) s ∙ sym (had_not b h hs (sym (e h) ∙ p))

pub lacking_append : (have xs ys : List Hold) → lacking have (xs ++ ys) ≡ lacking have xs ++ lacking (lacking have xs ++ have) ys
unfolding lacking any
lacking_append have [] ys = refl
lacking_append have (x ∷ xs) ys = go (any (same_hold x) have) refl (lacking_append have xs ys) (lacking_append (x ∷ have) xs ys)
  where
    go : (c : Bool) → any (same_hold x) have ≡ c → lacking have (xs ++ ys) ≡ lacking have xs ++ lacking (lacking have xs ++ have) ys
        → lacking (x ∷ have) (xs ++ ys) ≡ lacking (x ∷ have) xs ++ lacking (lacking (x ∷ have) xs ++ (x ∷ have)) ys
        → lacking have (x ∷ (xs ++ ys)) ≡ lacking have (x ∷ xs) ++ lacking (lacking have (x ∷ xs) ++ have) ys
    go true p r s =
        had_already have x (xs ++ ys) p ∙ r ∙ ap (λ l. l ++ lacking (l ++ have) ys) (sym (had_already have x xs p))
    go false p r s =
        had_not have x (xs ++ ys) p
        ∙ ap {B = List Hold} (λ l. x ∷ l)
        (s
        ∙ ap (λ l. lacking (x ∷ have) xs ++ l)
        (lacking_alike (lacking (x ∷ have) xs ++ (x ∷ have)) (x ∷ (lacking (x ∷ have) xs ++ have))
        (λ y. any_between (same_hold y) (lacking (x ∷ have) xs) x have) ys))
        ∙ ap (λ l. l ++ lacking (l ++ have) ys) (sym (had_not have x xs p))
