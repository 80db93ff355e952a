-- The edits of holds of a granted call one behind the other. Assumes nothing.
use mathlib.Core.Path.{◌≡◌, refl, ap, ◌∙◌}
use mathlib.Core.Bool.{Bool, true, false, ◌||◌}
use mathlib.Core.List.{List, [], ◌∷◌}
use Prim.Native.Nat.{ℕ}
use Rattle.model.specs.Lists.{clear}
use Rattle.model.specs.Tables.{Hold, Tables, no_hold, with_holds}
use Rattle.model.specs.Walk.{Goal}
use Rattle.model.specs.Words.{unpack}
use Rattle.model.specs.Holds.{inside, lacking, drop_holds, add_holds, overruled, emptied, taking}
use Rattle.rows.specs.Stands.{Becomes}

-- two drops are one
clear_twice : {A : Type 0} (f g : A → Bool) (blank : A) (rows : List A) → clear g blank (clear f blank rows) ≡ clear (λ x. f x || g x) blank rows
unfolding clear
clear_twice f g blank [] = refl
clear_twice f g blank (a ∷ rows) = go (f a) refl (g a) refl (g blank) refl (clear_twice f g blank rows)
  where
    go : (b : Bool) → f a ≡ b → (c : Bool) → g a ≡ c → (d : Bool) → g blank ≡ d → clear g blank (clear f blank rows) ≡ clear (λ x. f x || g x) blank rows →
        clear g blank (clear f blank (a ∷ rows)) ≡ clear (λ x. f x || g x) blank (a ∷ rows)
    go true p c q true r ih = simp (p, clear, r, ih)
    go true p c q false r ih = simp (p, clear, r, ih)
    go false p true q d r ih = simp (p, clear, q, ih)
    go false p false q d r ih = simp (p, clear, q, ih)

-- the drops, then the additions
pub taken : (t : Tables) (wants : List Hold) (gone : Hold → Bool) {news : List Hold} {v x : List ℕ} → news ≡ lacking t.holds wants
    → Becomes v (with_holds t (drop_holds gone t.holds)) → Becomes x (with_holds (unpack v) (add_holds news (unpack v).holds))
    → Becomes x (with_holds t (taking t wants gone))
unfolding taking
taken t wants gone {news} e a b =
    record {
      stands = b.stands;
      tables = b.tables ∙ ap (λ s. with_holds s (add_holds news s.holds)) a.tables
          ∙ ap (λ l. with_holds t (add_holds l (drop_holds gone t.holds))) e;
    }

-- rmdir's two drops
pub inside_dropped : (t : Tables) (p : ℕ) (g : Goal) {n : ℕ} {u v : List ℕ} → n ≡ g.node → Becomes u (with_holds t (drop_holds (overruled t p g) t.holds))
    → Becomes v (with_holds (unpack u) (drop_holds (inside n) (unpack u).holds)) → Becomes v (with_holds t (drop_holds (emptied t p g) t.holds))
unfolding emptied drop_holds
inside_dropped t p g {n} e a b =
    record {
      stands = b.stands;
      tables = b.tables ∙ ap (λ s. with_holds s (drop_holds (inside n) s.holds)) a.tables
          ∙ ap (λ m. with_holds t (clear (inside m) no_hold (clear (overruled t p g) no_hold t.holds))) e
          ∙ ap (with_holds t) (clear_twice (overruled t p g) (inside g.node) no_hold t.holds);
    }
