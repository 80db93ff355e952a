-- What the code's walk tells is what the model's walk comes to. Assumes nothing.
use mathlib.Core.Path.{◌≡◌, refl, sym, ap, ap₂, ◌∙◌}
use mathlib.Core.Bool.{Bool, true, false, not}
use mathlib.Core.List.{List, [], ◌∷◌, ◌++◌, map, append_assoc}
use mathlib.Core.Option.{Option, none, some}
use Prim.Native.Nat.{ℕ, zero, suc, ◌-◌, ◌*◌, ◌≤◌}
use native.Mathlib.Omega.{arith}
use lib.ListN.{length, replicate, length-append, length-map, length-replicate}
use Rattle.model.specs.Lists.{joined}
use Rattle.model.specs.Refusals.{Outcome, refused, granted, ◌>>◌}
use Rattle.model.specs.Paths.{valid_path}
use Rattle.model.specs.Sound.{sound}
use Rattle.model.specs.Tables as model_tables
use Rattle.model.specs.Walk.{Goal, walk}
use Rattle.model.specs.Words.{unpack}
use Rattle.laws.proofs.Bools.{not_true, not_false}
use Rattle.laws.proofs.Words.{sound_has_sound_rows}
use Rattle.rows.proofs.Blocks.{block_of_words}
use Rattle.goals.specs.declared.Walk.{Walk}
use Rattle.goals.specs.Goals.{place_row, blank, room_of, stop_of, walked}
use Rattle.walk.proofs.Ends.{Ends}
use Rattle.walk.proofs.Wholes.{whole_ends}
use Rattle.std.specs.Prelude.{Result, Ok, Err}
use Rattle.walk_told.specs.Arrivals.{goal_size, place_size, most_elements, walking, arrival_of, place_numbers, end_numbers, goal_numbers, Arrives, place_words, end_place, goal_words, arrival_at}

-- PLACES

place_same : (q : model_tables.Place) → place_words (place_row q) ≡ place_numbers q
unfolding place_words place_row place_numbers
place_same q = ap (λ (l : List ℕ). q.directory ∷ l) (block_of_words q.name)

blanks_joined : (n : ℕ) → joined place_words (replicate n blank) ≡ replicate (n * place_size) 0
unfolding joined place_words blank
blanks_joined zero = refl
blanks_joined (suc n) =
    let five : suc n * place_size ≡ suc (suc (suc (suc (suc (n * place_size))))) = omega arith in
    ap (λ (l : List ℕ). 0 ∷ 0 ∷ 0 ∷ 0 ∷ 0 ∷ l) (blanks_joined n) ∙ sym (ap (λ (m : ℕ). replicate m 0) five)

room_joined : (qs : List model_tables.Place) (n : ℕ) → joined place_words (map place_row qs ++ replicate n blank) ≡ joined place_numbers qs ++ replicate (n * place_size) 0
unfolding joined
room_joined [] n = blanks_joined n
room_joined (q ∷ qs) n = ap₂ ◌++◌ (place_same q) (room_joined qs n) ∙ sym (append_assoc (place_numbers q) (joined place_numbers qs) (replicate (n * place_size) 0))

end_same : (e : Option model_tables.Place) (n : ℕ) → place_words (end_place (stop_of e n)) ≡ end_numbers e
unfolding place_words end_place stop_of end_numbers blank
end_same none n = refl
end_same (some q) n = place_same q

-- A WALK'S END

goal_same : (o : Outcome Goal) → goal_words (walked o) ≡ goal_numbers o
unfolding goal_words goal_numbers walked room_of place_words end_place blank
goal_same (refused n) = ap (λ (l : List ℕ). 0 ∷ 0 ∷ 0 ∷ 0 ∷ 0 ∷ 0 ∷ l) (blanks_joined most_elements)
goal_same (granted g) = ap (λ (l : List ℕ). length g.elements ∷ l) (ap₂ ◌++◌ (end_same g.end g.node) (room_joined g.elements (most_elements - length g.elements)))

arrival_same : (o : Outcome Goal) → Ends most_elements o → arrival_at (walked o).stop ≡ arrival_of o
unfolding arrival_at arrival_of walked Ends stop_of
arrival_same (refused n) e = refl
arrival_same (granted g) e = go g.end refl
  where
    go : (x : Option model_tables.Place) → g.end ≡ x → arrival_at (stop_of x g.node) ≡ arrival_of (granted g)
    go none q = ap (λ (n : ℕ). Ok n) (sym (e.root q))
    go (some p) q = refl

-- THE TESTS BEFORE THE WALK

-- a refusal is told as its number, and the goal is zeros
refused_arrives : {o : Outcome Goal} {n : ℕ} → o ≡ refused n → Arrives o (Err n) (replicate goal_size 0)
unfolding arrival_of goal_numbers
refused_arrives e = rw e (record { answer = refl; numbers = refl })

module _ (w path : List ℕ) (follow_last : Bool) {sounds : Bool} (tested : sounds ≡ sound w) where
  pub unsound_arrives : not sounds ≡ true → Arrives (walking w path follow_last) (Err 1) (replicate goal_size 0)
  unfolding walking ◌>>◌
  unsound_arrives h = let s : sound w ≡ false = sym tested ∙ not_true sounds h in refused_arrives (rw s)

  module _ (right : not sounds ≡ false) {valid : Bool} (parted : valid ≡ valid_path path) where
    pub sounds_right : sound w ≡ true
    sounds_right = sym tested ∙ not_false sounds right

    pub invalid_arrives : not valid ≡ true → Arrives (walking w path follow_last) (Err 3) (replicate goal_size 0)
    unfolding walking ◌>>◌
    invalid_arrives h =
        let v : valid_path path ≡ false = sym parted ∙ not_true valid h in
        refused_arrives (rw (sounds_right, v))

    goes_on : not valid ≡ false → walking w path follow_last ≡ walk (unpack w).entries (unpack w).nodes follow_last path
    unfolding walking ◌>>◌
    goes_on h = let v : valid_path path ≡ true = sym parted ∙ not_false valid h in rw (sounds_right, v)

    pub walk_arrives : not valid ≡ false → {x : Walk} {r : Result ℕ ℕ} {goal : List ℕ} → x ≡ walked (walk (unpack w).entries (unpack w).nodes follow_last path)
        → goal ≡ goal_words x → r ≡ arrival_at x.stop → Arrives (walking w path follow_last) r goal
    walk_arrives h {x} e f g =
        let o = goes_on h in
        let ends = whole_ends w (sound_has_sound_rows w sounds_right) follow_last path in
        record {
          answer = g ∙ ap (λ (y : Walk). arrival_at y.stop) e ∙ arrival_same _ ends ∙ ap arrival_of (sym o);
          numbers = f ∙ ap goal_words e ∙ goal_same _ ∙ ap goal_numbers (sym o);
        }

-- a walk over sound tables has at most eight elements, and there is room for eight
pub record Roomy (x : Walk) : Type 0 where
  pub few : x.count ≤ most_elements
  pub room : length x.elements ≡ most_elements

room_long : (qs : List model_tables.Place) → length qs ≤ most_elements → length (room_of qs) ≡ most_elements
unfolding room_of
room_long qs few =
    let rest = length-replicate (most_elements - length qs) blank in
    rw (length-append (map place_row qs) (replicate (most_elements - length qs) blank), length-map qs place_row, rest) (omega arith)

walked_roomy : (o : Outcome Goal) → Ends most_elements o → Roomy (walked o)
unfolding walked Ends room_of
walked_roomy (refused n) e = record { few = omega arith; room = length-replicate most_elements blank }
walked_roomy (granted g) e =
    let few = e.few in
    record {
      few = few;
      room = room_long g.elements few;
    }

pub walk_roomy : (w path : List ℕ) (follow_last : Bool) → sound w ≡ true → {x : Walk} → x ≡ walked (walk (unpack w).entries (unpack w).nodes follow_last path) → Roomy x
walk_roomy w path follow_last s e = rw e (walked_roomy _ (whole_ends w (sound_has_sound_rows w s) follow_last path))
