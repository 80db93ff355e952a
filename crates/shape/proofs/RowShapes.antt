-- One row's words tested, table by table: what the code's tests say of the model's. Assumes nothing.
use mathlib.Core.Path.{◌≡◌, refl, sym, ap, ap₂, ◌∙◌}
use mathlib.Core.Bool.{Bool, true, false, ◌&&◌, ◌||◌}
use mathlib.Core.Logic.{◌⊎◌, inl, inr}
use mathlib.Core.List.{List, [], ◌∷◌, ◌++◌}
use Prim.Native.Nat.{ℕ, suc, ◌+◌, ◌*◌, ◌≤◌, ◌<◌}
use native.Mathlib.Omega.{arith}
use borrow.Author.Tests.{eqb-true, eq-eqb, ne_eqb, leb-true, leb-false}
use mir.Syntax.{w32}
use mir.Val.{Fits}
use lib.Dec.{eqb, leb}
use lib.ListN.{length, get_or, take, drop, replicate}
use Rattle.model.specs.Lists.{same, all}
use Rattle.model.specs.Paths.{valid_name}
use Rattle.model.specs.Tables.{Entry, Hold, no_entry, no_hold, no_process, free_entry, free_hold, free_process}
use Rattle.model.specs.Words.{entry_words, hold_words, bits, pack_name, pack_entry, unpack_entry, pack_hold, unpack_hold, pack_process, unpack_process}
use Rattle.laws.proofs.Bools.{true_or_false, and_left, and_right, and_true, and_joins, both, stopped, passed, either, or_left, or_right}
use Rattle.laws.proofs.Loops.{rest_at}
use Rattle.laws.proofs.Pieces.{Word, same_equal, equal_same, bits_join, bits_whole}
use Rattle.laws.proofs.RowWords.{same_halves}
use Rattle.laws.proofs.Words.{name_wide}
use Rattle.rows.specs.declared.Block.{Block}
use Rattle.rows.specs.Blocks.{block_in, block_words, name_of}
use Rattle.rows.proofs.Blocks.{same_when}
use Rattle.names.specs.Fits.{good_name}
use Rattle.shape.specs.Shaped.{entry_shaped, hold_shaped, process_shaped, role_word, role_valid, zeros}

same_turned : (xs ys : List ℕ) → same xs ys ≡ same ys xs
same_turned xs ys =
    same_when (same xs ys) (same ys xs) (λ e. equal_same (sym (same_equal xs ys e))) (λ e. equal_same (sym (same_equal ys xs e)))

-- the words of a row, one by one
pub first_word : (k at : ℕ) (w : List ℕ) → at < length w → take (suc k) (drop at w) ≡ get_or w at 0 ∷ take k (drop (at + 1) w)
first_word k at w h = ap (take (suc k)) (rest_at 0 w at h)

block_and : (k at : ℕ) (w : List ℕ) → at + 4 ≤ length w → (b : Block) → b ≡ block_in w at
    → take (suc (suc (suc (suc k)))) (drop at w) ≡ b.first ∷ b.second ∷ b.third ∷ b.fourth ∷ take k (drop (at + 4) w)
block_and k at w h b e =
    let two : at + 1 + 1 ≡ at + 2 = omega arith in
    let three : at + 2 + 1 ≡ at + 3 = omega arith in
    let four : at + 3 + 1 ≡ at + 4 = omega arith in
    first_word (suc (suc (suc k))) at w (omega arith)
    ∙ ap₂ ◌∷◌ (ap (λ (x : Block). x.first) (sym e)) (first_word (suc (suc k)) (at + 1) w (omega arith)
    ∙ ap₂ ◌∷◌ (ap (λ (x : Block). x.second) (sym e)) (ap (λ n. take (suc (suc k)) (drop n w)) two ∙ first_word (suc k) (at + 2) w (omega arith)
    ∙ ap₂ ◌∷◌ (ap (λ (x : Block). x.third) (sym e)) (ap (λ n. take (suc k) (drop n w)) three ∙ first_word k (at + 3) w (omega arith)
    ∙ ap₂ ◌∷◌ (ap (λ (x : Block). x.fourth) (sym e)) (ap (λ n. take k (drop n w)) four))))

-- a word of two halves
halves : (h : ℕ) → Word h → bits 16 16 h * 65536 + bits 0 16 h ≡ h
halves h l = bits_join 0 16 16 h ∙ bits_whole 32 l

upper_none : (h : ℕ) → h < 65536 → bits 16 16 h ≡ 0
unfolding bits
upper_none h l = omega arith

upper_some : (h : ℕ) → Word h → 65536 ≤ h → bits 16 16 h ≡ 0 → ⊥
unfolding bits
upper_some h l g e = omega arith

-- A ROW OF ZEROS

pub zeros_same : (ts : List ℕ) → zeros ts ≡ same ts (replicate (length ts) 0)
unfolding zeros all same
zeros_same [] = refl
zeros_same (t ∷ ts) = go (eqb t 0) (zeros_same ts)
  where
    go : (b : Bool) → zeros ts ≡ same ts (replicate (length ts) 0)
        → (b && zeros ts) ≡ elim b as (λ _. Bool) [ true ↦ same ts (replicate (length ts) 0) | false ↦ false ]
    go true e = e
    go false e = refl

-- the word behind others
zeros_end : (s : List ℕ) (z : ℕ) → (zeros s && eqb z 0) ≡ zeros (s ++ (z ∷ []))
unfolding zeros all
zeros_end [] z = sym (and_true (eqb z 0))
zeros_end (x ∷ s) z = sym (and_joins (eqb x 0) (zeros s) (eqb z 0)) ∙ ap (λ b. eqb x 0 && b) (zeros_end s z)

-- a block that is the blank one, d
pub blank_block : (b d : Block) → (d.first ≡ 0) × ((d.second ≡ 0) × ((d.third ≡ 0) × (d.fourth ≡ 0)))
    → (eqb b.first d.first && (eqb b.second d.second && (eqb b.third d.third && eqb b.fourth d.fourth))) ≡ zeros (block_words b)
unfolding zeros all
blank_block b d e =
    rw (e.0, e.1.0, e.1.1.0, e.1.1.1) (ap (λ x. eqb b.first 0 && (eqb b.second 0 && (eqb b.third 0 && x))) (sym (and_true (eqb b.fourth 0))))

-- A ROW THAT WAS READ: its first word, and the name block behind it

pub record RowRead (k : ℕ) (w : List ℕ) (at : ℕ) (b : Block) : Type 0 where
  pub inside : at + k ≤ length w
  pub small : Word (get_or w at 0)
  pub name : b ≡ block_in w (at + 1)

pub row_read : (k at : ℕ) {w : List ℕ} {b : Block} → at + k ≤ length w → ((i : ℕ) → Fits w32 (get_or w i 0)) → b ≡ block_in w (at + 1) → RowRead k w at b
row_read k at inside small name = record { inside = inside; small = omega (arith, small at); name = name }

-- ENTRIES

module _ (h : ℕ) (b : Block) where
  shaped_entry : Entry → Bool
  shaped_entry e = same (h ∷ block_words b) (pack_entry e) && (free_entry e || valid_name e.place.name)

  entry_blank : h < 65536 → zeros (h ∷ block_words b) ≡ entry_shaped (h ∷ block_words b)
  unfolding entry_shaped shaped_entry pack_entry free_entry unpack_entry
  entry_blank l =
      let u : unpack_entry (h ∷ block_words b) ≡ no_entry = simp (upper_none h l, unpack_entry) in
      zeros_same (h ∷ block_words b)
      ∙ sym (ap shaped_entry u ∙ and_true (same (h ∷ block_words b) (replicate entry_words 0)))

  entry_good : Word h → 65536 ≤ h → good_name b ≡ entry_shaped (h ∷ block_words b)
  unfolding entry_shaped shaped_entry pack_entry free_entry unpack_entry good_name name_of same
  entry_good l g =
      let n = ne_eqb (bits 16 16 h) 0 (upper_some h l g) in
      let x : Entry = record { place = record { directory = bits 16 16 h; name = name_of b }; node = bits 0 16 h } in
      let u : unpack_entry (h ∷ block_words b) ≡ x = simp (n, unpack_entry) in
      let p : pack_entry x ≡ h ∷ pack_name (name_of b) = simp (n, pack_entry) (ap (λ m. m ∷ pack_name (name_of b)) (halves h l)) in
      let s : same (h ∷ block_words b) (h ∷ pack_name (name_of b)) ≡ same (block_words b) (pack_name (name_of b)) = simp (eq-eqb h h refl, same) in
      let v : (free_entry x || valid_name (name_of b)) ≡ valid_name (name_of b) = rw n in
      sym (ap shaped_entry u ∙ ap₂ ◌&&◌ (ap (same (h ∷ block_words b)) p ∙ s ∙ same_turned (block_words b) (pack_name (name_of b))) v)

-- an entry's words in the slice
module _ {w : List ℕ} {at : ℕ} {b : Block} (read : RowRead entry_words w at b) where
  entry_list : get_or w at 0 ∷ block_words b ≡ take entry_words (drop at w)
  entry_list =
      let i = read.inside in
      sym (first_word 4 at w (omega arith) ∙ ap (λ l. get_or w at 0 ∷ l) (block_and 0 (at + 1) w (omega arith) b read.name))

  pub entry_blank_at : get_or w at 0 < 65536 → zeros (get_or w at 0 ∷ block_words b) ≡ entry_shaped (take entry_words (drop at w))
  entry_blank_at l = entry_blank (get_or w at 0) b l ∙ ap entry_shaped entry_list

  pub entry_good_at : 65536 ≤ get_or w at 0 → good_name b ≡ entry_shaped (take entry_words (drop at w))
  entry_good_at g = entry_good (get_or w at 0) b read.small g ∙ ap entry_shaped entry_list

-- HOLDS

module _ (h : ℕ) (b : Block) (z : ℕ) where
  abbrev hold_list : List ℕ
  hold_list = h ∷ b.first ∷ b.second ∷ b.third ∷ b.fourth ∷ z ∷ []

  shaped_hold : Hold → Bool
  shaped_hold x = same hold_list (pack_hold x) && (free_hold x || (valid_name x.place.name && role_valid x))

  hold_blank : h < 65536 → (zeros (h ∷ block_words b) && eqb z 0) ≡ hold_shaped hold_list
  unfolding hold_shaped shaped_hold pack_hold free_hold unpack_hold
  hold_blank l =
      let u : unpack_hold hold_list ≡ no_hold = simp (upper_none h l, unpack_hold) in
      zeros_end (h ∷ block_words b) z ∙ zeros_same hold_list
      ∙ sym (ap shaped_hold u ∙ and_true (same hold_list (replicate hold_words 0)))

  module _ (l : Word h) (g : 65536 ≤ h) where
    abbrev hold_read : Hold
    hold_read = record { place = record { directory = bits 16 16 h; name = name_of b }; process = bits 0 16 h; role = bits 30 2 z }

    -- the words that its name and its role are written as
    abbrev name_again : List ℕ
    name_again = pack_name (name_of b)

    abbrev role_again : ℕ
    role_again = bits 30 2 z * 1073741824

    abbrev hold_again : List ℕ
    hold_again = h ∷ (name_again ++ (role_again ∷ []))

    used : eqb (bits 16 16 h) 0 ≡ false
    used = ne_eqb (bits 16 16 h) 0 (upper_some h l g)

    hold_shape : hold_shaped hold_list ≡ (same hold_list hold_again && (valid_name (name_of b) && role_valid hold_read))
    unfolding hold_shaped shaped_hold unpack_hold name_of pack_hold free_hold
    hold_shape =
        let u : unpack_hold hold_list ≡ hold_read = simp (used, unpack_hold) in
        let p : pack_hold hold_read ≡ hold_again = simp (used, pack_hold) (ap (λ m. m ∷ (name_again ++ (role_again ∷ []))) (halves h l)) in
        ap shaped_hold u ∙ ap₂ ◌&&◌ (ap (same hold_list) p) (rw used)

    -- the word of a valid role
    role_fields : role_word z ≡ true → (role_again ≡ z) × (role_valid hold_read ≡ true)
    unfolding role_valid bits
    role_fields e = go (either (eqb z 1073741824) (eqb z 2147483648) e)
      where
        go : (eqb z 1073741824 ≡ true) ⊎ (eqb z 2147483648 ≡ true) → (role_again ≡ z) × (role_valid hold_read ≡ true)
        go (inl t) = let q = eqb-true z 1073741824 t in (omega arith, rw q)
        go (inr t) = let q = eqb-true z 2147483648 t in (omega arith, rw q)

    role_back : role_again ≡ z → role_valid hold_read ≡ true → role_word z ≡ true
    unfolding role_valid
    role_back q t = go (either (eqb (bits 30 2 z) 1) (eqb (bits 30 2 z) 2) t)
      where
        go : (eqb (bits 30 2 z) 1 ≡ true) ⊎ (eqb (bits 30 2 z) 2 ≡ true) → role_word z ≡ true
        go (inl e) = let r = eqb-true (bits 30 2 z) 1 e in or_left (eqb z 2147483648) (eq-eqb z 1073741824 (omega arith))
        go (inr e) = let r = eqb-true (bits 30 2 z) 2 e in or_right (eqb z 1073741824) (eq-eqb z 2147483648 (omega arith))

    hold_good : (role_word z && good_name b) ≡ hold_shaped hold_list
    unfolding good_name
    hold_good =
        same_when _ _
        (λ e. let role = role_fields (and_left (role_word z) (good_name b) e) in
        let good = and_right (role_word z) (good_name b) e in
        let name = same_equal name_again (block_words b) (and_left (same name_again (block_words b)) _ good) in
        hold_shape ∙ both (equal_same (λ i. h ∷ (sym name i ++ (sym role.0 i ∷ []))))
        (both (and_right (same name_again (block_words b)) (valid_name (name_of b)) good) role.1))
        (λ t. let s = sym hold_shape ∙ t in
        let exact = same_equal hold_list hold_again (and_left _ (valid_name (name_of b) && role_valid hold_read) s) in
        let rest = and_right (same hold_list hold_again) (valid_name (name_of b) && role_valid hold_read) s in
        let parts = same_halves (block_words b) (z ∷ []) name_again (role_again ∷ []) (sym (name_wide (name_of b))) (ap (drop 1) exact) in
        both (role_back (ap (λ m. get_or m 0 0) (sym parts.1)) (and_right (valid_name (name_of b)) (role_valid hold_read) rest))
        (both (equal_same (sym parts.0)) (and_left (valid_name (name_of b)) (role_valid hold_read) rest)))

-- a hold's words in the slice
module _ {w : List ℕ} {at : ℕ} {b : Block} (read : RowRead hold_words w at b) where
  abbrev role_in : ℕ
  role_in = get_or w (at + 5) 0

  hold_list_at : hold_list (get_or w at 0) b role_in ≡ take hold_words (drop at w)
  hold_list_at =
      let i = read.inside in
      let five : at + 1 + 4 ≡ at + 5 = omega arith in
      sym (first_word 5 at w (omega arith) ∙ ap (λ l. get_or w at 0 ∷ l) (block_and 1 (at + 1) w (omega arith) b read.name
      ∙ ap (λ l. b.first ∷ b.second ∷ b.third ∷ b.fourth ∷ l) (ap (λ n. take 1 (drop n w)) five ∙ first_word 0 (at + 5) w (omega arith))))

  pub hold_blank_at : get_or w at 0 < 65536 → (zeros (get_or w at 0 ∷ block_words b) && eqb role_in 0) ≡ hold_shaped (take hold_words (drop at w))
  hold_blank_at l = hold_blank (get_or w at 0) b role_in l ∙ ap hold_shaped hold_list_at

  module _ (g : 65536 ≤ get_or w at 0) where
    hold_good_at : (role_word role_in && good_name b) ≡ hold_shaped (take hold_words (drop at w))
    hold_good_at = hold_good (get_or w at 0) b role_in read.small g ∙ ap hold_shaped hold_list_at

    pub no_role : role_word role_in ≡ false → false ≡ hold_shaped (take hold_words (drop at w))
    no_role e = stopped (good_name b) e ∙ hold_good_at

    pub role_there : {r : Bool} → role_word role_in ≡ true → r ≡ good_name b → r ≡ hold_shaped (take hold_words (drop at w))
    role_there e f = passed e f ∙ hold_good_at

-- PROCESSES

module _ (p : ℕ) where
  pub process_blank : p < 65536 → eqb p 0 ≡ process_shaped (p ∷ [])
  unfolding process_shaped pack_process unpack_process free_process same
  process_blank l =
      let u : unpack_process (p ∷ []) ≡ no_process = simp (upper_none p l, unpack_process) in
      sym (ap (λ x. same (p ∷ []) (pack_process x)) u ∙ one_word (eqb p 0))
    where
      one_word : (b : Bool) → elim b as (λ _. Bool) [ true ↦ true | false ↦ false ] ≡ b
      one_word true = refl
      one_word false = refl

  pub process_used : Word p → 65536 ≤ p → true ≡ process_shaped (p ∷ [])
  unfolding process_shaped pack_process unpack_process free_process
  process_used l g =
      let n = ne_eqb (bits 16 16 p) 0 (upper_some p l g) in
      let u : pack_process (unpack_process (p ∷ [])) ≡ p ∷ [] = simp (n, unpack_process, pack_process) (ap (λ m. m ∷ []) (halves p l)) in
      sym (equal_same (sym u))

  pub process_decides : Word p → (p ≡ 0 → ⊥) → leb 65536 p ≡ process_shaped (p ∷ [])
  process_decides l n =
      elim (true_or_false (leb 65536 p)) [
        | inl t ↦ t ∙ process_used l (leb-true 65536 p t)
        | inr f ↦ f ∙ sym (ne_eqb p 0 n) ∙ process_blank (leb-false 65536 p f)
      ]
