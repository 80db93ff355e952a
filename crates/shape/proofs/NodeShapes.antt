-- A node's words tested: a free row, a node without a target, a link. Assumes nothing.
use mathlib.Core.Path.{◌≡◌, refl, sym, ap, ap₂, ◌∙◌}
use mathlib.Core.Bool.{Bool, true, false, ◌&&◌, ◌||◌}
use mathlib.Core.List.{List, [], ◌∷◌, ◌++◌}
use Prim.Native.Nat.{ℕ, zero, suc, ◌+◌, ◌*◌, ◌/◌, ◌%◌, ◌≤◌, ◌<◌}
use native.Mathlib.Decide.{ℕ_discrete}
use native.Mathlib.Omega.{arith}
use borrow.Author.Tests.{eqb-true, eq-eqb, ne_eqb, leb-true, le-leb, lt-leb}
use mir.Syntax.{w32}
use mir.Val.{Fits}
use lib.Bits.{bit_or, or_add_and, and_le_l, and_le_r}
use lib.Dec.{eqb, leb}
use lib.ListN.{length, get_or, take, drop, replicate, length-take, length-drop}
use lib.Seq.{length-take-le, get_or-take, get_or-drop}
use Rattle.std.specs.List.{fold}
use Rattle.model.specs.Lists.{same, empty, all, filled}
use Rattle.model.specs.Paths.{longest_target, valid_target}
use Rattle.model.specs.Tables.{Node, no_node, free_node}
use Rattle.model.specs.Words.{node_words, bits, words, bytes, pack_node, unpack_node}
use Rattle.model.specs.Sound.{target_fits}
use Rattle.laws.proofs.Bools.{and_false, and_left, and_right, both, is_false, and_true, and_joins, stopped}
use Rattle.laws.proofs.Each.{Each, each_take, each_by_place}
use Rattle.laws.proofs.Pieces.{Word, bits_within, bits_join, bits_whole, same_equal, equal_same, bytes_length, bytes_are_bytes, bytes_of_words, words_of_bytes, filled_length, filled_bytes}
use Rattle.rows.specs.Blocks.{target_words}
use Rattle.rows.proofs.Blocks.{same_when}
use Rattle.shape.specs.Shaped.{node_shaped, zeros, link_fits}
use Rattle.shape.proofs.RowShapes.{first_word, zeros_same}

-- ZEROS BEHIND A TARGET

-- numbers joined bit by bit are 0 where both are
joined_zero : (a b : ℕ) → eqb (bit_or a b) 0 ≡ (eqb a 0 && eqb b 0)
joined_zero a b =
    let sum = or_add_and a b in
    let left = and_le_l a b in
    let right = and_le_r a b in
    same_when _ _
    (λ e. let z = eqb-true (bit_or a b) 0 e in both (eq-eqb a 0 (omega arith)) (eq-eqb b 0 (omega arith)))
    (λ e. let y = eqb-true a 0 (and_left (eqb a 0) (eqb b 0) e) in
    let z = eqb-true b 0 (and_right (eqb a 0) (eqb b 0) e) in
    eq-eqb (bit_or a b) 0 (omega arith))

joined_from : (s : List ℕ) (n : ℕ) → eqb (fold bit_or n s) 0 ≡ zeros (n ∷ s)
unfolding zeros all
joined_from [] n = sym (and_true (eqb n 0))
joined_from (x ∷ s) n =
    joined_from s (bit_or n x) ∙ ap (λ b. b && zeros s) (joined_zero n x) ∙ sym (and_joins (eqb n 0) (eqb x 0) (zeros s))

pub joined_zeros : (s : List ℕ) → eqb (fold bit_or 0 s) 0 ≡ zeros s
unfolding zeros all
joined_zeros s = joined_from s 0

filled_zeros : (t : List ℕ) (m k : ℕ) → zeros (drop (length t) (take m (t ++ replicate k 0))) ≡ true
unfolding zeros all
filled_zeros [] zero k = refl
filled_zeros [] (suc m) zero = refl
filled_zeros [] (suc m) (suc k) = filled_zeros [] m k
filled_zeros (x ∷ t) zero k = refl
filled_zeros (x ∷ t) (suc m) k = filled_zeros t m k

zeros_filled : (n : ℕ) (s : List ℕ) (k : ℕ) → n ≤ length s → length s ≤ n + k → zeros (drop n s) ≡ true → take (length s) (take n s ++ replicate k 0) ≡ s
unfolding zeros all
zeros_filled zero [] k h l e = refl
zeros_filled zero (x ∷ s) zero h l e = absurd (omega arith)
zeros_filled zero (x ∷ s) (suc k) h l e =
    ap₂ ◌∷◌ (sym (eqb-true x 0 (and_left (eqb x 0) _ e))) (zeros_filled zero s k (omega arith) (omega arith) (and_right (eqb x 0) _ e))
zeros_filled (suc n) [] k h l e = absurd (omega arith)
zeros_filled (suc n) (x ∷ s) k h l e = ap (λ t. x ∷ t) (zeros_filled n s k (omega arith) (omega arith) e)

some_taken : (n : ℕ) (s : List ℕ) → (n ≡ 0 → ⊥) → 1 ≤ length s → empty (take n s) ≡ false
unfolding empty
some_taken zero s n h = absurd (n refl)
some_taken (suc n) [] m h = absurd (omega arith)
some_taken (suc n) (x ∷ s) m h = refl

-- a field between two others
middle_field : (h k l c : ℕ) → h ≡ k * 1073741824 + l * 8388608 + c * 8192 → l ≤ longest_target → c < 1024 → l ≡ h / 8388608 % 128
middle_field h k l c e m n = omega arith

lowest_bits : (h : ℕ) → h % 8192 ≡ 0 → bits 0 13 h ≡ 0
unfolding bits
lowest_bits h low = omega arith

-- the fields of a node's first word make it up
fields_whole : (h : ℕ) → Word h → h % 8192 ≡ 0 → h ≡ bits 30 2 h * 1073741824 + bits 23 7 h * 8388608 + bits 13 10 h * 8192
fields_whole h small low =
    let a : bits 30 2 h * 128 + bits 23 7 h ≡ bits 23 9 h = bits_join 23 2 7 h in
    let b : bits 23 9 h * 1024 + bits 13 10 h ≡ bits 13 19 h = bits_join 13 9 10 h in
    let c : bits 13 19 h * 8192 + bits 0 13 h ≡ bits 0 32 h = bits_join 0 19 13 h in
    let d : bits 0 32 h ≡ h = bits_whole 32 small in
    let e : bits 0 13 h ≡ 0 = lowest_bits h low in
    omega arith

-- A NODE THAT WAS READ: its first word, those of its target, and its kind

pub record NodeRead (ws : List ℕ) (h : ℕ) (ts : List ℕ) (kind : ℕ) : Type 0 where
  pub words : h ∷ ts ≡ ws
  pub small : Word h
  pub others : Each Word ts
  pub long : length ts ≡ target_words
  pub top : kind ≡ h / 1073741824

pub node_read : (w : List ℕ) (at : ℕ) → at + node_words ≤ length w → ((i : ℕ) → Fits w32 (get_or w i 0)) → {kind : ℕ} → kind ≡ get_or w at 0 / 1073741824
    → NodeRead (take node_words (drop at w)) (get_or w at 0) (take target_words (drop (at + 1) w)) kind
node_read w at inside small top =
    let ts = take target_words (drop (at + 1) w) in
    let long : length ts ≡ target_words = length-take-le target_words (drop (at + 1) w) (omega (arith, length-drop (at + 1) w)) in
    record {
      words = sym (first_word target_words at w (omega arith));
      small = omega (arith, small at);
      others = each_by_place ts 0 (λ i l.
          let e : get_or ts i 0 ≡ get_or w (at + 1 + i) 0 = get_or-take target_words (drop (at + 1) w) i 0 (omega arith) ∙ get_or-drop (at + 1) w i 0 in
          omega (arith, small (at + 1 + i)));
      long = long;
      top = top;
    }

module _ {ws : List ℕ} {h : ℕ} {ts : List ℕ} {kind : ℕ} (read : NodeRead ws h ts kind) where
  shaped_node : Node → Bool
  shaped_node x = same (h ∷ ts) (pack_node x) && (free_node x || target_fits x)

  kind_bits : bits 30 2 h ≡ kind
  unfolding bits
  kind_bits = let s = read.small in let t = read.top in omega arith

  abbrev no_words : List ℕ
  no_words = replicate target_words 0

  blank_target : zeros ts ≡ same ts no_words
  blank_target = zeros_same ts ∙ ap (λ n. same ts (replicate n 0)) read.long

  -- a free row
  module _ (free : kind ≡ 0) where
    free_shape : same (h ∷ ts) (0 ∷ no_words) ≡ node_shaped ws
    unfolding node_shaped shaped_node unpack_node pack_node free_node
    free_shape =
        let u : unpack_node (h ∷ ts) ≡ no_node = simp (kind_bits ∙ free, unpack_node) in
        sym (ap shaped_node u ∙ and_true (same (h ∷ ts) (0 ∷ no_words))) ∙ ap node_shaped read.words

    pub free_dirty : (h ≡ 0 → ⊥) → false ≡ node_shaped ws
    free_dirty n =
        sym (is_false (same (h ∷ ts) (0 ∷ no_words)) (λ t. n (ap (λ l. get_or l 0 0) (same_equal (h ∷ ts) (0 ∷ no_words) t)))) ∙ free_shape

    pub free_clean : h ≡ 0 → zeros ts ≡ node_shaped ws
    unfolding same
    free_clean z =
        let front : same (h ∷ ts) (0 ∷ no_words) ≡ same ts no_words = simp (eq-eqb h 0 z, same) in
        blank_target ∙ sym front ∙ free_shape

  module _ (used : kind ≡ 0 → ⊥) where
    -- what it holds, and the words that this is written as
    abbrev target : List ℕ
    target = take (bits 23 7 h) (bytes ts)

    abbrev node_in : Node
    node_in = record { kind = bits 30 2 h; count = bits 13 10 h; target = target }

    abbrev head_again : ℕ → ℕ
    head_again n = bits 30 2 h * 1073741824 + n * 8388608 + bits 13 10 h * 8192

    abbrev again : List ℕ
    again = head_again (length target) ∷ words (filled longest_target target)

    used_shape : (same (h ∷ ts) again && target_fits node_in) ≡ node_shaped ws
    unfolding node_shaped shaped_node unpack_node pack_node free_node
    used_shape =
        let n = ne_eqb (bits 30 2 h) 0 (λ z. used (sym kind_bits ∙ z)) in
        let u : unpack_node (h ∷ ts) ≡ node_in = simp (n, unpack_node) in
        let p : pack_node node_in ≡ again = simp (n, pack_node) in
        let f : (free_node node_in || target_fits node_in) ≡ target_fits node_in = rw n in
        sym (ap shaped_node u ∙ ap₂ ◌&&◌ (ap (same (h ∷ ts)) p) f) ∙ ap node_shaped read.words

    head_fields : same (h ∷ ts) again ≡ true → h ≡ head_again (length target)
    head_fields e = ap (λ l. get_or l 0 0) (same_equal (h ∷ ts) again e)

    bytes_long : length (bytes ts) ≡ longest_target
    bytes_long = bytes_length ts ∙ ap (λ n. n * 4) read.long

    target_length : length target ≤ longest_target
    target_length = simp (length-take) (omega (arith, bytes_long))

    used_low_bits : (h % 8192 ≡ 0 → ⊥) → false ≡ node_shaped ws
    used_low_bits n = stopped (target_fits node_in) (is_false (same (h ∷ ts) again) (λ t. n (let e = head_fields t in omega arith))) ∙ used_shape

    module _ (low : h % 8192 ≡ 0) {size : ℕ} (sized : size ≡ h / 8388608 % 128) where
      size_bits : bits 23 7 h ≡ size
      unfolding bits
      size_bits = sym sized

      link_words : same (h ∷ ts) again ≡ (leb size longest_target && zeros (drop size (bytes ts)))
      unfolding filled
      link_words =
          same_when (same (h ∷ ts) again) (leb size longest_target && zeros (drop size (bytes ts)))
          (λ e. let c : length target ≡ size
          = middle_field h (bits 30 2 h) (length target) (bits 13 10 h) (head_fields e) target_length (bits_within 13 10 h) ∙ sym sized in
          let f : filled longest_target target ≡ bytes ts
          = sym (bytes_of_words target_words (filled longest_target target) (filled_length longest_target target)
          (filled_bytes longest_target (each_take (bits 23 7 h) (bytes_are_bytes ts)))) ∙ ap (λ l. bytes (drop 1 l)) (sym (same_equal (h ∷ ts) again e)) in
          both (le-leb size longest_target (omega (arith, target_length)))
          (ap₂ (λ n s. zeros (drop n s)) (sym c) (sym f) ∙ filled_zeros target longest_target longest_target))
          (λ e. let l = leb-true size longest_target (and_left (leb size longest_target) _ e) in
          let z = and_right (leb size longest_target) (zeros (drop size (bytes ts))) e in
          let c : length target ≡ bits 23 7 h = length-take-le (bits 23 7 h) (bytes ts) (omega (arith, bytes_long, size_bits)) in
          let f : filled longest_target target ≡ bytes ts
          = ap (λ m. take m (target ++ replicate longest_target 0)) (sym bytes_long)
          ∙ zeros_filled (bits 23 7 h) (bytes ts) longest_target (omega (arith, bytes_long, size_bits)) (omega (arith, bytes_long))
          (ap (λ n. zeros (drop n (bytes ts))) size_bits ∙ z) in
          equal_same (ap₂ ◌∷◌ (fields_whole h read.small low ∙ ap head_again (sym c)) (sym (ap words f ∙ words_of_bytes read.others))))

      pub link_read : kind ≡ 3 → link_fits (bytes ts) size ≡ node_shaped ws
      unfolding link_fits target_fits
      link_read k =
          let t : target_fits node_in ≡ valid_target (take size (bytes ts))
          = simp (eq-eqb (bits 30 2 h) 3 (kind_bits ∙ k), target_fits) (ap (λ n. valid_target (take n (bytes ts))) size_bits) in
          and_joins (leb size longest_target) (zeros (drop size (bytes ts))) (valid_target (take size (bytes ts)))
          ∙ sym (ap₂ ◌&&◌ link_words t) ∙ used_shape

      -- no link, and so no target
      module _ (plain : kind ≡ 3 → ⊥) where
        plain_target : target_fits node_in ≡ empty target
        unfolding target_fits
        plain_target = simp (ne_eqb (bits 30 2 h) 3 (λ z. plain (sym kind_bits ∙ z)), target_fits)

        pub plain_dirty : (size ≡ 0 → ⊥) → false ≡ node_shaped ws
        plain_dirty n =
            sym (and_false (same (h ∷ ts) again) (target_fits node_in)
            (λ _. plain_target ∙ some_taken (bits 23 7 h) (bytes ts) (λ z. n (sym size_bits ∙ z)) (omega (arith, bytes_long)))) ∙ used_shape

        pub plain_clean : size ≡ 0 → zeros ts ≡ node_shaped ws
        unfolding same empty words filled bits
        plain_clean z =
            let t : target ≡ [] = ap (λ n. take n (bytes ts)) (size_bits ∙ z) in
            let k : head_again 0 ≡ h = let s = read.small in omega arith in
            let w : again ≡ h ∷ no_words
            = ap (λ (s : List ℕ). head_again (length s) ∷ words (filled longest_target s)) t ∙ ap (λ n. n ∷ no_words) k in
            let front : same (h ∷ ts) (h ∷ no_words) ≡ same ts no_words = simp (eq-eqb h h refl, same) in
            blank_target
            ∙ sym (ap₂ ◌&&◌ (ap (same (h ∷ ts)) w ∙ front) (plain_target ∙ ap empty t) ∙ and_true (same ts no_words)) ∙ used_shape

  pub low_bits : (h % 8192 ≡ 0 → ⊥) → false ≡ node_shaped ws
  low_bits n = elim (ℕ_discrete kind 0) [ yes z ↦ free_dirty z (λ e. n (omega arith)) | no u ↦ used_low_bits u n ]

-- A LINK'S BYTES

module _ {s t : List ℕ} (e : t ≡ s) (n : ℕ) where
  pub link_long : longest_target < n → false ≡ link_fits s n
  unfolding link_fits
  link_long h = rw (lt-leb n longest_target h)

  pub link_dirty : n ≤ longest_target → zeros (drop n t) ≡ false → false ≡ link_fits s n
  unfolding link_fits
  link_dirty h z = rw (← e, le-leb n longest_target h, z)

  pub link_clean : n ≤ longest_target → zeros (drop n t) ≡ true → {r : Bool} → r ≡ valid_target (take n t) → r ≡ link_fits s n
  unfolding link_fits
  link_clean h z f = rw (← e, le-leb n longest_target h, z) f
