-- The fields of a row, read off the words that stand for it. Assumes nothing.
use mathlib.Core.Path.{◌≡◌, refl, sym, ap, ◌∙◌}
use mathlib.Core.Bool.{Bool, true, false}
use mathlib.Core.Logic.{◌⊎◌, inl, inr}
use mathlib.Core.List.{List, [], ◌∷◌, ◌++◌}
use Prim.Native.Nat.{ℕ, zero, suc, ◌+◌, ◌*◌, ◌-◌, ◌/◌, ◌%◌, ◌≤◌, ◌<◌}
use native.Mathlib.Omega.{arith}
use native.Mathlib.Nat.{add-zero}
use native.Mathlib.Numerals.{add-one}
use borrow.Author.Tests.{eqb-true}
use lib.ListN.{length, get_or, take, drop, get_or-append, get_or-eq_default}
use lib.Seq.{get_or-take, get_or-drop, get_or-append_seam}
use Rattle.model.specs.Lists.{filled}
use Rattle.model.specs.Tables.{Entry, Node, Hold, Process, no_node, free_entry, free_node, free_hold, free_process, node_at, entry_rows, node_rows, hold_rows, process_rows}
use Rattle.model.specs.Paths.{longest_target}
use Rattle.model.specs.Words.{entry_words, node_words, hold_words, process_words, first_node_word, first_hold_word, first_process_word}
use Rattle.model.specs.Words.{words, pack_name, pack_entry, pack_node, pack_hold, pack_process, unpack}
use Rattle.laws.proofs.Each.{each_at}
use Rattle.laws.proofs.Words.{EntryFits, NodeFits, HoldFits, ProcessFits, no_entry_fits, no_node_fits, no_hold_fits, no_process_fits, name_wide, unpacked_fits}
use Rattle.rows.specs.Blocks.{block_in, block_of}
use Rattle.rows.specs.Stands.{Stands, entry_row, node_row, hold_row, process_row}
use Rattle.rows.proofs.Parts.{nodes_full, read_entry, read_node, read_hold, read_process}

-- a word of a row
word_at : (k at : ℕ) (w : List ℕ) {ws : List ℕ} → take k (drop at w) ≡ ws → (j : ℕ) → j < k → get_or w (at + j) 0 ≡ get_or ws j 0
word_at k at w e j h = sym (get_or-take k (drop at w) j 0 h ∙ get_or-drop at w j 0) ∙ ap (λ l. get_or l j 0) e

-- the first of them
first_at : (k at : ℕ) (w : List ℕ) {ws : List ℕ} → take k (drop at w) ≡ ws → 0 < k → get_or w at 0 ≡ get_or ws 0 0
first_at k at w e h = ap (λ n. get_or w n 0) (sym (add-zero at)) ∙ word_at k at w e 0 h

-- the name's words are those of a block
block_is : (w : List ℕ) (at : ℕ) (n : List ℕ) → ((j : ℕ) → j < 4 → get_or w (at + j) 0 ≡ get_or (pack_name n) j 0)
    → block_in w at ≡ block_of n
unfolding block_of
block_is w at n h =
    let a : get_or w at 0 ≡ get_or (pack_name n) 0 0 = ap (λ m. get_or w m 0) (sym (add-zero at)) ∙ h 0 (omega arith) in
    let b = h 1 (omega arith) in
    let c = h 2 (omega arith) in
    let d = h 3 (omega arith) in
    λ i. record { first = a i; second = b i; third = c i; fourth = d i }

-- ENTRIES

entry_packed : {x : Entry} → EntryFits x → pack_entry x ≡ (x.place.directory * 65536 + x.node) ∷ pack_name x.place.name
unfolding pack_entry free_entry pack_name words filled
entry_packed {x} f = go (free_entry x) refl
  where
    go : (b : Bool) → free_entry x ≡ b → pack_entry x ≡ (x.place.directory * 65536 + x.node) ∷ pack_name x.place.name
    go true q = rw (f.free (eqb-true x.place.directory 0 q))
    go false q = simp (q, pack_entry)

pub entry_row_fits : (w : List ℕ) (row : ℕ) → EntryFits (entry_row w row)
entry_row_fits w row = each_at (unpacked_fits w).entries_fit no_entry_fits row

module _ {w : List ℕ} (s : Stands w) (row : ℕ) (r : row < entry_rows) where
  entry_head : get_or w (row * entry_words) 0 ≡ (entry_row w row).place.directory * 65536 + (entry_row w row).node
  entry_head = first_at entry_words (row * entry_words) w (read_entry s row r ∙ entry_packed (entry_row_fits w row)) (omega arith)

  pub entry_directory_is : get_or w (row * entry_words) 0 / 65536 ≡ (entry_row w row).place.directory
  entry_directory_is = let h = entry_head in let b = (entry_row_fits w row).node in omega arith

  pub entry_node_is : get_or w (row * entry_words) 0 % 65536 ≡ (entry_row w row).node
  entry_node_is = let h = entry_head in let b = (entry_row_fits w row).node in omega arith

  pub entry_name_is : block_in w (row * entry_words + 1) ≡ block_of (entry_row w row).place.name
  entry_name_is =
      block_is w (row * entry_words + 1) (entry_row w row).place.name (λ j h.
      let n : row * entry_words + 1 + j ≡ row * entry_words + suc j = omega arith in
      ap (λ m. get_or w m 0) n ∙ word_at entry_words (row * entry_words) w (read_entry s row r ∙ entry_packed (entry_row_fits w row)) (suc j) (omega arith))

-- NODES

pub node_packed : {x : Node} → NodeFits x → pack_node x ≡ (x.kind * 1073741824 + length x.target * 8388608 + x.count * 8192) ∷ words (filled longest_target x.target)
unfolding pack_node free_node words filled
node_packed {x} f = go (free_node x) refl
  where
    go : (b : Bool) → free_node x ≡ b → pack_node x ≡ (x.kind * 1073741824 + length x.target * 8388608 + x.count * 8192) ∷ words (filled longest_target x.target)
    go true q = rw (f.free (eqb-true x.kind 0 q))
    go false q = simp (q, pack_node)

pub node_row_fits : (w : List ℕ) (row : ℕ) → NodeFits (node_row w row)
node_row_fits w row = each_at (unpacked_fits w).nodes_fit no_node_fits row

module _ {w : List ℕ} (s : Stands w) (row : ℕ) (r : row < node_rows) where
  pub node_head : get_or w (first_node_word + row * node_words) 0
      ≡ (node_row w row).kind * 1073741824 + length (node_row w row).target * 8388608 + (node_row w row).count * 8192
  node_head = first_at node_words (first_node_word + row * node_words) w (read_node s row r ∙ node_packed (node_row_fits w row)) (omega arith)

  pub node_kind_is : get_or w (first_node_word + row * node_words) 0 / 1073741824 ≡ (node_row w row).kind
  node_kind_is = let h = node_head in let b = (node_row_fits w row).count in let c = (node_row_fits w row).target.short in omega arith

  pub node_count_is : get_or w (first_node_word + row * node_words) 0 / 8192 % 1024 ≡ (node_row w row).count
  node_count_is = let h = node_head in let b = (node_row_fits w row).count in let c = (node_row_fits w row).target.short in omega arith

  pub target_length_is : get_or w (first_node_word + row * node_words) 0 / 8388608 % 128 ≡ length (node_row w row).target
  target_length_is = let h = node_head in let b = (node_row_fits w row).count in let c = (node_row_fits w row).target.short in omega arith

-- HOLDS

hold_packed : {x : Hold} → HoldFits x → pack_hold x ≡ (x.place.directory * 65536 + x.process) ∷ (pack_name x.place.name ++ ((x.role * 1073741824) ∷ []))
unfolding pack_hold free_hold pack_name words filled
hold_packed {x} f = go (free_hold x) refl
  where
    go : (b : Bool) → free_hold x ≡ b → pack_hold x ≡ (x.place.directory * 65536 + x.process) ∷ (pack_name x.place.name ++ ((x.role * 1073741824) ∷ []))
    go true q = rw (f.free (eqb-true x.place.directory 0 q))
    go false q = simp (q, pack_hold)

pub hold_row_fits : (w : List ℕ) (row : ℕ) → HoldFits (hold_row w row)
hold_row_fits w row = each_at (unpacked_fits w).holds_fit no_hold_fits row

module _ {w : List ℕ} (s : Stands w) (row : ℕ) (r : row < hold_rows) where
  hold_head : get_or w (first_hold_word + row * hold_words) 0 ≡ (hold_row w row).place.directory * 65536 + (hold_row w row).process
  hold_head = first_at hold_words (first_hold_word + row * hold_words) w (read_hold s row r ∙ hold_packed (hold_row_fits w row)) (omega arith)

  pub hold_directory_is : get_or w (first_hold_word + row * hold_words) 0 / 65536 ≡ (hold_row w row).place.directory
  hold_directory_is = let h = hold_head in let b = (hold_row_fits w row).process in omega arith

  pub hold_process_is : get_or w (first_hold_word + row * hold_words) 0 % 65536 ≡ (hold_row w row).process
  hold_process_is = let h = hold_head in let b = (hold_row_fits w row).process in omega arith

  -- a word behind the first
  hold_word : (j : ℕ) → j < 5 → get_or w (first_hold_word + row * hold_words + suc j) 0
      ≡ get_or (pack_name (hold_row w row).place.name ++ (((hold_row w row).role * 1073741824) ∷ [])) j 0
  hold_word j h = word_at hold_words (first_hold_word + row * hold_words) w (read_hold s row r ∙ hold_packed (hold_row_fits w row)) (suc j) (omega arith)

  pub hold_role_is : get_or w (first_hold_word + row * hold_words + 5) 0 / 1073741824 ≡ (hold_row w row).role
  hold_role_is =
      let x = hold_row w row in
      let n = pack_name x.place.name in
      let role = x.role * 1073741824 in
      let h : get_or w (first_hold_word + row * hold_words + 5) 0 ≡ x.role * 1073741824
      = hold_word 4 (omega arith) ∙ ap (λ m. get_or (n ++ (role ∷ [])) m 0) (sym (name_wide x.place.name)) ∙ get_or-append_seam n role [] 0 in
      omega arith

  pub hold_name_is : block_in w (first_hold_word + row * hold_words + 1) ≡ block_of (hold_row w row).place.name
  hold_name_is =
      let x = hold_row w row in
      block_is w (first_hold_word + row * hold_words + 1) x.place.name (λ j h.
      let n : first_hold_word + row * hold_words + 1 + j ≡ first_hold_word + row * hold_words + suc j = omega arith in
      ap (λ m. get_or w m 0) n ∙ hold_word j (omega arith)
      ∙ get_or-append (pack_name x.place.name) ((x.role * 1073741824) ∷ []) 0 j (omega (arith, name_wide x.place.name)))

-- PROCESSES

process_packed : {x : Process} → ProcessFits x → pack_process x ≡ (x.number * 65536 + x.user) ∷ []
unfolding pack_process free_process
process_packed {x} f = go (free_process x) refl
  where
    go : (b : Bool) → free_process x ≡ b → pack_process x ≡ (x.number * 65536 + x.user) ∷ []
    go true q = rw (f.free (eqb-true x.number 0 q))
    go false q = simp (q, pack_process)

pub process_row_fits : (w : List ℕ) (row : ℕ) → ProcessFits (process_row w row)
process_row_fits w row = each_at (unpacked_fits w).processes_fit no_process_fits row

module _ {w : List ℕ} (s : Stands w) (row : ℕ) (r : row < process_rows) where
  process_head : get_or w (first_process_word + row) 0 ≡ (process_row w row).number * 65536 + (process_row w row).user
  process_head = first_at process_words (first_process_word + row) w (read_process s row r ∙ process_packed (process_row_fits w row)) (omega arith)

  pub process_number_is : get_or w (first_process_word + row) 0 / 65536 ≡ (process_row w row).number
  process_number_is = let h = process_head in let b = (process_row_fits w row).user in omega arith

  pub process_user_is : get_or w (first_process_word + row) 0 % 65536 ≡ (process_row w row).user
  process_user_is = let h = process_head in let b = (process_row_fits w row).user in omega arith

-- NODES BY NUMBER

-- node n is row n - 1
pub node_in_row : (xs : List Node) (n : ℕ) → 1 ≤ n → node_at xs n ≡ get_or xs (n - 1) no_node
unfolding node_at
node_in_row xs zero h = let z : ⊥ = omega arith in absurd z
node_in_row xs (suc n) h = let e : suc n - 1 ≡ n = omega arith in ap (λ m. get_or xs m no_node) (sym e)

pub node_of_row : (xs : List Node) {n : ℕ} (row : ℕ) → n ≡ row + 1 → node_at xs n ≡ get_or xs row no_node
unfolding node_at
node_of_row xs row e = ap (node_at xs) (e ∙ add-one row)

-- there is no other
pub no_such_node : (w : List ℕ) (n : ℕ) → (n ≡ 0) ⊎ (node_rows < n) → node_at (unpack w).nodes n ≡ no_node
unfolding node_at
no_such_node w n (inl e) = rw e
no_such_node w n (inr h) = node_in_row (unpack w).nodes n (omega arith) ∙ get_or-eq_default (unpack w).nodes no_node (omega (arith, nodes_full w))
