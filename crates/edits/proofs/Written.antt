-- What the stores of a row come to, and that the rows written give themselves back. Assumes nothing.
use mathlib.Core.Path.{◌≡◌, refl, sym, ap, ◌∙◌}
use mathlib.Core.Bool.{false}
use mathlib.Core.List.{List, [], ◌∷◌}
use Prim.Native.Nat.{ℕ, suc, ◌+◌, ◌*◌, ◌-◌, ◌/◌, ◌%◌, ◌≤◌, ◌<◌}
use native.Mathlib.Omega.{arith}
use native.Mathlib.Numerals.{add-one, towards_suc}
use borrow.Author.Tests.{ne_eqb}
use lib.Dec.{eqb}
use borrow.Rule.Slice.PartMut.{put_mid}
use lib.ListN.{length, get_or, set, take, drop, replicate, length-drop, length-replicate}
use lib.Seq.{sets, take-length, length-take-le}
use Rattle.model.specs.Lists.{filled}
use Rattle.model.specs.Paths.{longest_target}
use Rattle.model.specs.Tables.{entry_rows, node_rows, hold_rows, process_rows, no_entry, no_node, no_hold, no_process, free_entry, free_node, free_hold, free_process}
use Rattle.model.specs.Tables.{with_entries, with_nodes, with_holds, with_processes}
use Rattle.model.specs.Words.{entry_words, node_words, hold_words, process_words}
use Rattle.model.specs.Words.{bits, words, pack_entry, unpack_entry, pack_node, unpack_node, pack_hold, unpack_hold, pack_process, unpack_process, unpack}
use Rattle.laws.proofs.Each.{Each, none, one}
use Rattle.laws.proofs.Pieces.{Byte}
use Rattle.laws.proofs.Words.{node_back, process_back}
use Rattle.rows.specs.declared.Block.{Block}
use Rattle.rows.specs.declared.EntryRow.{EntryRow}
use Rattle.rows.specs.declared.HoldRow.{HoldRow}
use Rattle.rows.specs.Blocks.{target_words, name_of, Named, place_of, word_from}
use Rattle.rows.specs.Rows.{entry_of, hold_of, named_as_words, entry_as_words, hold_as_words, GoodEntry, GoodHold}
use Rattle.rows.specs.Stands.{Stands, Becomes}
use Rattle.rows.proofs.Bytes.{put_is_sets, target_word}
use Rattle.rows.proofs.Parts.{part, entry_part, node_part, hold_part, process_part}
use Rattle.rows.proofs.Writes.{put_part, write_entry, write_node, write_hold, write_process}
use Rattle.edits.specs.Nodes.{node_as_words}

-- THE STORES OF A ROW

-- a range of a slice, written as a whole
part_stored : (l : List ℕ) (at count : ℕ) (vs : List ℕ) {p : List ℕ} → at + count ≤ length l → length vs ≡ count → p ≡ vs
    → put_mid at (at + count - at) l p ≡ sets l at vs
part_stored l at count vs h e q = let n : at + count - at ≡ count = omega arith in rw (n, q) (put_is_sets at count l vs e h)

pub zeros_stored : (l : List ℕ) (at count : ℕ) {p : List ℕ} → at + count ≤ length l → p ≡ replicate (length (take (at + count - at) (drop at l))) 0
    → put_mid at (at + count - at) l p ≡ sets l at (replicate count 0)
zeros_stored l at count h q =
    let n : length (take (at + count - at) (drop at l)) ≡ count = length-take-le (at + count - at) (drop at l) (omega (arith, length-drop at l)) ∙ omega arith in
    part_stored l at count (replicate count 0) h (length-replicate {A = ℕ} count 0) (q ∙ ap (λ m. replicate m 0) n)

pub named_stored : (l : List ℕ) (at upper lower : ℕ) (b : Block) {a : ℕ} {p : List ℕ} → at + entry_words ≤ length l → a ≡ upper * 65536 + lower
    → p ≡ a ∷ b.first ∷ b.second ∷ b.third ∷ b.fourth ∷ [] → put_mid at (at + entry_words - at) l p ≡ sets l at (named_as_words upper lower b)
named_stored l at upper lower b h e q =
    part_stored l at entry_words (named_as_words upper lower b) h refl (q ∙ ap (λ x. x ∷ b.first ∷ b.second ∷ b.third ∷ b.fourth ∷ []) e)

pub hold_stored : (l : List ℕ) (at : ℕ) (h : HoldRow) {a : ℕ} {v : List ℕ} → v ≡ sets l at (named_as_words h.directory h.process h.name) → a ≡ h.role * 1073741824
    → set v (at + 5) a ≡ sets l at (hold_as_words h)
hold_stored l at h p q = rw (p, q) (simp towards_suc)

pub node_stored : (l : List ℕ) (at kind count : ℕ) (target : List ℕ) {a : ℕ} {v : List ℕ} → a ≡ kind * 1073741824 + length target * 8388608 + count * 8192
    → v ≡ sets (set l at a) (at + 1) (words (filled longest_target target)) → v ≡ sets l at (node_as_words kind count target)
node_stored l at kind count target p e = e ∙ rw (p, add-one at)

-- what the code makes of the bytes at k * 4 is word k
pub target_word_is : (target : List ℕ) (k : ℕ) {x : ℕ} → k < target_words → x ≡ word_from (take (length target) target) (k * 4) → x ≡ get_or (words (filled longest_target target)) k 0
target_word_is target k h e = e ∙ ap (λ l. word_from l (k * 4)) (take-length target) ∙ target_word target k h

-- ROWS THAT GIVE THEMSELVES BACK

pub good_entry : (e : EntryRow) → 1 ≤ e.directory → e.directory < 65536 → e.node < 65536 → Named e.name → GoodEntry e
unfolding Named entry_of place_of name_of pack_entry free_entry unpack_entry bits
good_entry e d b n g = record { words = w; fits = ap unpack_entry w ∙ f }
  where
    used : eqb e.directory 0 ≡ false
    used = ne_eqb e.directory 0 (λ q. omega arith)

    w : pack_entry (entry_of e) ≡ entry_as_words e
    w = simp (used, g, pack_entry)

    f : unpack_entry (entry_as_words e) ≡ entry_of e
    f =
        let x : (e.directory * 65536 + e.node) / 65536 % 65536 ≡ e.directory = omega arith in
        let y : (e.directory * 65536 + e.node) / 1 % 65536 ≡ e.node = omega arith in
        simp (x, y, used, unpack_entry)

pub good_hold : (h : HoldRow) → 1 ≤ h.directory → h.directory < 65536 → h.process < 65536 → h.role < 4 → Named h.name → GoodHold h
unfolding Named hold_of place_of name_of pack_hold free_hold unpack_hold bits
good_hold h d b p r g = record { words = w; fits = ap unpack_hold w ∙ f }
  where
    used : eqb h.directory 0 ≡ false
    used = ne_eqb h.directory 0 (λ q. omega arith)

    w : pack_hold (hold_of h) ≡ hold_as_words h
    w = simp (used, g, pack_hold)

    f : unpack_hold (hold_as_words h) ≡ hold_of h
    f =
        let x : (h.directory * 65536 + h.process) / 65536 % 65536 ≡ h.directory = omega arith in
        let y : (h.directory * 65536 + h.process) / 1 % 65536 ≡ h.process = omega arith in
        let z : h.role * 1073741824 / 1073741824 % 4 ≡ h.role = omega arith in
        simp (x, y, z, used, unpack_hold)

-- elements known one by one
each_by_index : (s : List ℕ) → ((i : ℕ) → get_or s i 0 < 256) → Each Byte s
each_by_index [] h = none
each_by_index (x ∷ s) h = one (h 0) (each_by_index s (λ i. h (suc i)))

module _ (kind count : ℕ) (target : List ℕ) (k : 1 ≤ kind) where
  node_written : pack_node (record { kind = kind; count = count; target = target }) ≡ node_as_words kind count target
  unfolding pack_node free_node
  node_written = let used : eqb kind 0 ≡ false = ne_eqb kind 0 (λ q. omega arith) in simp (used, pack_node)

  pub set_node_is : {w : List ℕ} → Stands w → (row : ℕ) → row < node_rows → kind < 4 → count < 1024 → length target ≤ longest_target
      → ((i : ℕ) → get_or target i 0 < 256) → {p : List ℕ}
      → p ≡ sets (part node_part w) (row * node_words) (node_as_words kind count target)
      → Becomes (put_part node_part w p) (with_nodes (unpack w) (set (unpack w).nodes row (record { kind = kind; count = count; target = target })))
  set_node_is {w} s row r a b c d e =
      write_node s row (record { kind = kind; count = count; target = target }) r
      (node_back (record { free = λ q. absurd (let z : ⊥ = omega arith in z); kind = a; count = b; target = record { short = c; bytes = each_by_index target d } }))
      (e ∙ ap (sets (part node_part w) (row * node_words)) (sym node_written))

-- WRITES THAT ARE LENT THEIR PART

module _ {w : List ℕ} (s : Stands w) (row : ℕ) where
  pub set_entry_is : row < entry_rows → (e : EntryRow) → GoodEntry e → {p : List ℕ} → p ≡ sets (part entry_part w) (row * entry_words) (entry_as_words e)
      → Becomes (put_part entry_part w p) (with_entries (unpack w) (set (unpack w).entries row (entry_of e)))
  set_entry_is r e g q = write_entry s row (entry_of e) r g.fits (q ∙ ap (sets (part entry_part w) (row * entry_words)) (sym g.words))

  pub set_hold_is : row < hold_rows → (h : HoldRow) → GoodHold h → {p : List ℕ} → p ≡ sets (part hold_part w) (row * hold_words) (hold_as_words h)
      → Becomes (put_part hold_part w p) (with_holds (unpack w) (set (unpack w).holds row (hold_of h)))
  set_hold_is r h g q = write_hold s row (hold_of h) r g.fits (q ∙ ap (sets (part hold_part w) (row * hold_words)) (sym g.words))

  pub clear_entry_is : row < entry_rows → {p : List ℕ} → p ≡ sets (part entry_part w) (row * entry_words) (replicate entry_words 0)
      → Becomes (put_part entry_part w p) (with_entries (unpack w) (set (unpack w).entries row no_entry))
  unfolding pack_entry free_entry unpack_entry bits
  clear_entry_is r q = write_entry s row no_entry r refl q

  pub clear_node_is : row < node_rows → {p : List ℕ} → p ≡ sets (part node_part w) (row * node_words) (replicate node_words 0)
      → Becomes (put_part node_part w p) (with_nodes (unpack w) (set (unpack w).nodes row no_node))
  unfolding pack_node free_node unpack_node bits
  clear_node_is r q = write_node s row no_node r refl q

  pub clear_hold_is : row < hold_rows → {p : List ℕ} → p ≡ sets (part hold_part w) (row * hold_words) (replicate hold_words 0)
      → Becomes (put_part hold_part w p) (with_holds (unpack w) (set (unpack w).holds row no_hold))
  unfolding pack_hold free_hold unpack_hold bits
  clear_hold_is r q = write_hold s row no_hold r refl q

  one_word : (l : List ℕ) (x : ℕ) → set l row x ≡ sets l (row * process_words) (x ∷ [])
  one_word l x = let n : row ≡ row * process_words = omega arith in ap (λ m. set l m x) n

  pub set_process_is : row < process_rows → (process user : ℕ) → 1 ≤ process → process < 65536 → user < 65536 → {p : List ℕ}
      → p ≡ set (part process_part w) row (process * 65536 + user)
      → Becomes (put_part process_part w p) (with_processes (unpack w) (set (unpack w).processes row (record { number = process; user = user })))
  unfolding pack_process free_process
  set_process_is r process user h a b q =
      let used : eqb process 0 ≡ false = ne_eqb process 0 (λ z. omega arith) in
      let e : pack_process (record { number = process; user = user }) ≡ (process * 65536 + user) ∷ [] = simp (used, pack_process) in
      write_process s row (record { number = process; user = user }) r
      (process_back (record { free = λ z. absurd (let y : ⊥ = omega arith in y); number = a; user = b }))
      (q ∙ one_word (part process_part w) (process * 65536 + user) ∙ ap (sets (part process_part w) (row * process_words)) (sym e))

  pub clear_process_is : row < process_rows → {p : List ℕ} → p ≡ set (part process_part w) row (0 * 65536 + 0)
      → Becomes (put_part process_part w p) (with_processes (unpack w) (set (unpack w).processes row no_process))
  unfolding pack_process free_process unpack_process bits
  clear_process_is r q = write_process s row no_process r refl (q ∙ one_word (part process_part w) 0)
