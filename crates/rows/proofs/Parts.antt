-- The lent words by their parts, a table each, and what stands behind them: words stand for tables just where each part is the words of its
-- rows, row by row; and what a row's words are. Assumes nothing.
use mathlib.Core.Path.{◌≡◌, sym, ap, ap₂, ◌∙◌}
use mathlib.Core.List.{List, [], ◌++◌, map, append-nil}
use Prim.Native.Nat.{ℕ, ◌+◌, ◌*◌, ◌-◌, ◌≤◌, ◌<◌}
use native.Mathlib.Omega.{arith}
use native.Mathlib.Nat.{zero-add}
use borrow.Rule.Slice.PartMut.{mid_of}
use lib.ListN.{length, get_or, take, drop, length-drop, take-append-drop, drop_of_length-le}
use lib.Seq.{take_at, take-take, drop-append-le, drop-drop, length-take-le}
use Rattle.model.specs.Lists.{joined}
use Rattle.model.specs.Tables.{Entry, Node, Hold, Process, no_entry, no_node, no_hold, no_process, entry_rows, node_rows, hold_rows, process_rows}
use Rattle.model.specs.Words.{word_count, entry_words, node_words, hold_words, process_words, first_node_word, first_hold_word, first_process_word}
use Rattle.model.specs.Words.{pack_entry, unpack_entry, pack_node, unpack_node, pack_hold, unpack_hold, pack_process, unpack_process, pack, unpack}
use Rattle.laws.proofs.Pieces.{joined_length}
use Rattle.laws.proofs.RowWords.{same_halves, row_inside, pieces_take, rows_of, JustRows, rows_length, row_at, exact_row}
use Rattle.rows.specs.Stands.{Stands, entry_row, node_row, hold_row, process_row}
use Rattle.laws.proofs.Words.{entry_wide, node_wide, hold_wide, process_wide}

-- ONE PART

-- a table in the words: how a row is read and written, how many rows of how many words there are, and the first word
pub record Part (A : Type 0) : Type 0 where
  pub read : List ℕ → A
  pub write : A → List ℕ
  pub rows : ℕ
  pub width : ℕ
  pub wide : (x : A) → length (write x) ≡ width
  pub first : ℕ

abbrev pub size : {A : Type 0} → Part A → ℕ
size t = t.rows * t.width

-- its words, and its rows
abbrev pub part : {A : Type 0} → Part A → List ℕ → List ℕ
part t w = mid_of t.first (size t) w

abbrev pub rows_in : {A : Type 0} → Part A → List ℕ → List A
rows_in t w = rows_of t.read t.rows t.width (drop t.first w)

-- the part is just the words of its rows
abbrev pub Just : {A : Type 0} → Part A → List ℕ → Type 0
Just t w = JustRows t.read t.write t.rows t.width (part t w)

pub mid_long : {A : Type 0} (a k : ℕ) (w : List A) → a + k ≤ length w → length (mid_of a k w) ≡ k
mid_long a k w h = length-take-le k (drop a w) (omega (arith, length-drop a w))

module _ {A : Type 0} (t : Part A) (w : List ℕ) where
  -- the part, and what stands behind it
  cut_off : part t w ++ drop (t.first + size t) w ≡ drop t.first w
  cut_off = ap (λ l. part t w ++ l) (sym (drop-drop (size t) t.first w)) ∙ take-append-drop (size t) (drop t.first w)

  module _ (h : t.first + size t ≤ length w) where
    -- the rows of a table are those of its part
    pub rows_part : rows_of t.read t.rows t.width (part t w) ≡ rows_in t w
    rows_part = ap (map t.read) (pieces_take t.width t.rows (drop t.first w) (omega (arith, length-drop t.first w)))

    joined_part : Just t w → joined t.write (rows_in t w) ≡ part t w
    joined_part j = ap (joined t.write) (sym rows_part) ∙ j

    -- words that begin with the rows of a table
    begins : (rest more : List ℕ) → joined t.write (rows_in t w) ++ rest ≡ part t w ++ more → Just t w × (rest ≡ more)
    begins rest more e =
        let n : length (joined t.write (rows_in t w)) ≡ length (part t w)
        = joined_length t.write t.width t.wide (rows_in t w) ∙ ap (λ m. m * t.width) (rows_length t.read t.rows t.width (drop t.first w))
        ∙ sym (mid_long t.first (size t) w h) in
        let q = same_halves (joined t.write (rows_in t w)) rest (part t w) more n e in
        (ap (joined t.write) rows_part ∙ q.0, q.1)

    module _ (row : ℕ) (r : row < t.rows) where
      -- what stands at a row's place
      pub in_part : take t.width (drop (row * t.width) (part t w)) ≡ take t.width (drop (t.first + row * t.width) w)
      in_part =
          let k = t.width in
          let i = row_inside {row = row} {n = t.rows} t.width r in
          let c : drop (row * k) (part t w) ≡ take (size t - row * k) (drop (row * k) (drop t.first w))
          = cut (row * k) (size t) (drop t.first w) (omega arith) (omega (arith, length-drop t.first w)) in
          ap (take k) c ∙ take-take k (size t - row * k) (drop (row * k) (drop t.first w)) (omega arith) ∙ ap (take k) (drop-drop (row * k) t.first w)
        where
          cut : (i m : ℕ) (l : List ℕ) → i ≤ m → m ≤ length l → drop i (take m l) ≡ take (m - i) (drop i l)
          cut i m l h g =
              let t : length (take m l) ≡ m = length-take-le m l g in
              let e : drop i (take m l) ++ drop m l ≡ drop i l = sym (drop-append-le i (take m l) (drop m l) (omega arith)) ∙ ap (drop i) (take-append-drop m l) in
              sym (take_at (drop i (take m l)) (drop m l) (m - i) (length-drop i (take m l) ∙ ap (λ z. z - i) t)) ∙ ap (take (m - i)) e

      -- a row of a part that is just its rows
      read_part : (d : A) → Just t w → take t.width (drop (t.first + row * t.width) w) ≡ t.write (get_or (rows_in t w) row d)
      read_part d e =
          let x : get_or (rows_in t w) row d ≡ t.read (take t.width (drop (row * t.width) (part t w)))
          = ap (λ l. get_or l row d) (sym rows_part) ∙ row_at t.read t.rows t.width (part t w) row d r in
          sym in_part ∙ sym (exact_row t.read t.write t.width t.wide t.rows (part t w) e row r) ∙ ap t.write (sym x)

-- THE FOUR PARTS, AND WHAT STANDS BEHIND THEM

abbrev pub entry_part : Part Entry
entry_part = record { read = unpack_entry; write = pack_entry; rows = entry_rows; width = entry_words; wide = entry_wide; first = 0 }

abbrev pub node_part : Part Node
node_part = record { read = unpack_node; write = pack_node; rows = node_rows; width = node_words; wide = node_wide; first = first_node_word }

abbrev pub hold_part : Part Hold
hold_part = record { read = unpack_hold; write = pack_hold; rows = hold_rows; width = hold_words; wide = hold_wide; first = first_hold_word }

abbrev pub process_part : Part Process
process_part =
    record { read = unpack_process; write = pack_process; rows = process_rows; width = process_words; wide = process_wide; first = first_process_word }

-- what stands behind the processes: nothing
abbrev pub Behind : List ℕ → Type 0
Behind w = drop (process_part.first + size process_part) w ≡ []

pub record Parts (w : List ℕ) : Type 0 where
  pub long : length w ≡ word_count
  pub entries : Just entry_part w
  pub nodes : Just node_part w
  pub holds : Just hold_part w
  pub processes : Just process_part w
  pub behind : Behind w

pub nothing_behind : (w : List ℕ) → length w ≡ word_count → Behind w
nothing_behind w l = drop_of_length-le w {i = word_count} (omega arith)

all_parts : (w : List ℕ)
    → part entry_part w ++ (part node_part w ++ (part hold_part w ++ (part process_part w ++ drop (process_part.first + size process_part) w))) ≡ w
all_parts w =
    ap (λ l. part entry_part w ++ (part node_part w ++ l)) (ap (λ l. part hold_part w ++ l) (cut_off process_part w) ∙ cut_off hold_part w)
    ∙ ap (λ l. part entry_part w ++ l) (cut_off node_part w) ∙ cut_off entry_part w

pub parts_stand : {w : List ℕ} → Parts w → Stands w
unfolding pack unpack
parts_stand {w} p =
    let l = p.long in
    let last = joined_part process_part w (omega arith) p.processes ∙ sym (append-nil (part process_part w)) ∙ ap (λ l. part process_part w ++ l) (sym p.behind) in
    record {
      long = l;
      same = ap₂ ◌++◌ (joined_part entry_part w (omega arith) p.entries) (ap₂ ◌++◌ (joined_part node_part w (omega arith) p.nodes)
          (ap₂ ◌++◌ (joined_part hold_part w (omega arith) p.holds) last)) ∙ all_parts w;
    }

pub stands_parts : {w : List ℕ} → Stands w → Parts w
unfolding pack unpack
stands_parts {w} s =
    let l = s.long in
    let a = begins entry_part w (omega arith) _ _ (s.same ∙ sym (all_parts w)) in
    let b = begins node_part w (omega arith) _ _ a.1 in
    let c = begins hold_part w (omega arith) _ _ b.1 in
    let d = begins process_part w (omega arith) [] _ (append-nil (joined pack_process (rows_in process_part w)) ∙ c.1) in
    record { long = l; entries = a.0; nodes = b.0; holds = c.0; processes = d.0; behind = sym d.1 }

-- how many rows words hold, whatever they are
pub entries_full : (w : List ℕ) → length (unpack w).entries ≡ entry_rows
unfolding unpack
entries_full w = rows_length unpack_entry entry_rows entry_words w

pub nodes_full : (w : List ℕ) → length (unpack w).nodes ≡ node_rows
unfolding unpack
nodes_full w = rows_length unpack_node node_rows node_words (drop first_node_word w)

pub holds_full : (w : List ℕ) → length (unpack w).holds ≡ hold_rows
unfolding unpack
holds_full w = rows_length unpack_hold hold_rows hold_words (drop first_hold_word w)

pub processes_full : (w : List ℕ) → length (unpack w).processes ≡ process_rows
unfolding unpack
processes_full w = rows_length unpack_process process_rows process_words (drop first_process_word w)

-- A ROW IS READ: its words are those of the row

module _ {w : List ℕ} (s : Stands w) (row : ℕ) where
  pub read_entry : row < entry_rows → take entry_words (drop (row * entry_words) w) ≡ pack_entry (entry_row w row)
  unfolding unpack
  read_entry r =
      ap (λ n. take entry_words (drop n w)) (sym (zero-add (row * entry_words)))
      ∙ read_part entry_part w (omega (arith, s.long)) row r no_entry (stands_parts s).entries

  pub read_node : row < node_rows → take node_words (drop (first_node_word + row * node_words) w) ≡ pack_node (node_row w row)
  unfolding unpack
  read_node r = read_part node_part w (omega (arith, s.long)) row r no_node (stands_parts s).nodes

  pub read_hold : row < hold_rows → take hold_words (drop (first_hold_word + row * hold_words) w) ≡ pack_hold (hold_row w row)
  unfolding unpack
  read_hold r = read_part hold_part w (omega (arith, s.long)) row r no_hold (stands_parts s).holds

  pub read_process : row < process_rows → take process_words (drop (first_process_word + row) w) ≡ pack_process (process_row w row)
  unfolding unpack
  read_process r =
      let n : first_process_word + row ≡ first_process_word + row * process_words = omega arith in
      ap (λ m. take process_words (drop m w)) n ∙ read_part process_part w (omega (arith, s.long)) row r no_process (stands_parts s).processes
