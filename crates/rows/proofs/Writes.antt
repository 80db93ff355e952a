-- A row written into its part, lent alone: the words still stand, and one row of one table is set. What stands before the part and behind it
-- is as it was: said once, and used for each table. Assumes nothing.
use mathlib.Core.Path.{◌≡◌, sym, ap, ap₂, subst, ◌∙◌}
use mathlib.Core.Logic.{◌⊎◌, inl, inr}
use mathlib.Core.List.{List, ◌++◌, append_assoc}
use Prim.Native.Nat.{ℕ, ◌+◌, ◌*◌, ◌-◌, ◌≤◌, ◌<◌}
use native.Mathlib.Omega.{arith}
use borrow.Rule.Slice.PartMut.{put_mid, same_len_mid, take_put}
use lib.ListN.{length, set, take, drop, length-append, length-drop, take-append-drop}
use lib.Seq.{sets, length-sets, take_at, drop_at, take-append-le, drop-append-le, drop-drop, length-take-le}
use Rattle.model.specs.Tables.{Entry, Node, Hold, Process, with_entries, with_nodes, with_holds, with_processes, entry_rows, node_rows, hold_rows, process_rows}
use Rattle.model.specs.Words.{pack_entry, unpack_entry, pack_node, unpack_node, pack_hold, unpack_hold, pack_process, unpack_process, unpack, word_count}
use Rattle.laws.proofs.RowWords.{rows_of, JustRows, rows_set, just_rows_set}
use Rattle.rows.specs.Stands.{Stands, Becomes}
use Rattle.rows.proofs.Parts.{Part, size, part, rows_in, Just, mid_long, rows_part, entry_part, node_part, hold_part, process_part, nothing_behind, parts_stand, stands_parts}

-- the words with the part of a table replaced
abbrev pub put_part : {A : Type 0} → Part A → List ℕ → List ℕ → List ℕ
put_part t w p = put_mid t.first (size t) w p

-- the part that a row was written into
abbrev pub Stored : {A : Type 0} → Part A → List ℕ → ℕ → A → List ℕ → Type 0
Stored t w row x p = p ≡ sets (part t w) (row * t.width) (t.write x)

-- the part of a table is just its rows, and these are xs
record HoldsRows {A : Type 0} (t : Part A) (v : List ℕ) (xs : List A) : Type 0 where
  just : Just t v
  rows : rows_in t v ≡ xs

-- v is w but for the part of the table t, in which the row is set
record Written {A : Type 0} (t : Part A) (w v : List ℕ) (row : ℕ) (x : A) : Type 0 where
  long : length v ≡ length w
  before : take t.first v ≡ take t.first w
  here : Just t w → HoldsRows t v (set (rows_in t w) row x)
  behind : drop (t.first + size t) v ≡ drop (t.first + size t) w

-- THE PART

module _ {A : Type 0} (t : Part A) (w : List ℕ) (h : t.first + size t ≤ length w) (row : ℕ) (r : row < t.rows) (x : A)
    (fits : t.read (t.write x) ≡ x) {p : List ℕ} (e : Stored t w row x p) where
  written : Written t w (put_part t w p) row x
  written = record { long = long; before = take_put t.first (size t) w p (omega arith); here = λ j. record { just = just j; rows = rows }; behind = behind }
    where
      long_part : length (part t w) ≡ size t
      long_part = mid_long t.first (size t) w h

      sized : length p ≡ size t
      sized = ap length e ∙ length-sets (part t w) (row * t.width) (t.write x) ∙ long_part

      long : length (put_part t w p) ≡ length w
      long = same_len_mid t.first (size t) w p (sized ∙ sym long_part)

      part_put : part t (put_part t w p) ≡ sets (part t w) (row * t.width) (t.write x)
      part_put =
          ap (take (size t)) (drop_at (take t.first w) (p ++ drop (size t) (drop t.first w)) t.first (length-take-le t.first w (omega arith)))
          ∙ take_at p (drop (size t) (drop t.first w)) (size t) sized ∙ e

      just : Just t w → Just t (put_part t w p)
      just j =
          subst (JustRows t.read t.write t.rows t.width) (sym part_put)
          (just_rows_set t.read t.write t.width t.wide t.rows (part t w) long_part row r x fits j)

      rows : rows_in t (put_part t w p) ≡ set (rows_in t w) row x
      rows =
          sym (rows_part t (put_part t w p) (omega (arith, long))) ∙ ap (rows_of t.read t.rows t.width) part_put
          ∙ rows_set t.read t.write t.width t.wide t.rows (part t w) long_part row r x fits ∙ ap (λ l. set l row x) (rows_part t w h)

      behind : drop (t.first + size t) (put_part t w p) ≡ drop (t.first + size t) w
      behind =
          let m : length (take t.first w ++ p) ≡ t.first + size t
          = length-append (take t.first w) p ∙ ap₂ ◌+◌ (length-take-le t.first w (omega arith)) sized in
          ap (drop (t.first + size t)) (sym (append_assoc (take t.first w) p (drop (size t) (drop t.first w))))
          ∙ drop_at (take t.first w ++ p) (drop (size t) (drop t.first w)) (t.first + size t) m ∙ drop-drop (size t) t.first w

-- WHAT STANDS BEFORE IT, AND BEHIND IT

module _ {A B : Type 0} (o : Part B) {t : Part A} {w v : List ℕ} {row : ℕ} {x : A} (d : Written t w v row x) (h : o.first + size o ≤ length w) where
  same_part : part o v ≡ part o w → Just o w → HoldsRows o v (rows_in o w)
  same_part e j =
      let l = d.long in
      record {
        just = subst (JustRows o.read o.write o.rows o.width) (sym e) j;
        rows = sym (rows_part o v (omega arith)) ∙ ap (rows_of o.read o.rows o.width) e ∙ rows_part o w h;
      }

  -- another table is as it was
  stays : (o.first + size o ≤ t.first) ⊎ (t.first + size t ≤ o.first) → t.first ≤ length w → Just o w → HoldsRows o v (rows_in o w)
  stays (inl b) l = let q = d.long in same_part (sym (front v (omega arith)) ∙ ap (part o) d.before ∙ front w l)
    where
      front : (u : List ℕ) → t.first ≤ length u → part o (take t.first u) ≡ part o u
      front u g =
          let n : o.first + size o ≤ length (take t.first u) = omega (arith, length-take-le t.first u g) in
          sym (ap (take (size o)) (drop-append-le o.first (take t.first u) (drop t.first u) (omega arith))
          ∙ take-append-le (size o) (drop o.first (take t.first u)) (drop t.first u) (omega (arith, length-drop o.first (take t.first u))))
          ∙ ap (part o) (take-append-drop t.first u)
  stays (inr b) l = same_part (ap (take (size o)) (sym (far v) ∙ ap (drop (o.first - (t.first + size t))) d.behind ∙ far w))
    where
      far : (u : List ℕ) → drop (o.first - (t.first + size t)) (drop (t.first + size t) u) ≡ drop o.first u
      far u =
          let n : t.first + size t + (o.first - (t.first + size t)) ≡ o.first = omega arith in
          drop-drop (o.first - (t.first + size t)) (t.first + size t) u ∙ ap (λ m. drop m u) n

-- THE WORDS

becomes : {v : List ℕ} {e : List Entry} {n : List Node} {h : List Hold} {q : List Process} → length v ≡ word_count
    → HoldsRows entry_part v e → HoldsRows node_part v n → HoldsRows hold_part v h → HoldsRows process_part v q
    → Becomes v (record { entries = e; nodes = n; holds = h; processes = q })
unfolding unpack
becomes {v} l a b c d =
    record {
      stands = parts_stand (record { long = l; entries = a.just; nodes = b.just; holds = c.just; processes = d.just; behind = nothing_behind v l });
      tables = λ i. record { entries = a.rows i; nodes = b.rows i; holds = c.rows i; processes = d.rows i };
    }

module _ {w : List ℕ} (s : Stands w) (row : ℕ) where
  pub write_entry : (x : Entry) → row < entry_rows → unpack_entry (pack_entry x) ≡ x → {p : List ℕ} → Stored entry_part w row x p
      → Becomes (put_part entry_part w p) (with_entries (unpack w) (set (unpack w).entries row x))
  unfolding unpack
  write_entry x r q e =
      let l = s.long in
      let g = stands_parts s in
      let d = written entry_part w (omega arith) row r x q e in
      becomes (d.long ∙ l)
      (d.here g.entries)
      (stays node_part d (omega arith) (inr (omega arith)) (omega arith) g.nodes)
      (stays hold_part d (omega arith) (inr (omega arith)) (omega arith) g.holds)
      (stays process_part d (omega arith) (inr (omega arith)) (omega arith) g.processes)

  pub write_node : (x : Node) → row < node_rows → unpack_node (pack_node x) ≡ x → {p : List ℕ} → Stored node_part w row x p
      → Becomes (put_part node_part w p) (with_nodes (unpack w) (set (unpack w).nodes row x))
  unfolding unpack
  write_node x r q e =
      let l = s.long in
      let g = stands_parts s in
      let d = written node_part w (omega arith) row r x q e in
      becomes (d.long ∙ l)
      (stays entry_part d (omega arith) (inl (omega arith)) (omega arith) g.entries)
      (d.here g.nodes)
      (stays hold_part d (omega arith) (inr (omega arith)) (omega arith) g.holds)
      (stays process_part d (omega arith) (inr (omega arith)) (omega arith) g.processes)

  pub write_hold : (x : Hold) → row < hold_rows → unpack_hold (pack_hold x) ≡ x → {p : List ℕ} → Stored hold_part w row x p
      → Becomes (put_part hold_part w p) (with_holds (unpack w) (set (unpack w).holds row x))
  unfolding unpack
  write_hold x r q e =
      let l = s.long in
      let g = stands_parts s in
      let d = written hold_part w (omega arith) row r x q e in
      becomes (d.long ∙ l)
      (stays entry_part d (omega arith) (inl (omega arith)) (omega arith) g.entries)
      (stays node_part d (omega arith) (inl (omega arith)) (omega arith) g.nodes)
      (d.here g.holds)
      (stays process_part d (omega arith) (inr (omega arith)) (omega arith) g.processes)

  pub write_process : (x : Process) → row < process_rows → unpack_process (pack_process x) ≡ x → {p : List ℕ} → Stored process_part w row x p
      → Becomes (put_part process_part w p) (with_processes (unpack w) (set (unpack w).processes row x))
  unfolding unpack
  write_process x r q e =
      let l = s.long in
      let g = stands_parts s in
      let d = written process_part w (omega arith) row r x q e in
      becomes (d.long ∙ l)
      (stays entry_part d (omega arith) (inl (omega arith)) (omega arith) g.entries)
      (stays node_part d (omega arith) (inl (omega arith)) (omega arith) g.nodes)
      (stays hold_part d (omega arith) (inl (omega arith)) (omega arith) g.holds)
      (d.here g.processes)
