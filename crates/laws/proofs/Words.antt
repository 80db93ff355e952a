-- The lent words and the tables in them, there and back: tables whose numbers are within their fields' widths, and whose free rows are
-- exactly the free row, come back from their words; whatever is read from words fits so; and sound words are the words of what they hold.
-- Assumes nothing.
use mathlib.Core.Path.{◌≡◌, refl, sym, ap, ap₂, ◌∙◌}
use mathlib.Core.Bool.{true}
use mathlib.Core.List.{List, [], ◌∷◌, ◌++◌, map, append-nil}
use Prim.Native.Nat.{ℕ, suc, ◌+◌, ◌*◌, ◌^◌, ◌≤◌, ◌<◌}
use native.Mathlib.Omega.{arith}
use borrow.Author.Tests.{eqb-true, eqb-false}
use lib.Dec.{eqb}
use lib.ListN.{length, get_or, take, drop, length-append, length-take, length-drop, length-map}
use lib.Seq.{take_at, drop_at, drop-drop, get_or_at, take-take}
use Rattle.model.specs.Lists.{pieces, joined, filled}
use Rattle.model.specs.Paths.{Name, longest_name, longest_target}
use Rattle.model.specs.Tables.{Entry, Node, Hold, Process, Tables, no_entry, no_node, no_hold, no_process, entry_rows, node_rows, hold_rows, process_rows, free_entry, free_node, free_hold, free_process}
use Rattle.model.specs.Words.{bits, words, bytes, pack_name, unpack_name, pack_entry, unpack_entry, pack_node, unpack_node, pack_hold, unpack_hold, pack_process, unpack_process, pack, unpack, first_node_word, first_hold_word, first_process_word, word_count}
use Rattle.model.specs.Sound.{sound_rows, exact, sound_with, sound}
use Rattle.laws.proofs.Bools.{clash, and_left, and_right, both}
use Rattle.laws.proofs.Choices.{chosen}
use Rattle.laws.proofs.Each.{Each, none, one, each_take, each_drop, each_map, each_weaker}
use Rattle.laws.proofs.Pieces.{Byte, same_self, same_equal, joined_length, read_joined, pieces_length, pieces_short, bytes_length, words_length, filled_length, filled_bytes, filled_front, bits_of, bits_within, bytes_of_words, bytes_are_bytes}

-- WHAT FITS

pub record NameFits (n : Name) : Type 0 where
  pub short : length n ≤ longest_name
  pub bytes : Each Byte n

pub record TargetFits (s : List ℕ) : Type 0 where
  pub short : length s ≤ longest_target
  pub bytes : Each Byte s

-- in each kind of row: a row that is marked free is the free row
pub record EntryFits (e : Entry) : Type 0 where
  pub free : e.place.directory ≡ 0 → e ≡ no_entry
  pub directory : e.place.directory < 2 ^ 16
  pub name : NameFits e.place.name
  pub node : e.node < 2 ^ 16

pub record NodeFits (x : Node) : Type 0 where
  pub free : x.kind ≡ 0 → x ≡ no_node
  pub kind : x.kind < 4
  pub count : x.count < 2 ^ 10
  pub target : TargetFits x.target

pub record HoldFits (h : Hold) : Type 0 where
  pub free : h.place.directory ≡ 0 → h ≡ no_hold
  pub directory : h.place.directory < 2 ^ 16
  pub name : NameFits h.place.name
  pub process : h.process < 2 ^ 16
  pub role : h.role < 4

pub record ProcessFits (q : Process) : Type 0 where
  pub free : q.number ≡ 0 → q ≡ no_process
  pub number : q.number < 2 ^ 16
  pub user : q.user < 2 ^ 16

pub record Fits (t : Tables) : Type 0 where
  pub entries_full : length t.entries ≡ entry_rows
  pub nodes_full : length t.nodes ≡ node_rows
  pub holds_full : length t.holds ≡ hold_rows
  pub processes_full : length t.processes ≡ process_rows
  pub entries_fit : Each EntryFits t.entries
  pub nodes_fit : Each NodeFits t.nodes
  pub holds_fit : Each HoldFits t.holds
  pub processes_fit : Each ProcessFits t.processes

-- THE FREE ROWS FIT

no_name_fits : NameFits []
no_name_fits = record { short = omega arith; bytes = none }

pub no_entry_fits : EntryFits no_entry
no_entry_fits = record { free = λ e. refl; directory = omega arith; name = no_name_fits; node = omega arith }

pub no_node_fits : NodeFits no_node
no_node_fits = record { free = λ e. refl; kind = omega arith; count = omega arith; target = record { short = omega arith; bytes = none } }

pub no_hold_fits : HoldFits no_hold
no_hold_fits = record { free = λ e. refl; directory = omega arith; name = no_name_fits; process = omega arith; role = omega arith }

pub no_process_fits : ProcessFits no_process
no_process_fits = record { free = λ e. refl; number = omega arith; user = omega arith }

-- EVERY ROW HAS ITS WIDTH, whatever its numbers

abbrev Wide : ℕ → List ℕ → Type 0
Wide k ws = length ws ≡ k

pub name_wide : (n : Name) → length (pack_name n) ≡ 4
unfolding pack_name
name_wide n = words_length 4 (length n ∷ filled 15 n) (omega (arith, filled_length 15 n))

pub entry_wide : (e : Entry) → length (pack_entry e) ≡ 5
unfolding pack_entry
entry_wide e = chosen (Wide 5) (free_entry e) _ _ (λ _. refl) (λ _. ap suc (name_wide e.place.name))

pub node_wide : (x : Node) → length (pack_node x) ≡ 17
unfolding pack_node
node_wide x =
    chosen (Wide 17) (free_node x) _ _ (λ _. refl)
    (λ _. ap suc (words_length 16 (filled longest_target x.target) (filled_length longest_target x.target)))

pub hold_wide : (h : Hold) → length (pack_hold h) ≡ 6
unfolding pack_hold
hold_wide h =
    chosen (Wide 6) (free_hold h) _ _ (λ _. refl)
    (λ _. omega (arith, name_wide h.place.name, length-append (pack_name h.place.name) ((h.role * 2 ^ 30) ∷ [])))

pub process_wide : (q : Process) → length (pack_process q) ≡ 1
unfolding pack_process
process_wide q = chosen (Wide 1) (free_process q) _ _ (λ _. refl) (λ _. refl)

-- A ROW THAT FITS COMES BACK

-- two fields of 16 bits, each by itself
module _ (x y : ℕ) (h : x < 2 ^ 16) (l : y < 2 ^ 16) where
  high_half : bits 16 16 (x * 2 ^ 16 + y) ≡ x
  high_half = bits_of 16 16 0 x y (omega arith) h l

  low_half : bits 0 16 (x * 2 ^ 16 + y) ≡ y
  low_half = bits_of 0 16 x y 0 (omega arith) l (omega arith)

-- the bytes of a name block, and of a target's words
block_bytes : {n : Name} → NameFits n → bytes (words (length n ∷ filled 15 n)) ≡ length n ∷ filled 15 n
block_bytes {n} f =
    let l = f.short in
    bytes_of_words 4 (length n ∷ filled 15 n) (omega (arith, filled_length 15 n)) (one (omega arith) (filled_bytes 15 f.bytes))

target_bytes : {s : List ℕ} → TargetFits s → bytes (words (filled longest_target s)) ≡ filled longest_target s
target_bytes {s} f = bytes_of_words 16 (filled longest_target s) (filled_length longest_target s) (filled_bytes longest_target f.bytes)

pub name_back : {n : Name} → NameFits n → unpack_name (pack_name n) ≡ n
unfolding unpack_name pack_name
name_back {n} f =
    rw (block_bytes f) (take-take (length n) longest_name (filled 15 n) f.short ∙ filled_front 15 n (omega (arith, f.short)))

pub entry_back : {e : Entry} → EntryFits e → unpack_entry (pack_entry e) ≡ e
unfolding pack_entry unpack_entry free_entry bits
entry_back {e} f =
    chosen (λ (ws : List ℕ). unpack_entry ws ≡ e) (free_entry e) _ _ (λ q. sym (f.free (eqb-true e.place.directory 0 q)))
    (λ q. let d = high_half e.place.directory e.node f.directory f.node in
    let n = low_half e.place.directory e.node f.directory f.node in
    let m = name_back f.name in
    chosen (λ (x : Entry). x ≡ e) (eqb (bits 16 16 (e.place.directory * 2 ^ 16 + e.node)) 0) _ _ (λ t. clash (rw (← d) t) q)
    (λ _. λ i. record { place = record { directory = d i; name = m i }; node = n i }))

pub node_back : {x : Node} → NodeFits x → unpack_node (pack_node x) ≡ x
unfolding pack_node unpack_node free_node bits
node_back {x} f =
    chosen (λ (ws : List ℕ). unpack_node ws ≡ x) (free_node x) _ _ (λ q. sym (f.free (eqb-true x.kind 0 q)))
    (λ q. let l = length x.target in
    let w = x.kind * 2 ^ 30 + l * 2 ^ 23 + x.count * 2 ^ 13 in
    let s = f.target.short in
    let c = f.count in
    let k : bits 30 2 w ≡ x.kind = bits_of 30 2 0 x.kind (l * 2 ^ 23 + x.count * 2 ^ 13) (omega arith) f.kind (omega arith) in
    let n : bits 23 7 w ≡ l = bits_of 23 7 x.kind l (x.count * 2 ^ 13) (omega arith) (omega arith) (omega arith) in
    let m : bits 13 10 w ≡ x.count = bits_of 13 10 (x.kind * 2 ^ 7 + l) x.count 0 (omega arith) c (omega arith) in
    let t = ap₂ take n (target_bytes f.target) ∙ filled_front longest_target x.target s in
    chosen (λ (y : Node). y ≡ x) (eqb (bits 30 2 w) 0) _ _ (λ z. clash (rw (← k) z) q)
    (λ _. λ i. record { kind = k i; count = m i; target = t i }))

pub hold_back : {h : Hold} → HoldFits h → unpack_hold (pack_hold h) ≡ h
unfolding pack_hold unpack_hold free_hold bits
hold_back {h} f =
    chosen (λ (ws : List ℕ). unpack_hold ws ≡ h) (free_hold h) _ _ (λ q. sym (f.free (eqb-true h.place.directory 0 q)))
    (λ q. let d = high_half h.place.directory h.process f.directory f.process in
    let p = low_half h.place.directory h.process f.directory f.process in
    let ns = pack_name h.place.name in
    let r = h.role * 2 ^ 30 in
    let l = name_wide h.place.name in
    let m = ap unpack_name (take_at ns (r ∷ []) 4 l) ∙ name_back f.name in
    let o = ap (bits 30 2) (get_or_at ns r [] 0 4 l) ∙ bits_of 30 2 0 h.role 0 (omega arith) f.role (omega arith) in
    chosen (λ (x : Hold). x ≡ h) (eqb (bits 16 16 (h.place.directory * 2 ^ 16 + h.process)) 0) _ _ (λ z. clash (rw (← d) z) q)
    (λ _. λ i. record { place = record { directory = d i; name = m i }; process = p i; role = o i }))

pub process_back : {q : Process} → ProcessFits q → unpack_process (pack_process q) ≡ q
unfolding pack_process unpack_process free_process bits
process_back {q} f =
    chosen (λ (ws : List ℕ). unpack_process ws ≡ q) (free_process q) _ _ (λ t. sym (f.free (eqb-true q.number 0 t)))
    (λ t. let n = high_half q.number q.user f.number f.user in
    let u = low_half q.number q.user f.number f.user in
    chosen (λ (x : Process). x ≡ q) (eqb (bits 16 16 (q.number * 2 ^ 16 + q.user)) 0) _ _ (λ z. clash (rw (← n) z) t)
    (λ _. λ i. record { number = n i; user = u i }))

-- WHATEVER IS READ FITS

name_of_words_fits : (ws : List ℕ) → NameFits (unpack_name ws)
unfolding unpack_name
name_of_words_fits ws =
    record {
      short = simp length-take (omega arith);
      bytes = each_take (get_or (bytes ws) 0 0) (each_take longest_name (each_drop 1 (bytes_are_bytes ws)));
    }

entry_of_words_fits : (ws : List ℕ) → EntryFits (unpack_entry ws)
unfolding unpack_entry
entry_of_words_fits ws =
    let w = get_or ws 0 0 in
    chosen EntryFits (eqb (bits 16 16 w) 0) _ _ (λ _. no_entry_fits)
    (λ q. record {
      free = λ z. absurd (eqb-false (bits 16 16 w) 0 q z);
      directory = bits_within 16 16 w;
      name = name_of_words_fits (drop 1 ws);
      node = bits_within 0 16 w;
    })

node_of_words_fits : (ws : List ℕ) → length ws ≤ 17 → NodeFits (unpack_node ws)
unfolding unpack_node
node_of_words_fits ws h =
    let w = get_or ws 0 0 in
    chosen NodeFits (eqb (bits 30 2 w) 0) _ _ (λ _. no_node_fits)
    (λ q. record {
      free = λ z. absurd (eqb-false (bits 30 2 w) 0 q z);
      kind = bits_within 30 2 w;
      count = bits_within 13 10 w;
      target =
          record {
            short = simp (length-take, bytes_length, length-drop) (omega arith);
            bytes = each_take (bits 23 7 w) (bytes_are_bytes (drop 1 ws));
          };
    })

hold_of_words_fits : (ws : List ℕ) → HoldFits (unpack_hold ws)
unfolding unpack_hold
hold_of_words_fits ws =
    let w = get_or ws 0 0 in
    chosen HoldFits (eqb (bits 16 16 w) 0) _ _ (λ _. no_hold_fits)
    (λ q. record {
      free = λ z. absurd (eqb-false (bits 16 16 w) 0 q z);
      directory = bits_within 16 16 w;
      name = name_of_words_fits (take 4 (drop 1 ws));
      process = bits_within 0 16 w;
      role = bits_within 30 2 (get_or ws 5 0);
    })

process_of_words_fits : (ws : List ℕ) → ProcessFits (unpack_process ws)
unfolding unpack_process
process_of_words_fits ws =
    let w = get_or ws 0 0 in
    chosen ProcessFits (eqb (bits 16 16 w) 0) _ _ (λ _. no_process_fits)
    (λ q. record { free = λ z. absurd (eqb-false (bits 16 16 w) 0 q z); number = bits_within 16 16 w; user = bits_within 0 16 w })

-- a table that is read has all its rows, and each fits where any row that is read does
module _ {A : Type 0} (read : List ℕ → A) (n k : ℕ) (w : List ℕ) where
  read_full : length (map read (pieces n k w)) ≡ n
  read_full = length-map (pieces n k w) read ∙ pieces_length n k w

  read_fit : {RowFits : A → Type 0} → ((ws : List ℕ) → length ws ≤ k → RowFits (read ws)) → Each RowFits (map read (pieces n k w))
  read_fit h = each_map read h (pieces_short n k w)

-- whatever the words are, the tables read from them fit
pub unpacked_fits : (w : List ℕ) → Fits (unpack w)
unfolding unpack
unpacked_fits w =
    record {
      entries_full = read_full unpack_entry entry_rows 5 w;
      nodes_full = read_full unpack_node node_rows 17 (drop first_node_word w);
      holds_full = read_full unpack_hold hold_rows 6 (drop first_hold_word w);
      processes_full = read_full unpack_process process_rows 1 (drop first_process_word w);
      entries_fit = read_fit unpack_entry entry_rows 5 w (λ ws _. entry_of_words_fits ws);
      nodes_fit = read_fit unpack_node node_rows 17 (drop first_node_word w) node_of_words_fits;
      holds_fit = read_fit unpack_hold hold_rows 6 (drop first_hold_word w) (λ ws _. hold_of_words_fits ws);
      processes_fit = read_fit unpack_process process_rows 1 (drop first_process_word w) (λ ws _. process_of_words_fits ws);
    }

-- TABLES THAT FIT COME BACK

module _ {t : Tables} (f : Fits t) where
  -- how many words each table takes
  entry_words : length (joined pack_entry t.entries) ≡ first_node_word
  entry_words = omega (arith, joined_length pack_entry 5 entry_wide t.entries, f.entries_full)

  node_words : length (joined pack_node t.nodes) ≡ node_rows * 17
  node_words = omega (arith, joined_length pack_node 17 node_wide t.nodes, f.nodes_full)

  hold_words : length (joined pack_hold t.holds) ≡ hold_rows * 6
  hold_words = omega (arith, joined_length pack_hold 6 hold_wide t.holds, f.holds_full)

  process_words : length (joined pack_process t.processes) ≡ process_rows
  process_words = omega (arith, joined_length pack_process 1 process_wide t.processes, f.processes_full)

  pub packed_length : length (pack t) ≡ word_count
  unfolding pack
  packed_length = let a = entry_words in let b = node_words in let c = hold_words in let d = process_words in simp length-append (omega arith)

  -- what stands from the first word of each table on
  from_nodes : drop first_node_word (pack t)
      ≡ joined pack_node t.nodes ++ (joined pack_hold t.holds ++ joined pack_process t.processes)
  unfolding pack
  from_nodes = drop_at (joined pack_entry t.entries) _ first_node_word entry_words

  from_holds : drop first_hold_word (pack t) ≡ joined pack_hold t.holds ++ joined pack_process t.processes
  from_holds =
      let k = node_rows * 17 in
      sym (drop-drop k first_node_word (pack t)) ∙ ap (drop k) from_nodes ∙ drop_at (joined pack_node t.nodes) _ k node_words

  from_processes : drop first_process_word (pack t) ≡ joined pack_process t.processes ++ []
  from_processes =
      let k = hold_rows * 6 in
      sym (drop-drop k first_hold_word (pack t)) ∙ ap (drop k) from_holds ∙ drop_at (joined pack_hold t.holds) _ k hold_words
      ∙ sym (append-nil (joined pack_process t.processes))

  entries_back : map unpack_entry (pieces entry_rows 5 (pack t)) ≡ t.entries
  unfolding pack
  entries_back =
      read_joined pack_entry 5 entry_wide unpack_entry entry_rows t.entries _ (pack t) f.entries_full
      (each_weaker (λ x. entry_back) f.entries_fit) refl

  nodes_back : map unpack_node (pieces node_rows 17 (drop first_node_word (pack t))) ≡ t.nodes
  nodes_back =
      read_joined pack_node 17 node_wide unpack_node node_rows t.nodes _ (drop first_node_word (pack t)) f.nodes_full
      (each_weaker (λ x. node_back) f.nodes_fit) from_nodes

  holds_back : map unpack_hold (pieces hold_rows 6 (drop first_hold_word (pack t))) ≡ t.holds
  holds_back =
      read_joined pack_hold 6 hold_wide unpack_hold hold_rows t.holds _ (drop first_hold_word (pack t)) f.holds_full
      (each_weaker (λ x. hold_back) f.holds_fit) from_holds

  processes_back : map unpack_process (pieces process_rows 1 (drop first_process_word (pack t))) ≡ t.processes
  processes_back =
      read_joined pack_process 1 process_wide unpack_process process_rows t.processes _ (drop first_process_word (pack t))
      f.processes_full (each_weaker (λ x. process_back) f.processes_fit) from_processes

  -- tables that fit come back from their words
  pub unpack_pack : unpack (pack t) ≡ t
  unfolding unpack
  unpack_pack = λ i. record { entries = entries_back i; nodes = nodes_back i; holds = holds_back i; processes = processes_back i }

-- SOUND WORDS

-- sound rows that fit make sound words
pub packed_sound : {t : Tables} → Fits t → sound_rows t ≡ true → sound (pack t) ≡ true
unfolding sound sound_with exact
packed_sound {t} f s = rw (unpack_pack f) (both (same_self (pack t)) s)

-- words that are just those of their rows
pub exact_back : (w : List ℕ) → exact w (unpack w) ≡ true → pack (unpack w) ≡ w
unfolding exact
exact_back w e = sym (same_equal w (pack (unpack w)) e)

module _ (w : List ℕ) (s : sound w ≡ true) where
  pub sound_back : pack (unpack w) ≡ w
  unfolding sound sound_with
  sound_back = exact_back w (and_left (exact w (unpack w)) (sound_rows (unpack w)) s)

  pub sound_has_sound_rows : sound_rows (unpack w) ≡ true
  unfolding sound sound_with
  sound_has_sound_rows = and_right (exact w (unpack w)) (sound_rows (unpack w)) s

  pub sound_length : length w ≡ word_count
  sound_length = ap (length {A = ℕ}) (sym sound_back) ∙ packed_length (unpacked_fits w)
