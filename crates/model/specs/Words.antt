-- Document 01, 'The lent tables': the words that hold the rows, fields packed most significant bit first. Assumes nothing.
use Rattle.std.specs.Prelude.{true, false, List, [], ◌∷◌, ◌++◌, map, ℕ, ◌+◌, ◌*◌, ◌^◌, ◌/◌, ◌%◌, eqb, length, get_or, take, drop, replicate}
use Rattle.model.specs.Lists.{pieces, joined, filled}
use Rattle.model.specs.Paths.{Name, longest_name, longest_target}
use Rattle.model.specs.Tables.{Entry, Node, Hold, Process, Tables, no_entry, no_node, no_hold, no_process, free_entry, free_node, free_hold, free_process, entry_rows, node_rows, hold_rows, process_rows}

-- THE LENT SLICE

-- The lent tables: how many words a row of each has
abbrev pub entry_words : ℕ
entry_words = 5

abbrev pub node_words : ℕ
node_words = 17

abbrev pub hold_words : ℕ
hold_words = 6

abbrev pub process_words : ℕ
process_words = 1

-- The lent tables: how many words each has
abbrev pub all_entry_words : ℕ
all_entry_words = 2560

abbrev pub all_node_words : ℕ
all_node_words = 4352

abbrev pub all_hold_words : ℕ
all_hold_words = 1536

abbrev pub all_process_words : ℕ
all_process_words = 64

-- The lent tables: the first word of each but the entries, and how many there are in all
abbrev pub first_node_word : ℕ
first_node_word = 2560

abbrev pub first_hold_word : ℕ
first_hold_word = 6912

abbrev pub first_process_word : ℕ
first_process_word = 8448

abbrev pub word_count : ℕ
word_count = 8512

-- the k bits of a number above its lowest n
unfoldable pub bits : ℕ → ℕ → ℕ → ℕ
bits n k w = w / 2 ^ n % 2 ^ k

-- four bytes to a word, the first the most significant; and back
unfoldable pub words : List ℕ → List ℕ
words [] = []
words (a ∷ []) = []
words (a ∷ b ∷ []) = []
words (a ∷ b ∷ c ∷ []) = []
words (a ∷ b ∷ c ∷ d ∷ s) = (((a * 256 + b) * 256 + c) * 256 + d) ∷ words s

unfoldable pub bytes : List ℕ → List ℕ
bytes [] = []
bytes (w ∷ ws) = let rest = bytes ws in bits 24 8 w ∷ bits 16 8 w ∷ bits 8 8 w ∷ bits 0 8 w ∷ rest

-- The lent tables, a name block: the length, 14 bytes with zeros behind the name, and a zero byte
unfoldable pub pack_name : Name → List ℕ
pack_name n = words (length n ∷ filled (longest_name + 1) n)

unfoldable pub unpack_name : List ℕ → Name
unpack_name ws = let bs = bytes ws in take (get_or bs 0 0) (take longest_name (drop 1 bs))

-- Whatever bits stand beside the mark of a free row, it is read as no row at all and written as zeros; whether they were zeros is for `sound` to ask.

-- The lent tables, an entry: directory 16 bits, node 16, name block
unfoldable pub pack_entry : Entry → List ℕ
pack_entry e =
    elim (free_entry e) [
      | true ↦ replicate entry_words 0
      | false ↦ (e.place.directory * 2 ^ 16 + e.node) ∷ pack_name e.place.name
    ]

unfoldable pub unpack_entry : List ℕ → Entry
unpack_entry ws =
    let w = get_or ws 0 0 in
    elim (eqb (bits 16 16 w) 0) [
      | true ↦ no_entry
      | false ↦ record { place = record { directory = bits 16 16 w; name = unpack_name (drop 1 ws) }; node = bits 0 16 w }
    ]

-- The lent tables, a node: kind 2 bits, target's length 7, entry count 10, 13 zeros; then the target and zeros behind it
unfoldable pub pack_node : Node → List ℕ
pack_node x =
    elim (free_node x) [
      | true ↦ replicate node_words 0
      | false ↦ (x.kind * 2 ^ 30 + length x.target * 2 ^ 23 + x.count * 2 ^ 13) ∷ words (filled longest_target x.target)
    ]

unfoldable pub unpack_node : List ℕ → Node
unpack_node ws =
    let w = get_or ws 0 0 in
    elim (eqb (bits 30 2 w) 0) [
      | true ↦ no_node
      | false ↦ record { kind = bits 30 2 w; count = bits 13 10 w; target = take (bits 23 7 w) (bytes (drop 1 ws)) }
    ]

-- The lent tables, a hold: directory 16 bits, process 16, name block, role 2, 30 zeros
unfoldable pub pack_hold : Hold → List ℕ
pack_hold h =
    elim (free_hold h) [
      | true ↦ replicate hold_words 0
      | false ↦ (h.place.directory * 2 ^ 16 + h.process) ∷ (pack_name h.place.name ++ ((h.role * 2 ^ 30) ∷ []))
    ]

unfoldable pub unpack_hold : List ℕ → Hold
unpack_hold ws =
    let w = get_or ws 0 0 in
    elim (eqb (bits 16 16 w) 0) [
      | true ↦ no_hold
      | false ↦
          record {
            place = record { directory = bits 16 16 w; name = unpack_name (take 4 (drop 1 ws)) };
            process = bits 0 16 w;
            role = bits 30 2 (get_or ws 5 0);
          }
    ]

-- The lent tables, a process: number 16 bits, user 16
unfoldable pub pack_process : Process → List ℕ
pack_process q = elim (free_process q) [ true ↦ 0 ∷ [] | false ↦ (q.number * 2 ^ 16 + q.user) ∷ [] ]

unfoldable pub unpack_process : List ℕ → Process
unpack_process ws =
    let w = get_or ws 0 0 in
    elim (eqb (bits 16 16 w) 0) [ true ↦ no_process | false ↦ record { number = bits 16 16 w; user = bits 0 16 w } ]

-- The lent tables: the four tables one behind the other
unfoldable pub pack : Tables → List ℕ
pack t =
    joined pack_entry t.entries
    ++ (joined pack_node t.nodes ++ (joined pack_hold t.holds ++ joined pack_process t.processes))

unfoldable pub unpack : List ℕ → Tables
unpack w =
    record {
      entries = map unpack_entry (pieces entry_rows entry_words w);
      nodes = map unpack_node (pieces node_rows node_words (drop first_node_word w));
      holds = map unpack_hold (pieces hold_rows hold_words (drop first_hold_word w));
      processes = map unpack_process (pieces process_rows process_words (drop first_process_word w));
    }

unfoldable pub computing_words : Unit {0}
unfolding bits words bytes pack_name unpack_name pack_entry unpack_entry pack_node unpack_node pack_hold unpack_hold pack_process unpack_process pack unpack
computing_words = tt
