-- The rules of sound tables that each row meets by itself: its words are just those of the row that they hold, and its name, role and target
-- are valid. Assumes nothing.
use Rattle.std.specs.Prelude.{Bool, ◌&&◌, ◌||◌, List, ℕ, eqb, leb, take, drop}
use Rattle.model.specs.Lists.{same, all, pieces}
use Rattle.model.specs.Paths.{longest_target, valid_name, valid_target}
use Rattle.model.specs.Tables.{Hold, free_entry, free_node, free_hold, end_role, element_role, entry_rows, node_rows, hold_rows, process_rows}
use Rattle.model.specs.Words.{entry_words, node_words, hold_words, process_words, first_node_word, first_hold_word, first_process_word, pack_entry, unpack_entry, pack_node, unpack_node, pack_hold, unpack_hold, pack_process, unpack_process, unpack}
use Rattle.model.specs.Sound.{exact, names_valid, roles_valid, targets_valid, target_fits}

-- the words of each row, table by table
abbrev pub entry_pieces : List ℕ → List (List ℕ)
entry_pieces w = pieces entry_rows entry_words w

abbrev pub node_pieces : List ℕ → List (List ℕ)
node_pieces w = pieces node_rows node_words (drop first_node_word w)

abbrev pub hold_pieces : List ℕ → List (List ℕ)
hold_pieces w = pieces hold_rows hold_words (drop first_hold_word w)

abbrev pub process_pieces : List ℕ → List (List ℕ)
process_pieces w = pieces process_rows process_words (drop first_process_word w)

unfoldable pub entry_shaped : List ℕ → Bool
entry_shaped ws = same ws (pack_entry (unpack_entry ws)) && (free_entry (unpack_entry ws) || valid_name (unpack_entry ws).place.name)

unfoldable pub node_shaped : List ℕ → Bool
node_shaped ws = same ws (pack_node (unpack_node ws)) && (free_node (unpack_node ws) || target_fits (unpack_node ws))

-- the word of an end hold's role, or of an element's
abbrev pub role_word : ℕ → Bool
role_word w = eqb w 1073741824 || eqb w 2147483648

unfoldable pub role_valid : Hold → Bool
role_valid h = eqb h.role end_role || eqb h.role element_role

unfoldable pub hold_shaped : List ℕ → Bool
hold_shaped ws = same ws (pack_hold (unpack_hold ws)) && (free_hold (unpack_hold ws) || (valid_name (unpack_hold ws).place.name && role_valid (unpack_hold ws)))

unfoldable pub process_shaped : List ℕ → Bool
process_shaped ws = same ws (pack_process (unpack_process ws))

-- only zeros
unfoldable pub zeros : List ℕ → Bool
zeros s = all (λ x. eqb x 0) s

-- a target of n bytes, and zeros behind it
unfoldable pub link_fits : List ℕ → ℕ → Bool
link_fits s n = leb n longest_target && (zeros (drop n s) && valid_target (take n s))

-- the words of whole tables
unfoldable pub shaped : List ℕ → Bool
shaped w = exact w (unpack w) && (names_valid (unpack w) && (roles_valid (unpack w) && targets_valid (unpack w)))
