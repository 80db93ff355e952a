-- Examples for 'The lent tables', what sound tables are: small sound ones, and for each rule ones in which it alone is broken. Assumes nothing.
use mathlib.Core.List.{List, [], ◌∷◌, ◌++◌}
use Prim.Native.Nat.{ℕ, ◌+◌, ◌*◌, ◌^◌}
use Prim.Native.String as S
use lib.ListN.{drop, replicate}
use Rattle.model.specs.Tables.{Entry, Node, Hold, Process, Tables, a_file, a_directory, a_link, end_role, element_role, no_entry, no_node, no_hold, no_process}
use Rattle.model.specs.Words.{pack}
use Rattle.model.specs.Listing.{text}
use Rattle.model.proofs.Telling.{Example, are_sound, are_unsound, words_sound, words_unsound}

abbrev entry : ℕ → S.String → ℕ → Entry
entry d name n = record { place = record { directory = d; name = text name }; node = n }

abbrev node : ℕ → ℕ → S.String → Node
node kind count target = record { kind = kind; count = count; target = text target }

abbrev hold : ℕ → S.String → ℕ → ℕ → Hold
hold d name p role = record { place = record { directory = d; name = text name }; process = p; role = role }

abbrev process : ℕ → ℕ → Process
process p user = record { number = p; user = user }

-- `/in` is node 2, `/in/fox` node 3, the link `/way` node 4
abbrev entries : List Entry
entries = entry 1 "in" 2 ∷ entry 2 "fox" 3 ∷ no_entry ∷ entry 1 "way" 4 ∷ []

abbrev nodes : List Node
nodes = node a_directory 0 "" ∷ node a_directory 1 "" ∷ node a_file 1 "" ∷ node a_link 1 "/in" ∷ no_node ∷ []

abbrev holds : List Hold
holds = hold 2 "fox" 20 end_role ∷ no_hold ∷ hold 1 "way" 20 element_role ∷ hold 2 "fox" 21 end_role ∷ []

abbrev processes : List Process
processes = process 20 500 ∷ process 30 600 ∷ no_process ∷ process 21 500 ∷ []

unfoldable pub rows : List Entry → List Node → List Hold → List Process → Tables
rows es ns hs ps = record { entries = es; nodes = ns; holds = hs; processes = ps }

-- the same tables with other entries and nodes, with other holds, with other processes
abbrev with_tree : List Entry → List Node → Tables
with_tree es ns = rows es ns holds processes

abbrev with_holds : List Hold → Tables
with_holds hs = rows entries nodes hs processes

-- words of full size: root's `/in`, with the hold that making it took
unfoldable pub sound_words : List ℕ
sound_words =
    pack
    (rows
    (entry 1 "in" 2 ∷ replicate 511 no_entry)
    (node a_directory 0 "" ∷ node a_directory 1 "" ∷ replicate 254 no_node)
    (hold 1 "in" 1 end_role ∷ replicate 255 no_hold)
    (process 1 0 ∷ replicate 63 no_process))

unfoldable pub sound_examples : List Example
sound_examples =
    are_sound (rows entries nodes holds processes)
    -- holds on an absent name, element holds where no link is, and one name in both roles of one process
    ∷ are_sound (with_holds (hold 2 "wolf" 20 end_role ∷ hold 2 "fox" 20 element_role ∷ hold 2 "fox" 20 end_role ∷ []))
    -- element holds of two users, and end holds of two users on two names
    ∷ are_sound (with_holds (hold 1 "way" 20 element_role ∷ hold 1 "way" 30 element_role ∷ hold 2 "a" 20 end_role ∷ hold 2 "b" 30 end_role ∷ []))
    -- a directory in itself
    ∷ are_sound (with_tree (entry 2 "in" 2 ∷ []) (node a_directory 0 "" ∷ node a_directory 1 "" ∷ []))
    -- two entries with one directory and name
    ∷ are_unsound (with_tree (entry 1 "fox" 3 ∷ entry 1 "in" 2 ∷ entry 1 "fox" 3 ∷ []) (node a_directory 0 "" ∷ node a_directory 1 "" ∷ node a_file 2 "" ∷ []))
    -- an entry in a file, and in a node that is not there
    ∷ are_unsound (with_tree (entry 1 "in" 2 ∷ entry 2 "fox" 3 ∷ entry 3 "a" 4 ∷ []) (node a_directory 0 "" ∷ node a_directory 1 "" ∷ node a_file 1 "" ∷ node a_file 1 "" ∷ []))
    ∷ are_unsound (with_tree (entry 1 "in" 2 ∷ entry 300 "fox" 3 ∷ []) (node a_directory 0 "" ∷ node a_directory 1 "" ∷ node a_file 1 "" ∷ []))
    -- an entry that leads to a free node, to node 0, past the last
    ∷ are_unsound (with_tree (entry 1 "in" 2 ∷ entry 2 "fox" 3 ∷ []) (node a_directory 0 "" ∷ node a_directory 1 "" ∷ no_node ∷ []))
    ∷ are_unsound (with_tree (entry 1 "in" 2 ∷ entry 2 "fox" 0 ∷ []) (node a_directory 0 "" ∷ node a_directory 1 "" ∷ []))
    ∷ are_unsound (with_tree (entry 1 "in" 2 ∷ entry 2 "fox" 300 ∷ []) (node a_directory 0 "" ∷ node a_directory 1 "" ∷ []))
    -- a count that is one too many
    ∷ are_unsound (with_tree (entry 1 "in" 2 ∷ entry 2 "fox" 3 ∷ []) (node a_directory 0 "" ∷ node a_directory 1 "" ∷ node a_file 2 "" ∷ []))
    -- node 1 a file, free, or with an entry that leads to it
    ∷ are_unsound (rows [] (node a_file 0 "" ∷ []) [] [])
    ∷ are_unsound (rows [] (no_node ∷ []) [] [])
    ∷ are_unsound (rows (entry 1 "top" 1 ∷ []) (node a_directory 1 "" ∷ []) [] [])
    -- another directory with no entry, and with two; a file and a link with none
    ∷ are_unsound (rows [] (node a_directory 0 "" ∷ node a_directory 0 "" ∷ []) [] [])
    ∷ are_unsound (rows (entry 1 "a" 2 ∷ entry 1 "b" 2 ∷ []) (node a_directory 0 "" ∷ node a_directory 2 "" ∷ []) [] [])
    ∷ are_unsound (rows [] (node a_directory 0 "" ∷ node a_file 0 "" ∷ []) [] [])
    ∷ are_unsound (rows [] (node a_directory 0 "" ∷ node a_link 0 "a" ∷ []) [] [])
    -- two holds alike
    ∷ are_unsound (with_holds (hold 2 "fox" 20 end_role ∷ no_hold ∷ hold 2 "fox" 20 end_role ∷ []))
    -- a hold in a file, and of a process that is not listed, be it 0 while a process row is free
    ∷ are_unsound (with_holds (hold 3 "fox" 20 end_role ∷ []))
    ∷ are_unsound (with_holds (hold 2 "fox" 22 element_role ∷ []))
    ∷ are_unsound (with_holds (hold 2 "fox" 0 element_role ∷ []))
    -- end holds of two users on one name
    ∷ are_unsound (with_holds (hold 2 "fox" 20 end_role ∷ hold 2 "fox" 30 end_role ∷ []))
    -- a process twice
    ∷ are_unsound (rows entries nodes holds (process 20 500 ∷ process 21 500 ∷ process 20 500 ∷ []))
    -- names that are not valid: an entry's, a hold's
    ∷ are_unsound (with_tree (entry 1 "in" 2 ∷ entry 2 ".." 3 ∷ []) (node a_directory 0 "" ∷ node a_directory 1 "" ∷ node a_file 1 "" ∷ []))
    ∷ are_unsound (with_holds (hold 2 "" 20 end_role ∷ []))
    -- a role that is neither
    ∷ are_unsound (with_holds (hold 2 "fox" 20 0 ∷ []))
    ∷ are_unsound (with_holds (hold 2 "fox" 20 3 ∷ []))
    -- a file and a directory with a target, a link with none, a target that is not valid
    ∷ are_unsound (with_tree (entry 1 "in" 2 ∷ entry 2 "fox" 3 ∷ []) (node a_directory 0 "" ∷ node a_directory 1 "" ∷ node a_file 1 "/a" ∷ []))
    ∷ are_unsound (with_tree (entry 1 "in" 2 ∷ []) (node a_directory 0 "" ∷ node a_directory 1 "/a" ∷ []))
    ∷ are_unsound (with_tree (entry 1 "in" 2 ∷ entry 2 "fox" 3 ∷ []) (node a_directory 0 "" ∷ node a_directory 1 "" ∷ node a_link 1 "" ∷ []))
    ∷ are_unsound (with_tree (entry 1 "in" 2 ∷ entry 2 "fox" 3 ∷ []) (node a_directory 0 "" ∷ node a_directory 1 "" ∷ node a_link 1 "a//b" ∷ []))
    -- words: sound; one too few; one too many
    ∷ words_sound sound_words
    ∷ words_unsound (drop 1 sound_words) 0 0
    ∷ words_unsound (sound_words ++ (0 ∷ [])) 8512 0
    -- a byte behind an entry's name, and in its zero bits
    ∷ words_unsound sound_words 1 (2 * 2 ^ 24 + 105 * 2 ^ 16 + 110 * 2 ^ 8 + 1)
    ∷ words_unsound sound_words 4 1
    -- a node's zero bits, a byte behind its target
    ∷ words_unsound sound_words 2577 (2 * 2 ^ 30 + 2 ^ 13 + 1)
    ∷ words_unsound sound_words 2578 1
    -- a byte behind a hold's name, its zero bits
    ∷ words_unsound sound_words 6914 1
    ∷ words_unsound sound_words 6917 (2 ^ 30 + 1)
    -- a free row of each table that is not all zeros
    ∷ words_unsound sound_words 5 1
    ∷ words_unsound sound_words 2594 (2 ^ 13)
    ∷ words_unsound sound_words 6919 1
    ∷ words_unsound sound_words 8449 7
    ∷ []
