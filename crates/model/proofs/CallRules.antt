-- Examples for 'The thirteen calls' and 'Numbers given back': the order of the tests, processes, and the rows that calls take and clear.
-- Assumes nothing.
use mathlib.Core.List.{List, [], ◌∷◌}
use Rattle.model.proofs.Stories.{enters, forks, execs, exits, checks, looks, uses, creates, mkdirs, symlinks, links, unlinks, rmdirs}
use Rattle.model.proofs.Telling.{Example, answers_so, leaves_entries, leaves_nodes, room_for, room}

unfoldable pub call_rules : List Example
call_rules =
    -- 4 for calls 2 to 13, before any walk
    answers_so room
    (forks 9 8
    ∷ execs 9
    ∷ exits 9
    ∷ checks 9 "/a/b"
    ∷ looks 9 "/a/b"
    ∷ uses 9 "/a/b"
    ∷ creates 9 "/a/b"
    ∷ mkdirs 9 "/a/b"
    ∷ symlinks 9 "/a/b" "c"
    ∷ links 9 "/a/b" "/a/b"
    ∷ unlinks 9 "/a/b"
    ∷ rmdirs 9 "/a/b"
    ∷ [])
    "1 refused 4\n2 refused 4\n3 refused 4\n4 refused 4\n5 refused 4\n6 refused 4\n7 refused 4\n8 refused 4\n9 refused 4\n10 refused 4\n11 refused 4\n12 refused 4\n"
    -- 4 before 5 before 6 before 16: a caller that is not listed, a second enter, a fork of itself, a full table of processes, then of holds;
    -- fork's child has its parent's user
    ∷ answers_so (room_for 4 4 3 3)
    (enters 20 500
    ∷ enters 20 0
    ∷ forks 9 20
    ∷ forks 20 20
    ∷ checks 20 "/a"
    ∷ checks 20 "/b"
    ∷ forks 20 21
    ∷ execs 20
    ∷ checks 20 "/a"
    ∷ forks 20 21
    ∷ [])
    "1 done 20\n2 refused 5\n3 refused 4\n4 refused 5\n5 held 0\n6 held 0\n7 refused 16\n8 done 20\n9 held 0\n10 done 21\n"
    ∷ answers_so (room_for 4 4 3 3)
    (enters 20 500
    ∷ checks 20 "/a"
    ∷ forks 20 21
    ∷ enters 30 600
    ∷ enters 40 700
    ∷ enters 30 700
    ∷ forks 20 21
    ∷ checks 20 "/c"
    ∷ forks 20 22
    ∷ exits 20
    ∷ creates 30 "/a"
    ∷ creates 21 "/a"
    ∷ enters 40 700
    ∷ [])
    "1 done 20\n2 held 0\n3 done 21\n4 done 30\n5 refused 6\n6 refused 5\n7 refused 5\n8 held 0\n9 refused 6\n10 done 20\n11 refused 14\n12 done 2\n13 done 40\n"
    -- each call on `/`
    ∷ answers_so room
    (enters 1 0
    ∷ looks 1 "/"
    ∷ uses 1 "/"
    ∷ creates 1 "/"
    ∷ mkdirs 1 "/"
    ∷ symlinks 1 "/" "a"
    ∷ links 1 "/" "/absent"
    ∷ links 1 "/" "/"
    ∷ links 1 "/new" "/"
    ∷ unlinks 1 "/"
    ∷ [])
    "1 done 1\n2 held 1\n3 held 1\n4 refused 11\n5 refused 11\n6 refused 11\n7 refused 10\n8 refused 11\n9 refused 12\n10 refused 12\n"
    -- both walks of link before 10, path 1's first; 10 before 11 before 12
    ∷ answers_so room
    (enters 1 0
    ∷ creates 1 "/file"
    ∷ mkdirs 1 "/in"
    ∷ links 1 "/gone/a" "/file/b"
    ∷ links 1 "/file" "/file/b"
    ∷ links 1 "/file" "/gone"
    ∷ links 1 "/file" "/in"
    ∷ links 1 "/new" "/in"
    ∷ [])
    "1 done 1\n2 done 2\n3 done 3\n4 refused 8\n5 refused 9\n6 refused 10\n7 refused 11\n8 refused 12\n"
    -- 10 and 12 of the others; `/` is refused with 12 before its entries count
    ∷ answers_so room
    (enters 1 0
    ∷ creates 1 "/file"
    ∷ mkdirs 1 "/in"
    ∷ uses 1 "/gone"
    ∷ unlinks 1 "/gone"
    ∷ rmdirs 1 "/gone"
    ∷ unlinks 1 "/in"
    ∷ rmdirs 1 "/file"
    ∷ rmdirs 1 "/"
    ∷ creates 1 "/in"
    ∷ [])
    "1 done 1\n2 done 2\n3 done 3\n4 refused 10\n5 refused 10\n6 refused 10\n7 refused 12\n8 refused 12\n9 refused 12\n10 refused 11\n"
    -- 10, 11 and 12 before 14: 500 holds an absence, a file and a directory
    ∷ answers_so room
    (enters 20 500
    ∷ enters 30 600
    ∷ checks 20 "/gone"
    ∷ creates 20 "/file"
    ∷ mkdirs 20 "/in"
    ∷ unlinks 30 "/gone"
    ∷ unlinks 30 "/in"
    ∷ unlinks 30 "/file"
    ∷ rmdirs 30 "/gone"
    ∷ rmdirs 30 "/file"
    ∷ rmdirs 30 "/in"
    ∷ creates 30 "/file"
    ∷ links 30 "/gone" "/in"
    ∷ links 30 "/gone" "/file"
    ∷ [])
    "1 done 20\n2 done 30\n3 held 0\n4 done 2\n5 done 3\n6 refused 10\n7 refused 12\n8 refused 14\n9 refused 10\n10 refused 12\n11 refused 14\n12 refused 11\n13 refused 12\n14 refused 14\n"
    -- 14 before 16 in removal; 14 before 15 before 16 in link
    ∷ answers_so (room_for 2 2 2 4)
    (enters 20 500 ∷ enters 30 600 ∷ creates 20 "/file" ∷ mkdirs 20 "/in" ∷ unlinks 30 "/file" ∷ rmdirs 30 "/in" ∷ [])
    "1 done 20\n2 done 30\n3 done 2\n4 done 3\n5 refused 14\n6 refused 14\n"
    ∷ answers_so (room_for 1 1 2 4)
    (enters 20 500 ∷ enters 30 600 ∷ creates 20 "/file" ∷ checks 20 "/gone" ∷ links 30 "/gone" "/file" ∷ links 30 "/new" "/file" ∷ [])
    "1 done 20\n2 done 30\n3 done 2\n4 held 0\n5 refused 14\n6 refused 15\n"
    -- 14 before 15 before 16: no free entry, no free node, and link needs no node
    ∷ answers_so (room_for 2 1 2 4)
    (enters 20 500
    ∷ enters 30 600
    ∷ creates 20 "/a"
    ∷ creates 20 "/b"
    ∷ links 20 "/b" "/a"
    ∷ links 20 "/c" "/a"
    ∷ creates 30 "/b/c"
    ∷ unlinks 20 "/b"
    ∷ creates 30 "/b"
    ∷ creates 20 "/c"
    ∷ links 20 "/c" "/a"
    ∷ [])
    "1 done 20\n2 done 30\n3 done 2\n4 refused 15\n5 done 2\n6 refused 15\n7 refused 9\n8 done 2\n9 refused 14\n10 refused 15\n11 refused 16\n"
    -- new entries take the lowest free row and new nodes the lowest free number; a node goes with its last entry
    ∷ leaves_entries
    (enters 1 0 ∷ creates 1 "/a" ∷ mkdirs 1 "/b" ∷ links 1 "/c" "/a" ∷ unlinks 1 "/a" ∷ symlinks 1 "/b/d" "/a" ∷ [])
    "0: 3 d to 4\n1: 1 b to 3\n2: 1 c to 2\n"
    ∷ leaves_nodes
    (enters 1 0 ∷ creates 1 "/a" ∷ mkdirs 1 "/b" ∷ links 1 "/c" "/a" ∷ links 1 "/e" "/a" ∷ unlinks 1 "/a" ∷ symlinks 1 "/b/d" "/a" ∷ [])
    "1: 2 with 0\n2: 1 with 2\n3: 2 with 1\n4: 3 with 1\n"
    ∷ leaves_nodes
    (enters 1 0 ∷ mkdirs 1 "/b" ∷ creates 1 "/a" ∷ rmdirs 1 "/b" ∷ unlinks 1 "/a" ∷ creates 1 "/c" ∷ [])
    "1: 2 with 0\n2: 1 with 1\n"
    ∷ []
