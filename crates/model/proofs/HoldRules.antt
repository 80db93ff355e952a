-- Examples for 'Holds': held and seen, what is taken and dropped, and who is in the way. Assumes nothing.
use mathlib.Core.List.{List, [], ◌∷◌, ◌++◌}
use Rattle.model.specs.Records.{Call}
use Rattle.model.proofs.Stories.{enters, forks, execs, exits, checks, looks, uses, creates, mkdirs, symlinks, links, unlinks, rmdirs}
use Rattle.model.proofs.Telling.{Example, answers_so, leaves_holds, room_for, room}

-- root makes `/in` (node 2) and a link `/way` to it (node 3), and keeps no hold; 20 is of user 500 and 30 of user 600
unfoldable pub mill : List Call
mill = enters 1 0 ∷ mkdirs 1 "/in" ∷ symlinks 1 "/way" "/in" ∷ execs 1 ∷ enters 20 500 ∷ enters 30 600 ∷ []

unfoldable pub hold_rules : List Example
hold_rules =
    -- a checked absence is seen by others, who take no hold, not even on elements; use of it is refused first
    answers_so room
    (mill ++ (checks 20 "/in/fox" ∷ checks 30 "/way/fox" ∷ looks 30 "/in/fox" ∷ uses 30 "/in/fox" ∷ []))
    "1 done 1\n2 done 2\n3 done 3\n4 done 1\n5 done 20\n6 done 30\n7 held 0\n8 seen 0\n9 seen 0\n10 refused 10\n"
    ∷ leaves_holds room (mill ++ (checks 20 "/in/fox" ∷ checks 30 "/way/fox" ∷ [])) "0: 20 end 2 fox\n"
    -- an element hold alone makes nobody see; it is one more row beside the end hold on the same entry
    ∷ leaves_holds room
    (mill ++ (checks 20 "/way/fox" ∷ looks 30 "/way" ∷ []))
    "0: 20 element 1 way\n1: 20 end 2 fox\n2: 30 end 1 way\n"
    ∷ leaves_holds room
    (mill ++ (checks 20 "/way/fox" ∷ looks 20 "/way" ∷ checks 20 "/way/fox" ∷ []))
    "0: 20 element 1 way\n1: 20 end 2 fox\n2: 20 end 1 way\n"
    -- another user's hold of either role refuses creation and removal; root and the same user pass
    ∷ answers_so room
    (mill
    ++ (checks 20 "/way/fox"
    ∷ creates 30 "/in/fox"
    ∷ unlinks 30 "/way"
    ∷ forks 20 21
    ∷ execs 21
    ∷ creates 21 "/in/fox"
    ∷ unlinks 1 "/way"
    ∷ []))
    "1 done 1\n2 done 2\n3 done 3\n4 done 1\n5 done 20\n6 done 30\n7 held 0\n8 refused 14\n9 refused 14\n10 done 21\n11 done 21\n12 done 4\n13 done 3\n"
    -- root's check drops the others' end holds on that entry, and nothing else, before it takes the lowest row
    ∷ leaves_holds room
    (mill ++ (looks 20 "/way" ∷ checks 20 "/way/fox" ∷ looks 1 "/way" ∷ []))
    "0: 1 end 1 way\n1: 20 element 1 way\n2: 20 end 2 fox\n"
    -- root's removal drops both roles there
    ∷ leaves_holds room
    (mill ++ (looks 20 "/way" ∷ checks 20 "/way/fox" ∷ unlinks 1 "/way" ∷ []))
    "0: 1 end 1 way\n2: 20 end 2 fox\n"
    -- root's refused call drops nothing
    ∷ leaves_holds room
    (mill ++ (looks 20 "/way" ∷ creates 1 "/way" ∷ []))
    "0: 20 end 1 way\n"
    -- removal leaves an end hold on what is now absent
    ∷ leaves_holds room (mill ++ (creates 20 "/fox" ∷ unlinks 20 "/fox" ∷ [])) "0: 20 end 1 fox\n"
    -- rmdir: entries inside come first, then a hold of another user inside; the own user's holds inside go with the directory
    ∷ answers_so room
    (mill
    ++ (checks 20 "/in/fox"
    ∷ creates 20 "/in/wolf"
    ∷ rmdirs 30 "/in"
    ∷ unlinks 20 "/in/wolf"
    ∷ rmdirs 30 "/in"
    ∷ rmdirs 20 "/in"
    ∷ []))
    "1 done 1\n2 done 2\n3 done 3\n4 done 1\n5 done 20\n6 done 30\n7 held 0\n8 done 4\n9 refused 13\n10 done 4\n11 refused 14\n12 done 2\n"
    ∷ leaves_holds room
    (mill ++ (checks 20 "/in/fox" ∷ forks 20 21 ∷ rmdirs 21 "/in" ∷ []))
    "0: 21 end 1 in\n"
    -- root's rmdir drops all holds inside, its own too, and the others' holds on the directory itself
    ∷ leaves_holds room
    (mill ++ (checks 20 "/in/fox" ∷ checks 1 "/in/wolf" ∷ checks 30 "/in" ∷ rmdirs 1 "/in" ∷ []))
    "0: 1 end 1 in\n"
    -- fork copies in row order, behind the rows that are there; exec drops the caller's holds; exit also the process
    ∷ leaves_holds room
    (mill ++ (checks 20 "/way/fox" ∷ checks 30 "/in/wolf" ∷ forks 20 21 ∷ []))
    "0: 20 element 1 way\n1: 20 end 2 fox\n2: 30 end 2 wolf\n3: 21 element 1 way\n4: 21 end 2 fox\n"
    ∷ leaves_holds room (mill ++ (checks 20 "/way/fox" ∷ forks 20 21 ∷ execs 20 ∷ [])) "2: 21 element 1 way\n3: 21 end 2 fox\n"
    ∷ leaves_holds room (mill ++ (checks 20 "/way/fox" ∷ forks 20 21 ∷ exits 21 ∷ [])) "0: 20 element 1 way\n1: 20 end 2 fox\n"
    -- link holds its new path alone, and a hold on the old path is not in its way
    ∷ leaves_holds room
    (mill ++ (creates 20 "/fox" ∷ links 30 "/in/fox" "/fox" ∷ []))
    "0: 20 end 1 fox\n1: 30 end 2 fox\n"
    ∷ leaves_holds room
    (mill ++ (creates 1 "/in/fox" ∷ execs 1 ∷ links 30 "/fox" "/way/fox" ∷ []))
    "0: 30 end 1 fox\n"
    -- 16: each lacking hold counts once, and a drop by the same call makes no room
    ∷ answers_so (room_for 16 12 2 4)
    (mill ++ (checks 20 "/way/fox" ∷ looks 30 "/way" ∷ checks 20 "/way/fox" ∷ looks 1 "/way" ∷ checks 1 "/in/fox" ∷ []))
    "1 done 1\n2 done 2\n3 done 3\n4 done 1\n5 done 20\n6 done 30\n7 held 0\n8 refused 16\n9 held 0\n10 refused 16\n11 refused 16\n"
    ∷ answers_so (room_for 16 12 2 4)
    (enters 20 500 ∷ symlinks 20 "/up" "/" ∷ execs 20 ∷ looks 20 "/up/up/up" ∷ [])
    "1 done 20\n2 done 2\n3 done 20\n4 held 2\n"
    -- seen needs no room
    ∷ answers_so (room_for 16 12 1 4)
    (enters 20 500 ∷ enters 30 600 ∷ checks 20 "/fox" ∷ checks 30 "/fox" ∷ checks 30 "/wolf" ∷ [])
    "1 done 20\n2 done 30\n3 held 0\n4 seen 0\n5 refused 16\n"
    ∷ []
