-- Examples for 'Walking a path'. Assumes nothing.
use mathlib.Core.List.{List, [], ◌∷◌, ◌++◌}
use Rattle.model.specs.Records.{Call}
use Rattle.model.proofs.Stories.{enters, execs, checks, looks, uses, creates, mkdirs, symlinks, links}
use Rattle.model.proofs.Telling.{Example, answers_so, leaves_holds, room}

-- a tree of a file `/in/fox` (node 3) in `/in` (node 2), made by root, who holds both
unfoldable pub tree : List Call
tree = enters 1 0 ∷ mkdirs 1 "/in" ∷ creates 1 "/in/fox" ∷ []

unfoldable pub walk_rules : List Example
walk_rules =
    -- a middle name that is a file, is missing, is a link to a file, a link to an absence
    answers_so room
    (tree
    ++ (checks 1 "/in/fox/x"
    ∷ checks 1 "/out/x"
    ∷ symlinks 1 "/file" "in/fox"
    ∷ symlinks 1 "/gone" "/in/wolf"
    ∷ checks 1 "/file/x"
    ∷ checks 1 "/gone/x"
    -- the last name: check and use follow its link, look does not
    ∷ checks 1 "/file"
    ∷ uses 1 "/file"
    ∷ looks 1 "/file"
    ∷ checks 1 "/gone"
    ∷ []))
    "1 done 1\n2 done 2\n3 done 3\n4 refused 9\n5 refused 8\n6 done 4\n7 done 5\n8 refused 9\n9 refused 8\n10 held 3\n11 held 3\n12 held 4\n13 held 0\n"
    -- a relative target starts in the directory of the link's entry: a second entry of the same link leads elsewhere
    ∷ answers_so room
    (tree
    ++ (symlinks 1 "/in/near" "fox"
    ∷ creates 1 "/fox"
    ∷ links 1 "/near" "/in/near"
    ∷ checks 1 "/in/near"
    ∷ checks 1 "/near"
    ∷ []))
    "1 done 1\n2 done 2\n3 done 3\n4 done 4\n5 done 5\n6 done 4\n7 held 3\n8 held 5\n"
    -- an absolute target starts at node 1, wherever its link stands
    ∷ answers_so room
    (tree ++ (creates 1 "/fox" ∷ symlinks 1 "/in/far" "/fox" ∷ checks 1 "/in/far" ∷ []))
    "1 done 1\n2 done 2\n3 done 3\n4 done 4\n5 done 5\n6 held 4\n"
    -- the target `/` leads to node 1: onward from there where names are left, and else the end, with an element and no end entry
    ∷ answers_so room
    (tree ++ (symlinks 1 "/top" "/" ∷ checks 1 "/top/in" ∷ checks 1 "/top" ∷ []))
    "1 done 1\n2 done 2\n3 done 3\n4 done 4\n5 held 2\n6 held 1\n"
    ∷ leaves_holds room (tree ++ (symlinks 1 "/top" "/" ∷ execs 1 ∷ checks 1 "/top" ∷ [])) "0: 1 element 1 top\n"
    -- a ring of links is 7; eight links before a last link that is not followed are fine, and nine are 7 in the middle too
    ∷ answers_so room
    (enters 1 0
    ∷ symlinks 1 "/ring" "ring"
    ∷ checks 1 "/ring"
    ∷ looks 1 "/ring"
    ∷ symlinks 1 "/up" "/"
    ∷ looks 1 "/up/up/up/up/up/up/up/up/up"
    ∷ looks 1 "/up/up/up/up/up/up/up/up/up/up"
    ∷ checks 1 "/up/up/up/up/up/up/up/up/up"
    ∷ [])
    "1 done 1\n2 done 2\n3 refused 7\n4 held 2\n5 done 3\n6 held 3\n7 refused 7\n8 refused 7\n"
    -- elements in the order met, then the end; a link that is followed twice is one element
    ∷ leaves_holds room
    (tree ++ (symlinks 1 "/one" "/two" ∷ symlinks 1 "/two" "/in" ∷ execs 1 ∷ checks 1 "/one/fox" ∷ []))
    "0: 1 element 1 one\n1: 1 element 1 two\n2: 1 end 2 fox\n"
    ∷ leaves_holds room
    (tree
    ++ (symlinks 1 "/one" "/two/in"
    ∷ symlinks 1 "/two" "/"
    ∷ execs 1
    ∷ checks 1 "/two/one/fox"
    ∷ []))
    "0: 1 element 1 two\n1: 1 element 1 one\n2: 1 end 2 fox\n"
    ∷ []
