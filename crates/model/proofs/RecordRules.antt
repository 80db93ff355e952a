-- Examples for 'Paths' and 'The thirteen calls', records: read, packed, refused with 17, 2, 3 and 18. Assumes nothing.
use mathlib.Core.List.{List, [], ◌∷◌, ◌++◌}
use Prim.Native.Nat.{ℕ, zero, suc}
use Prim.Native.String as S
use Rattle.model.specs.Records.{Call}
use Rattle.model.specs.Listing.{text}
use Rattle.model.proofs.Stories.{call, enters, forks, checks, symlinks, links}
use Rattle.model.proofs.Telling.{Example, answers_so, refuses_bytes, refuses_packing, packs_as, refuses_words, room}

-- a call that no name of the stories has
abbrev odd : ℕ → ℕ → ℕ → S.String → S.String → Call
odd p c a path1 path2 = call p c a (text path1) (text path2)

abbrev with_zeros : ℕ → Call
with_zeros z = record { call = 3; process = 10; argument = 0; path1 = []; path2 = []; zeros = z }

-- so many times a slash and 14 letters
unfoldable pub folders : ℕ → List ℕ
folders zero = []
folders (suc n) = text "/abcdefghijklmn" ++ folders n

unfoldable pub record_rules : List Example
record_rules =
    -- 17 takes nothing: six bytes; a length that asks for one byte more, even where the call is unknown
    refuses_bytes (0x28 ∷ 0x00 ∷ 0xA0 ∷ 0x00 ∷ 0x00 ∷ 0x38 ∷ []) 17 0
    ∷ refuses_bytes (0x00 ∷ 0x00 ∷ 0x00 ∷ 0x00 ∷ 0x00 ∷ 0x08 ∷ 0x00 ∷ []) 17 0
    -- 2 and 3 take what the lengths say: call 0 with a byte; a blank path of five bytes; an empty path; what stands behind is left
    ∷ refuses_bytes (0x00 ∷ 0x00 ∷ 0x00 ∷ 0x00 ∷ 0x00 ∷ 0x08 ∷ 0x00 ∷ 0x2F ∷ []) 2 8
    ∷ refuses_bytes (0x18 ∷ 0x00 ∷ 0x50 ∷ 0x00 ∷ 0x00 ∷ 0x28 ∷ 0x00 ∷ 0x2F ∷ 0x61 ∷ 0x62 ∷ 0x63 ∷ 0x64 ∷ 0x65 ∷ []) 2 12
    ∷ refuses_bytes (0x28 ∷ 0x00 ∷ 0xA0 ∷ 0x00 ∷ 0x00 ∷ 0x00 ∷ 0x00 ∷ 0x2F ∷ []) 3 7
    -- 17 comes before 1, and 1 before 2
    ∷ refuses_words (0x28 ∷ []) 17 0
    ∷ refuses_words (0x28 ∷ 0x00 ∷ 0xA0 ∷ 0x00 ∷ 0x00 ∷ 0x08 ∷ 0x00 ∷ 0x2F ∷ []) 1 8
    ∷ refuses_words (0x00 ∷ 0x00 ∷ 0x00 ∷ 0x00 ∷ 0x00 ∷ 0x00 ∷ 0x00 ∷ []) 1 7
    -- 2: calls 0, 14 and 32; process 0; child 0; an argument or a path in a blank cell; each zero bit; and 2 before 3
    ∷ answers_so room
    (odd 10 0 0 "" ""
    ∷ odd 10 14 0 "" ""
    ∷ odd 10 32 0 "" ""
    ∷ enters 0 5
    ∷ enters 10 0
    ∷ forks 10 0
    ∷ odd 10 3 1 "" ""
    ∷ odd 10 4 0 "/" ""
    ∷ odd 10 5 0 "/" "/"
    ∷ odd 10 5 9 "x" ""
    ∷ with_zeros 1
    ∷ with_zeros 2
    ∷ with_zeros 4
    ∷ [])
    "1 refused 2\n2 refused 2\n3 refused 2\n4 refused 2\n5 done 10\n6 refused 2\n7 refused 2\n8 refused 2\n9 refused 2\n10 refused 2\n11 refused 2\n12 refused 2\n13 refused 2\n"
    -- packing: 2 before 3 before 18, and nothing written; a call above 31; a path in a blank cell
    ∷ refuses_packing (odd 10 32 0 "/" "") 9 2
    ∷ refuses_packing (odd 10 5 1 "x" "") 0 2
    ∷ refuses_packing (odd 10 5 0 "x" "") 0 3
    ∷ refuses_packing (checks 10 "/") 7 18
    -- and else the record, with the bytes behind it as they were
    ∷ packs_as (checks 20 "/x") 11 (0x28 ∷ 0x00 ∷ 0xA0 ∷ 0x00 ∷ 0x00 ∷ 0x10 ∷ 0x00 ∷ 0x2F ∷ 0x78 ∷ 1 ∷ 1 ∷ [])
    ∷ packs_as (symlinks 65535 "/x" "y") 10 (0x57 ∷ 0xFF ∷ 0xF8 ∷ 0x00 ∷ 0x00 ∷ 0x10 ∷ 0x08 ∷ 0x2F ∷ 0x78 ∷ 0x79 ∷ [])
    -- 3: no slash first, one dot, two dots, two slashes, a slash at the end, a byte 0; path 2; and 3 before 4. Three dots are a name
    ∷ answers_so room
    (checks 10 "x"
    ∷ checks 10 "/."
    ∷ checks 10 "/a/.."
    ∷ checks 10 "//a"
    ∷ checks 10 "/a/"
    ∷ call 10 5 0 (47 ∷ 0 ∷ []) []
    ∷ symlinks 10 "/a" ""
    ∷ symlinks 10 "/a" "b//c"
    ∷ links 10 "/a" "b"
    ∷ checks 10 "/..."
    ∷ [])
    "1 refused 3\n2 refused 3\n3 refused 3\n4 refused 3\n5 refused 3\n6 refused 3\n7 refused 3\n8 refused 3\n9 refused 3\n10 refused 4\n"
    -- a path of 255 bytes is valid, one of 256 is not
    ∷ refuses_packing (call 10 5 0 (folders 16 ++ text "/abcdefgh/abcde") []) 261 18
    ∷ refuses_packing (call 10 5 0 (folders 16 ++ text "/abcdefgh/abcdef") []) 300 3
    ∷ []

unfoldable pub computing_record_rules : Unit {0}
unfolding folders record_rules
computing_record_rules = tt
