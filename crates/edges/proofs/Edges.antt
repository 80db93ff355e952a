-- Document 01, 'At the edges': the cases marked P, one table with a single claim, `edges_hold`, computed over `serve` on the 8,512 words.
-- Assumes nothing.
use mathlib.Core.Path.{◌≡◌, refl}
use mathlib.Core.Bool.{Bool, true, false, ◌&&◌}
use mathlib.Core.List.{List, [], ◌∷◌, map}
use Prim.Native.Nat.{ℕ}
use Prim.Native.String as S
use lib.Dec.{eqb}
use lib.ListN.{length, replicate}
use Rattle.model.specs.Lists.{same, joined, all}
use Rattle.model.specs.Refusals.{Outcome, refused, granted}
use Rattle.model.specs.Records.{Call, taken, read, write, packing, packed}
use Rattle.model.specs.Serve.{serve, after, fresh_words}
use Rattle.model.specs.Listing.{text, listing, computing_listing}
use Rattle.model.proofs.Stories.{call, enters, execs, exits, checks, creates, mkdirs, symlinks, unlinks, rmdirs}

pub data Edge : Type 0 where
  -- these calls, from fresh tables, are listed as this text
  lists : List Call → S.String → Edge
  -- this call, after those, changes no word
  keeps : List Call → Call → Edge
  -- these bytes are this call's record: accepted by reading, all taken, and what packing writes
  is_record : List ℕ → Call → Edge

unfoldable pub same_call : Call → Call → Bool
same_call a b =
    eqb a.call b.call && eqb a.process b.process && eqb a.argument b.argument && eqb a.zeros b.zeros
    && same a.path1 b.path1 && same a.path2 b.path2

unfoldable pub accepted_as : Outcome Call → Call → Bool
accepted_as (refused n) r = false
accepted_as (granted a) r = same_call a r

-- packed into a destination of so many bytes of zero
unfoldable pub packed_into : ℕ → Call → List ℕ
packed_into size r = let destination : List ℕ = replicate size 0 in packed r destination (packing r destination)

unfoldable pub holds_true : Edge → Bool
holds_true (lists calls lines) = same (listing (joined write calls)) (text lines)
holds_true (keeps calls last) = let w = after fresh_words (map write calls) in same (serve w (write last)).words w
holds_true (is_record s r) = accepted_as (read s) r && eqb (taken s) (length s) && same (packed_into (length s) r) s

-- THE CASES

-- the twelve lines
unfoldable pub twelve_lines : Edge
twelve_lines =
    lists
    (enters 10 0
    ∷ mkdirs 10 "/in"
    ∷ execs 10
    ∷ enters 20 500
    ∷ enters 30 600
    ∷ checks 20 "/in/fox"
    ∷ creates 30 "/in/fox"
    ∷ checks 30 "/in/fox"
    ∷ creates 20 "/in/fox"
    ∷ unlinks 30 "/in/fox"
    ∷ exits 20
    ∷ unlinks 30 "/in/fox"
    ∷ [])
    "1 done 10\n2 done 2\n3 done 10\n4 done 20\n5 done 30\n6 held 0\n7 refused 14\n8 seen 0\n9 done 3\n10 refused 14\n11 done 20\n12 done 3\n"

-- the example record
unfoldable pub example_record : Edge
example_record =
    is_record
    (0x28 ∷ 0x00 ∷ 0xA0 ∷ 0x00 ∷ 0x00 ∷ 0x38 ∷ 0x00 ∷ 0x2F ∷ 0x69 ∷ 0x6E ∷ 0x2F ∷ 0x66 ∷ 0x6F ∷ 0x78 ∷ [])
    (checks 20 "/in/fox")

-- a name of 14 bytes, and of 15
unfoldable pub lengths_of_a_name : Edge
lengths_of_a_name =
    lists (enters 10 0 ∷ creates 10 "/abcdefghijklmn" ∷ creates 10 "/abcdefghijklmno" ∷ []) "1 done 10\n2 done 2\n3 refused 3\n"

-- a target of 64 bytes, and of 65
unfoldable pub lengths_of_a_target : Edge
lengths_of_a_target =
    lists
    (enters 10 0
    ∷ symlinks 10 "/a" "/abcdefghi/abcdefghi/abcdefghi/abcdefghi/abcdefghi/abcdefghi/abc"
    ∷ symlinks 10 "/b" "/abcdefghi/abcdefghi/abcdefghi/abcdefghi/abcdefghi/abcdefghi/abcd"
    ∷ [])
    "1 done 10\n2 done 2\n3 refused 3\n"

-- 8 links, and 9
unfoldable pub eight_links_and_nine : Edge
eight_links_and_nine =
    lists
    (enters 10 0
    ∷ creates 10 "/0"
    ∷ symlinks 10 "/1" "/0"
    ∷ symlinks 10 "/2" "1"
    ∷ symlinks 10 "/3" "2"
    ∷ symlinks 10 "/4" "3"
    ∷ symlinks 10 "/5" "4"
    ∷ symlinks 10 "/6" "5"
    ∷ symlinks 10 "/7" "6"
    ∷ symlinks 10 "/8" "7"
    ∷ symlinks 10 "/9" "8"
    ∷ checks 10 "/8"
    ∷ checks 10 "/9"
    ∷ [])
    "1 done 10\n2 done 2\n3 done 3\n4 done 4\n5 done 5\n6 done 6\n7 done 7\n8 done 8\n9 done 9\n10 done 10\n11 done 11\n12 held 2\n13 refused 7\n"

-- an empty path
unfoldable pub empty_path : Edge
empty_path =
    lists (enters 10 0 ∷ checks 10 "" ∷ []) "1 done 10\n2 refused 3\n"

-- `/` is checked: held 1
unfoldable pub check_of_slash : Edge
check_of_slash =
    lists (enters 10 0 ∷ checks 10 "/" ∷ []) "1 done 10\n2 held 1\n"

-- and no hold is taken
unfoldable pub no_hold_on_slash : Edge
no_hold_on_slash =
    keeps (enters 10 0 ∷ []) (checks 10 "/")

-- create does not follow a last link, dangling or not
unfoldable pub create_at_a_dangling_link : Edge
create_at_a_dangling_link =
    lists (enters 10 0 ∷ symlinks 10 "/a" "/gone" ∷ creates 10 "/a" ∷ []) "1 done 10\n2 done 2\n3 refused 11\n"

-- rmdir `/`
unfoldable pub rmdir_of_slash : Edge
rmdir_of_slash =
    lists (enters 10 0 ∷ rmdirs 10 "/" ∷ []) "1 done 10\n2 refused 12\n"

unfoldable pub edges : List Edge
edges =
    twelve_lines
    ∷ example_record
    ∷ lengths_of_a_name
    ∷ lengths_of_a_target
    ∷ eight_links_and_nine
    ∷ empty_path
    ∷ check_of_slash
    ∷ no_hold_on_slash
    ∷ create_at_a_dangling_link
    ∷ rmdir_of_slash
    ∷ []

unfoldable pub computing_edges : Unit {0}
unfolding computing_listing call same_call accepted_as packed_into holds_true
computing_edges = tt

-- One case is computed at a time, and what that took is let go before the next: all at once take twice the memory.

twelve_lines_holds : holds_true twelve_lines ≡ true
unfolding computing_edges twelve_lines
twelve_lines_holds = refl

example_record_holds : holds_true example_record ≡ true
unfolding computing_edges example_record
example_record_holds = refl

lengths_of_a_name_holds : holds_true lengths_of_a_name ≡ true
unfolding computing_edges lengths_of_a_name
lengths_of_a_name_holds = refl

lengths_of_a_target_holds : holds_true lengths_of_a_target ≡ true
unfolding computing_edges lengths_of_a_target
lengths_of_a_target_holds = refl

eight_links_and_nine_holds : holds_true eight_links_and_nine ≡ true
unfolding computing_edges eight_links_and_nine
eight_links_and_nine_holds = refl

empty_path_holds : holds_true empty_path ≡ true
unfolding computing_edges empty_path
empty_path_holds = refl

check_of_slash_holds : holds_true check_of_slash ≡ true
unfolding computing_edges check_of_slash
check_of_slash_holds = refl

no_hold_on_slash_holds : holds_true no_hold_on_slash ≡ true
unfolding computing_edges no_hold_on_slash
no_hold_on_slash_holds = refl

create_at_a_dangling_link_holds : holds_true create_at_a_dangling_link ≡ true
unfolding computing_edges create_at_a_dangling_link
create_at_a_dangling_link_holds = refl

rmdir_of_slash_holds : holds_true rmdir_of_slash ≡ true
unfolding computing_edges rmdir_of_slash
rmdir_of_slash_holds = refl

both : {a b : Bool} → a ≡ true → b ≡ true → (a && b) ≡ true
both p q = simp (p, q)

-- THE CLAIM: every edge of the table holds
pub edges_hold : all holds_true edges ≡ true
unfolding all edges
edges_hold =
    both twelve_lines_holds
    (both example_record_holds
    (both lengths_of_a_name_holds
    (both lengths_of_a_target_holds
    (both eight_links_and_nine_holds
    (both empty_path_holds
    (both check_of_slash_holds
    (both no_hold_on_slash_holds
    (both create_at_a_dangling_link_holds
    (both rmdir_of_slash_holds refl)))))))))
