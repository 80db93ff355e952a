-- Document 01, 'The thirteen calls': the table of calls, and the record of a call, read and written. Assumes nothing.
use Rattle.std.specs.Prelude.{Bool, true, false, not, ◌&&◌, ◌||◌, List, [], ◌∷◌, ◌++◌, ℕ, zero, suc, ◌+◌, ◌*◌, ◌^◌, eqb, ltb, length, get_or, take, drop}
use Rattle.model.specs.Lists.{empty}
use Rattle.model.specs.Refusals.{Outcome, refused, granted, ◌when◌, ◌>>◌, ◌>>=◌}
use Rattle.model.specs.Paths.{valid_path, valid_target}
use Rattle.model.specs.Words.{bits}

-- The thirteen calls, a record: its fields.
pub record Call : Type 0 where
  pub call : ℕ
  pub process : ℕ
  pub argument : ℕ
  pub path1 : List ℕ
  pub path2 : List ℕ
  pub zeros : ℕ

-- THE TABLE OF CALLS

-- The thirteen calls, the column of classes
pub data Class : Type 0 where
  process_class check_class use_class creation_class removal_class : Class

-- The thirteen calls, the columns of paths: what a cell asks for
pub data Wanted : Type 0 where
  blank path target : Wanted

-- Holds, entries accounted for: what an accepted call does to the entries; one that moves an entry has a rule of its own
pub data Effect : Type 0 where
  one_more_entry one_entry_less own_rule entries_stay : Effect

-- The thirteen calls, a row: whether there is such a call, whether it is made by a process, the class, whether the argument is wanted, what each
-- path is to be, and what the call does to the entries
pub record Row : Type 0 where
  pub there : Bool
  pub by_process : Bool
  pub class : Class
  pub argument : Bool
  pub path1 : Wanted
  pub path2 : Wanted
  pub effect : Effect

abbrev row : Class → Bool → Wanted → Wanted → Effect → Row
row c a p q e = record { there = true; by_process = true; class = c; argument = a; path1 = p; path2 = q; effect = e }

-- a number that is no call's: blanks alone
abbrev no_call : Row
no_call =
    record {
      there = false;
      by_process = true;
      class = process_class;
      argument = false;
      path1 = blank;
      path2 = blank;
      effect = entries_stay;
    }

-- The thirteen calls, the table
unfoldable pub calls : List Row
calls =
    row process_class true blank blank entries_stay  -- 1 enter: user
    ∷ row process_class true blank blank entries_stay  -- 2 fork: child
    ∷ row process_class false blank blank entries_stay  -- 3 exec
    ∷ row process_class false blank blank entries_stay  -- 4 exit
    ∷ row check_class false path blank entries_stay  -- 5 check
    ∷ row check_class false path blank entries_stay  -- 6 look
    ∷ row use_class false path blank entries_stay  -- 7 use
    ∷ row creation_class false path blank one_more_entry  -- 8 create
    ∷ row creation_class false path blank one_more_entry  -- 9 mkdir
    ∷ row creation_class false path target one_more_entry  -- 10 symlink
    ∷ row creation_class false path path one_more_entry  -- 11 link: new path, old path
    ∷ row removal_class false path blank one_entry_less  -- 12 unlink
    ∷ row removal_class false path blank one_entry_less  -- 13 rmdir
    ∷ []

-- The thirteen calls: a call's row
unfoldable pub row_of : ℕ → Row
row_of zero = no_call
row_of (suc n) = get_or calls n no_call

-- Numbers given back, 2: calls 1 to 13 are known
unfoldable pub known : ℕ → Bool
known c = (row_of c).there

-- whether a call with this effect leaves every entry as it was, accepted or not
unfoldable pub keeps_entries : Effect → Bool
keeps_entries one_more_entry = false
keeps_entries one_entry_less = false
keeps_entries own_rule = false
keeps_entries entries_stay = true

-- Numbers given back, 2: a path stands where the table has a blank
unfoldable pub not_blank : Wanted → List ℕ → Bool
not_blank blank s = not (empty s)
not_blank path s = false
not_blank target s = false

-- Numbers given back, 3: a path that the table asks for breaks the rules for it
unfoldable pub not_valid : Wanted → List ℕ → Bool
not_valid blank s = false
not_valid path s = not (valid_path s)
not_valid target s = not (valid_target s)

-- the call whose argument is a child
abbrev pub fork_call : ℕ
fork_call = 2

-- Numbers given back, 2: an unknown call, process 0, child 0, something in a blank cell, zero bits set
unfoldable pub fields_broken : Call → Bool
fields_broken r =
    not (known r.call) || ((row_of r.call).by_process && eqb r.process 0) || (eqb r.call fork_call && eqb r.argument 0)
    || (not (row_of r.call).argument && not (eqb r.argument 0))
    || not_blank (row_of r.call).path1 r.path1
    || not_blank (row_of r.call).path2 r.path2
    || not (eqb r.zeros 0)

-- Numbers given back, 3: one of the two paths does
unfoldable pub paths_broken : Call → Bool
paths_broken r = not_valid (row_of r.call).path1 r.path1 || not_valid (row_of r.call).path2 r.path2

-- Numbers given back, 2 and then 3: what reading, packing and serving ask of a call's fields
unfoldable pub well_formed : Call → Outcome Call
well_formed r = do
  2 when fields_broken r
  3 when paths_broken r
  granted r

-- READING

-- the number that bytes are, the first the most significant
unfoldable pub number : ℕ → List ℕ → ℕ
number n [] = n
number n (b ∷ s) = number (n * 256 + b) s

-- The thirteen calls, a record's fields: call 5 bits, process 16, argument 16, the paths' lengths 8 each, 3 zeros; then the paths
unfoldable pub fields_from : ℕ → List ℕ → Call
fields_from head s =
    record {
      call = bits 51 5 head;
      process = bits 35 16 head;
      argument = bits 19 16 head;
      path1 = take (bits 11 8 head) s;
      path2 = take (bits 3 8 head) (drop (bits 11 8 head) s);
      zeros = bits 0 3 head;
    }

-- The thirteen calls, a record's first seven bytes as one number
unfoldable pub head_of : List ℕ → ℕ
head_of s = number 0 (take 7 s)

-- The thirteen calls: the fields of bytes, whether they are accepted or not
unfoldable pub fields : List ℕ → Call
fields s = fields_from (head_of s) (drop 7 s)

-- The thirteen calls: how many bytes the lengths in a record's head ask for
unfoldable pub asked : List ℕ → ℕ
asked s = 7 + bits 11 8 (head_of s) + bits 3 8 (head_of s)

-- Numbers given back, 17: the bytes end before the head does, or before the paths do
unfoldable pub short : List ℕ → Bool
short s = elim (ltb (length s) 7) [ true ↦ true | false ↦ ltb (length s) (asked s) ]

-- Numbers given back: the bytes taken are the record's, and none for 17
unfoldable pub taken : List ℕ → ℕ
taken s = elim (short s) [ true ↦ 0 | false ↦ asked s ]

-- Numbers given back, reading: refused with 17, 2 or 3, or else accepted as the call
unfoldable pub read : List ℕ → Outcome Call
read s = do
  17 when short s
  well_formed (fields s)

-- WRITING

-- The thirteen calls, a record's first seven bytes: the fields side by side in one number, and that number's bytes
unfoldable pub head : Call → ℕ
head r =
    r.call * 2 ^ 51 + r.process * 2 ^ 35 + r.argument * 2 ^ 19 + length r.path1 * 2 ^ 11 + length r.path2 * 2 ^ 3 + r.zeros

unfoldable pub head_bytes : ℕ → List ℕ
head_bytes h = bits 48 8 h ∷ bits 40 8 h ∷ bits 32 8 h ∷ bits 24 8 h ∷ bits 16 8 h ∷ bits 8 8 h ∷ bits 0 8 h ∷ []

-- The thirteen calls: the record of a call
unfoldable pub write : Call → List ℕ
write r = head_bytes (head r) ++ (r.path1 ++ r.path2)

-- Numbers given back, packing: what a success answers
unfoldable pub record_length : Call → ℕ
record_length r = 7 + length r.path1 + length r.path2

-- Numbers given back, packing: 2, then 3, then 18 where the destination is shorter than the record; else the record's length
unfoldable pub packing : Call → List ℕ → Outcome ℕ
packing r destination = do
  r ← well_formed r
  18 when ltb (length destination) (record_length r)
  granted (record_length r)

-- Numbers given back, packing: what the destination holds then; nothing is written where packing is refused, and nothing behind the record
unfoldable pub packed : Call → List ℕ → Outcome ℕ → List ℕ
packed r destination (refused n) = destination
packed r destination (granted n) = write r ++ drop n destination

unfoldable pub computing_records : Unit {0}
unfolding calls row_of known not_blank not_valid fields_broken paths_broken well_formed number fields_from head_of fields asked short taken read head head_bytes write record_length packing packed
computing_records = tt
