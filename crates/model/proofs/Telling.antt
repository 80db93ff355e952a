-- How the examples of the second table are told: calls played over rows, the rows they leave as text, bytes read and packed. Assumes nothing.
use mathlib.Core.Bool.{Bool, true, false, not, ◌&&◌}
use mathlib.Core.List.{List, [], ◌∷◌, ◌++◌}
use Prim.Native.Nat.{ℕ, suc}
use Prim.Native.String as S
use lib.Dec.{eqb}
use lib.ListN.{replicate, set}
use Rattle.model.specs.Lists.{same}
use Rattle.model.specs.Refusals.{Outcome, refused, granted, ◌>>=◌}
use Rattle.model.specs.Answers.{number_of}
use Rattle.model.specs.Tables.{Entry, Node, Hold, Tables, a_directory, no_entry, no_node, no_hold, no_process, free_entry, free_node, free_hold}
use Rattle.model.specs.Records.{Call, taken, read, well_formed, packing, packed}
use Rattle.model.specs.Sound.{is_end, sound_rows, sound}
use Rattle.model.specs.Calls.{Change, step}
use Rattle.model.specs.Serve.{serve}
use Rattle.model.specs.Listing.{text, digits, lines, computing_listing}
use Rattle.model.specs.declared.Answer.{Answer}
use Rattle.model.specs.declared.Answer.TheVariants.{Refused}
use Rattle.model.proofs.Stories.{call}

-- PLAYING CALLS OVER ROWS

-- fresh tables with so many entries, further nodes, holds and processes
unfoldable pub room_for : ℕ → ℕ → ℕ → ℕ → Tables
room_for entries nodes holds processes =
    record {
      entries = replicate entries no_entry;
      nodes = record { kind = a_directory; count = 0; target = [] } ∷ replicate nodes no_node;
      holds = replicate holds no_hold;
      processes = replicate processes no_process;
    }

unfoldable pub room : Tables
room = room_for 16 12 12 4

unfoldable pub played : Tables → Outcome Change → Change
played t (refused n) = record { answer = Refused n; tables = t }
played t (granted c) = c

unfoldable pub play : Tables → Call → Change
play t r = played t (well_formed r >>= step t)

unfoldable pub told : Tables → List Call → List Answer
told t [] = []
told t (r ∷ rest) = let c = play t r in c.answer ∷ told c.tables rest

unfoldable pub tables_after : Tables → List Call → Tables
tables_after t [] = t
tables_after t (r ∷ rest) = tables_after (play t r).tables rest

-- ROWS AS TEXT: the used ones, each with its row's number

unfoldable pub numbered : {A : Type 0} → (A → Bool) → (A → List ℕ) → ℕ → List A → List ℕ
numbered free show i [] = []
numbered free show i (x ∷ xs) =
    elim (free x) [
      | true ↦ numbered free show (suc i) xs
      | false ↦ digits 2 i ++ (text ": " ++ (show x ++ (text "\n" ++ numbered free show (suc i) xs)))
    ]

-- who holds, as end or element, in which directory, which name
unfoldable pub hold_text : Hold → List ℕ
hold_text h =
    digits 4 h.process
    ++ (elim (is_end h) [ true ↦ text " end " | false ↦ text " element " ] ++ (digits 2 h.place.directory ++ (text " " ++ h.place.name)))

-- in which directory, which name, to which node
unfoldable pub entry_text : Entry → List ℕ
entry_text e = digits 2 e.place.directory ++ (text " " ++ (e.place.name ++ (text " to " ++ digits 2 e.node)))

-- of which kind, how many entries
unfoldable pub node_text : Node → List ℕ
node_text x = digits 2 x.kind ++ (text " with " ++ digits 2 x.count)

-- THE KINDS OF EXAMPLES

pub data Example : Type 0 where
  -- these calls on these fresh tables are answered so
  answers_so : Tables → List Call → S.String → Example
  -- they leave these holds; these entries; these nodes
  leaves_holds : Tables → List Call → S.String → Example
  leaves_entries : List Call → S.String → Example
  leaves_nodes : List Call → S.String → Example
  -- reading these bytes is refused with this number, and takes so many
  refuses_bytes : List ℕ → ℕ → ℕ → Example
  -- packing this call into so many bytes of 1 is refused with this number; or leaves these bytes
  refuses_packing : Call → ℕ → ℕ → Example
  packs_as : Call → ℕ → List ℕ → Example
  -- these rows are sound; or not
  are_sound : Tables → Example
  are_unsound : Tables → Example
  -- these words are sound; or are not where word i is v
  words_sound : List ℕ → Example
  words_unsound : List ℕ → ℕ → ℕ → Example
  -- served over no words at all, these bytes are refused with this number, and so many are taken
  refuses_words : List ℕ → ℕ → ℕ → Example

unfoldable pub refuses : {A : Type 0} → Outcome A → ℕ → Bool
refuses (refused k) n = eqb k n
refuses (granted a) n = false

unfoldable pub holds_true : Example → Bool
holds_true (answers_so t calls s) = same (lines 1 (told t calls)) (text s)
holds_true (leaves_holds t calls s) = same (numbered free_hold hold_text 0 (tables_after t calls).holds) (text s)
holds_true (leaves_entries calls s) = same (numbered free_entry entry_text 0 (tables_after room calls).entries) (text s)
holds_true (leaves_nodes calls s) = same (numbered free_node node_text 1 (tables_after room calls).nodes) (text s)
holds_true (refuses_bytes bytes n bytes_taken) = refuses (read bytes) n && eqb (taken bytes) bytes_taken
holds_true (refuses_packing r size n) =
    let d : List ℕ = replicate size 1 in refuses (packing r d) n && same (packed r d (packing r d)) d
holds_true (packs_as r size bytes) = let d : List ℕ = replicate size 1 in same (packed r d (packing r d)) bytes
holds_true (are_sound t) = sound_rows t
holds_true (are_unsound t) = not (sound_rows t)
holds_true (words_sound w) = sound w
holds_true (words_unsound w i v) = not (sound (set w i v))
holds_true (refuses_words bytes n bytes_taken) =
    let o = serve [] bytes in eqb (number_of o.answer) n && eqb o.taken bytes_taken && same o.words []

unfoldable pub computing_examples : Unit {0}
unfolding computing_listing call room_for room played play told tables_after numbered hold_text entry_text node_text refuses holds_true
computing_examples = tt
