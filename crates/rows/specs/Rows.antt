-- A row as the code has it and as the model has it, and when the one is written as the other. Assumes nothing.
use Rattle.std.specs.Prelude.{◌≡◌, List, [], ◌∷◌, ℕ, ◌+◌, ◌*◌}
use Rattle.model.specs.Tables.{Entry, Hold}
use Rattle.model.specs.Words.{pack_entry, unpack_entry, pack_hold, unpack_hold}
use Rattle.rows.specs.declared.Block.{Block}
use Rattle.rows.specs.declared.EntryRow.{EntryRow}
use Rattle.rows.specs.declared.HoldRow.{HoldRow}
use Rattle.rows.specs.Blocks.{place_of}

unfoldable pub entry_of : EntryRow → Entry
entry_of e = record { place = place_of e.directory e.name; node = e.node }

unfoldable pub hold_of : HoldRow → Hold
hold_of h = record { place = place_of h.directory h.name; process = h.process; role = h.role }

-- the words that the code writes; those that an entry and a hold begin with have a name of their own
abbrev pub named_as_words : ℕ → ℕ → Block → List ℕ
named_as_words upper lower b = (upper * 65536 + lower) ∷ b.first ∷ b.second ∷ b.third ∷ b.fourth ∷ []

abbrev pub entry_as_words : EntryRow → List ℕ
entry_as_words e = named_as_words e.directory e.node e.name

abbrev pub hold_as_words : HoldRow → List ℕ
hold_as_words h =
    (h.directory * 65536 + h.process) ∷ h.name.first ∷ h.name.second ∷ h.name.third ∷ h.name.fourth ∷ (h.role * 1073741824) ∷ []

-- they are the model's, and give the row back
pub record GoodEntry (e : EntryRow) : Type 0 where
  pub words : pack_entry (entry_of e) ≡ entry_as_words e
  pub fits : unpack_entry (pack_entry (entry_of e)) ≡ entry_of e

pub record GoodHold (h : HoldRow) : Type 0 where
  pub words : pack_hold (hold_of h) ≡ hold_as_words h
  pub fits : unpack_hold (pack_hold (hold_of h)) ≡ hold_of h
