-- How answers are numbers for those who link the archive: the one definition that every exported function promises by. Assumes nothing.
use Rattle.std.specs.Prelude.{◌≡◌, Bool, true, false, List, [], ◌∷◌, ℕ, ◌<◌, replicate}
use Rattle.model.specs.Refusals.{Outcome, refused, granted}
use Rattle.model.specs.Records.{Call, taken, read, packing, packed}
use Rattle.model.specs.Answers.{number_of}
unfoldable pub use Rattle.model.specs.Answers.{word_number, answer_number}
use Rattle.model.specs.Serve.{Served, serve, made_fresh}
use Rattle.model.specs.Walk.{Goal}
use Rattle.walk_told.specs.Arrivals.{walking, goal_numbers}
use Rattle.fresh.specs.Prepared.{words_after}
use Rattle.records.specs.Reading.{fields_of}
use Rattle.records.specs.declared.Fields.{Fields}

-- READING

unfoldable pub reading_number : Outcome Call → ℕ → ℕ
reading_number (refused n) bytes = answer_number 3 n bytes
reading_number (granted r) bytes = answer_number 2 r.call bytes

-- process, argument, and where each path starts and how long it is
abbrev pub field_numbers : Fields → List ℕ
field_numbers f =
    f.process ∷ f.argument ∷ f.path1.start ∷ f.path1.length ∷ f.path2.start ∷ f.path2.length ∷ []

unfoldable pub reading_fields : Outcome Call → List ℕ
reading_fields (refused n) = replicate 6 0
reading_fields (granted r) = field_numbers (fields_of r)

-- the positions of a record's paths are small numbers
pub record Small (f : Fields) : Type 0 where
  pub start1 : f.path1.start < 4294967296
  pub length1 : f.path1.length < 4294967296
  pub start2 : f.path2.start < 4294967296
  pub length2 : f.path2.length < 4294967296

pub record ReadsAs (s : List ℕ) (r : ℕ) (fields : List ℕ) : Type 0 where
  pub answer : r ≡ reading_number (read s) (taken s)
  pub numbers : fields ≡ reading_fields (read s)

-- PACKING

unfoldable pub packing_number : Outcome ℕ → ℕ
packing_number (refused n) = answer_number 3 n 0
packing_number (granted n) = answer_number 2 n 0

pub record PacksAs (c : Call) (before : List ℕ) (r : ℕ) (after : List ℕ) : Type 0 where
  pub answer : r ≡ packing_number (packing c before)
  pub bytes : after ≡ packed c before (packing c before)

-- FRESH TABLES

unfoldable pub fresh_number : Outcome (List ℕ) → ℕ
fresh_number (refused n) = answer_number 3 n 0
fresh_number (granted v) = answer_number 2 0 0

pub record MakesFresh (w : List ℕ) (r : ℕ) (v : List ℕ) : Type 0 where
  pub answer : r ≡ fresh_number (made_fresh w)
  pub words : v ≡ words_after w (made_fresh w)

-- SERVING

unfoldable pub served_number : Served → ℕ
served_number o = answer_number (word_number o.answer) (number_of o.answer) o.taken

pub record ServesAs (w s : List ℕ) (r : ℕ) (v : List ℕ) : Type 0 where
  pub answer : r ≡ served_number (serve w s)
  pub words : v ≡ (serve w s).words

-- SOUNDNESS

unfoldable pub soundness_number : Bool → ℕ
soundness_number true = answer_number 2 0 0
soundness_number false = answer_number 3 1 0

-- WALKING

unfoldable pub walking_number : Outcome Goal → ℕ
walking_number (refused n) = answer_number 3 n 0
walking_number (granted g) = answer_number 2 g.node 0

pub record WalksAs (w path : List ℕ) (follow_last : Bool) (r : ℕ) (goal : List ℕ) : Type 0 where
  pub answer : r ≡ walking_number (walking w path follow_last)
  pub numbers : goal ≡ goal_numbers (walking w path follow_last)
