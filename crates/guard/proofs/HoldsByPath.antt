-- Errors that look right, the fourth: what is held is the text of a path, though one name in one directory has as many paths as links lead
-- there. Assumes nothing.
use mathlib.Core.Path.{◌≡◌, refl}
use mathlib.Core.Bool.{true, false}
use mathlib.Core.List.{List, [], ◌∷◌}
use mathlib.Core.Option.{some}
use Prim.Native.Nat.{ℕ}
use Rattle.model.specs.Refusals.{◌when◌, ◌>>◌, ◌>>=◌}
use Rattle.model.specs.Tables.{a_file, fresh}
use Rattle.model.specs.Records.{Call}
use Rattle.model.specs.Walk.{Goal, walk}
use Rattle.model.specs.Calls.{unlisted, look_at, blocked, make_at, step}
use Rattle.model.specs.Serve.{computing}
use Rattle.model.specs.Listing.{text}
use Rattle.model.specs.declared.Answer.{Answer}
use Rattle.model.specs.declared.Answer.TheVariants.{Held, Done, Refused}
use Rattle.model.proofs.Stories.{call, enters, execs, checks, creates, mkdirs, symlinks}
use Rattle.guard.proofs.Told.{Rule, told, but_for}

-- the error: what is held is the path as it was given
unfoldable pub as_given : List ℕ → Goal → Goal
as_given path g = record { end = some (record { directory = 1; name = path }); node = g.node; elements = [] }

unfoldable pub check_by_path : Rule
check_by_path t r = do
  4 when unlisted t r.process
  g ← walk t.entries t.nodes true r.path1
  look_at false t r.process (as_given r.path1 g)

-- and create is refused where another user holds that path
unfoldable pub create_by_path : Rule
create_by_path t r = do
  4 when unlisted t r.process
  g ← walk t.entries t.nodes false r.path1
  14 when blocked t r.process (as_given r.path1 g)
  make_at a_file [] t r.process g

-- 500 checks an absence by one link, and 600 tries to create it by the other
unfoldable pub story : List Call
story =
    enters 10 0
    ∷ mkdirs 10 "/in"
    ∷ symlinks 10 "/a" "in"
    ∷ symlinks 10 "/b" "in"
    ∷ execs 10
    ∷ enters 20 500
    ∷ enters 30 600
    ∷ checks 20 "/a/fox"
    ∷ creates 30 "/a/fox"
    ∷ creates 30 "/b/fox"
    ∷ checks 20 "/a/fox"
    ∷ []

abbrev beginning : List Answer → List Answer
beginning rest = Done 10 ∷ Done 2 ∷ Done 3 ∷ Done 4 ∷ Done 10 ∷ Done 20 ∷ Done 30 ∷ Held 0 ∷ rest

-- one entry is held, by whatever path it is reached
pub the_entry_is_held : told step fresh story ≡ beginning (Refused 14 ∷ Refused 14 ∷ Held 0 ∷ [])
unfolding computing text call story told
the_entry_is_held = refl

-- with the error the absence becomes a file behind the checker's back
pub another_path_is_open :
    told (but_for 5 check_by_path (but_for 8 create_by_path step)) fresh story ≡ beginning (Refused 14 ∷ Done 5 ∷ Held 5 ∷ [])
unfolding computing text call story told but_for as_given check_by_path create_by_path
another_path_is_open = refl
