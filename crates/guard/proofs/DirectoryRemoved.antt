-- Errors that look right, the second: an absence is guarded, but its empty directory can be removed, and the directory's node number comes
-- back elsewhere. Assumes nothing.
use mathlib.Core.Path.{◌≡◌, refl}
use mathlib.Core.Bool.{false, not, ◌||◌}
use mathlib.Core.List.{List, [], ◌∷◌}
use Rattle.model.specs.Refusals.{◌when◌, ◌>>◌, ◌>>=◌}
use Rattle.model.specs.Tables.{fresh, is_directory}
use Rattle.model.specs.Records.{Call}
use Rattle.model.specs.Walk.{walk}
use Rattle.model.specs.Holds.{wanted, lacking, no_room, overruled, taking}
use Rattle.model.specs.Calls.{grant, unlisted, absent, blocked, without_entry, at_root, has_entries, step}
use Rattle.model.specs.Serve.{computing}
use Rattle.model.specs.Listing.{text}
use Rattle.model.specs.declared.Answer.{Answer}
use Rattle.model.specs.declared.Answer.TheVariants.{Held, Done, Refused}
use Rattle.model.proofs.Stories.{call, enters, execs, checks, creates, mkdirs, rmdirs}
use Rattle.guard.proofs.Told.{Rule, told, but_for}

-- the error: rmdir asks who holds the directory's own entry alone, and leaves the holds inside
unfoldable pub rmdir_by_entry : Rule
rmdir_by_entry t r = do
  4 when unlisted t r.process
  g ← walk t.entries t.nodes false r.path1
  10 when absent g
  12 when at_root g || not (is_directory t.nodes g.node)
  13 when has_entries t.entries g.node
  14 when blocked t r.process g
  16 when no_room t (lacking t.holds (wanted r.process g))
  grant (Done g.node) (without_entry t g (taking t (wanted r.process g) (overruled t r.process g)))

-- 500 checks an absence, and 600 tries to remove the directory that it would be in and to make another
unfoldable pub story : List Call
story =
    enters 10 0
    ∷ mkdirs 10 "/in"
    ∷ execs 10
    ∷ enters 20 500
    ∷ enters 30 600
    ∷ checks 20 "/in/fox"
    ∷ rmdirs 30 "/in"
    ∷ mkdirs 30 "/other"
    ∷ creates 20 "/in/fox"
    ∷ []

abbrev beginning : List Answer → List Answer
beginning rest = Done 10 ∷ Done 2 ∷ Done 10 ∷ Done 20 ∷ Done 30 ∷ Held 0 ∷ rest

-- the directory is kept, and the file is made in it
pub the_directory_stays : told step fresh story ≡ beginning (Refused 14 ∷ Done 3 ∷ Done 4 ∷ [])
unfolding computing text call story told
the_directory_stays = refl

-- with the error node 2, which is held inside, is now another directory
pub its_number_comes_back : told (but_for 13 rmdir_by_entry step) fresh story ≡ beginning (Done 2 ∷ Done 2 ∷ Refused 8 ∷ [])
unfolding computing text call story told but_for rmdir_by_entry
its_number_comes_back = refl
