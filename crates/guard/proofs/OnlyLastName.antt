-- Errors that look right, the first: only the last name is guarded, so that a link in the middle can be replaced. Assumes nothing.
use mathlib.Core.Path.{◌≡◌, refl}
use mathlib.Core.Bool.{true, false}
use mathlib.Core.List.{List, [], ◌∷◌}
use Rattle.model.specs.Refusals.{◌when◌, ◌>>◌, ◌>>=◌}
use Rattle.model.specs.Tables.{fresh}
use Rattle.model.specs.Records.{Call}
use Rattle.model.specs.Walk.{walk}
use Rattle.model.specs.Calls.{unlisted, look_at, step}
use Rattle.model.specs.Serve.{computing}
use Rattle.model.specs.Listing.{text}
use Rattle.model.specs.declared.Answer.{Answer}
use Rattle.model.specs.declared.Answer.TheVariants.{Held, Done, Refused}
use Rattle.model.proofs.Stories.{call, enters, execs, checks, creates, mkdirs, symlinks, unlinks}
use Rattle.guard.proofs.Told.{Rule, told, but_for}

-- the error: a check that takes no element holds
unfoldable pub check_last_name : Rule
check_last_name t r = do
  4 when unlisted t r.process
  g ← walk t.entries t.nodes true r.path1
  look_at false t r.process (record { end = g.end; node = g.node; elements = [] })

-- 500 checks a path through the link /way, and 600 tries to lead the link elsewhere
unfoldable pub story : List Call
story =
    enters 10 0
    ∷ mkdirs 10 "/a"
    ∷ mkdirs 10 "/b"
    ∷ symlinks 10 "/way" "a"
    ∷ execs 10
    ∷ enters 20 500
    ∷ enters 30 600
    ∷ checks 20 "/way/fox"
    ∷ unlinks 30 "/way"
    ∷ symlinks 30 "/way" "b"
    ∷ creates 20 "/way/fox"
    ∷ checks 20 "/a/fox"
    ∷ []

abbrev beginning : List Answer → List Answer
beginning rest = Done 10 ∷ Done 2 ∷ Done 3 ∷ Done 4 ∷ Done 10 ∷ Done 20 ∷ Done 30 ∷ Held 0 ∷ rest

-- the link is held too, and the file is made where the check looked
pub the_link_stays : told step fresh story ≡ beginning (Refused 14 ∷ Refused 11 ∷ Done 5 ∷ Held 5 ∷ [])
unfolding computing text call story told
the_link_stays = refl

-- with the error the link is led elsewhere, and the file is made there
pub the_link_is_replaced : told (but_for 5 check_last_name step) fresh story ≡ beginning (Done 4 ∷ Done 4 ∷ Done 5 ∷ Held 0 ∷ [])
unfolding computing text call story told but_for check_last_name
the_link_is_replaced = refl
