-- Errors that look right, the third: create follows a link at the last name that leads nowhere yet, and makes a file where the link's owner
-- wanted it. Assumes nothing.
use mathlib.Core.Path.{◌≡◌, refl}
use mathlib.Core.Bool.{true}
use mathlib.Core.List.{List, [], ◌∷◌}
use Rattle.model.specs.Refusals.{◌when◌, ◌>>◌, ◌>>=◌}
use Rattle.model.specs.Tables.{a_file, fresh}
use Rattle.model.specs.Records.{Call}
use Rattle.model.specs.Walk.{walk}
use Rattle.model.specs.Calls.{unlisted, make_at, step}
use Rattle.model.specs.Serve.{computing}
use Rattle.model.specs.Listing.{text}
use Rattle.model.specs.declared.Answer.{Answer}
use Rattle.model.specs.declared.Answer.TheVariants.{Held, Done, Refused}
use Rattle.model.proofs.Stories.{call, enters, checks, creates, symlinks}
use Rattle.guard.proofs.Told.{Rule, told, but_for}

-- the error: the walk of a create follows a link at the last name
unfoldable pub create_following : Rule
create_following t r = do
  4 when unlisted t r.process
  g ← walk t.entries t.nodes true r.path1
  make_at a_file [] t r.process g

-- 600 lays a link that leads nowhere, and 500 creates a file by that name
unfoldable pub story : List Call
story =
    enters 20 500
    ∷ enters 30 600
    ∷ symlinks 30 "/draft" "/secret"
    ∷ creates 20 "/draft"
    ∷ checks 20 "/secret"
    ∷ []

abbrev beginning : List Answer → List Answer
beginning rest = Done 20 ∷ Done 30 ∷ Done 2 ∷ rest

-- the name is taken, and nothing is made
pub nothing_is_made : told step fresh story ≡ beginning (Refused 11 ∷ Held 0 ∷ [])
unfolding computing text call story told
nothing_is_made = refl

-- with the error the file is made where the link leads
pub made_elsewhere : told (but_for 8 create_following step) fresh story ≡ beginning (Done 3 ∷ Held 3 ∷ [])
unfolding computing text call story told but_for create_following
made_elsewhere = refl
