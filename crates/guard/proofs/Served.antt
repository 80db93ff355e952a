-- Records served over sound words: what a record that is read comes to, and that one which is cut off changes nothing. Assumes nothing.
use mathlib.Core.Path.{◌≡◌, refl}
use mathlib.Core.Bool.{Bool, true, false}
use mathlib.Core.List.{List}
use Prim.Native.Nat.{ℕ}
use Rattle.model.specs.Refusals.{granted, ◌when◌, ◌>>◌, ◌>>=◌}
use Rattle.model.specs.Words.{unpack}
use Rattle.model.specs.Sound.{sound}
use Rattle.model.specs.Records.{Call, fields, short, fields_broken, well_formed, read}
use Rattle.model.specs.Calls.{step}
use Rattle.model.specs.Serve.{judged, judged_with, served, serve}
use Rattle.laws.proofs.Grants.{same_grant, passed}

-- a record is read, and then its call is made
pub judged_sound : (w s : List ℕ) → sound w ≡ true → judged w s ≡ (read s >>= step (unpack w))
unfolding judged judged_with read sound ◌>>◌ ◌>>=◌
judged_sound w s sound_w = rw sound_w (go (short s))
  where
    go : (b : Bool) →
        ((17 when b) >> (well_formed (fields s) >>= step (unpack w))) ≡ (((17 when b) >> well_formed (fields s)) >>= step (unpack w))
    go true = refl
    go false = refl

-- what was read are the fields of the bytes, with nothing amiss
pub record WasRead (s : List ℕ) (r : Call) : Type 0 where
  pub right : fields_broken r ≡ false
  pub same : fields s ≡ r

pub was_read : (s : List ℕ) (r : Call) → read s ≡ granted r → WasRead s r
unfolding read well_formed
was_read s r e =
    let whole = passed 17 _ _ e in
    let right = passed 2 _ _ whole.then in
    let paths = passed 3 _ _ right.then in
    let same = same_grant paths.then in
    record { right = rw same at right.missed; same = same }

-- 17 changes no word, sound or not
pub cut_off_changes_nothing : (w s : List ℕ) → short s ≡ true → (serve w s).words ≡ w
unfolding serve judged judged_with served ◌>>◌
cut_off_changes_nothing w s e = rw e
