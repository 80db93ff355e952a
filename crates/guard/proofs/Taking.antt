-- The holds that a held call takes: afterwards all that it wants are there, and to take them again changes nothing. Assumes nothing.
use mathlib.Core.Path.{◌≡◌, refl, ◌∙◌}
use mathlib.Core.Bool.{Bool, true, false}
use mathlib.Core.Logic.{◌≢◌, ◌⊎◌, inl, inr}
use mathlib.Core.List.{List, [], ◌∷◌}
use Prim.Native.Nat.{ℕ, suc, ◌≤◌}
use native.Mathlib.Omega.{arith}
use lib.ListN.{length}
use borrow.Author.Tests.{ne_eqb}
use Rattle.model.specs.Lists.{any, count, put, put_all}
use Rattle.model.specs.Tables.{Hold, free_hold}
use Rattle.model.specs.Sound.{same_hold}
use Rattle.model.specs.Holds.{lacking, add_holds}
use Rattle.laws.proofs.Bools.{either}
use Rattle.laws.proofs.Each.{Each, none, one}
use Rattle.laws.proofs.Places.{same_hold_self}
use Rattle.laws.proofs.Counts.{some_free, put_takes_one}
use Rattle.laws.proofs.Searches.{any_put_keeps, any_put_new}
use Rattle.guard.proofs.Pins.{Has}
use Rattle.guard.proofs.Edits.{free_other, has_add}

there_not_lacking : (have : List Hold) (h : Hold) (wants : List Hold) → any (same_hold h) have ≡ true →
    lacking have (h ∷ wants) ≡ lacking have wants
unfolding lacking
there_not_lacking have h wants e = simp (e, lacking)

missing_lacking : (have : List Hold) (h : Hold) (wants : List Hold) → any (same_hold h) have ≡ false →
    lacking have (h ∷ wants) ≡ h ∷ lacking (h ∷ have) wants
unfolding lacking
missing_lacking have h wants e = simp (e, lacking)

-- where all is there, nothing is lacking
pub lacks_none : (have : List Hold) {wants : List Hold} → Each (Has have) wants → lacking have wants ≡ []
unfolding lacking
lacks_none have none = refl
lacks_none have (one {x = h} {xs = wants} e es) = there_not_lacking have h wants e ∙ lacks_none have es

-- a hold of process p, in a directory
pub record Of (p : ℕ) (h : Hold) : Type 0 where
  pub whose : h.process ≡ p
  pub used : h.place.directory ≢ 0

-- A new hold put into a free row is there, and so is what was there
module _ (h : Hold) (rows : List Hold) (room : any free_hold rows ≡ true) where
  put_there : (k : Hold) → k.place.directory ≢ 0 → (have : List Hold) → (Has have k → Has rows k) → Has (h ∷ have) k →
      Has (put free_hold h rows) k
  unfolding any
  put_there k used have kept e = go (either (same_hold k h) (any (same_hold k) have) e)
    where
      go : (same_hold k h ≡ true) ⊎ (any (same_hold k) have ≡ true) → Has (put free_hold h rows) k
      go (inl f) = any_put_new (same_hold k) free_hold h f rows room
      go (inr f) = any_put_keeps (same_hold k) free_hold h (free_other k used) rows (kept f)

not_free : (h : Hold) → h.place.directory ≢ 0 → free_hold h ≡ false
unfolding free_hold
not_free h used = ne_eqb h.place.directory 0 used

-- `have` says what is lacking, and `rows` are filled: what p has in the one it has in the other
pub takes_all : (p : ℕ) {wants : List Hold} (have rows : List Hold) → ((h : Hold) → Of p h → Has have h → Has rows h) → Each (Of p) wants →
    length (lacking have wants) ≤ count free_hold rows → Each (Has (add_holds (lacking have wants) rows)) wants
unfolding add_holds put_all lacking
takes_all p have rows kept none room = none
takes_all p have rows kept (one {x = h} {xs = wants} of ofs) room = go (any (same_hold h) have) refl (λ had filled k. takes_all p had filled k ofs)
  where
    go : (b : Bool) → any (same_hold h) have ≡ b →
        ((had filled : List Hold) → ((k : Hold) → Of p k → Has had k → Has filled k) →
        length (lacking had wants) ≤ count free_hold filled → Each (Has (add_holds (lacking had wants) filled)) wants) →
        Each (Has (add_holds (lacking have (h ∷ wants)) rows)) (h ∷ wants)
    go true e ih =
        let same = there_not_lacking have h wants e in
        rw same (one (has_add h of.used (lacking have wants) rows (kept h of e)) (ih have rows kept (rw same at room)))
    go false e ih =
        let less : suc (length (lacking (h ∷ have) wants)) ≤ count free_hold rows = rw (missing_lacking have h wants e) at room in
        let open_row : any free_hold rows ≡ true = some_free free_hold rows (omega arith) in
        let filled = put free_hold h rows in
        let taken : suc (count free_hold filled) ≡ count free_hold rows = put_takes_one free_hold h (not_free h of.used) rows open_row in
        rw (missing_lacking have h wants e)
        (one (has_add h of.used (lacking (h ∷ have) wants) filled (any_put_new (same_hold h) free_hold h (same_hold_self h) rows open_row))
        (ih (h ∷ have) filled (λ k of_k i. put_there h rows open_row k of_k.used have (kept k of_k) i) (omega arith)))
