-- A test of another user's holds does not count for root. Assumes nothing.
use mathlib.Core.Path.{◌≡◌, sym, ap, ◌∙◌}
use mathlib.Core.Bool.{Bool, true, false, not, ◌&&◌}
use Rattle.laws.proofs.Bools.{and_false, and_true}

module _ (held : Bool) {rooted a : Bool} (e : a ≡ rooted) where
  pub root_passes : a ≡ true → false ≡ (held && not rooted)
  root_passes t = sym (and_false held (not rooted) (λ _. ap not (sym e ∙ t)))

  pub others_ask : a ≡ false → {b : Bool} → b ≡ held → b ≡ (held && not rooted)
  others_ask t q = q ∙ sym (ap (λ x. held && not x) (sym e ∙ t) ∙ and_true held)
