-- A row's place, made again from its directory and the block of its name, as the code has them. Assumes nothing.
use mathlib.Core.Path.{◌≡◌, ap, ◌∙◌}
use Prim.Native.Nat.{ℕ}
use Rattle.model.specs.Tables.{Place}
use Rattle.laws.proofs.Words.{NameFits, name_back as name_comes_back}
use Rattle.rows.specs.declared.Block.{Block}
use Rattle.rows.specs.Blocks.{Named, block_of, place_of, name_of}
use Rattle.rows.proofs.Blocks.{name_back, block_named}

module _ (q : Place) (fits : NameFits q.name) {b : Block} (e : b ≡ block_of q.name) where
  pub block_names : Named b
  block_names = rw e (block_named q.name (name_comes_back fits))

  pub place_again : {d : ℕ} → d ≡ q.directory → place_of d b ≡ q
  unfolding place_of
  place_again f = λ i. record { directory = f i; name = (ap name_of e ∙ name_back q.name (name_comes_back fits)) i }
