-- The words that the code writes for a node, and a node with another count. Assumes nothing.
use Rattle.std.specs.Prelude.{List, ◌∷◌, ℕ, ◌+◌, ◌*◌, length}
use Rattle.model.specs.Lists.{filled}
use Rattle.model.specs.Paths.{longest_target}
use Rattle.model.specs.Tables.{Node}
use Rattle.model.specs.Words.{words}

abbrev pub node_as_words : ℕ → ℕ → List ℕ → List ℕ
node_as_words kind count target = (kind * 1073741824 + length target * 8388608 + count * 8192) ∷ words (filled longest_target target)

unfoldable pub with_count : ℕ → Node → Node
with_count count x = record { kind = x.kind; count = count; target = x.target }
