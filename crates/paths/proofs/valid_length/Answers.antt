-- `paths::valid_length` meets its contract. Assumes nothing.
use mathlib.Core.Bool.{not}
use mathlib.Core.Logic.{◌⊎◌}
use mathlib.Core.Path.{sym, ap, ◌∙◌}
use Prim.Native.Nat.{◌<◌}
use lib.ListN.{length}
use Rattle.std.proofs.Common.{arith}
use Rattle.std.proofs.lemmas.Bool.Decides.{nat_tests}
use Rattle.paths.proofs.Names.{length_out_of_bounds, length_by_dots}
use Rattle.paths.proofs.valid_length.Goals as goal

pub returns-then-contains : goal.returns-then-contains
returns-then-contains c = ap not c.is_dots.ensures ∙ sym (length_by_dots _ (grind (arith, nat_tests)) (grind (arith, nat_tests)))

pub returns-else-contains : goal.returns-else-contains
returns-else-contains c =
    let out : (length c.args.name.now < 1) ⊎ (14 < length c.args.name.now) = grind (arith, nat_tests) in
    c.if-contains.false ∙ sym (length_out_of_bounds _ out)
