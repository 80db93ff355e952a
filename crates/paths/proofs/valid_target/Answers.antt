-- `paths::valid_target` meets its contract. Assumes nothing.
use mathlib.Core.Logic.{◌⊎◌}
use mathlib.Core.Path.{sym, ◌∙◌}
use Prim.Native.Nat.{◌<◌}
use lib.ListN.{length}
use Rattle.std.proofs.Common.{arith}
use Rattle.std.proofs.lemmas.Bool.Decides.{nat_tests}
use Rattle.paths.proofs.Validity.{target_out_of_bounds, target_by_names}
use Rattle.paths.proofs.valid_target.Goals as goal

pub returns-then-contains : goal.returns-then-contains
returns-then-contains c = c.valid_names.ensures ∙ sym (target_by_names _ (grind (arith, nat_tests)) (grind (arith, nat_tests)))

pub returns-else-contains : goal.returns-else-contains
returns-else-contains c =
    let out : (length c.args.target.now < 1) ⊎ (64 < length c.args.target.now) = grind (arith, nat_tests) in
    c.if-contains.false ∙ sym (target_out_of_bounds _ out)
