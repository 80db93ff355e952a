-- `paths::valid_name` meets its contract. Assumes nothing.
use mathlib.Core.Path.{◌≡◌, sym, ◌∙◌}
use mathlib.Core.Bool.{true, false}
use Rattle.std.proofs.Common.{rules, tests}
use Rattle.std.proofs.lemmas.Iterator.{YieldsList-from_slice}
use Rattle.std.proofs.lemmas.Iterator.Search.{all_from_yields_List}
use Rattle.model.specs.Lists.{all}
use Rattle.model.specs.Paths.{name_byte}
use Rattle.paths.proofs.Names.{all_of, name_apart}
use Rattle.paths.proofs.valid_name.Goals as goal

pub returns-then-all : goal.returns-then-all
unfolding name_byte
returns-then-all c =
    let told = all_from_yields_List name_byte _ _ c.all.result c.all.ensures.ran (YieldsList-from_slice c.args.name.now cc) (λ x b q k. search (rules, tests)) in
    let right : all name_byte c.args.name.now ≡ true = sym (told ∙ all_of name_byte c.args.name.now) ∙ c.if-all.true in
    c.valid_length.ensures ∙ sym (rw right at (name_apart c.args.name.now))

pub returns-else-all : goal.returns-else-all
unfolding name_byte
returns-else-all c =
    let told = all_from_yields_List name_byte _ _ c.all.result c.all.ensures.ran (YieldsList-from_slice c.args.name.now cc) (λ x b q k. search (rules, tests)) in
    let wrong : all name_byte c.args.name.now ≡ false = sym (told ∙ all_of name_byte c.args.name.now) ∙ c.if-all.false in
    c.if-all.false ∙ sym (rw wrong at (name_apart c.args.name.now))
