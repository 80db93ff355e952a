-- `rows::is_kind` meets its contract: two kinds are the same where their numbers are. Assumes nothing.
use mathlib.Core.Path.{◌≡◌, refl, ap, ◌∙◌}
use lib.Dec.{eqb}
use Rattle.std.specs.Prelude.{Option, None, Some}
use Rattle.std.specs.Option.{option_eq}
use Rattle.rows.specs.contracts.KindPartialEq.TheImpl.{eq-value}
use Rattle.rows.specs.declared.Kind.{Kind}
use Rattle.rows.specs.declared.Kind.TheVariants.{File, Directory, Link}
use Rattle.rows.specs.Kinds.{kind_number, number_of}
use Rattle.rows.proofs.is_kind.Goals as goal

told : (k : Option Kind) (j : Kind) → option_eq eq-value.it k (Some j) ≡ eqb (kind_number k) (number_of j)
told None File = refl
told None Directory = refl
told None Link = refl
told (Some File) File = refl
told (Some File) Directory = refl
told (Some File) Link = refl
told (Some Directory) File = refl
told (Some Directory) Directory = refl
told (Some Directory) Link = refl
told (Some Link) File = refl
told (Some Link) Directory = refl
told (Some Link) Link = refl

pub returns : goal.returns
returns c = c.eq.ensures ∙ told c.node_kind.result c.args.kind ∙ ap (λ n. eqb n (number_of c.args.kind)) c.node_kind.ensures
