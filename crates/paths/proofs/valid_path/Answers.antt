-- `paths::valid_path` meets its contract. Assumes nothing.
use mathlib.Core.Path.{sym, ◌∙◌}
use borrow.Author.Tests.{lt-leb}
use Rattle.laws.proofs.Bools.{clash}
use Rattle.paths.proofs.Validity.{absolute_told, path_longer, path_relative, path_by_names}
use Rattle.paths.proofs.valid_path.Goals as goal
use Rattle.paths.proofs.valid_path.Goals.{then-path-le-LONGEST_PATH, else-path-le-LONGEST_PATH}

pub returns-then-starts_with : goal.returns-then-starts_with
returns-then-starts_with c =
    c.valid_names.ensures
    ∙ elim c.if-path-le-LONGEST_PATH.branch [
      | then-path-le-LONGEST_PATH w ↦
          let told = rw w.as_slice.ensures at w.starts_with.ensures.value in
          sym (path_by_names _ w.if-path-le-LONGEST_PATH.true (sym (told ∙ absolute_told _) ∙ sym w.value-is ∙ c.if-starts_with.true))
      | else-path-le-LONGEST_PATH w ↦ clash c.if-starts_with.true (w.value-is ∙ lt-leb _ 255 w.if-path-le-LONGEST_PATH.false)
    ]

pub returns-else-starts_with : goal.returns-else-starts_with
returns-else-starts_with c =
    c.if-starts_with.false
    ∙ elim c.if-path-le-LONGEST_PATH.branch [
      | then-path-le-LONGEST_PATH w ↦
          let told = rw w.as_slice.ensures at w.starts_with.ensures.value in
          sym (path_relative _ w.if-path-le-LONGEST_PATH.true (sym (told ∙ absolute_told _) ∙ sym w.value-is ∙ c.if-starts_with.false))
      | else-path-le-LONGEST_PATH w ↦ sym (path_longer _ w.if-path-le-LONGEST_PATH.false)
    ]
