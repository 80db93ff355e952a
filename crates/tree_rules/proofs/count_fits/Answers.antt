-- `tree_rules::count_fits` meets its contract. Assumes nothing.
use mathlib.Core.Path.{refl}
use native.Mathlib.Omega.{arith}
use Rattle.rows.specs.Stands.{node_row}
use Rattle.tree_rules.proofs.Nodes.{free_passes, used_decides, root_passes, directory_fits, other_fits}
use Rattle.tree_rules.proofs.count_fits.Goals as goal

pub returns-then-row-eq0 : goal.returns-then-row-eq0
returns-then-row-eq0 c = root_passes (node_row c.args.words.now c.args.row) c.if-row-eq0.true

pub returns-in-None : goal.returns-in-None
returns-in-None c = free_passes (node_row c.args.words.now c.args.row) c.in-None.ensures _ refl

pub returns-in-Some-Directory : goal.returns-in-Some-Directory
returns-in-Some-Directory c =
    let x = node_row c.args.words.now c.args.row in
    let kind = rw c.in-Some-Directory.field-0-is at c.in-Some-Directory.ensures in
    used_decides x kind (λ z. omega arith) (directory_fits x kind c.if-row-eq0.false c.count_in.ensures refl)

pub returns-in-Some-File : goal.returns-in-Some-File
returns-in-Some-File c =
    let x = node_row c.args.words.now c.args.row in
    let kind = rw c.in-Some-File.field-0-is at c.in-Some-File.ensures in
    used_decides x kind (λ z. omega arith) (other_fits x kind c.if-row-eq0.false c.count_in-in-Some-File.ensures (λ z. omega arith))

pub returns-in-Some-Link : goal.returns-in-Some-Link
returns-in-Some-Link c =
    let x = node_row c.args.words.now c.args.row in
    let kind = rw c.in-Some-Link.field-0-is at c.in-Some-Link.ensures in
    used_decides x kind (λ z. omega arith) (other_fits x kind c.if-row-eq0.false c.count_in-in-Some-Link.ensures (λ z. omega arith))
