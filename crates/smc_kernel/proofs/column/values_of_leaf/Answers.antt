use Rattle.std.proofs.Common.{◌≡◌, ◌∙◌, take, ap, sym, map, List, ℕ, Some, arith, rules}
use Rattle.smc_plan.specs.Leaves.{leaves_words}
use Rattle.smc_plan.specs.declared.leaf.Leaf.{Leaf}
use Rattle.smc_kernel.specs.Columns.{cell_in, unit_of}
use Rattle.smc_kernel.proofs.ColumnLaws.{leaf-within, one-word, values-leaf}
use Rattle.smc_kernel.proofs.column.values_of_leaf.Goals as goal

pub returns-clause-values : goal.returns-clause-values
returns-clause-values c =
    let found = c.requires.found in
    let unit_is : unit_of c.args.leaf.now.kind ≡ Some c.in_ok-unit.unit = search rules in
    let at_is : c.in_ok-at.at ≡ leaves_words (take c.args.place c.args.leaves.now) = search rules in
    values-leaf c.args.leaves.now c.args.place c.in_ok-at.at c.args.leaf.now c.in_ok-unit.unit c.args.batch.now.rows c.column.result.now c.args.places.now found unit_is at_is c.column.ensures
    ∙ sym (ap (map (cell_in c.in_ok-unit.unit)) c.units_at-units.ensures)

pub column-requires : goal.column-requires
column-requires c =
    let unit_is : unit_of c.args.leaf.now.kind ≡ Some c.in_ok-unit.unit = search rules in
    let at_is : c.in_ok-at.at ≡ leaves_words (take c.args.place c.args.leaves.now) = search rules in
    omega (arith, c.requires.words, at_is, leaf-within c.args.leaves.now c.args.place c.args.leaf.now c.requires.found (one-word c.args.leaf.now.kind c.in_ok-unit.unit unit_is))
