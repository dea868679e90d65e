use Rattle.std.proofs.Common.{◌≡◌, take, ℤ, to_z, of_z, rules, arith}
use Rattle.std.specs.Int.{w64}
use Rattle.smc_plan.specs.Leaves.{leaves_words}
use Rattle.smc_filter.specs.Constants.{cell_of_constant}
use Rattle.smc_filter.proofs.WordLaws.{compare-leaf, leaf-within}
use Rattle.smc_filter.proofs.word.word_of_leaf.Goals as goal

pub returns-clause-same : goal.returns-clause-same
returns-clause-same c words right right_is =
    let leaf = c.args.leaf.now in
    let at = c.in_ok-at.at in
    let units : ℤ = c.in_ok-units.units in
    let at_is : at ≡ leaves_words (take c.args.place c.args.leaves.now) = search rules in
    let units_is : to_z w64 (of_z w64 units) ≡ units = search rules in
    compare-leaf c.args.leaves.now c.args.op c.args.place at leaf (cell_of_constant c.args.constant) units (to_z w64 (of_z w64 units)) right words
    c.requires.found c.in_ok-units.ensures.width at_is c.in_ok-units.ensures.same units_is right_is

pub returns-clause-fits : goal.returns-clause-fits
returns-clause-fits c =
    let at_is : c.in_ok-at.at ≡ leaves_words (take c.args.place c.args.leaves.now) = search rules in
    omega (arith, at_is, leaf-within c.args.leaves.now c.args.place c.args.leaf.now c.requires.found c.in_ok-units.ensures.width)
