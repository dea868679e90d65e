use Rattle.std.proofs.Common.{arith}
use Rattle.std.proofs.lemmas.Int.{ints}
use Rattle.smc_meaning.proofs.OperandLaws.{sum_small}
use Rattle.smc_meaning.proofs.decimal.Decimal.plus.Goals as goal

pub returns-clause-small : goal.returns-clause-small
returns-clause-small c =
    let small = sum_small c.args.self c.args.other c.max-scale.result c.units_at.result c.units_at-2.result c.requires c.max-scale.ensures c.units_at.ensures c.units_at-2.ensures in
    omega (arith, ints)
