use Rattle.std.proofs.Common.{FitsSigned, ◌*ℤ◌, arith, rules}
use Rattle.std.specs.Int.{w128}
use Rattle.std.proofs.lemmas.Int.{fits_signed_from_abs, to_z-of_z}
use Rattle.smc_meaning.proofs.OperandLaws.{product_small}
use Rattle.smc_meaning.proofs.decimal.Decimal.times.Goals as goal

pub returns-clause-small : goal.returns-clause-small
returns-clause-small c =
    let small = product_small c.args.self c.args.other c.requires in
    let fits : FitsSigned w128 (c.args.self.units *ℤ c.args.other.units) = fits_signed_from_abs w128 (c.args.self.units *ℤ c.args.other.units) (omega arith) in
    let one : FitsSigned w128 c.args.self.units = search rules in
    let other : FitsSigned w128 c.args.other.units = search rules in
    rw (to_z-of_z w128 c.args.self.units one, to_z-of_z w128 c.args.other.units other, to_z-of_z w128 (c.args.self.units *ℤ c.args.other.units) fits) small
