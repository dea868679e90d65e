use Rattle.std.proofs.Common.{◌≡◌, ◌≤◌, ◌^◌, pos, to_z, FitsSigned, ap, ◌∙◌, arith}
use Rattle.std.specs.Int.{w64}
use Rattle.std.proofs.lemmas.Int.{ints}
use Rattle.std.proofs.Math.Nat.{pow-le-pow_right}
use Rattle.smc_kernel.proofs.column.ten_to.Goals as goal

pub overflow_cast-result : goal.overflow_cast-result
overflow_cast-result c =
    let most : 10 ^ c.args.power ≤ 10 ^ 18 = pow-le-pow_right {n = 10} (omega arith) c.if-power-le18.true in
    omega (arith, ints, most, c.pow.ensures)

pub returns-then-power-le18-clause-factor : goal.returns-then-power-le18-clause-factor
returns-then-power-le18-clause-factor c =
    let most : 10 ^ c.args.power ≤ 10 ^ 18 = pow-le-pow_right {n = 10} (omega arith) c.if-power-le18.true in
    let seen : to_z w64 c.pow.result ≡ pos c.pow.result = omega (arith, ints, most, c.pow.ensures) in
    seen ∙ ap pos c.pow.ensures

pub returns-then-power-le18-clause-small : goal.returns-then-power-le18-clause-small
returns-then-power-le18-clause-small c =
    let most : 10 ^ c.args.power ≤ 10 ^ 18 = pow-le-pow_right {n = 10} (omega arith) c.if-power-le18.true in
    omega (arith, ints, most, c.pow.ensures)
