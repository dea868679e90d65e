use Rattle.std.proofs.Common.{◌≡◌, ◌≤◌, ◌^◌, pos, to_z, ap, ◌∙◌, arith}
use Rattle.std.specs.Int.{w64}
use Rattle.std.proofs.lemmas.Int.{ints}
use Rattle.std.proofs.Math.Nat.{pow-le-pow_right}
use Rattle.smc_filter.proofs.word.ten_to.Goals as goal

pub overflow_cast-result : goal.overflow_cast-result
overflow_cast-result c =
    let most : 10 ^ c.args.power ≤ 10 ^ 2 = pow-le-pow_right {n = 10} (omega arith) c.requires in
    omega (arith, ints, most, c.pow.ensures)

pub returns : goal.returns
returns c =
    let most : 10 ^ c.args.power ≤ 10 ^ 2 = pow-le-pow_right {n = 10} (omega arith) c.requires in
    let seen : to_z w64 c.pow.result ≡ pos c.pow.result = omega (arith, ints, most, c.pow.ensures) in
    seen ∙ ap pos c.pow.ensures
