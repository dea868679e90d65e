use Rattle.std.proofs.Common.{◌≡◌, to_z, of_z, ◌∙◌, arith}
use Rattle.std.specs.Int.{w64}
use Rattle.std.proofs.lemmas.Int.{ints}
use Rattle.smc_kernel.proofs.ColumnLaws.{plus-seen, later-seen}
use Rattle.smc_kernel.proofs.column.plus.Goals as goal

pub returns-in_ok-units-in-Number-Number-clause-values : goal.returns-in_ok-units-in-Number-Number-clause-values
returns-in_ok-units-in-Number-Number-clause-values c =
    let a = c.in_ok-ten_to-in-Number-Number.field-0 in
    let b = c.in_ok-ten_to-in-Number-Number-2.field-0 in
    let a_is : to_z w64 (of_z w64 a) ≡ a = omega (arith, ints, c.in_ok-ten_to-in-Number-Number.ensures.small) in
    let b_is : to_z w64 (of_z w64 b) ≡ b = omega (arith, ints, c.in_ok-ten_to-in-Number-Number-2.ensures.small) in
    plus-seen c.args.one.now.unit c.args.other.now.unit c.in-Number-Number.left c.in-Number-Number.right c.max-scale.result (to_z w64 (of_z w64 a)) (to_z w64 (of_z w64 b)) c.args.one.now.units c.as_slice.result.now c.args.other.now.units
    c.as_slice-in-Number-Number.result.now c.in_ok-units-in-Number-Number.units c.in-Number-Number.is-0 c.in-Number-Number.is-1 c.max-scale.ensures
    (a_is ∙ c.in_ok-ten_to-in-Number-Number.ensures.factor) (b_is ∙ c.in_ok-ten_to-in-Number-Number-2.ensures.factor) c.as_slice.ensures.units c.as_slice-in-Number-Number.ensures.units c.in_ok-units-in-Number-Number.ensures.made

pub returns-in_ok-units-in-Day-Number-clause-values : goal.returns-in_ok-units-in-Day-Number-clause-values
returns-in_ok-units-in-Day-Number-clause-values c =
    later-seen c.args.one.now.unit c.args.other.now.unit c.in-Day-Number.scale-1 c.args.one.now.units c.as_slice-in-Day-Number.result.now c.args.other.now.units
    c.as_slice-in-Day-Number-2.result.now c.in_ok-units-in-Day-Number.units c.in-Day-Number.is-0 c.in-Day-Number.is-1
    c.as_slice-in-Day-Number.ensures.units c.as_slice-in-Day-Number-2.ensures.units c.in_ok-units-in-Day-Number.ensures.made
