use Rattle.std.proofs.Common.{◌≡◌, ◌<◌, ◌*◌, ◌-◌, ◌^◌, ◌*ℤ◌, pos, to_z, of_z, unsigned_abs, refl, sym, ap, ◌∙◌, arith}
use Rattle.std.specs.Int.{w128}
use Rattle.std.proofs.lemmas.Int.{ints, unsigned_abs-mul}
use Rattle.smc_plan.specs.declared.kind.TheConstants.{SIZE_LIMIT}
use Rattle.smc_meaning.proofs.SumLaws.{widened_small}
use Rattle.smc_kernel.proofs.showing.average_shown.Goals as goal

pub widened-units-requires-clause-small : goal.widened-units-requires-clause-small
widened-units-requires-clause-small c =
    let few : unsigned_abs c.args.total.now.sum < SIZE_LIMIT = omega (arith, c.requires.small, c.requires.few) in
    let same : to_z w128 (of_z w128 c.args.total.now.sum) ≡ c.args.total.now.sum = omega (arith, ints, few) in
    let power = c.max-places.result - c.scale_in-scale.result in
    let small = widened_small c.args.total.now.sum (c.args.total.now.sum *ℤ pos (10 ^ power)) power few (omega (arith, c.max-places.ensures)) refl in
    let size : unsigned_abs (c.args.total.now.sum *ℤ pos (10 ^ power)) ≡ unsigned_abs c.args.total.now.sum * 10 ^ power = unsigned_abs-mul c.args.total.now.sum (pos (10 ^ power)) in
    rw same (omega (arith, small, size))

pub divided-requires-clause-small : goal.divided-requires-clause-small
divided-requires-clause-small c =
    let few : unsigned_abs c.args.total.now.sum < SIZE_LIMIT = omega (arith, c.requires.small, c.requires.few) in
    let same : to_z w128 (of_z w128 c.args.total.now.sum) ≡ c.args.total.now.sum = omega (arith, ints, few) in
    let power = c.max-places.result - c.scale_in-scale.result in
    let small = widened_small c.args.total.now.sum c.widened-units.result power few (omega (arith, c.max-places.ensures)) (c.widened-units.ensures ∙ ap (λ all. all *ℤ pos (10 ^ power)) same) in
    omega (arith, ints, small)
