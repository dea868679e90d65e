use Rattle.std.proofs.Common.{unsigned_abs, ap, ◌∙◌, arith}
use Rattle.std.specs.Int.{w128}
use Rattle.std.proofs.lemmas.Int.{ints, to_z-of_z}
use Rattle.smc_meaning.specs.Groups.{nearest_part}
use Rattle.smc_meaning.proofs.SumLaws.{down_by, up_by}
use Rattle.smc_kernel.proofs.showing.divided.Goals as goal

pub returns-then-units-lt0 : goal.returns-then-units-lt0
returns-then-units-lt0 c =
    let same = to_z-of_z w128 c.args.units c.ranges.units in
    let nearest = c.nearest_part-size.ensures.nearest ∙ ap (λ n. nearest_part n c.args.parts) (c.unsigned_abs.ensures.value ∙ ap unsigned_abs same) in
    down_by c.args.units c.args.parts c.nearest_part-size.result (grind (arith, ints)) c.nearest_part-size.ensures.small nearest

pub returns-else-units-lt0 : goal.returns-else-units-lt0
returns-else-units-lt0 c =
    let same = to_z-of_z w128 c.args.units c.ranges.units in
    let nearest = c.nearest_part-size.ensures.nearest ∙ ap (λ n. nearest_part n c.args.parts) (c.unsigned_abs.ensures.value ∙ ap unsigned_abs same) in
    up_by c.args.units c.args.parts c.nearest_part-size.result (grind (arith, ints)) c.nearest_part-size.ensures.small nearest
