use Rattle.std.proofs.Common.{◌≡◌, ◌-◌, ◌^◌, ◌*ℤ◌, pos, to_z, of_z, FitsSigned, ap, ◌∙◌, arith, rules}
use Rattle.std.specs.Int.{w128}
use Rattle.std.proofs.lemmas.Int.{ints, to_z-of_z}
use Rattle.smc_plan.specs.Typed.{typed_tree}
use Rattle.smc_meaning.specs.Groups.{divided, scale_in}
use Rattle.smc_meaning.proofs.SumLaws.{average_found, widened_small}
use Rattle.smc_meaning.proofs.summing.average_shown.Goals as goal

pub divided-requires-clause-small : goal.divided-requires-clause-small
divided-requires-clause-small c =
    let same : to_z w128 (of_z w128 c.total.result) ≡ c.total.result = omega (arith, ints, c.total.ensures.small) in
    let units = c.widened-units.ensures ∙ ap (λ all. all *ℤ pos (10 ^ (c.max-places.result - c.scale_in-scale.result))) same in
    let small = widened_small c.total.result c.widened-units.result (c.max-places.result - c.scale_in-scale.result) c.total.ensures.small (omega (arith, c.max-places.ensures)) units in
    omega (arith, ints, small)

pub returns : goal.returns
returns c =
    let all : to_z w128 (of_z w128 c.total.result) ≡ c.total.result = omega (arith, ints, c.total.ensures.small) in
    let units = c.widened-units.ensures ∙ ap (λ all. all *ℤ pos (10 ^ (c.max-places.result - c.scale_in-scale.result))) all in
    let fits : FitsSigned w128 c.widened-units.result = search rules in
    let found = c.divided.ensures ∙ ap (λ u. divided u c.len-2.result) (to_z-of_z w128 c.widened-units.result fits) in
    let last : FitsSigned w128 c.divided.result = search rules in
    rw (to_z-of_z w128 c.divided.result last)
    (average_found c.args.leaves.now (typed_tree c.args.of.now.typed) c.args.rows.now.rows c.scale_in-scale.result (scale_in c.args.of.now.kind) c.max-places.result c.len-2.result
    c.total.result c.widened-units.result c.divided.result c.scale_in-scale.ensures c.len-2.ensures (omega (arith, c.len.ensures, c.len-2.ensures, c.if-len-eq0.false)) c.max-places.ensures
    c.total.ensures.total units found)
