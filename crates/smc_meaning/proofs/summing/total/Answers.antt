use Rattle.std.proofs.Common.{◌≡◌, ◌+ℤ◌, to_z, of_z, sym, ◌∙◌, arith}
use Rattle.std.specs.Int.{w128}
use Rattle.std.proofs.lemmas.Int.{ints}
use Rattle.smc_plan.specs.Typed.{typed_tree}
use Rattle.smc_meaning.proofs.SumLaws.{sum-next, summable_number, summable_units}
use Rattle.smc_meaning.proofs.summing.total.Goals as goal

pub number_at-number-requires-clause-number : goal.number_at-number-requires-clause-number
number_at-number-requires-clause-number c = summable_number c.args.leaves.now (typed_tree c.args.of.now) c.requires.summable

pub together-total-requires : goal.together-total-requires
together-total-requires c =
    let few = summable_units c.args.leaves.now (typed_tree c.args.of.now) c.get.result.now c.number_at-number.result c.requires.summable c.number_at-number.ensures.value in
    omega (arith, ints, few, c.loop-place.invariant.small, c.loop-place.total-is)

pub loop-place-preserved : goal.loop-place-preserved
loop-place-preserved c =
    let few = summable_units c.args.leaves.now (typed_tree c.args.of.now) c.get.result.now c.number_at-number.result c.requires.summable c.number_at-number.ensures.value in
    let sum : c.together-total.result ≡ c.loop-place.total +ℤ c.number_at-number.result.units = omega (arith, ints, c.together-total.ensures, c.loop-place.total-is) in
    let same : to_z w128 (of_z w128 c.together-total.result) ≡ c.together-total.result = omega (arith, ints, few, sum, c.loop-place.invariant.small, c.loop-place.total-is) in
    record {
      total = same ∙ sum ∙ sum-next c.args.leaves.now (typed_tree c.args.of.now) c.args.rows.now.rows c.loop-place.place c.get.result.now c.loop-place.total
          c.number_at-number.result c.get.ensures.row (sym c.loop-place.total-is ∙ c.loop-place.invariant.total) c.number_at-number.ensures.value;
      small = omega (arith, ints, few, sum, c.loop-place.invariant.small, c.loop-place.total-is);
    }
