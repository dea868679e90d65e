use Rattle.std.proofs.Common.{◌≡◌, ℕ, List, [], ◌∷◌, ◌++◌, take, ◌+ℤ◌, to_z, of_z, sym, ap, ◌∙◌, arith}
use Rattle.std.specs.Int.{w128}
use Rattle.std.proofs.lemmas.Int.{ints}
use Rattle.smc_plan.specs.Typed.{typed_tree}
use Rattle.smc_meaning.specs.Groups.{sum_of, values_of}
use Rattle.smc_meaning.specs.Values.{value_of}
use Rattle.smc_meaning.proofs.SumLaws.{summable_number, summable_units}
use Rattle.smc_kernel.specs.Batches.{row_at, rows_at}
use Rattle.smc_kernel.proofs.PickLaws.{rows_at-next}
use Rattle.smc_kernel.proofs.SumLaws.{sum-number}
use Rattle.smc_kernel.proofs.total.sum_rows.Goals as goal

pub number_at-number-requires-clause-number : goal.number_at-number-requires-clause-number
number_at-number-requires-clause-number c = summable_number c.args.leaves.now (typed_tree c.args.of.now) c.requires.summable

pub together-total-requires : goal.together-total-requires
together-total-requires c =
    let few = summable_units c.args.leaves.now (typed_tree c.args.of.now) c.read_row.new.words c.number_at-number.result c.requires.summable c.number_at-number.ensures.value in
    omega (arith, ints, few, c.loop-place.invariant.small, c.loop-place.total-is, c.loop-place-test.true, c.requires.places.few)

pub loop-place-preserved : goal.loop-place-preserved
loop-place-preserved c =
    let few = summable_units c.args.leaves.now (typed_tree c.args.of.now) c.read_row.new.words c.number_at-number.result c.requires.summable c.number_at-number.ensures.value in
    let sum : c.together-total.result ≡ c.loop-place.total +ℤ c.number_at-number.result.units =
    omega (arith, ints, few, c.together-total.ensures, c.loop-place.total-is, c.loop-place.invariant.small, c.loop-place-test.true, c.requires.places.few) in
    let same : to_z w128 (of_z w128 c.together-total.result) ≡ c.together-total.result =
    omega (arith, ints, few, sum, c.loop-place.invariant.small, c.loop-place.total-is, c.loop-place-test.true, c.requires.places.few) in
    record {
      total = same ∙ sum
          ∙ sum-number c.args.leaves.now (typed_tree c.args.of.now) (rows_at c.args.batch.now.rows (take c.loop-place.place-index c.args.places.now)) c.read_row.new.words c.loop-place.total
          c.number_at-number.result (sym c.loop-place.total-is ∙ c.loop-place.invariant.total) c.number_at-number.ensures.value
          ∙ ap (λ (row : List ℕ). sum_of (values_of c.args.leaves.now (typed_tree c.args.of.now) (rows_at c.args.batch.now.rows (take c.loop-place.place-index c.args.places.now) ++ row ∷ []))) c.read_row.ensures.row
          ∙ ap (λ (rows : List (List ℕ)). sum_of (values_of c.args.leaves.now (typed_tree c.args.of.now) rows))
          (sym (rows_at-next c.args.batch.now.rows c.args.places.now c.loop-place.place-index c.from.result c.loop-place-test.true c.from.ensures));
      small = omega (arith, ints, few, sum, c.loop-place.invariant.small, c.loop-place.total-is);
      row = c.read_row.ensures.long ∙ c.loop-place.invariant.row;
    }
