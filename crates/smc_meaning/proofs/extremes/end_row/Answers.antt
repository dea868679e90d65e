use Rattle.smc_plan.specs.Typed.{typed_tree}
use Rattle.smc_meaning.specs.Groups.{choice_of}
use Rattle.smc_meaning.specs.Nearer.{value_in}
use Rattle.smc_meaning.specs.Values.{value_of}
use Rattle.smc_meaning.proofs.EndLaws.{chosen-next}
use Rattle.smc_meaning.proofs.extremes.end_row.Goals as goal

pub loop-place-preserved : goal.loop-place-preserved
loop-place-preserved c = record {
  value = chosen-next (choice_of c.args.end) c.args.leaves.now (typed_tree c.args.of.now) c.args.rows.now.rows c.loop-place.place c.get.result.now
      (value_in c.args.leaves.now (typed_tree c.args.of.now) c.loop-place.best) (value_of c.args.leaves.now (typed_tree c.args.of.now) c.better_row-row.result.now)
      c.get.ensures.row c.loop-place.invariant.value c.better_row-row.ensures.value;
  words = c.better_row-row.ensures.words;
}
