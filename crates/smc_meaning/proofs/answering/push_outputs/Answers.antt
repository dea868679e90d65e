use Rattle.std.proofs.lemmas.List.Elements.{All-from_recursion}
use Rattle.smc_plan.specs.Kinds.{IsOutput}
use Rattle.smc_plan.specs.Outputs.{output_tree}
use Rattle.smc_plan.specs.Planned.{output_trees}
use Rattle.smc_meaning.proofs.PieceLaws.{seen-all}
use Rattle.smc_meaning.proofs.answering.push_outputs.Goals as goal

pub output_shown-requires-clause-output : goal.output_shown-requires-clause-output
output_shown-requires-clause-output g c =
    seen-all (IsOutput c.args.leaves.now) output_tree c.args.items.now c.loop-item.item-index c.item-item.result c.loop-item-test.true c.item-item.is
    (All-from_recursion (IsOutput c.args.leaves.now) (output_trees c.args.items.now) c.requires.items)
