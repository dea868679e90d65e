use Rattle.smc_plan.specs.Typed.{typed_tree}
use Rattle.smc_meaning.proofs.SideLaws.{self_can}
use Rattle.smc_meaning.proofs.comparing.compare_rows.Goals as goal

pub compare_at-requires-clause-sides : goal.compare_at-requires-clause-sides
compare_at-requires-clause-sides c = self_can c.args.leaves.now (typed_tree c.args.expr.now) c.requires.typed.kind c.requires.typed.kind_is
