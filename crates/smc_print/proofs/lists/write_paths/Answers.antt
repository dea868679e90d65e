use Rattle.smc_query.specs.Trees.{path_tree}
use Rattle.smc_tokens.specs.declared.sign.Sign.TheVariants as signs
use Rattle.smc_print.specs.Printed.{path_tokens}
use Rattle.smc_print.proofs.lists.write_paths.Goals as goal
use Rattle.smc_print.proofs.WriteLaws.{writes_next_view}

pub loop-place-preserved : goal.loop-place-preserved
loop-place-preserved c =
    writes_next_view signs.Comma path_tokens path_tree c.args.paths.now c.loop-place.place c.index-paths-place.result c.args.text.now c.loop-place.text c.write_between.new.text c.write_path.new.text
    c.loop-place-test.true c.index-paths-place.is c.loop-place.invariant c.in_ok-write_between.ensures c.in_ok-write_path.ensures
