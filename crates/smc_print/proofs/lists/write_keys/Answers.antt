use Rattle.smc_query.specs.Trees.{key_tree}
use Rattle.smc_tokens.specs.declared.sign.Sign.TheVariants as signs
use Rattle.smc_print.specs.Printed.{key_tokens}
use Rattle.smc_print.proofs.lists.write_keys.Goals as goal
use Rattle.smc_print.proofs.WriteLaws.{writes_next_view}

pub loop-place-preserved : goal.loop-place-preserved
loop-place-preserved c =
    writes_next_view signs.Comma key_tokens key_tree c.args.keys.now c.loop-place.place c.index-keys-place.result c.args.text.now c.loop-place.text c.write_between.new.text c.write_key.new.text
    c.loop-place-test.true c.index-keys-place.is c.loop-place.invariant c.in_ok-write_between.ensures c.in_ok-write_key.ensures
