use Rattle.smc_query.specs.Trees.{item_tree}
use Rattle.smc_tokens.specs.declared.sign.Sign.TheVariants as signs
use Rattle.smc_print.specs.Printed.{item_tokens}
use Rattle.smc_print.proofs.lists.write_items.Goals as goal
use Rattle.smc_print.proofs.WriteLaws.{writes_next_view}

pub loop-place-preserved : goal.loop-place-preserved
loop-place-preserved c =
    writes_next_view signs.Comma item_tokens item_tree c.args.items.now c.loop-place.place c.index-items-place.result c.args.text.now c.loop-place.text c.write_between.new.text c.write_item.new.text
    c.loop-place-test.true c.index-items-place.is c.loop-place.invariant c.in_ok-write_between.ensures c.in_ok-write_item.ensures
