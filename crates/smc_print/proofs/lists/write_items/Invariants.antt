use Rattle.std.proofs.Common.{map, take}
use Rattle.smc_query.specs.Trees.{item_tree}
use Rattle.smc_tokens.specs.declared.sign.Sign.TheVariants as signs
use Rattle.smc_print.specs.TokenText.{Writes}
use Rattle.smc_print.specs.Printed.{listed, item_tokens}
use Rattle.smc_print.proofs.lists.write_items.Given as goal

abbrev pub invariant-loop-place : goal.invariant-loop-place
invariant-loop-place l = Writes l.fn.text l.text (listed signs.Comma item_tokens (map item_tree (take l.place l.items)))
