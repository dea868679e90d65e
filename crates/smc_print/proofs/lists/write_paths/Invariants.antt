use Rattle.std.proofs.Common.{map, take}
use Rattle.smc_query.specs.Trees.{path_tree}
use Rattle.smc_tokens.specs.declared.sign.Sign.TheVariants as signs
use Rattle.smc_print.specs.TokenText.{Writes}
use Rattle.smc_print.specs.Printed.{listed, path_tokens}
use Rattle.smc_print.proofs.lists.write_paths.Given as goal

abbrev pub invariant-loop-place : goal.invariant-loop-place
invariant-loop-place l = Writes l.fn.text l.text (listed signs.Comma path_tokens (map path_tree (take l.place l.paths)))
