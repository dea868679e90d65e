use Rattle.std.proofs.Common.{◌≡◌, ◌++◌, map, take}
use Rattle.std.specs.List.{flat_map}
use Rattle.smc_meaning.specs.Cells.{column_seen}
use Rattle.smc_meaning.specs.Printed.{further_text}
use Rattle.smc_meaning.proofs.answer.print_further.Given as goal

abbrev pub invariant-loop-column : goal.invariant-loop-column
invariant-loop-column l = l.text.items ≡ l.fn.text.items ++ flat_map further_text (map column_seen (take l.column-index l.columns))
