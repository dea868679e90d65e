use Rattle.std.proofs.Common.{◌≡◌, ◌+◌, ◌++◌, ◌∷◌, replicate, take}
use Rattle.std.specs.List.{flat_map}
use Rattle.smc_row.specs.Rows.{opened_coll, opened_entry}
use Rattle.smc_row.proofs.open.numbers.Given as goal

abbrev pub invariant-loop-c : goal.invariant-loop-c
invariant-loop-c l =
    l.row.items ≡ l.fn.opening.epoch ∷ (replicate (1 + l.shape.passes) 0 ++ flat_map (opened_coll (opened_entry l.fn.opening)) (take l.c l.shape.colls))
