use Rattle.std.proofs.Common.{◌≡◌, drop}
use Rattle.smc_shape.specs.Faults.{colls_fault}
use Rattle.smc_shape.proofs.fault.colls_fault.Given as goal

-- those that were passed have no fault
abbrev pub invariant-loop-coll : goal.invariant-loop-coll
invariant-loop-coll l = colls_fault l.colls ≡ colls_fault (drop l.coll-index l.colls)
