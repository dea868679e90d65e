use Rattle.std.proofs.Common.{◌≡◌}
use Rattle.smc_core.specs.Scan.{scan_of}
use Rattle.smc_automaton.proofs.scan.scan_of.Given as goal

-- those that were passed have other numbers
abbrev pub invariant-loop-scan : goal.invariant-loop-scan
invariant-loop-scan l = scan_of l.scans l.number ≡ scan_of l.scan-iterator l.number
