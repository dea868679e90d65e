use Rattle.smc_objects.proofs.GoesLaws.{begin-does, begin-stays, begin-scans}
use Rattle.smc_objects.proofs.scan.Scan.begin.Goals as goal

pub returns-clause-done : goal.returns-clause-done
returns-clause-done c = begin-does c.args.s.now c.first.new.s c.args.c c.first.result.scan c.first.ensures.same c.first.ensures.told c.first.ensures.first.0

pub returns-clause-stays : goal.returns-clause-stays
returns-clause-stays c = begin-stays c.args.s.now c.first.new.s c.args.c c.first.ensures.told

pub returns-clause-scans : goal.returns-clause-scans
returns-clause-scans c = begin-scans c.args.s.now c.first.new.s c.args.c c.first.ensures.told
