use Rattle.smc_region.specs.Looks.{slot_found}
use Rattle.smc_does.proofs.Bridges.{look-does, look-stays}
use Rattle.smc_visits.proofs.RowLaws.{look-held, look-scans}
use Rattle.smc_visits.proofs.row.look.Goals as goal

pub returns-clause-done : goal.returns-clause-done
returns-clause-done c = look-does c.args.s.now c.deref.new.self c.args.number (slot_found c.deref.result) c.deref.ensures.same c.deref.ensures.looks

pub returns-clause-holds : goal.returns-clause-holds
returns-clause-holds c = look-held c.args.s.now c.deref.new.self c.args.number c.deref.result c.deref.ensures.number c.deref.ensures.looks

pub returns-clause-stays : goal.returns-clause-stays
returns-clause-stays c = look-stays c.args.s.now c.deref.new.self c.args.number (slot_found c.deref.result) c.deref.ensures.looks

pub returns-clause-scans : goal.returns-clause-scans
returns-clause-scans c = look-scans c.args.s.now.local c.deref.new.self.local c.args.number (slot_found c.deref.result) c.deref.ensures.looks
