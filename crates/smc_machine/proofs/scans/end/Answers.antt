use Rattle.std.proofs.Common.{sym}
use Rattle.smc_machine.proofs.ScanLaws.{ended-none, ended-split}
use Rattle.smc_machine.proofs.scans.end.Goals as goal

pub returns-in_default : goal.returns-in_default
returns-in_default c = sym (ended-none c.args.number c.args.scans.now (sym c.in_default.ensures))

pub returns : goal.returns
returns c = rw (c.put_behind.ensures, c.end_first.ensures, c.in-Ok.ensures.items, c.in-Ok.ensures.tail) (sym (ended-split c.args.number c.args.scans.now c.in-Some.at (sym c.in-Some.ensures)))
