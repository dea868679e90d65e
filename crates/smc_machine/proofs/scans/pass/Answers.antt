use Rattle.std.proofs.Common.{sym}
use Rattle.smc_machine.proofs.ScanLaws.{passed-none, passed-split}
use Rattle.smc_machine.proofs.scans.pass.Goals as goal

pub returns-in_default : goal.returns-in_default
returns-in_default c = sym (passed-none c.args.number c.args.place c.args.scans.now (sym c.in_default.ensures))

pub returns : goal.returns
returns c = rw (c.put_behind.ensures, c.pass_first.ensures, c.in-Ok.ensures.items, c.in-Ok.ensures.tail) (sym (passed-split c.args.number c.args.place c.args.scans.now c.in-Some.at (sym c.in-Some.ensures)))
