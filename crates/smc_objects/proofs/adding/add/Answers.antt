use Rattle.std.proofs.Common.{rules}
use Rattle.smc_objects.proofs.ToldLaws.{add-does, add-stays, add-scans}
use Rattle.smc_objects.proofs.adding.add.Goals as goal

pub returns-clause-done : goal.returns-clause-done
returns-clause-done c = add-does c.args.s.now c.make.new.s c.args.c c.args.words.now c.make.result c.make.ensures.same c.make.ensures.coll (c.make.ensures.made, c.make.ensures.full)

pub returns-clause-stays : goal.returns-clause-stays
returns-clause-stays c = add-stays c.args.s.now c.make.new.s c.args.c c.args.words.now c.make.result (c.make.ensures.made, c.make.ensures.full)

pub returns-clause-scans : goal.returns-clause-scans
returns-clause-scans c = add-scans c.args.s.now c.make.new.s c.args.c c.args.words.now c.make.result (c.make.ensures.made, c.make.ensures.full)
