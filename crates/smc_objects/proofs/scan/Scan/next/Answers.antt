use Rattle.std.proofs.Common.{refl}
use Rattle.smc_objects.proofs.GoesLaws.{goes-all, goes-does, goes-ends, goes-number, goes-scans, goes-stays, goes-visits}
use Rattle.smc_objects.proofs.scan.Scan.next.Goals as goal

pub returns-clause-done : goal.returns-clause-done
returns-clause-done c = goes-does c.args.s.now c.go_on.new.s c.args.self.now c.go_on.new.self c.go_on.result c.args.self.now.ended refl c.go_on.ensures.same c.go_on.ensures.answer

pub returns-clause-still : goal.returns-clause-still
returns-clause-still c = (
  goes-number c.args.s.now c.go_on.new.s c.args.self.now c.go_on.new.self c.go_on.result c.args.self.now.ended c.go_on.ensures.still.0 c.go_on.ensures.answer,
  c.go_on.ensures.still.1,
)

pub returns-clause-visits : goal.returns-clause-visits
returns-clause-visits c =
    goes-visits c.args.s.now c.go_on.new.s c.args.self.now c.go_on.new.self c.go_on.result c.args.self.now.ended refl c.go_on.ensures.same.1 c.go_on.ensures.home c.go_on.ensures.answer

pub returns-clause-ends : goal.returns-clause-ends
returns-clause-ends c = goes-ends c.args.s.now c.go_on.new.s c.args.self.now c.go_on.new.self c.go_on.result c.args.self.now.ended refl c.go_on.ensures.answer

pub returns-clause-all : goal.returns-clause-all
returns-clause-all c = goes-all c.args.s.now c.go_on.new.s c.args.self.now c.go_on.new.self c.go_on.result c.args.self.now.ended refl c.go_on.ensures.answer

pub returns-clause-stays : goal.returns-clause-stays
returns-clause-stays c = goes-stays c.args.s.now c.go_on.new.s c.args.self.now c.go_on.new.self c.go_on.result c.args.self.now.ended c.requires.idle c.go_on.ensures.answer

pub returns-clause-scans : goal.returns-clause-scans
returns-clause-scans c = goes-scans c.args.s.now c.go_on.new.s c.args.self.now c.go_on.new.self c.go_on.result c.args.self.now.ended c.go_on.ensures.answer
