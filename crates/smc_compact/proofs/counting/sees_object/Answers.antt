use Rattle.std.proofs.Common.{rules}
use Rattle.smc_compact.proofs.ShownLaws.{slot-shown}
use Rattle.smc_compact.proofs.counting.sees_object.Goals as goal

pub returns-then-is_valid-clause-shown : goal.returns-then-is_valid-clause-shown
returns-then-is_valid-clause-shown g c =
    let old = c.args.s.now in
    let middle = c.take.new.self in
    slot-shown old.shape middle.shape old.number middle.number old.local middle.local c.sees_owner.new.s.local.steps c.args.c c.args.slot c.take.result c.sees_owner.result
    c.take.ensures.same.1 c.take.ensures.same.2 c.take.ensures.took c.sees_owner.ensures.later (search rules) c.sees_owner.ensures.shown
