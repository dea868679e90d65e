use Rattle.std.proofs.Common.{rules}
use Rattle.smc_region.proofs.OwnerLaws.{owner_home}
use Rattle.smc_compact.proofs.ending.finish_target.Goals as goal

pub move_object-requires-clause-home : goal.move_object-requires-clause-home
move_object-requires-clause-home c =
    let s = c.args.s.now in
    let t = c.args.targets in
    owner_home s.shape s.number s.local t.coll t.slot c.take.result c.in-Some.number c.take.ensures.saw c.take.ensures.fits (search rules)
