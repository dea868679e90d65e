use Rattle.std.proofs.Common.{rules, arith}
use Rattle.std.proofs.lemmas.Grind.{common_steps}
use Rattle.smc_core.specs.Section.{epoch_of}
use Rattle.smc_objects.proofs.RoundLaws.{taken-within}
use Rattle.smc_objects.proofs.claim.try_first.Goals as goal

pub returns-then-is_ripe_slot-clause-cause : goal.returns-then-is_ripe_slot-clause-cause
returns-then-is_ripe_slot-clause-cause c h =
    let s = c.args.s.now in
    let t = c.take.new.self in
    taken-within s.shape t.shape s.number t.number s.local.steps t.local.steps c.claims.new.s.local.steps c.claims.new.s.local.steps
    (epoch_of s.local.stand.section) (epoch_of t.local.stand.section) _
    (search rules) (search rules) (grind (arith, common_steps)) (grind (arith, common_steps)) (search rules) (c.claims.ensures.cause h)
