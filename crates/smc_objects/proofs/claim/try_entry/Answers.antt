use Rattle.std.proofs.Common.{rules, arith}
use Rattle.std.proofs.lemmas.Grind.{common_steps}
use Rattle.smc_core.specs.Section.{epoch_of}
use Rattle.smc_objects.proofs.RoundLaws.{taken-within}
use Rattle.smc_objects.proofs.claim.try_entry.Goals as goal

pub returns-then-not-claims_entry-clause-cause : goal.returns-then-not-claims_entry-clause-cause
returns-then-not-claims_entry-clause-cause c =
    let s = c.args.s.now in
    let t = c.take.new.self in
    taken-within s.shape t.shape s.number t.number s.local.steps t.local.steps c.claims_entry.new.s.local.steps c.claims_entry.new.s.local.steps
    (epoch_of s.local.stand.section) (epoch_of t.local.stand.section) _
    (search rules) (search rules) (search rules) (grind (arith, common_steps)) (grind (arith, common_steps)) (c.claims_entry.ensures.cause (search rules))
