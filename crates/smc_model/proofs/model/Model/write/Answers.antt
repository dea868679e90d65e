use Rattle.std.proofs.Common.{subst}
use Rattle.smc_model.specs.declared.event.Event.TheVariants.{Write}
use Rattle.smc_model.specs.World.{World, Fits, IsAllowed}
use Rattle.smc_model.specs.Tree.{world_of}
use Rattle.smc_model.proofs.TreeLaws.{wrote, not_wrote}
use Rattle.smc_model.proofs.model.Model.write.Goals as goal

pub returns-clause-done : goal.returns-clause-done
returns-clause-done c fits =
    subst (λ (world : World). Fits world (Write c.args.number c.args.field c.args.value) (world_of c.write_word.new.objects)) c.self.view_is
    (wrote c.self.inside.objects c.args.number c.write_word.new.objects c.args.field c.args.value (c.write_word.ensures.there fits) c.if-value-eq-BLANK.false (c.write_word.ensures.done fits))

pub returns-clause-cause : goal.returns-clause-cause
returns-clause-cause c unfit =
    subst (λ (world : World). ¬ (IsAllowed world (Write c.args.number c.args.field c.args.value))) c.self.view_is
    (not_wrote c.self.inside.objects c.args.number c.args.field c.args.value (c.write_word.ensures.cause unfit))
