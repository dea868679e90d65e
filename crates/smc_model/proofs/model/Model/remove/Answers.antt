use Rattle.std.proofs.Common.{subst}
use Rattle.smc_model.specs.declared.event.Event.TheVariants.{Remove}
use Rattle.smc_model.specs.World.{World, Fits, IsAllowed}
use Rattle.smc_model.specs.Tree.{world_of}
use Rattle.smc_model.proofs.TreeLaws.{took_out, not_took_out}
use Rattle.smc_model.proofs.model.Model.remove.Goals as goal

pub returns-clause-done : goal.returns-clause-done
returns-clause-done c fits =
    subst (λ (world : World). Fits world (Remove c.args.number c.args.first) (world_of c.mark_removed.new.objects)) c.self.view_is
    (took_out c.self.inside.objects c.args.number c.mark_removed.new.objects c.args.first (c.mark_removed.ensures.there fits) (c.mark_removed.ensures.done fits))

pub returns-clause-cause : goal.returns-clause-cause
returns-clause-cause c unfit =
    subst (λ (world : World). ¬ (IsAllowed world (Remove c.args.number c.args.first))) c.self.view_is
    (not_took_out c.self.inside.objects c.args.number c.args.first (c.mark_removed.ensures.cause unfit))
