use Rattle.std.proofs.Common.{rules, ◌+◌}
use Rattle.smc_model.specs.declared.event.Event.TheVariants as event
use Rattle.smc_does.specs.Does.{pair_of}
use Rattle.smc_does.proofs.HeldLaws.{held-once}
use Rattle.smc_objects.specs.Telling.{remove_steps, removed}
use Rattle.smc_objects.proofs.ToldLaws.{told-does, told-stays}
use Rattle.smc_objects.proofs.removal.remove.Goals as goal

pub mark-requires-clause-held : goal.mark-requires-clause-held
mark-requires-clause-held c = let s = c.args.s.now in held-once s.shape s.number s.local c.stands.ensures (pair_of c.args.h) c.requires.good

pub returns-clause-done : goal.returns-clause-done
returns-clause-done c =
    let s = c.args.s.now in
    told-does s c.mark.new.s (s.local.steps + remove_steps c.mark.result) (event.Remove c.args.h.number c.mark.result) (removed c.mark.result) c.mark.ensures.same c.mark.ensures.told

pub returns-clause-stays : goal.returns-clause-stays
returns-clause-stays c =
    let s = c.args.s.now in
    told-stays s c.mark.new.s (s.local.steps + remove_steps c.mark.result) (event.Remove c.args.h.number c.mark.result) (removed c.mark.result) c.mark.ensures.told
