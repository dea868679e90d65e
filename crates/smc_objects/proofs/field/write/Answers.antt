use Rattle.std.proofs.Common.{rules, ◌+◌}
use Rattle.smc_model.specs.declared.event.Event.TheVariants as event
use Rattle.smc_core.specs.declared.done.Done.TheVariants as done
use Rattle.smc_does.specs.Does.{pair_of}
use Rattle.smc_does.proofs.HeldLaws.{held-once}
use Rattle.smc_objects.proofs.ToldLaws.{told-does, told-stays}
use Rattle.smc_objects.proofs.field.write.Goals as goal

pub store-requires-clause-held : goal.store-requires-clause-held
store-requires-clause-held c = let s = c.args.s.now in held-once s.shape s.number s.local c.stands.ensures (pair_of c.args.h) c.requires.good

pub returns-clause-done : goal.returns-clause-done
returns-clause-done c =
    let s = c.args.s.now in
    told-does s c.store.new.s (s.local.steps + 1) (event.Write c.args.h.number c.args.f c.args.v) done.Written c.store.ensures.same c.store.ensures.told

pub returns-clause-stays : goal.returns-clause-stays
returns-clause-stays c =
    let s = c.args.s.now in
    told-stays s c.store.new.s (s.local.steps + 1) (event.Write c.args.h.number c.args.f c.args.v) done.Written c.store.ensures.told
