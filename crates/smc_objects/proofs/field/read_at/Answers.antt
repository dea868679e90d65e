use Rattle.std.proofs.Common.{rules, ◌+◌}
use Rattle.smc_model.specs.declared.event.Event.TheVariants as event
use Rattle.smc_core.specs.declared.done.Done.TheVariants as done
use Rattle.smc_does.specs.Does.{pair_of}
use Rattle.smc_does.proofs.HeldLaws.{held-once}
use Rattle.smc_objects.proofs.ToldLaws.{told-does, told-stays}
use Rattle.smc_objects.proofs.field.read_at.Goals as goal

pub load_at-requires-clause-held : goal.load_at-requires-clause-held
load_at-requires-clause-held c = let s = c.args.s.now in held-once s.shape s.number s.local c.stands.ensures (pair_of c.args.fields.held) c.requires.good

pub returns-clause-done : goal.returns-clause-done
returns-clause-done c =
    let s = c.args.s.now in
    told-does s c.load_at.new.s (s.local.steps + 1) (event.Read c.args.fields.held.number c.args.f c.load_at.result) (done.Value c.load_at.result) c.load_at.ensures.same c.load_at.ensures.told

pub returns-clause-stays : goal.returns-clause-stays
returns-clause-stays c =
    let s = c.args.s.now in
    told-stays s c.load_at.new.s (s.local.steps + 1) (event.Read c.args.fields.held.number c.args.f c.load_at.result) (done.Value c.load_at.result) c.load_at.ensures.told
