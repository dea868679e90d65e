use Rattle.std.proofs.Common.{ℕ, None, Some, ◌++◌, refl, subst}
use Rattle.smc_words.specs.declared.number.Number.{Number}
use Rattle.smc_trace.specs.Named.{looks, writes}
use Rattle.smc_does.specs.Does.{Does}
use Rattle.smc_does.proofs.Bridges.{look-does}
use Rattle.smc_does.proofs.DoesLaws.{does-then}
use Rattle.smc_objects.proofs.alone.write_found.Goals as goal

pub returns-in_default-clause-done : goal.returns-in_default-clause-done
returns-in_default-clause-done c =
    let s = c.args.s.now in
    (looks c.args.number None, look-does s c.deref.new.self c.args.number None c.deref.ensures.same c.in_default.ensures.looks, refl)

pub returns-clause-done : goal.returns-clause-done
returns-clause-done c =
    let s = c.args.s.now in
    let held = c.in-Some.held in
    let does = look-does s c.deref.new.self c.args.number (Some held.place) c.deref.ensures.same c.in-Some.ensures.looks in
    let more = subst (λ (n : Number). Does c.deref.new.self c.write.new.s (writes n c.args.field c.args.value)) c.in-Some.ensures.number c.write.ensures.done in
    (looks c.args.number (Some held.place) ++ writes c.args.number c.args.field c.args.value, does-then does more, (held.place, refl))
