use Rattle.std.proofs.Common.{◌≡◌, Some, List, subst}
use Rattle.std.specs.List.{slice_get, slice_set}
use Rattle.smc_core.specs.declared.local.Local.{Local}
use Rattle.smc_core.specs.Machine.{Steps}
use Rattle.smc_machine.specs.Chosen.{IsChosen}
use Rattle.smc_machine.specs.Faults.{IsAllowed, IsRefused, IsRefusedFirst}
use Rattle.smc_machine.specs.Running.{Running, Tells, running}
use Rattle.smc_machine.proofs.RunningLaws.{IsRefused-first, fits-read, offers-read, counts-read, allowed-read, running-next, steps-next, tells-next}
use Rattle.smc_machine.proofs.machine.Machine.take.Goals as goal

pub returns-in-Err-clause-cause : goal.returns-in-Err-clause-cause
returns-in-Err-clause-cause c =
    subst (λ (m : Running). IsRefused m c.args.pass c.args.choice.now c.in-Err.fault) c.self.view_is
    (IsRefused-first (running c.self.inside.row.shape c.self.inside.row.row c.self.inside.passes.items) c.args.pass c.args.choice.now c.in-Err.fault
    (subst (λ (ls : List Local). IsRefusedFirst (running c.self.inside.row.shape c.self.inside.row.row ls) c.args.pass c.args.choice.now c.in-Err.fault)
    c.deref.ensures.value (c.in-Err.ensures.cause c.self.inside.row.row)))

pub take_part-taken-requires-clause-fits : goal.take_part-taken-requires-clause-fits
take_part-taken-requires-clause-fits c = fits-read c.self.inside.row.shape c.self.inside.row.row c.self.inside.passes.items c.args.pass c.args.choice.now c.index_mut.result.now c.in-Ok.chosen
    c.self.invariant (subst (λ (ls : List Local). IsChosen c.self.inside.row.shape ls c.args.pass c.args.choice.now c.in-Ok.chosen) c.deref.ensures.value c.in-Ok.ensures.done) c.index_mut.ensures.value

pub take_part-taken-requires-clause-offers : goal.take_part-taken-requires-clause-offers
take_part-taken-requires-clause-offers c = offers-read c.self.inside.row.shape c.self.inside.row.row c.self.inside.passes.items c.args.pass c.args.choice.now c.index_mut.result.now c.in-Ok.chosen
    c.self.invariant (subst (λ (ls : List Local). IsChosen c.self.inside.row.shape ls c.args.pass c.args.choice.now c.in-Ok.chosen) c.deref.ensures.value c.in-Ok.ensures.done) c.index_mut.ensures.value

pub take_part-taken-requires-clause-counts : goal.take_part-taken-requires-clause-counts
take_part-taken-requires-clause-counts c = counts-read c.self.inside.row.shape c.self.inside.row.row c.self.inside.passes.items c.args.pass c.args.choice.now c.index_mut.result.now c.in-Ok.chosen
    c.self.invariant (subst (λ (ls : List Local). IsChosen c.self.inside.row.shape ls c.args.pass c.args.choice.now c.in-Ok.chosen) c.deref.ensures.value c.in-Ok.ensures.done) c.index_mut.ensures.value

pub invariant_of-self : goal.invariant_of-self
invariant_of-self c = running-next c.self.inside.row.shape c.self.inside.row.row c.self.inside.passes.items c.args.pass c.args.choice.now c.index_mut.result.now c.in-Ok.chosen
    c.self.invariant (subst (λ (ls : List Local). IsChosen c.self.inside.row.shape ls c.args.pass c.args.choice.now c.in-Ok.chosen) c.deref.ensures.value c.in-Ok.ensures.done) c.index_mut.ensures.value
    c.take_part-taken.new.local c.apply.new.self.shape c.apply.ensures.shape c.in-Ok-taken.ensures.stand

pub returns-in-Ok-taken-clause-done : goal.returns-in-Ok-taken-clause-done
returns-in-Ok-taken-clause-done c =
    subst (λ (m : Running). Steps m.shape m.machine c.args.pass c.args.choice.now (record { row = c.apply.new.self.row; locals = slice_set c.self.inside.passes.items c.args.pass c.take_part-taken.new.local })) c.self.view_is
    (steps-next c.self.inside.row.shape c.self.inside.row.row c.self.inside.passes.items c.args.pass c.args.choice.now c.index_mut.result.now c.in-Ok.chosen
    c.self.invariant (subst (λ (ls : List Local). IsChosen c.self.inside.row.shape ls c.args.pass c.args.choice.now c.in-Ok.chosen) c.deref.ensures.value c.in-Ok.ensures.done) c.index_mut.ensures.value
    c.take_part-taken.new.local c.apply.new.self.row c.apply.ensures.row c.in-Ok-taken.ensures.done)

pub returns-in-Ok-taken-clause-told : goal.returns-in-Ok-taken-clause-told
returns-in-Ok-taken-clause-told c =
    subst (λ (m : Running). (before after : Local) → slice_get m.machine.locals c.args.pass ≡ Some before → slice_get (slice_set c.self.inside.passes.items c.args.pass c.take_part-taken.new.local) c.args.pass ≡ Some after → Tells before after c.in-Ok-taken.step) c.self.view_is
    (tells-next c.self.inside.row.shape c.self.inside.row.row c.self.inside.passes.items c.args.pass c.args.choice.now c.index_mut.result.now c.in-Ok.chosen
    c.self.invariant (subst (λ (ls : List Local). IsChosen c.self.inside.row.shape ls c.args.pass c.args.choice.now c.in-Ok.chosen) c.deref.ensures.value c.in-Ok.ensures.done) c.index_mut.ensures.value
    c.take_part-taken.new.local c.in-Ok-taken.step c.in-Ok-taken.ensures.told)

pub returns-in-Ok-taken-clause-allowed : goal.returns-in-Ok-taken-clause-allowed
returns-in-Ok-taken-clause-allowed c = subst (λ (m : Running). IsAllowed m c.args.pass c.args.choice.now) c.self.view_is
    (allowed-read c.self.inside.row.shape c.self.inside.row.row c.self.inside.passes.items c.args.pass c.args.choice.now c.index_mut.result.now c.in-Ok.chosen
    c.self.invariant (subst (λ (ls : List Local). IsChosen c.self.inside.row.shape ls c.args.pass c.args.choice.now c.in-Ok.chosen) c.deref.ensures.value c.in-Ok.ensures.done) c.index_mut.ensures.value)

pub returns-in-Err-taken-clause-cause : goal.returns-in-Err-taken-clause-cause
returns-in-Err-taken-clause-cause c = subst (λ (m : Running). IsAllowed m c.args.pass c.args.choice.now) c.self.view_is
    (allowed-read c.self.inside.row.shape c.self.inside.row.row c.self.inside.passes.items c.args.pass c.args.choice.now c.index_mut.result.now c.in-Ok.chosen
    c.self.invariant (subst (λ (ls : List Local). IsChosen c.self.inside.row.shape ls c.args.pass c.args.choice.now c.in-Ok.chosen) c.deref.ensures.value c.in-Ok.ensures.done) c.index_mut.ensures.value)
