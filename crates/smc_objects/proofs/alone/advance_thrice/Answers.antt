use Rattle.std.proofs.Common.{refl, ◌++◌}
use Rattle.smc_region.specs.Advances.{done_of}
use Rattle.smc_does.proofs.Bridges.{answer-does}
use Rattle.smc_does.proofs.DoesLaws.{does-then}
use Rattle.smc_objects.proofs.alone.advance_thrice.Goals as goal

pub returns-clause-done : goal.returns-clause-done
returns-clause-done c =
    let a = c.advance in
    let b = c.advance-2 in
    let d = c.advance-3 in (
      _,
      does-then (answer-does c.args.pass.now a.new.self a.new.self.local.steps (done_of a.result) a.ensures.same a.ensures.answered)
          (does-then (answer-does a.new.self b.new.self b.new.self.local.steps (done_of b.result) b.ensures.same b.ensures.answered)
          (answer-does b.new.self d.new.self d.new.self.local.steps (done_of d.result) d.ensures.same d.ensures.answered)),
      record { first = done_of a.result; second = done_of b.result; third = done_of d.result; made = refl },
    )

pub returns-clause-home : goal.returns-clause-home
returns-clause-home c = (returns-clause-done c).1.same
