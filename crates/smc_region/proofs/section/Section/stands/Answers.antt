use Rattle.std.proofs.Common.{subst}
use Rattle.atomic_table.specs.Table.{Me}
use Rattle.smc_region.specs.declared.law.View.{View}
use Rattle.smc_region.specs.Callers.{Caller}
use Rattle.smc_region.specs.Reached.{From}
use Rattle.smc_region.specs.Views.{one}
use Rattle.smc_region.proofs.section.Section.stands.Goals as goal

pub returns : goal.returns
returns c =
    let x = c.self.inside in
    let i = c.self.invariant in
    subst (λ (k : Caller). From (one k.shape k.number k.local)) c.self.view_is (subst (λ (m : Me (Unit {0}) View). From m.0) i.0.is i.1)
