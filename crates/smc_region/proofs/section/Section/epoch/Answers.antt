use Rattle.std.proofs.Common.{◌≤◌, subst}
use Rattle.atomic_table.specs.Table.{Me}
use Rattle.smc_core.specs.declared.section.Section.{Section}
use Rattle.smc_core.specs.declared.section.TheConstants.{LAST_EPOCH}
use Rattle.smc_core.specs.Section.{epoch_of}
use Rattle.smc_region.specs.declared.law.View.{View}
use Rattle.smc_region.specs.Reached.{From}
use Rattle.smc_region.specs.Views.{one, sole}
use Rattle.smc_region.proofs.RangeLaws.{epoch_low}
use Rattle.smc_region.proofs.section.Section.epoch.Goals as goal

pub returns-clause-low : goal.returns-clause-low
returns-clause-low c =
    let x = c.self.inside in
    let v : View = x.seat.me.0 in
    let i = c.self.invariant in
    let from : From (one v.shape x.number (sole v.shape v.locals)) = subst (λ (m : Me (Unit {0}) View). From m.0) i.0.is i.1 in
    subst (λ (s : Section). epoch_of s ≤ LAST_EPOCH) i.3 (epoch_low v.shape x.number (sole v.shape v.locals) from)
