-- What the ranges say of where a pass stands in a state that is reached.
use Rattle.std.proofs.Common.{ℕ, ◌<◌, ◌≤◌, subst, arith}
use Rattle.std.proofs.lemmas.Option.{slice_get_within}
use Rattle.smc_shape.specs.Layout.{Layout}
use Rattle.smc_model.specs.World.{empty_world}
use Rattle.smc_core.specs.declared.local.Local.{Local}
use Rattle.smc_core.specs.declared.local.Stand.{Stand}
use Rattle.smc_core.specs.declared.section.Section.{Section}
use Rattle.smc_core.specs.declared.section.Section.TheVariants.{Outside, Loaded, Announced, Again, Lasting, Inside}
use Rattle.smc_core.specs.declared.section.TheConstants.{LAST_EPOCH}
use Rattle.smc_core.specs.Section.{epoch_of}
use Rattle.smc_inv_range.specs.Calls.{InSection, InStand}
use Rattle.smc_inv_range.proofs.ReachLaws.{ranges_then}
use Rattle.smc_region.specs.Reached.{From}
use Rattle.smc_region.specs.Views.{one}
use Rattle.smc_region.proofs.StepLaws.{was}

-- where a pass of a state that is reached stands is within the region
pub stands_within : (shape : Layout) (pass : ℕ) (l : Local) → From (one shape pass l) → InStand shape l.stand
stands_within shape pass l f =
    let r = f.reached in
    let b = ranges_then shape f.opening empty_world f.machine r.valid (was r) in
    let here = f.stands.0 in
    let within : pass < shape.passes = omega (arith, slice_get_within f.machine.locals pass l here, b.backs.count) in
    subst (λ (k : Stand). InStand shape k) (b.backs.same pass l here) (b.rule.stands pass within)

section-low : (s : Section) → InSection s → epoch_of s ≤ LAST_EPOCH
section-low Outside in_range = omega arith
section-low (Loaded seen) in_range = omega arith
section-low (Announced seen) in_range = omega arith
section-low (Again seen epoch) in_range = omega arith
section-low (Lasting epoch) in_range = in_range
section-low (Inside epoch calm) in_range = in_range

-- no section has an epoch past the last one
pub epoch_low : (shape : Layout) (pass : ℕ) (l : Local) → From (one shape pass l) → epoch_of l.stand.section ≤ LAST_EPOCH
epoch_low shape pass l f = section-low l.stand.section (stands_within shape pass l f).section
