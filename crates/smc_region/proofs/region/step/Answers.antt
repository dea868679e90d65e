use Rattle.std.proofs.Common.{subst}
use Rattle.smc_shape.specs.Layout.{Layout}
use Rattle.smc_core.specs.Row.{OpFits}
use Rattle.smc_region.specs.Choices.{seat_choice}
use Rattle.smc_region.proofs.Keeps.{rests_fits}
use Rattle.smc_region.proofs.region.step.Goals as goal

pub step_as-requires-clause-fits : goal.step_as-requires-clause-fits
step_as-requires-clause-fits c = let view = c.args.seat.now.me.0 in
    subst (λ (t : Layout). OpFits t c.args.op) c.requires.shape (rests_fits view (seat_choice view c.args.chosen) c.args.op c.requires.rests c.requires.offers)
