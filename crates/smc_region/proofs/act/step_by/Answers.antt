use Rattle.std.proofs.Common.{◌≡◌, subst}
use Rattle.smc_shape.specs.Layout.{Layout}
use Rattle.smc_core.specs.Row.{OpFits}
use Rattle.smc_region.specs.Acts.{act_by, op_in}
use Rattle.smc_region.specs.Choices.{seat_choice}
use Rattle.smc_region.specs.Views.{sole_offer}
use Rattle.smc_region.proofs.ActLaws.{act_fits, act_is, act_kind}
use Rattle.smc_region.proofs.act.step_by.Goals as goal

pub step_by_as-requires-clause-is : goal.step_by_as-requires-clause-is
step_by_as-requires-clause-is c =
    let view = c.args.seat.now.me.0 in
    let offered = sole_offer view (seat_choice view c.args.chosen) in
    subst (λ (t : Layout). c.args.act ≡ act_by t c.args.act.kind (op_in offered)) c.requires.shape (act_is view.shape c.args.act offered c.requires.offers)

pub step_by_as-requires-clause-deed : goal.step_by_as-requires-clause-deed
step_by_as-requires-clause-deed c = let view = c.args.seat.now.me.0 in act_kind view.shape view.locals (seat_choice view c.args.chosen) c.args.act c.requires.offers

pub step_by_as-requires-clause-fits : goal.step_by_as-requires-clause-fits
step_by_as-requires-clause-fits c = let view = c.args.seat.now.me.0 in
    subst (λ (t : Layout). OpFits t (op_in (sole_offer view (seat_choice view c.args.chosen)))) c.requires.shape (act_fits view (seat_choice view c.args.chosen) c.args.act c.requires.from c.requires.offers)
