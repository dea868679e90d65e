use Rattle.std.proofs.Common.{arith}
use Rattle.smc_core.specs.Section.{epoch_of}
use Rattle.bench_region.proofs.Loads.{act-offered}
use Rattle.bench_region.proofs.read_fields.Goals as goal

pub act-value-requires-clause-offered : goal.act-value-requires-clause-offered
act-value-requires-clause-offered c =
    let l = c.loop-field in
    act-offered l.section.shape l.section.number l.section.local c.number-number.result c.args.held.place l.field c.args.first c.field_stride-stride.result (epoch_of l.section.local.stand.section) c.calm.result
    (c.field_stride-stride.ensures.stride l.section.shape) (search) l.invariant.idle (search) (grind (arith, c.loop-field-test.true, c.requires.width, l.invariant.same, c.number-number.ensures)) (grind (arith, c.requires.first, l.invariant.same, c.number-number.ensures))
