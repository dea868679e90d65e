use Rattle.smc_does.specs.Does.{pair_of}
use Rattle.smc_does.proofs.Bridges.{look-holds}
use Rattle.bench_objects.proofs.add_and_read.Goals as goal

pub write_field-requires-clause-good : goal.write_field-requires-clause-good
write_field-requires-clause-good c = look-holds c.add.new.s c.deref.new.self c.in-Ok.number c.in_ok-held.held c.in_ok-held.ensures.number c.in_ok-held.ensures.looks

pub read_fields-requires-clause-good : goal.read_fields-requires-clause-good
read_fields-requires-clause-good c =
    c.write_field.ensures.stays.held (pair_of c.in_ok-held.held)
    (look-holds c.add.new.s c.deref.new.self c.in-Ok.number c.in_ok-held.held c.in_ok-held.ensures.number c.in_ok-held.ensures.looks)
