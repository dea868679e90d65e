use Rattle.std.proofs.Common.{arith, ◌<◌, length}
use Rattle.smc_does.specs.Does.{pair_of}
use Rattle.smc_region.proofs.Insides.{coll_within}
use Rattle.smc_objects.proofs.FieldLaws.{held_within}
use Rattle.smc_objects.proofs.field.fields.Goals as goal

pub first_field_at-requires : goal.first_field_at-requires
first_field_at-requires c =
    let s = c.args.s.now in
    let low = held_within s.shape s.number s.local c.stands.ensures (pair_of c.args.h) c.requires.good in
    grind (arith, low)

pub width-requires : goal.width-requires
width-requires c =
    let s = c.args.s.now in
    let low = held_within s.shape s.number s.local c.stands.ensures (pair_of c.args.h) c.requires.good in
    let within = coll_within s.shape.colls c.args.h.number.coll c.args.h.place low in
    grind (arith, within)
