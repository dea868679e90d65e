use Rattle.std.proofs.Common.{arith}
use Rattle.smc_shape.proofs.PlaceLaws.{field-within, first_field-within}
use Rattle.smc_shape.proofs.shape.Shape.first_field_at.Goals as goal

pub overflow_add-result-3 : goal.overflow_add-result-3
overflow_add-result-3 c =
    let first = first_field-within c.args.self.now c.args.c c.args.slot c.span-span.ensures.valid c.requires in
    let width = c.span-span.ensures.span.width in
    let start = c.span-span.ensures.span.start in
    let slots = c.span-span.ensures.span.slots in
    let entries = c.span-span.ensures.span.entries in
    rw (width, start, slots, entries) (omega (arith, first))

pub overflow_add-result-4 : goal.overflow_add-result-4
overflow_add-result-4 c =
    let first = first_field-within c.args.self.now c.args.c c.args.slot c.span-span.ensures.valid c.requires in
    let width = c.span-span.ensures.span.width in
    let start = c.span-span.ensures.span.start in
    let slots = c.span-span.ensures.span.slots in
    let entries = c.span-span.ensures.span.entries in
    rw (width, start, slots, entries) (omega (arith, first))

pub returns-clause-within : goal.returns-clause-within
returns-clause-within c f lf =
    let within = field-within c.args.self.now c.args.c c.args.slot f c.span-span.ensures.valid c.requires lf in
    let width = c.span-span.ensures.span.width in
    let start = c.span-span.ensures.span.start in
    let slots = c.span-span.ensures.span.slots in
    let entries = c.span-span.ensures.span.entries in
    rw (width, start, slots, entries) (omega (arith, within))
