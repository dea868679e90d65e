use Rattle.std.proofs.Common.{ap, length, arith}
use Rattle.smc_meaning.proofs.RowLaws.{length-seen, row_within, slice_get-seen}
use Rattle.smc_meaning.proofs.rows.Rows.get.Goals as goal

pub overflow_mul-place : goal.overflow_mul-place
overflow_mul-place c =
    let long = length-seen c.self.inside.width c.self.inside.count c.self.inside.words.items c.args.self.now c.self.view_is in
    let within = row_within c.self.inside.width c.self.inside.count c.args.place (omega (arith, long)) in
    omega (arith, within, c.self.invariant, c.as_slice.ensures.len, c.as_slice.type_inv)

pub split_at-requires : goal.split_at-requires
split_at-requires c =
    let long = length-seen c.self.inside.width c.self.inside.count c.self.inside.words.items c.args.self.now c.self.view_is in
    let within = row_within c.self.inside.width c.self.inside.count c.args.place (omega (arith, long)) in
    rw c.as_slice.ensures.value (omega (arith, within, c.self.invariant))

pub split_at-requires-2 : goal.split_at-requires-2
split_at-requires-2 c =
    let long = length-seen c.self.inside.width c.self.inside.count c.self.inside.words.items c.args.self.now c.self.view_is in
    let within = row_within c.self.inside.width c.self.inside.count c.args.place (omega (arith, long)) in
    let whole = ap length c.as_slice.ensures.value in
    omega (arith, within, whole, c.self.invariant, c.split_at.ensures.back_len)

pub returns-clause-row : goal.returns-clause-row
returns-clause-row c =
    let long = length-seen c.self.inside.width c.self.inside.count c.self.inside.words.items c.args.self.now c.self.view_is in
    let row = slice_get-seen c.self.inside.width c.self.inside.count c.self.inside.words.items c.args.self.now c.args.place c.self.view_is (omega (arith, long)) in
    rw (c.split_at-2.ensures.front, c.split_at.ensures.back, c.as_slice.ensures.value) row
