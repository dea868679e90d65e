use Rattle.std.proofs.Common.{◌≡◌, to_z, of_z, unsigned_abs, ap, ◌∙◌}
use Rattle.std.proofs.lemmas.Int.{to_z-of_z}
use mir.Syntax.{w64}
use Rattle.smc_types.specs.Numbers.{moved}
use Rattle.smc_types.specs.declared.column.FieldType.TheVariants.{Count, Amount, Rate}
use Rattle.smc_tbl.specs.Words.{FieldAddsWords}
use Rattle.smc_tbl.proofs.WordNumbers.{amount-adds, amount-range, count-adds, count-range, push-adds, rate-adds, rate-range, small-fits}
use Rattle.smc_tbl.proofs.words.push_field.Goals as goal

pub moved-requires-clause-low : goal.moved-requires-clause-low
moved-requires-clause-low c =
    let range = amount-range c.args.field.now c.in-Some-read_amount.amount c.in-Some-read_amount.ensures.some in
    rw (to_z-of_z w64 c.in-Some-read_amount.amount (small-fits c.in-Some-read_amount.amount range.0 range.1)) range.0

pub moved-requires-clause-high : goal.moved-requires-clause-high
moved-requires-clause-high c =
    let range = amount-range c.args.field.now c.in-Some-read_amount.amount c.in-Some-read_amount.ensures.some in
    rw (to_z-of_z w64 c.in-Some-read_amount.amount (small-fits c.in-Some-read_amount.amount range.0 range.1)) range.1

pub moved-requires-in-Some-read_rate-clause-high : goal.moved-requires-in-Some-read_rate-clause-high
moved-requires-in-Some-read_rate-clause-high c =
    let range = rate-range c.args.field.now c.in-Some-read_rate.rate c.in-Some-read_rate.ensures.some in
    rw (to_z-of_z w64 c.in-Some-read_rate.rate (small-fits c.in-Some-read_rate.rate range.0 range.1)) range.1

pub returns-in-Some-clause-spelled : goal.returns-in-Some-clause-spelled
returns-in-Some-clause-spelled c =
    let count = c.in-Some.count in
    let field = c.args.field.now in
    let old = c.args.into.now.items in
    let new = c.push.new.into.items in
    let spells = c.in-Some.ensures.some in
    let range = count-range field count spells in
    let same : unsigned_abs (to_z w64 (of_z w64 count)) ≡ unsigned_abs count = ap unsigned_abs (to_z-of_z w64 count (small-fits count range.0 range.1)) in
    rw c.in-Count.is
    (push-adds c.push.result old new (unsigned_abs (to_z w64 (of_z w64 count))) (unsigned_abs count) (FieldAddsWords Count field old new) same
    (count-adds field old new count spells) c.push.ensures.done)

pub returns-in-Some-read_amount-clause-spelled : goal.returns-in-Some-read_amount-clause-spelled
returns-in-Some-read_amount-clause-spelled c =
    let amount = c.in-Some-read_amount.amount in
    let field = c.args.field.now in
    let old = c.args.into.now.items in
    let new = c.push-in-Some-read_amount.new.into.items in
    let spells = c.in-Some-read_amount.ensures.some in
    let range = amount-range field amount spells in
    let same : c.moved.result ≡ moved amount = c.moved.ensures ∙ ap moved (to_z-of_z w64 amount (small-fits amount range.0 range.1)) in
    rw c.in-Amount.is
    (push-adds c.push-in-Some-read_amount.result old new c.moved.result (moved amount) (FieldAddsWords Amount field old new) same
    (amount-adds field old new amount spells) c.push-in-Some-read_amount.ensures.done)

pub returns-in-Some-read_rate-clause-spelled : goal.returns-in-Some-read_rate-clause-spelled
returns-in-Some-read_rate-clause-spelled c =
    let rate = c.in-Some-read_rate.rate in
    let field = c.args.field.now in
    let old = c.args.into.now.items in
    let new = c.push-in-Some-read_rate.new.into.items in
    let spells = c.in-Some-read_rate.ensures.some in
    let range = rate-range field rate spells in
    let same : c.moved-in-Some-read_rate.result ≡ moved rate = c.moved-in-Some-read_rate.ensures ∙ ap moved (to_z-of_z w64 rate (small-fits rate range.0 range.1)) in
    rw c.in-Rate.is
    (push-adds c.push-in-Some-read_rate.result old new c.moved-in-Some-read_rate.result (moved rate) (FieldAddsWords Rate field old new) same
    (rate-adds field old new rate spells) c.push-in-Some-read_rate.ensures.done)
