use Rattle.std.proofs.Common.{◌≡◌, ◌<◌, ◌*◌, ◌+◌, ◌∙◌, [], ap, sym, length, get_or, List, ℕ, arith}
use Rattle.smc_meaning.specs.Rows.{RowList}
use Rattle.smc_kernel.proofs.Columns.{length-rows_of_columns, row-read}
use Rattle.smc_kernel.proofs.batch.Batch.read_row.Goals as goal

pub take_row-requires-clause-size : goal.take_row-requires-clause-size
take_row-requires-clause-size c =
    omega (arith, ap (λ (xs : List ℕ). length xs) c.deref.ensures.value, c.self.invariant.size, c.requires.long, ap (λ (r : RowList). r.width) c.self.view_is, ap (λ n. n * 64) (c.requires.long ∙ sym (ap (λ (r : RowList). r.width) c.self.view_is)))

pub take_row-requires-clause-below : goal.take_row-requires-clause-below
take_row-requires-clause-below c =
    let i = c.self.inside in
    omega (arith, c.requires.place, c.self.invariant.few, ap (λ (r : RowList). length r.rows) c.self.view_is, length-rows_of_columns i.width i.cells.items i.count)

pub returns-clause-row : goal.returns-clause-row
returns-clause-row c =
    let i = c.self.inside in
    let below : c.args.place < i.count = omega (arith, c.requires.place, ap (λ (r : RowList). length r.rows) c.self.view_is, length-rows_of_columns i.width i.cells.items i.count) in
    row-read i.width i.cells.items i.count c.args.place c.take_row.new.row below (c.take_row.ensures.long ∙ c.requires.long ∙ sym (ap (λ (r : RowList). r.width) c.self.view_is))
    (λ k low. c.take_row.ensures.here k low ∙ ap (λ (xs : List ℕ). get_or xs (k * 64 + c.args.place) 0) c.deref.ensures.value)
    ∙ ap (λ (r : RowList). get_or r.rows c.args.place []) c.self.view_is
