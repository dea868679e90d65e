use Rattle.std.proofs.Common.{◌≡◌, ◌*◌, ◌∙◌, ap, sym, length, take, drop, map, slice_index, List, ℕ, arith}
use Rattle.smc_meaning.specs.Rows.{RowList}
use Rattle.smc_kernel.proofs.Columns.{column-is}
use Rattle.smc_kernel.proofs.batch.Batch.column.Goals as goal

pub returns : goal.returns
returns c =
    let i = c.self.inside in
    c.split_at-2.ensures.front ∙ ap (take i.count) c.split_at.ensures.back ∙ ap (λ (xs : List ℕ). take i.count (drop (c.args.column * 64) xs)) c.deref.ensures.value
    ∙ column-is i.width i.cells.items i.count c.args.column (omega (arith, c.requires, ap (λ (r : RowList). r.width) c.self.view_is)) c.self.invariant.few c.self.invariant.size
    ∙ ap (λ (r : RowList). map (λ row. slice_index row c.args.column) r.rows) c.self.view_is
