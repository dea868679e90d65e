use Rattle.std.proofs.Common.{◌≡◌, ◌<◌, ◌+◌, ◌*◌, ◌++◌, ◌∷◌, [], ◌∙◌, ap, sym, length, refl, List, ℕ, get_or, arith, rules}
use Rattle.std.specs.Vec.{with_items}
use Rattle.std.proofs.lemmas.List.{with_items_is}
use Rattle.std.proofs.lemmas.Grind.{common_steps}
use Rattle.smc_kernel.specs.Batches.{rows_of_columns}
use Rattle.smc_meaning.specs.Rows.{RowList}
use Rattle.smc_kernel.proofs.Columns.{rows-push, length-rows_of_columns}
use Rattle.smc_kernel.proofs.batch.Batch.add.Goals as goal

pub returns : goal.returns
returns c =
    let i = c.self.inside in
    let room : i.count < 64 = omega (arith, c.requires.room, ap (λ (r : RowList). length r.rows) c.self.view_is, length-rows_of_columns i.width i.cells.items i.count) in
    let list_is : rows_of_columns i.width c.put_row.new.cells (i.count + 1) ≡ c.args.self.now.rows ++ c.args.row.now ∷ [] =
    rows-push i.width i.cells.items c.put_row.new.cells i.count c.args.row.now room (c.requires.wide ∙ sym (ap (λ (r : RowList). r.width) c.self.view_is))
    c.put_row.ensures.here (λ k j low ne. c.put_row.ensures.others k j low ne ∙ ap (λ (xs : List ℕ). get_or xs (k * 64 + j) 0) c.deref_mut.ensures.value) ∙ ap (λ (r : RowList). r.rows ++ c.args.row.now ∷ []) c.self.view_is in
    let cells_is : (with_items i.cells c.put_row.new.cells).items ≡ c.put_row.new.cells = with_items_is i.cells c.put_row.new.cells (search rules) in
    rw cells_is (rw list_is (rw (ap (λ (r : RowList). r.width) c.self.view_is) refl))
