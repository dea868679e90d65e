use Rattle.std.proofs.Common.{◌∙◌}
use Rattle.smc_does.proofs.DoesLaws.{does-then}
use Rattle.smc_visits.specs.Rows.{comes_to_none, reads_column, wrong_table}
use Rattle.smc_visits.proofs.row.read_leaf.Goals as goal

pub returns-in_default-clause-done : goal.returns-in_default-clause-done
returns-in_default-clause-done c =
    let f = c.in_default.ensures.done in
    (f.0, f.1, comes_to_none (rw c.as_slice.ensures at f.2))

pub returns-then-not-has_width-clause-done : goal.returns-then-not-has_width-clause-done
returns-then-not-has_width-clause-done c =
    let f = c.in-Some.ensures.done in
    (f.0, f.1, wrong_table (rw c.as_slice.ensures at f.2) (c.if-not-has_width.ensures c.args.s.now.shape c.in-Some.ensures.holds.1))

pub returns-clause-done : goal.returns-clause-done
returns-clause-done c =
    let f = c.in-Some.ensures.done in
    let column = c.read_column.ensures in
    (_, does-then f.1 column.done, reads_column (rw c.as_slice.ensures at f.2) (c.if-not-has_width.ensures c.args.s.now.shape c.in-Some.ensures.holds.1) (column.long ∙ c.requires.long))
