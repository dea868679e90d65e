use Rattle.std.proofs.Common.{◌≤◌, ◌-◌, ◌++◌, ◌∷◌, [], length, rules, arith, length-append}
use Rattle.smc_tbl.specs.Reading.{untaken}
use Rattle.smc_tbl.specs.declared.lines.TheConstants.{MAX_LINES}
use Rattle.smc_run.proofs.RowWorld.{row_unused, row_added}
use Rattle.smc_types.specs.Columns.{value_kinds}
use Rattle.smc_run.proofs.FirstColumn.{counts-fit}
use Rattle.smc_run.proofs.TableRows.{taken-more, taken-all, left-none, taken-refused}
use Rattle.smc_run.proofs.tally.read_table.Goals as goal

pub first_count-requires : goal.first_count-requires
first_count-requires g c =
    let fits = rw c.in-Ok-Some.field-0-is at c.in-Ok-Some.ensures.fits in
    counts-fit (value_kinds c.args.schema.now.columns) c.in-Ok-Some.row c.requires fits

pub add_row-requires : goal.add_row-requires
add_row-requires g c =
    let (rows, taken, added, count) = c.loop-row.invariant.rows in
    let counted = rw (c.in-Ok-Some.field-0-is, c.loop-row.invariant.good) at c.in-Ok-Some.ensures.counted in
    row_unused rows c.loop-row.model added (c.line.result - 1) (omega (arith, counted))

pub loop-row-preserved : goal.loop-row-preserved
loop-row-preserved g c =
    let left = g.I.Source.left in
    let (rows, taken, added, count) = c.loop-row.invariant.rows in
    let row = c.in-Ok-Some.row in
    let good = c.loop-row.invariant.good in
    let next = c.in-Ok-Some.ensures in
    let counted = rw (c.in-Ok-Some.field-0-is, good) at next.counted in
    let limit = rw (c.in-Ok-Some.field-0-is, good) at next.limit in
    let reads = rw (c.in-Ok-Some.field-0-is, good) at next.reads in
    record {
      rows = (
        rows ++ row ∷ [],
        taken-more c.args.schema.now (left c.args.input.now) (untaken c.loop-row.lines (left c.loop-row.input)) (untaken c.next_row.new.lines (left c.next_row.new.source)) rows row taken reads,
        row_added rows c.loop-row.model added c.add_row.new.model row (c.line.result - 1) (omega (arith, counted)) (rw c.first_count.ensures at c.in_ok-add_row-in-Ok-Some.ensures.done),
        omega (arith, length-append rows (row ∷ []), counted),
      );
      good = search rules;
      limit = omega (arith, limit, counted);
      faults = search rules;
    }

pub returns-in-Ok-None-clause-rows : goal.returns-in-Ok-None-clause-rows
returns-in-Ok-None-clause-rows g c =
    let left = g.I.Source.left in
    let (rows, taken, added, count) = c.loop-row.invariant.rows in
    let reads = rw (c.in-Ok-None.field-0-is, c.loop-row.invariant.good) at c.in-Ok-None.ensures.reads in
    let few : length rows ≤ MAX_LINES = omega arith in
    (rows, taken-all c.args.schema.now (left c.args.input.now) (untaken c.loop-row.lines (left c.loop-row.input)) (untaken c.next_row.new.lines (left c.next_row.new.source)) rows taken reads few, added)

pub returns-in-Ok-None-clause-end : goal.returns-in-Ok-None-clause-end
returns-in-Ok-None-clause-end g c =
    let left = g.I.Source.left in
    let (rows, taken, added, count) = c.loop-row.invariant.rows in
    let reads = rw (c.in-Ok-None.field-0-is, c.loop-row.invariant.good) at c.in-Ok-None.ensures.reads in
    left-none c.args.schema.now (left c.args.input.now) (untaken c.loop-row.lines (left c.loop-row.input)) c.next_row.new.lines.kept (left c.next_row.new.source) rows taken reads

pub returns-in-Err-clause-refused : goal.returns-in-Err-clause-refused
returns-in-Err-clause-refused g c =
    let left = g.I.Source.left in
    let (rows, taken, added, count) = c.loop-row.invariant.rows in
    let good = c.loop-row.invariant.good in
    let next = c.in-Err.ensures in
    let reads = rw good at next.reads in
    let limit = rw good at next.limit in
    let counted = rw good at next.counted in
    rw (c.refusal.ensures, c.line-in-Err.ensures.value, counted)
    (taken-refused c.args.schema.now (c.one_reading.ensures c.args.schema.now) (left c.args.input.now) (untaken c.loop-row.lines (left c.loop-row.input)) (untaken c.next_row.new.lines (left c.next_row.new.source)) rows c.in-Err.fault
    c.loop-row.lines.number taken reads limit count)
