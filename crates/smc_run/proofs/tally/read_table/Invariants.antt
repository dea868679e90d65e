use Rattle.std.proofs.Common.{◌≡◌, ◌≤◌, ◌-◌, List, None, length}
use Rattle.smc_outside.specs.Told.{OnTold}
use Rattle.smc_model.specs.World.{Replay, empty_world}
use Rattle.smc_types.specs.declared.row.Value.{Value}
use Rattle.smc_tbl.specs.declared.lines.TheConstants.{MAX_LINES}
use Rattle.smc_tbl.specs.Reading.{untaken}
use Rattle.smc_run.specs.Tally.{row_events}
use Rattle.smc_run.proofs.TableRows.{HasTaken}
use Rattle.smc_run.proofs.tally.read_table.Given as goal

-- these rows were taken, and added to the world
abbrev pub invariant-loop-row : goal.invariant-loop-row
invariant-loop-row g l =
    let left = g.I.Source.left in
    record {
      rows : (rows : List (List Value)) × OnTold (left l.fn.input) (untaken l.lines (left l.input)) (HasTaken l.schema rows) × Replay empty_world (row_events 0 rows) l.model
          × (length rows ≡ l.lines.number);
      good : l.lines.fault ≡ None;
      limit : l.lines.number ≤ MAX_LINES;
      faults : g.I.Source.faults l.fn.input ≤ g.I.Source.faults l.input;
    }

-- the lines that may still come
abbrev pub decreases-loop-row : goal.decreases-loop-row
decreases-loop-row g l = MAX_LINES - l.lines.number
