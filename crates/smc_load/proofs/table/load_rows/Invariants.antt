use Rattle.std.proofs.Common.{◌≡◌, ℕ, ◌≤◌, ◌-◌, List, None, length}
use Rattle.smc_outside.specs.Told.{OnTold}
use Rattle.smc_does.specs.Does.{DoesSome}
use Rattle.smc_tbl.specs.declared.lines.TheConstants.{MAX_LINES}
use Rattle.smc_tbl.specs.Reading.{untaken}
use Rattle.smc_load.specs.Texts.{LoadsRows}
use Rattle.smc_load.proofs.TextLaws.{HasTaken}
use Rattle.smc_load.proofs.table.load_rows.Given as goal

-- these rows were taken, and loaded
abbrev pub invariant-loop-pass : goal.invariant-loop-pass
invariant-loop-pass g l =
    let left = g.S.Source.left in
    record {
      rows : (rows : List (List ℕ)) × (length rows ≡ l.lines.number) × OnTold (left l.fn.source) (untaken l.lines (left l.source)) (HasTaken l.schema rows)
          × DoesSome l.fn.pass l.pass (LoadsRows l.schema l.table l.coll l.fn.keys l.keys rows);
      good : l.lines.fault ≡ None;
      limit : l.lines.number ≤ MAX_LINES;
      faults : g.S.Source.faults l.fn.source ≤ g.S.Source.faults l.source;
    }

-- the lines that may still come
abbrev pub decreases-loop-pass : goal.decreases-loop-pass
decreases-loop-pass g l = MAX_LINES - l.lines.number
