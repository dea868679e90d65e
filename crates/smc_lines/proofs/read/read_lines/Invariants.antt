use Rattle.std.proofs.Common.{◌≤◌, ◌+◌, ◌*◌, ◌-◌, length}
use Rattle.std.specs.Io.KnownBytes.{Keeps, prepend_known}
use Rattle.smc_lines.specs.Lines.{IsWithin}
use Rattle.smc_lines.specs.Reading.{HasEnded}
use Rattle.smc_lines.specs.declared.limits.TheConstants.{MAX_LINE, MAX_LINES}
use Rattle.smc_lines.proofs.read.read_lines.Given as goal

-- what was read is within the limits, and nothing was lost
abbrev pub invariant-loop-text : goal.invariant-loop-text
invariant-loop-text g l = record {
  kept : Keeps (g.S.Source.left l.fn.source) (prepend_known l.text.items (g.S.Source.left l.source));
  ended : HasEnded l.text.items l.place.start l.place.ended;
  small : length l.text.items ≤ l.place.start + (MAX_LINE + 1);
  within : IsWithin l.text.items;
  faults : g.S.Source.faults l.fn.source ≤ g.S.Source.faults l.source;
}

-- the room that is left
abbrev pub decreases-loop-text : goal.decreases-loop-text
decreases-loop-text g l = (MAX_LINES + 1) * (MAX_LINE + 2) - length l.text.items
