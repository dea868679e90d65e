use Rattle.std.proofs.Common.{◌≡◌, ◌<◌, []}
use Rattle.smc_core.specs.declared.section.TheConstants.{LAST_EPOCH}
use Rattle.smc_region.specs.Advances.{advancing}
use Rattle.smc_region.specs.Reached.{From}
use Rattle.smc_region.specs.Views.{one}
use Rattle.smc_region.proofs.pass.Pass.advance.Given as goal

-- no section below `pass` is in the way
abbrev pub invariant-loop-pass : goal.invariant-loop-pass
invariant-loop-pass l = record {
  table : l.self-inside.seat.table_id ≡ l.initial.self-inside.seat.table_id;
  number : l.self-inside.number ≡ l.initial.self-inside.number;
  cursors : l.self-inside.cursors ≡ l.initial.self-inside.cursors;
  me : l.self-inside.seat.me ≡ (one l.fn.self.shape l.fn.self.number (advancing l.fn.self.shape l.fn.self.local l.epoch l.pass), []);
  from : From l.self-inside.seat.me.0;
  low : l.epoch < LAST_EPOCH;
}
