use Rattle.std.proofs.Common.{◌≡◌}
use Rattle.smc_region.specs.Callers.{IsSame}
use Rattle.smc_region.specs.Looks.{helping, looker}
use Rattle.smc_region.proofs.section.Section.copy.Given as goal

-- the fields below `field` are dealt with
abbrev pub invariant-loop-field : goal.invariant-loop-field
invariant-loop-field l = record {
  same : IsSame l.fn.self l.self;
  local : l.self.local ≡ helping l.fn.self.shape l.fn.self.local (looker l.fn.self.local.stand.phase) l.fn.number l.slot l.target l.field;
}
