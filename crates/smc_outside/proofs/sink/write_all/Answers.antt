use Rattle.std.proofs.Common.{rules}
use Rattle.smc_outside.proofs.PieceLaws.{Appends-next}
use Rattle.smc_outside.proofs.sink.write_all.Goals as goal

pub loop-written-preserved : goal.loop-written-preserved
loop-written-preserved g c = record {
  within = search rules;
  front = Appends-next _ _ _ _ _ _ _ c.split_at.ensures.back c.loop-written.invariant.front c.in_ok-written.ensures.bytes;
  faults = search rules;
}
