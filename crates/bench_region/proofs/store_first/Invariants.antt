use Rattle.std.proofs.Common.{◌≡◌}
use Rattle.smc_core.specs.declared.phase.Phase.TheVariants.{Add}
use Rattle.smc_core.specs.Add.{store_field}
use Rattle.smc_rules.specs.Reads.{object}
use Rattle.smc_region.specs.Callers.{IsSame}
use Rattle.bench_region.proofs.store_first.Given as goal

-- the fields below `field` are stored
abbrev pub invariant-loop-word : goal.invariant-loop-word
invariant-loop-word l = record {
  same : IsSame l.fn.section l.section;
  count : l.field ≡ l.word-index;
  inside : l.section.local.stand.section ≡ l.fn.section.local.stand.section;
  words : l.section.local.stand.words ≡ l.words;
  phase : l.section.local.stand.phase ≡ Add (store_field l.fn.section.shape 0 (object 1 0 0) l.field);
}
