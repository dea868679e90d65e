use Rattle.std.proofs.Common.{◌≡◌, ◌*◌, ◌-◌, ◌≤◌, take, unsigned_abs}
use Rattle.smc_plan.specs.Typed.{typed_tree}
use Rattle.smc_plan.specs.declared.kind.TheConstants.{SUM_LIMIT}
use Rattle.smc_meaning.specs.Groups.{sum_of, values_of}
use Rattle.smc_meaning.proofs.summing.total.Given as goal

-- the units so far
abbrev pub invariant-loop-place : goal.invariant-loop-place
invariant-loop-place l = record {
  total : l.total ≡ sum_of (values_of l.leaves (typed_tree l.of) (take l.place l.rows.rows));
  small : unsigned_abs l.total ≤ l.place * (SUM_LIMIT - 1);
}
