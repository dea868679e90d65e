use Rattle.std.proofs.Common.{◌+◌, ◌-◌, ◌*◌, length}
use Rattle.smc_query.specs.Trees.{cond_tree}
use Rattle.smc_query.specs.Machine.{negs, conj, conjs, cond}
use Rattle.smc_parse.specs.Reading.{Leads}
use Rattle.smc_parse.proofs.cond.+condition.Given as goal

abbrev pub decreases-read_brackets : goal.decreases-read_brackets
decreases-read_brackets l = 4 * l.depth

abbrev pub decreases-read_neg : goal.decreases-read_neg
decreases-read_neg l = 4 * l.depth + 1

abbrev pub decreases-read_conj : goal.decreases-read_conj
decreases-read_conj l = 4 * l.depth + 2

abbrev pub decreases-read_cond : goal.decreases-read_cond
decreases-read_cond l = 4 * l.depth + 3

abbrev pub invariant-read_conj-loop-alloc : goal.invariant-read_conj-loop-alloc
invariant-read_conj-loop-alloc l = Leads (conj l.depth) (negs l.depth (cond_tree l.left)) l.tokens l.at l.end

abbrev pub decreases-read_conj-loop-alloc : goal.decreases-read_conj-loop-alloc
decreases-read_conj-loop-alloc l = length l.tokens - l.end

abbrev pub invariant-read_cond-loop-alloc : goal.invariant-read_cond-loop-alloc
invariant-read_cond-loop-alloc l = Leads (cond l.depth) (conjs l.depth (cond_tree l.left)) l.tokens l.at l.end

abbrev pub decreases-read_cond-loop-alloc : goal.decreases-read_cond-loop-alloc
decreases-read_cond-loop-alloc l = length l.tokens - l.end
