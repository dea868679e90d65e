use Rattle.std.proofs.Common.{◌+◌, ◌-◌, ◌*◌, length}
use Rattle.smc_query.specs.Trees.{expr_tree}
use Rattle.smc_query.specs.Machine.{term, factors, expr, terms}
use Rattle.smc_parse.specs.Reading.{Leads}
use Rattle.smc_parse.proofs.expr.+expression.Given as goal

abbrev pub decreases-read_parentheses : goal.decreases-read_parentheses
decreases-read_parentheses l = 4 * l.depth

abbrev pub decreases-read_factor : goal.decreases-read_factor
decreases-read_factor l = 4 * l.depth + 1

abbrev pub decreases-read_term : goal.decreases-read_term
decreases-read_term l = 4 * l.depth + 2

abbrev pub decreases-read_expr : goal.decreases-read_expr
decreases-read_expr l = 4 * l.depth + 3

abbrev pub invariant-read_term-loop-alloc : goal.invariant-read_term-loop-alloc
invariant-read_term-loop-alloc l = Leads (term l.depth) (factors l.depth (expr_tree l.left)) l.tokens l.at l.end

abbrev pub decreases-read_term-loop-alloc : goal.decreases-read_term-loop-alloc
decreases-read_term-loop-alloc l = length l.tokens - l.end

abbrev pub invariant-read_expr-loop-joint : goal.invariant-read_expr-loop-joint
invariant-read_expr-loop-joint l = Leads (expr l.depth) (terms l.depth (expr_tree l.left)) l.tokens l.at l.end

abbrev pub decreases-read_expr-loop-joint : goal.decreases-read_expr-loop-joint
decreases-read_expr-loop-joint l = length l.tokens - l.end
