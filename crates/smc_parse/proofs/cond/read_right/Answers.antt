use Rattle.std.proofs.Common.{◌+◌}
use Rattle.std.proofs.lemmas.Result.{err_from_is_err_and}
use Rattle.smc_query.specs.Trees.{ExprTree, CondTree, expr_tree, comparison}
use Rattle.smc_query.specs.Machine.{Plan, expr, compared}
use Rattle.smc_parse.specs.Reading.{given}
use Rattle.smc_parse.proofs.LeadLaws.{then-leads, then-stops}
use Rattle.smc_parse.proofs.CondLaws.{op-leads}
use Rattle.smc_parse.proofs.cond.read_right.Goals as goal

pub read_expr-requires : goal.read_expr-requires
read_expr-requires c = (op-leads c.args.tokens.now c.args.at c.args.depth c.args.op (expr_tree c.args.left) c.requires.sign).within

pub returns-in_err-right : goal.returns-in_err-right
returns-in_err-right c =
    let p = err_from_is_err_and c.from_residual.result c.from_residual.ensures.1 in
    let a : ExprTree = expr_tree c.args.left in
    let made : (CondTree → Plan) → ExprTree → Plan = λ k b. k (comparison c.args.op a b) in
    rw (p.1, p.2)
    (then-stops made (compared c.args.depth a) (expr c.args.depth) c.args.tokens.now c.args.at (c.args.at + 1) c.in_err-right.field-0.0
    (op-leads c.args.tokens.now c.args.at c.args.depth c.args.op a c.requires.sign) c.in_err-right.ensures)

pub returns : goal.returns
returns c =
    let a : ExprTree = expr_tree c.args.left in
    let made : (CondTree → Plan) → ExprTree → Plan = λ k b. k (comparison c.args.op a b) in
    then-leads made (compared c.args.depth a) (expr c.args.depth) (given (expr_tree c.in_ok-right.right)) c.args.tokens.now c.args.at (c.args.at + 1) c.in_ok-right.end
    (op-leads c.args.tokens.now c.args.at c.args.depth c.args.op a c.requires.sign) c.in_ok-right.ensures
