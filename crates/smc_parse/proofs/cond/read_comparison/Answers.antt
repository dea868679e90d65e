use Rattle.std.proofs.Common.{ℕ}
use Rattle.std.proofs.lemmas.Result.{err_from_is_err_and}
use Rattle.smc_query.specs.Trees.{ExprTree, CondTree, expr_tree, cond_tree}
use Rattle.smc_query.specs.Machine.{Plan, expr, compared, neg}
use Rattle.smc_parse.specs.Reading.{given}
use Rattle.smc_parse.proofs.LeadLaws.{then-leads, then-stops, reads-on}
use Rattle.smc_parse.proofs.CondLaws.{comparison-leads}
use Rattle.smc_parse.proofs.cond.read_comparison.Goals as goal

pub returns-in_err-left : goal.returns-in_err-left
returns-in_err-left c =
    let p = err_from_is_err_and c.from_residual.result c.from_residual.ensures.1 in
    let d : ℕ = c.args.depth in
    let made : (CondTree → Plan) → ExprTree → Plan = λ k a. compared d a k in
    rw (p.1, p.2)
    (then-stops made (neg d) (expr d) c.args.tokens.now c.args.at c.args.at c.in_err-left.field-0.0
    (comparison-leads c.args.tokens.now c.args.at d c.requires.within c.requires.no_not c.requires.no_open) c.in_err-left.ensures)

pub returns : goal.returns
returns c =
    let d : ℕ = c.args.depth in
    let a : ExprTree = expr_tree c.in_ok-left.left in
    let made : (CondTree → Plan) → ExprTree → Plan = λ k b. compared d b k in
    reads-on (neg d) (compared d a) cond_tree c.args.tokens.now c.args.at c.in_ok-left.end c.read_compared.result
    (then-leads made (neg d) (expr d) (given a) c.args.tokens.now c.args.at c.args.at c.in_ok-left.end
    (comparison-leads c.args.tokens.now c.args.at d c.requires.within c.requires.no_not c.requires.no_open) c.in_ok-left.ensures) c.read_compared.ensures
