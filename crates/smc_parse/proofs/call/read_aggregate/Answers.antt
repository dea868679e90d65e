use Rattle.std.proofs.Common.{◌+◌}
use Rattle.std.proofs.lemmas.Result.{err_from_is_err_and}
use Rattle.smc_query.specs.Trees.{ExprTree, CallTree, expr_tree, aggregate}
use Rattle.smc_query.specs.Machine.{Plan, argument, call}
use Rattle.smc_parse.specs.Reading.{given}
use Rattle.smc_parse.specs.Calls.{meaning}
use Rattle.smc_parse.proofs.LeadLaws.{then-leads, then-stops}
use Rattle.smc_parse.proofs.CallLaws.{aggregate-leads}
use Rattle.smc_parse.proofs.call.read_aggregate.Goals as goal

pub read_argument-requires : goal.read_argument-requires
read_argument-requires c = (aggregate-leads c.args.tokens.now c.args.at c.args.depth (meaning c.args.kind) c.requires.word).within

pub returns-in_err-of : goal.returns-in_err-of
returns-in_err-of c =
    let p = err_from_is_err_and c.from_residual.result c.from_residual.ensures.1 in
    let made : (CallTree → Plan) → ExprTree → Plan = λ k a. k (aggregate (meaning c.args.kind) a) in
    rw (p.1, p.2)
    (then-stops made (call c.args.depth) (argument c.args.depth) c.args.tokens.now c.args.at (c.args.at + 1) c.in_err-of.field-0.0
    (aggregate-leads c.args.tokens.now c.args.at c.args.depth (meaning c.args.kind) c.requires.word) c.in_err-of.ensures)

pub returns : goal.returns
returns c =
    let made : (CallTree → Plan) → ExprTree → Plan = λ k a. k (aggregate (meaning c.args.kind) a) in
    rw c.call_of.ensures
    (then-leads made (call c.args.depth) (argument c.args.depth) (given (expr_tree c.in_ok-of.of)) c.args.tokens.now c.args.at (c.args.at + 1) c.in_ok-of.end
    (aggregate-leads c.args.tokens.now c.args.at c.args.depth (meaning c.args.kind) c.requires.word) c.in_ok-of.ensures)
