use Rattle.std.proofs.Common.{List, ℕ}
use Rattle.std.proofs.lemmas.Result.{err_from_is_err_and}
use Rattle.smc_tokens.specs.declared.token.Token.TheVariants.{Sign}
use Rattle.smc_tokens.specs.declared.token.Placed.{Placed}
use Rattle.smc_tokens.specs.declared.sign.Sign.TheVariants as signs
use Rattle.smc_query.specs.Trees.{ExprTree, expr_tree}
use Rattle.smc_query.specs.Machine.{Plan, must, expr, argument}
use Rattle.smc_parse.specs.Reading.{Leads, given}
use Rattle.smc_parse.proofs.LeadLaws.{then-leads, then-stops, leads-with}
use Rattle.smc_parse.proofs.call.read_argument.Goals as goal

closed : (ExprTree → Plan) → ExprTree → Plan
closed k a = must (Sign signs.Close) (k a)

-- behind the first of the parentheses
opened-read : (placed : List Placed) (at d inner : ℕ) → Leads (must (Sign signs.Open)) (λ p. p) placed at inner → Leads (argument d) (λ k. expr d (closed k)) placed at inner
unfolding closed
opened-read placed at d inner h = leads-with (λ k. expr d (λ a. must (Sign signs.Close) (k a))) (must (Sign signs.Open)) (λ p. p) placed at inner h

-- behind the expression
inner-read : (placed : List Placed) (at d inner end : ℕ) (a : ExprTree) → Leads (must (Sign signs.Open)) (λ p. p) placed at inner → Leads (expr d) (given a) placed inner end
    → Leads (argument d) (λ k. must (Sign signs.Close) (k a)) placed at end
unfolding closed
inner-read placed at d inner end a h g = then-leads closed (argument d) (expr d) (given a) placed at inner end (opened-read placed at d inner h) g

pub returns-in_err-inner : goal.returns-in_err-inner
returns-in_err-inner c =
    let p = err_from_is_err_and c.from_residual.result c.from_residual.ensures.1 in
    rw (p.1, p.2) (λ k. c.in_err-inner.ensures.stops (expr c.args.depth (λ a. must (Sign signs.Close) (k a))))

pub returns-in_err-of : goal.returns-in_err-of
returns-in_err-of c =
    let p = err_from_is_err_and c.from_residual-in_err-of.result c.from_residual-in_err-of.ensures.1 in
    rw (p.1, p.2)
    (then-stops closed (argument c.args.depth) (expr c.args.depth) c.args.tokens.now c.args.at c.in_ok-inner.inner c.in_err-of.field-0.0
    (opened-read c.args.tokens.now c.args.at c.args.depth c.in_ok-inner.inner c.in_ok-inner.ensures) c.in_err-of.ensures)

pub returns-in_err-behind : goal.returns-in_err-behind
returns-in_err-behind c =
    let p = err_from_is_err_and c.from_residual-in_err-behind.result c.from_residual-in_err-behind.ensures.1 in
    let a : ExprTree = expr_tree c.in_ok-of.of in
    rw (p.1, p.2)
    (then-stops (given a) (argument c.args.depth) (must (Sign signs.Close)) c.args.tokens.now c.args.at c.in_ok-of.end c.in_err-behind.field-0.0
    (inner-read c.args.tokens.now c.args.at c.args.depth c.in_ok-inner.inner c.in_ok-of.end a c.in_ok-inner.ensures c.in_ok-of.ensures) c.in_err-behind.ensures.stops)

pub returns : goal.returns
returns c =
    let a : ExprTree = expr_tree c.in_ok-of.of in
    then-leads (given a) (argument c.args.depth) (must (Sign signs.Close)) (λ p. p) c.args.tokens.now c.args.at c.in_ok-of.end c.in_ok-behind.behind
    (inner-read c.args.tokens.now c.args.at c.args.depth c.in_ok-inner.inner c.in_ok-of.end a c.in_ok-inner.ensures c.in_ok-of.ensures) c.in_ok-behind.ensures
