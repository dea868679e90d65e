use Rattle.std.proofs.lemmas.Result.{err_from_is_err_and}
use Rattle.smc_query.specs.Trees.{CondTree, a_cond, cond_tree}
use Rattle.smc_query.specs.Machine.{cond, done}
use Rattle.smc_parse.specs.Reading.{given}
use Rattle.smc_parse.proofs.LeadLaws.{leads-with}
use Rattle.smc_parse.proofs.TextLaws.{by_cond, cond_whole, built-from, stops-from, stops-behind}
use Rattle.smc_parse.proofs.read.build_cond.Goals as goal

pub returns-in_err-cond : goal.returns-in_err-cond
returns-in_err-cond c =
    let p = err_from_is_err_and c.from_residual.result c.from_residual.ensures.1 in rw (p.1, p.2) (stops-from (cond 64) (by_cond done) c.args.tokens.now c.in_err-cond.field-0.0 c.in_err-cond.ensures)

pub returns-in_err-must_end : goal.returns-in_err-must_end
returns-in_err-must_end c =
    let p = err_from_is_err_and c.from_residual-in_err-must_end.result c.from_residual-in_err-must_end.ensures.1 in
    let a : CondTree = cond_tree c.in_ok-cond.cond in
    rw (p.1, p.2)
    (stops-behind (cond_whole 64) c.args.tokens.now c.in_ok-cond.end (a_cond a) c.in_err-must_end.field-0.0 (leads-with by_cond (cond 64) (given a) c.args.tokens.now 0 c.in_ok-cond.end c.in_ok-cond.ensures)
    c.in_err-must_end.ensures.stops)

pub returns : goal.returns
returns c =
    let a : CondTree = cond_tree c.in_ok-cond.cond in
    built-from (cond_whole 64) c.args.tokens.now c.in_ok-cond.end (a_cond a) (leads-with by_cond (cond 64) (given a) c.args.tokens.now 0 c.in_ok-cond.end c.in_ok-cond.ensures) c.in_ok-must_end.ensures
