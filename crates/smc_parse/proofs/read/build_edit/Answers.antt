use Rattle.std.proofs.Common.{Option}
use Rattle.std.proofs.lemmas.Result.{err_from_is_err_and}
use Rattle.smc_query.specs.Trees.{ExprTree, CondTree, an_edit, expr_tree, filter_tree}
use Rattle.smc_query.specs.Machine.{expr, filter, done}
use Rattle.smc_parse.proofs.LeadLaws.{then-stops}
use Rattle.smc_parse.proofs.TextLaws.{by_value, by_edit, edit_whole, edit-value, edit-filter, built-from, stops-from, stops-behind}
use Rattle.smc_parse.proofs.read.build_edit.Goals as goal

pub returns-in_err-value : goal.returns-in_err-value
returns-in_err-value c =
    let p = err_from_is_err_and c.from_residual.result c.from_residual.ensures.1 in rw (p.1, p.2) (stops-from (expr 64) (by_value 64 done) c.args.tokens.now c.in_err-value.field-0.0 c.in_err-value.ensures)

pub returns-in_err-filter : goal.returns-in_err-filter
returns-in_err-filter c =
    let p = err_from_is_err_and c.from_residual-in_err-filter.result c.from_residual-in_err-filter.ensures.1 in
    let a : ExprTree = expr_tree c.in_ok-value.value in
    rw (p.1, p.2)
    (stops-from (edit_whole 64) done c.args.tokens.now c.in_err-filter.field-0.0
    (then-stops (λ k. by_edit k a) (edit_whole 64) (filter 64) c.args.tokens.now 0 c.in_ok-value.middle c.in_err-filter.field-0.0
    (edit-value c.args.tokens.now 64 c.in_ok-value.middle a c.in_ok-value.ensures) c.in_err-filter.ensures))

pub returns-in_err-must_end : goal.returns-in_err-must_end
returns-in_err-must_end c =
    let p = err_from_is_err_and c.from_residual-in_err-must_end.result c.from_residual-in_err-must_end.ensures.1 in
    let a : ExprTree = expr_tree c.in_ok-value.value in
    let f : Option CondTree = filter_tree c.in_ok-filter.filter in
    rw (p.1, p.2)
    (stops-behind (edit_whole 64) c.args.tokens.now c.in_ok-filter.end (an_edit a f) c.in_err-must_end.field-0.0
    (edit-filter c.args.tokens.now 64 c.in_ok-value.middle c.in_ok-filter.end a f c.in_ok-value.ensures c.in_ok-filter.ensures) c.in_err-must_end.ensures.stops)

pub returns : goal.returns
returns c =
    let a : ExprTree = expr_tree c.in_ok-value.value in
    let f : Option CondTree = filter_tree c.in_ok-filter.filter in
    built-from (edit_whole 64) c.args.tokens.now c.in_ok-filter.end (an_edit a f)
    (edit-filter c.args.tokens.now 64 c.in_ok-value.middle c.in_ok-filter.end a f c.in_ok-value.ensures c.in_ok-filter.ensures) c.in_ok-must_end.ensures
