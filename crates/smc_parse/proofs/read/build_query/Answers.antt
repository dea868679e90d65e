use Rattle.std.proofs.lemmas.Result.{err_from_is_err_and}
use Rattle.smc_query.specs.Trees.{Answer, a_query}
use Rattle.smc_query.specs.Machine.{done}
use Rattle.smc_parse.specs.Texts.{HeadTree, head_tree, head_plan, TailTree, tail_tree, tail_plan}
use Rattle.smc_parse.proofs.LeadLaws.{then-stops}
use Rattle.smc_parse.proofs.TextLaws.{by_head, by_tail, query_whole, query-head, query-tail, built-from, stops-from, stops-behind}
use Rattle.smc_parse.proofs.read.build_query.Goals as goal

joined : HeadTree → TailTree → Answer
joined h t = a_query (record { table = h.table; filter = h.filter; by = h.by; items = t.items; sort = t.sort; first = t.first })

pub returns-in_err-head : goal.returns-in_err-head
returns-in_err-head c =
    let p = err_from_is_err_and c.from_residual.result c.from_residual.ensures.1 in
    rw (p.1, p.2) (stops-from (head_plan 64) (by_head 63 done) c.args.tokens.now c.in_err-head.field-0.0 c.in_err-head.ensures)

pub returns-in_err-tail : goal.returns-in_err-tail
returns-in_err-tail c =
    let p = err_from_is_err_and c.from_residual-in_err-tail.result c.from_residual-in_err-tail.ensures.1 in
    let h : HeadTree = head_tree c.in_ok-head.head in
    rw (p.1, p.2)
    (stops-from (query_whole 63) done c.args.tokens.now c.in_err-tail.field-0.0
    (then-stops (λ k. by_tail k h) (query_whole 63) (tail_plan 63) c.args.tokens.now 0 c.in_ok-head.middle c.in_err-tail.field-0.0
    (query-head c.args.tokens.now 63 c.in_ok-head.middle h c.in_ok-head.ensures) c.in_err-tail.ensures))

pub returns-in_err-must_end : goal.returns-in_err-must_end
unfolding joined
returns-in_err-must_end c =
    let p = err_from_is_err_and c.from_residual-in_err-must_end.result c.from_residual-in_err-must_end.ensures.1 in
    let h : HeadTree = head_tree c.in_ok-head.head in
    let t : TailTree = tail_tree c.in_ok-tail.tail in
    rw (p.1, p.2)
    (stops-behind (query_whole 63) c.args.tokens.now c.in_ok-tail.end (joined h t) c.in_err-must_end.field-0.0
    (query-tail c.args.tokens.now 63 c.in_ok-head.middle c.in_ok-tail.end h t c.in_ok-head.ensures c.in_ok-tail.ensures) c.in_err-must_end.ensures.stops)

pub returns : goal.returns
unfolding joined
returns c =
    let h : HeadTree = head_tree c.in_ok-head.head in
    let t : TailTree = tail_tree c.in_ok-tail.tail in
    built-from (query_whole 63) c.args.tokens.now c.in_ok-tail.end (joined h t)
    (query-tail c.args.tokens.now 63 c.in_ok-head.middle c.in_ok-tail.end h t c.in_ok-head.ensures c.in_ok-tail.ensures) c.in_ok-must_end.ensures
