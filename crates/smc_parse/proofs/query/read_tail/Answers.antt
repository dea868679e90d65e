use Rattle.std.proofs.Common.{List, ℕ, map}
use Rattle.std.proofs.lemmas.Result.{err_from_is_err_and}
use Rattle.smc_query.specs.Trees.{ItemTree, KeyTree, item_tree, key_tree}
use Rattle.smc_query.specs.Machine.{sort, first}
use Rattle.smc_parse.specs.Reading.{given}
use Rattle.smc_parse.specs.Texts.{tail_plan}
use Rattle.smc_parse.proofs.LeadLaws.{then-leads, then-stops}
use Rattle.smc_parse.proofs.TextLaws.{by_items, by_keys, by_count, tail-items, tail-sort}
use Rattle.smc_parse.proofs.query.read_tail.Goals as goal

pub returns-in_err-items : goal.returns-in_err-items
returns-in_err-items c =
    let p = err_from_is_err_and c.from_residual.result c.from_residual.ensures.1 in
    rw (p.1, p.2) (λ k. c.in_err-items.ensures (by_items k))

pub returns-in_err-sort : goal.returns-in_err-sort
returns-in_err-sort c =
    let p = err_from_is_err_and c.from_residual-in_err-sort.result c.from_residual-in_err-sort.ensures.1 in
    let d : ℕ = c.args.depth in
    let is : List ItemTree = map item_tree c.in_ok-items.items in
    rw (p.1, p.2)
    (then-stops (λ k. by_keys k is) (tail_plan d) sort c.args.tokens.now c.args.at c.in_ok-items.sorted c.in_err-sort.field-0.0
    (tail-items c.args.tokens.now c.args.at d c.in_ok-items.sorted is c.in_ok-items.ensures) c.in_err-sort.ensures)

pub returns-in_err-first : goal.returns-in_err-first
returns-in_err-first c =
    let p = err_from_is_err_and c.from_residual-in_err-first.result c.from_residual-in_err-first.ensures.1 in
    let d : ℕ = c.args.depth in
    let is : List ItemTree = map item_tree c.in_ok-items.items in
    let ks : List KeyTree = map key_tree c.in_ok-sort.sort in
    rw (p.1, p.2)
    (then-stops (λ k. by_count k is ks) (tail_plan d) first c.args.tokens.now c.args.at c.in_ok-sort.counted c.in_err-first.field-0.0
    (tail-sort c.args.tokens.now c.args.at d c.in_ok-items.sorted c.in_ok-sort.counted is ks (tail-items c.args.tokens.now c.args.at d c.in_ok-items.sorted is c.in_ok-items.ensures) c.in_ok-sort.ensures)
    c.in_err-first.ensures.stops)

pub returns : goal.returns
returns c =
    let d : ℕ = c.args.depth in
    let is : List ItemTree = map item_tree c.in_ok-items.items in
    let ks : List KeyTree = map key_tree c.in_ok-sort.sort in
    then-leads (λ k. by_count k is ks) (tail_plan d) first (given c.in_ok-first.first) c.args.tokens.now c.args.at c.in_ok-sort.counted c.in_ok-first.end
    (tail-sort c.args.tokens.now c.args.at d c.in_ok-items.sorted c.in_ok-sort.counted is ks (tail-items c.args.tokens.now c.args.at d c.in_ok-items.sorted is c.in_ok-items.ensures) c.in_ok-sort.ensures)
    c.in_ok-first.ensures
