use Rattle.std.proofs.Common.{List, ℕ, Option, map}
use Rattle.std.proofs.lemmas.Result.{err_from_is_err_and}
use Rattle.smc_tokens.specs.declared.token.Token.TheVariants.{Word}
use Rattle.smc_tokens.specs.declared.reserved.Reserved.TheVariants as words
use Rattle.smc_query.specs.Trees.{CondTree, PathTree, filter_tree, path_tree}
use Rattle.smc_query.specs.Machine.{Plan, must, name, filter, by}
use Rattle.smc_parse.specs.Texts.{HeadTree, head_plan}
use Rattle.smc_parse.proofs.LeadLaws.{then-leads, then-stops}
use Rattle.smc_parse.proofs.TextLaws.{by_table, by_filter, by_paths, head-from, head-table, head-filter, head-by}
use Rattle.smc_parse.proofs.query.read_head.Goals as goal

pub returns-in_err-named : goal.returns-in_err-named
returns-in_err-named c =
    let p = err_from_is_err_and c.from_residual.result c.from_residual.ensures.1 in
    rw (p.1, p.2) (λ k. c.in_err-named.ensures.stops (name (by_table c.args.depth k)))

pub returns-in_err-table : goal.returns-in_err-table
returns-in_err-table c =
    let p = err_from_is_err_and c.from_residual-in_err-table.result c.from_residual-in_err-table.ensures.1 in
    let d : ℕ = c.args.depth in
    rw (p.1, p.2)
    (then-stops (by_table d) (head_plan d) name c.args.tokens.now c.args.at c.in_ok-named.named c.in_err-table.field-0.0
    (head-from c.args.tokens.now c.args.at d c.in_ok-named.named c.in_ok-named.ensures) c.in_err-table.ensures)

pub returns-in_err-filter : goal.returns-in_err-filter
returns-in_err-filter c =
    let p = err_from_is_err_and c.from_residual-in_err-filter.result c.from_residual-in_err-filter.ensures.1 in
    let d : ℕ = c.args.depth in
    let n : List ℕ = c.in_ok-table.table in
    rw (p.1, p.2)
    (then-stops (λ k. by_filter k n) (head_plan d) (filter d) c.args.tokens.now c.args.at c.in_ok-table.filtered c.in_err-filter.field-0.0
    (head-table c.args.tokens.now c.args.at d c.in_ok-named.named c.in_ok-table.filtered n (head-from c.args.tokens.now c.args.at d c.in_ok-named.named c.in_ok-named.ensures) c.in_ok-table.ensures) c.in_err-filter.ensures)

pub returns-in_err-by : goal.returns-in_err-by
returns-in_err-by c =
    let p = err_from_is_err_and c.from_residual-in_err-by.result c.from_residual-in_err-by.ensures.1 in
    let d : ℕ = c.args.depth in
    let n : List ℕ = c.in_ok-table.table in
    let f : Option CondTree = filter_tree c.in_ok-filter.filter in
    rw (p.1, p.2)
    (then-stops (λ k. by_paths k n f) (head_plan d) by c.args.tokens.now c.args.at c.in_ok-filter.grouped c.in_err-by.field-0.0
    (head-filter c.args.tokens.now c.args.at d c.in_ok-table.filtered c.in_ok-filter.grouped n f
    (head-table c.args.tokens.now c.args.at d c.in_ok-named.named c.in_ok-table.filtered n (head-from c.args.tokens.now c.args.at d c.in_ok-named.named c.in_ok-named.ensures) c.in_ok-table.ensures)
    c.in_ok-filter.ensures) c.in_err-by.ensures)

pub returns-in_err-end : goal.returns-in_err-end
returns-in_err-end c =
    let p = err_from_is_err_and c.from_residual-in_err-end.result c.from_residual-in_err-end.ensures.1 in
    let d : ℕ = c.args.depth in
    let n : List ℕ = c.in_ok-table.table in
    let f : Option CondTree = filter_tree c.in_ok-filter.filter in
    let ps : List PathTree = map path_tree c.in_ok-by.by in
    let made : (HeadTree → Plan) → Plan = λ k. k (record { table = n; filter = f; by = ps }) in
    rw (p.1, p.2)
    (then-stops made (head_plan d) (must (Word words.Show)) c.args.tokens.now c.args.at c.in_ok-by.shown c.in_err-end.field-0.0
    (head-by c.args.tokens.now c.args.at d c.in_ok-filter.grouped c.in_ok-by.shown n f ps
    (head-filter c.args.tokens.now c.args.at d c.in_ok-table.filtered c.in_ok-filter.grouped n f
    (head-table c.args.tokens.now c.args.at d c.in_ok-named.named c.in_ok-table.filtered n (head-from c.args.tokens.now c.args.at d c.in_ok-named.named c.in_ok-named.ensures) c.in_ok-table.ensures)
    c.in_ok-filter.ensures) c.in_ok-by.ensures) c.in_err-end.ensures.stops)

pub returns : goal.returns
returns c =
    let d : ℕ = c.args.depth in
    let n : List ℕ = c.in_ok-table.table in
    let f : Option CondTree = filter_tree c.in_ok-filter.filter in
    let ps : List PathTree = map path_tree c.in_ok-by.by in
    let made : (HeadTree → Plan) → Plan = λ k. k (record { table = n; filter = f; by = ps }) in
    then-leads made (head_plan d) (must (Word words.Show)) (λ p. p) c.args.tokens.now c.args.at c.in_ok-by.shown c.in_ok-end.end
    (head-by c.args.tokens.now c.args.at d c.in_ok-filter.grouped c.in_ok-by.shown n f ps
    (head-filter c.args.tokens.now c.args.at d c.in_ok-table.filtered c.in_ok-filter.grouped n f
    (head-table c.args.tokens.now c.args.at d c.in_ok-named.named c.in_ok-table.filtered n (head-from c.args.tokens.now c.args.at d c.in_ok-named.named c.in_ok-named.ensures) c.in_ok-table.ensures)
    c.in_ok-filter.ensures) c.in_ok-by.ensures) c.in_ok-end.ensures
