use Rattle.std.proofs.Common.{List, ℕ, ◌+◌, ◌≡◌, true}
use Rattle.std.proofs.lemmas.Result.{err_from_is_err_and}
use Rattle.smc_tokens.specs.declared.token.Token.TheVariants.{Word}
use Rattle.smc_tokens.specs.declared.token.Placed.{Placed}
use Rattle.smc_tokens.specs.declared.reserved.Reserved.TheVariants as words
use Rattle.smc_query.specs.Trees.{ExprTree, CondTree, expr_tree, within}
use Rattle.smc_query.specs.Machine.{Plan, must, expr, compared, sees}
use Rattle.smc_parse.specs.Reading.{ahead, Leads, given}
use Rattle.smc_parse.proofs.LeadLaws.{then-leads, then-stops}
use Rattle.smc_parse.proofs.CondLaws.{between-leads}
use Rattle.smc_parse.proofs.cond.read_range.Goals as goal

-- behind the low end of a range
low-read : (placed : List Placed) (at d middle : ℕ) (a b : ExprTree) → sees (Word words.Between) (ahead placed at) ≡ true → Leads (expr d) (given b) placed (at + 1) middle
    → Leads (compared d a) (λ k. must (Word words.And) (expr d (λ c. k (within a b c)))) placed at middle
low-read placed at d middle a b h g =
    then-leads (λ k e. must (Word words.And) (expr d (λ c. k (within a e c)))) (compared d a) (expr d) (given b) placed at (at + 1) middle (between-leads placed at d a h) g

-- behind the word between the ends
and-read : (placed : List Placed) (at d middle behind : ℕ) (a b : ExprTree) → sees (Word words.Between) (ahead placed at) ≡ true → Leads (expr d) (given b) placed (at + 1) middle
    → Leads (must (Word words.And)) (λ p. p) placed middle behind → Leads (compared d a) (λ k. expr d (λ c. k (within a b c))) placed at behind
and-read placed at d middle behind a b h g f = then-leads (λ k. expr d (λ c. k (within a b c))) (compared d a) (must (Word words.And)) (λ p. p) placed at middle behind (low-read placed at d middle a b h g) f

pub read_expr-requires : goal.read_expr-requires
read_expr-requires c = (between-leads c.args.tokens.now c.args.at c.args.depth (expr_tree c.args.value) c.requires.between).within

pub returns-in_err-low : goal.returns-in_err-low
returns-in_err-low c =
    let p = err_from_is_err_and c.from_residual.result c.from_residual.ensures.1 in
    let d : ℕ = c.args.depth in
    let a : ExprTree = expr_tree c.args.value in
    let made : (CondTree → Plan) → ExprTree → Plan = λ k b. must (Word words.And) (expr d (λ e. k (within a b e))) in
    rw (p.1, p.2) (then-stops made (compared d a) (expr d) c.args.tokens.now c.args.at (c.args.at + 1) c.in_err-low.field-0.0 (between-leads c.args.tokens.now c.args.at d a c.requires.between) c.in_err-low.ensures)

pub returns-in_err-behind : goal.returns-in_err-behind
returns-in_err-behind c =
    let p = err_from_is_err_and c.from_residual-in_err-behind.result c.from_residual-in_err-behind.ensures.1 in
    let d : ℕ = c.args.depth in
    let a : ExprTree = expr_tree c.args.value in
    let b : ExprTree = expr_tree c.in_ok-low.low in
    let made : (CondTree → Plan) → Plan = λ k. expr d (λ e. k (within a b e)) in
    rw (p.1, p.2)
    (then-stops made (compared d a) (must (Word words.And)) c.args.tokens.now c.args.at c.in_ok-low.middle c.in_err-behind.field-0.0
    (low-read c.args.tokens.now c.args.at d c.in_ok-low.middle a b c.requires.between c.in_ok-low.ensures) c.in_err-behind.ensures.stops)

pub returns-in_err-high : goal.returns-in_err-high
returns-in_err-high c =
    let p = err_from_is_err_and c.from_residual-in_err-high.result c.from_residual-in_err-high.ensures.1 in
    let d : ℕ = c.args.depth in
    let a : ExprTree = expr_tree c.args.value in
    let b : ExprTree = expr_tree c.in_ok-low.low in
    let made : (CondTree → Plan) → ExprTree → Plan = λ k e. k (within a b e) in
    rw (p.1, p.2)
    (then-stops made (compared d a) (expr d) c.args.tokens.now c.args.at c.in_ok-behind.behind c.in_err-high.field-0.0
    (and-read c.args.tokens.now c.args.at d c.in_ok-low.middle c.in_ok-behind.behind a b c.requires.between c.in_ok-low.ensures c.in_ok-behind.ensures) c.in_err-high.ensures)

pub returns : goal.returns
returns c =
    let d : ℕ = c.args.depth in
    let a : ExprTree = expr_tree c.args.value in
    let b : ExprTree = expr_tree c.in_ok-low.low in
    let made : (CondTree → Plan) → ExprTree → Plan = λ k e. k (within a b e) in
    then-leads made (compared d a) (expr d) (given (expr_tree c.in_ok-high.high)) c.args.tokens.now c.args.at c.in_ok-behind.behind c.in_ok-high.end
    (and-read c.args.tokens.now c.args.at d c.in_ok-low.middle c.in_ok-behind.behind a b c.requires.between c.in_ok-low.ensures c.in_ok-behind.ensures) c.in_ok-high.ensures
