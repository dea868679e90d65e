use Rattle.std.proofs.Common.{ℕ, ◌+◌, ◌-◌, ◌<◌, ◌≤◌, length, sym, arith}
use Rattle.std.proofs.lemmas.Result.{err_from_is_err_and}
use Rattle.smc_tokens.specs.declared.token.Token.TheVariants.{Sign}
use Rattle.smc_tokens.specs.declared.sign.Sign.TheVariants as signs
use Rattle.smc_query.specs.Trees.{ExprTree, expr_tree, minus, product}
use Rattle.smc_query.specs.Machine.{Plan, must, factor, factors, term, terms, expr}
use Rattle.smc_parse.specs.Reading.{given}
use Rattle.smc_parse.specs.Chains.{joined}
use Rattle.smc_parse.proofs.LeadLaws.{leads-on, on-mark, past-mark, then-leads, then-stops, mark-within, opens-leads, opens-stops}
use Rattle.smc_parse.proofs.ExprLaws.{factors-choose, factor-minus, factor-open}
use Rattle.smc_parse.proofs.expr.+expression.Goals as goal

-- ---- a minus

pub read_factor-returns-then-depth-eq0 : goal.read_factor-returns-then-depth-eq0
read_factor-returns-then-depth-eq0 t c = opens-stops c.args.tokens.now c.args.at c.requires (factor-minus c.args.depth) c.if-depth-eq0.true (sym c.if-is_sign.ensures)

pub read_factor-read_factor-requires : goal.read_factor-read_factor-requires
read_factor-read_factor-requires t c =
    let h : c.args.at < length c.args.tokens.now = mark-within c.args.tokens.now c.args.at (Sign signs.Minus) (sym c.if-is_sign.ensures) in (omega arith, omega arith)

pub read_factor-returns-in_err-of : goal.read_factor-returns-in_err-of
read_factor-returns-in_err-of t c =
    let p = err_from_is_err_and c.from_residual.result c.from_residual.ensures.1 in
    let d : ℕ = c.args.depth in
    let made : (ExprTree → Plan) → ExprTree → Plan = λ k a. k (minus a) in
    rw (p.1, p.2)
    (then-stops made (factor d) (factor (d - 1)) c.args.tokens.now c.args.at (c.args.at + 1) c.in_err-of.field-0.0
    (opens-leads c.args.tokens.now c.args.at (factor-minus d) (omega arith) (sym c.if-is_sign.ensures)) c.in_err-of.ensures)

pub read_factor-returns-then-is_sign : goal.read_factor-returns-then-is_sign
read_factor-returns-then-is_sign t c =
    let d : ℕ = c.args.depth in
    let made : (ExprTree → Plan) → ExprTree → Plan = λ k a. k (minus a) in
    rw c.in_ok-minus_of.ensures
    (then-leads made (factor d) (factor (d - 1)) (given (expr_tree c.in_ok-of.of)) c.args.tokens.now c.args.at (c.args.at + 1) c.in_ok-of.end
    (opens-leads c.args.tokens.now c.args.at (factor-minus d) (omega arith) (sym c.if-is_sign.ensures)) c.in_ok-of.ensures)

-- ---- parentheses

pub read_parentheses-returns-then-depth-eq0 : goal.read_parentheses-returns-then-depth-eq0
read_parentheses-returns-then-depth-eq0 t c = opens-stops c.args.tokens.now c.args.at c.requires.within (factor-open c.args.depth) c.if-depth-eq0.true c.requires.open

pub read_parentheses-read_expr-requires : goal.read_parentheses-read_expr-requires
read_parentheses-read_expr-requires t c =
    let h : c.args.at < length c.args.tokens.now = mark-within c.args.tokens.now c.args.at (Sign signs.Open) c.requires.open in (omega arith, omega arith)

pub read_parentheses-returns-in_err-of : goal.read_parentheses-returns-in_err-of
read_parentheses-returns-in_err-of t c =
    let p = err_from_is_err_and c.from_residual.result c.from_residual.ensures.1 in
    let d : ℕ = c.args.depth in
    let closed : (ExprTree → Plan) → ExprTree → Plan = λ k a. must (Sign signs.Close) (k a) in
    rw (p.1, p.2)
    (then-stops closed (factor d) (expr (d - 1)) c.args.tokens.now c.args.at (c.args.at + 1) c.in_err-of.field-0.0
    (opens-leads c.args.tokens.now c.args.at (factor-open d) (omega arith) c.requires.open) c.in_err-of.ensures)

pub read_parentheses-returns-in_err-behind : goal.read_parentheses-returns-in_err-behind
read_parentheses-returns-in_err-behind t c =
    let p = err_from_is_err_and c.from_residual-in_err-behind.result c.from_residual-in_err-behind.ensures.1 in
    let d : ℕ = c.args.depth in
    let a : ExprTree = expr_tree c.in_ok-of.of in
    let closed : (ExprTree → Plan) → ExprTree → Plan = λ k b. must (Sign signs.Close) (k b) in
    rw (p.1, p.2)
    (then-stops (given a) (factor d) (must (Sign signs.Close)) c.args.tokens.now c.args.at c.in_ok-of.end c.in_err-behind.field-0.0
    (then-leads closed (factor d) (expr (d - 1)) (given a) c.args.tokens.now c.args.at (c.args.at + 1) c.in_ok-of.end
    (opens-leads c.args.tokens.now c.args.at (factor-open d) (omega arith) c.requires.open) c.in_ok-of.ensures) c.in_err-behind.ensures.stops)

pub read_parentheses-returns : goal.read_parentheses-returns
read_parentheses-returns t c =
    let d : ℕ = c.args.depth in
    let a : ExprTree = expr_tree c.in_ok-of.of in
    let closed : (ExprTree → Plan) → ExprTree → Plan = λ k b. must (Sign signs.Close) (k b) in
    then-leads (given a) (factor d) (must (Sign signs.Close)) (λ p. p) c.args.tokens.now c.args.at c.in_ok-of.end c.in_ok-behind.behind
    (then-leads closed (factor d) (expr (d - 1)) (given a) c.args.tokens.now c.args.at (c.args.at + 1) c.in_ok-of.end
    (opens-leads c.args.tokens.now c.args.at (factor-open d) (omega arith) c.requires.open) c.in_ok-of.ensures) c.in_ok-behind.ensures

-- ---- terms

pub read_term-read_factor-requires-in-loop-alloc : goal.read_term-read_factor-requires-in-loop-alloc
read_term-read_factor-requires-in-loop-alloc t c =
    let h : c.loop-alloc.end < length c.args.tokens.now = mark-within c.args.tokens.now c.loop-alloc.end (Sign signs.Star) (sym c.loop-alloc-test.ensures) in (omega arith, omega arith)

pub read_term-returns-in_err-right : goal.read_term-returns-in_err-right
read_term-returns-in_err-right t c =
    let p = err_from_is_err_and c.from_residual-in_err-right.result c.from_residual-in_err-right.ensures.1 in
    let d : ℕ = c.args.depth in
    let a : ExprTree = expr_tree c.loop-alloc.left in
    let more : (ExprTree → Plan) → ExprTree → Plan = λ k b. factors d (product a b) k in
    rw (p.1, p.2)
    (then-stops more (term d) (factor d) c.args.tokens.now c.args.at (c.loop-alloc.end + 1) c.in_err-right.field-0.0
    (on-mark c.args.tokens.now c.args.at c.loop-alloc.end c.loop-alloc.invariant (factors-choose d a) (sym c.loop-alloc-test.ensures)) c.in_err-right.ensures)

pub read_term-loop-alloc-preserved : goal.read_term-loop-alloc-preserved
read_term-loop-alloc-preserved t c =
    let d : ℕ = c.args.depth in
    let a : ExprTree = expr_tree c.loop-alloc.left in
    let more : (ExprTree → Plan) → ExprTree → Plan = λ k b. factors d (product a b) k in
    rw c.in_ok-left-2.ensures
    (then-leads more (term d) (factor d) (given (expr_tree c.in_ok-right.right)) c.args.tokens.now c.args.at (c.loop-alloc.end + 1) c.in_ok-right.next
    (on-mark c.args.tokens.now c.args.at c.loop-alloc.end c.loop-alloc.invariant (factors-choose d a) (sym c.loop-alloc-test.ensures)) c.in_ok-right.ensures)

pub read_term-returns : goal.read_term-returns
read_term-returns t c =
    past-mark c.args.tokens.now c.args.at c.loop-alloc.end c.loop-alloc.invariant (factors-choose c.args.depth (expr_tree c.loop-alloc.left)) (sym c.loop-alloc-test.ensures)

-- ---- expressions

pub read_expr-read_term-requires-in-Some : goal.read_expr-read_term-requires-in-Some
read_expr-read_term-requires-in-Some t c =
    let h : c.loop-joint.end + 1 ≤ length c.args.tokens.now = (c.in-Some.ensures c.args.depth (expr_tree c.loop-joint.left)).within in (omega arith, omega arith)

pub read_expr-returns-in_err-right : goal.read_expr-returns-in_err-right
read_expr-returns-in_err-right t c =
    let p = err_from_is_err_and c.from_residual-in_err-right.result c.from_residual-in_err-right.ensures.1 in
    let d : ℕ = c.args.depth in
    let a : ExprTree = expr_tree c.loop-joint.left in
    let more : (ExprTree → Plan) → ExprTree → Plan = λ k b. terms d (joined c.in-Some.joint a b) k in
    rw (p.1, p.2)
    (then-stops more (expr d) (term d) c.args.tokens.now c.args.at (c.loop-joint.end + 1) c.in_err-right.field-0.0
    (leads-on (expr d) (terms d a) (λ k. term d (more k)) c.args.tokens.now c.args.at c.loop-joint.end (c.loop-joint.end + 1) c.loop-joint.invariant (c.in-Some.ensures d a)) c.in_err-right.ensures)

pub read_expr-loop-joint-preserved : goal.read_expr-loop-joint-preserved
read_expr-loop-joint-preserved t c =
    let d : ℕ = c.args.depth in
    let a : ExprTree = expr_tree c.loop-joint.left in
    let more : (ExprTree → Plan) → ExprTree → Plan = λ k b. terms d (joined c.in-Some.joint a b) k in
    rw c.in_ok-left-2.ensures
    (then-leads more (expr d) (term d) (given (expr_tree c.in_ok-right.right)) c.args.tokens.now c.args.at (c.loop-joint.end + 1) c.in_ok-right.next
    (leads-on (expr d) (terms d a) (λ k. term d (more k)) c.args.tokens.now c.args.at c.loop-joint.end (c.loop-joint.end + 1) c.loop-joint.invariant (c.in-Some.ensures d a)) c.in_ok-right.ensures)

pub read_expr-returns : goal.read_expr-returns
read_expr-returns t c =
    let a : ExprTree = expr_tree c.loop-joint.left in
    leads-on (expr c.args.depth) (terms c.args.depth a) (given a) c.args.tokens.now c.args.at c.loop-joint.end c.loop-joint.end c.loop-joint.invariant (c.in_default.ensures c.args.depth a)
