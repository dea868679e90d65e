use Rattle.std.proofs.Common.{ℕ, ◌+◌, ◌-◌, ◌<◌, length, sym, arith}
use Rattle.std.proofs.lemmas.Result.{err_from_is_err_and}
use Rattle.smc_tokens.specs.declared.token.Token.TheVariants.{Word, Sign}
use Rattle.smc_tokens.specs.declared.reserved.Reserved.TheVariants as words
use Rattle.smc_tokens.specs.declared.sign.Sign.TheVariants as signs
use Rattle.smc_query.specs.Trees.{CondTree, cond_tree, negation, both, either}
use Rattle.smc_query.specs.Machine.{Plan, must, neg, negs, conj, conjs, cond}
use Rattle.smc_parse.specs.Reading.{given}
use Rattle.smc_parse.proofs.LeadLaws.{on-mark, past-mark, then-leads, then-stops, mark-within, opens-leads, opens-stops}
use Rattle.smc_parse.proofs.CondLaws.{negs-choose, conjs-choose, neg-not, neg-bracket}
use Rattle.smc_parse.proofs.cond.+condition.Goals as goal

-- ---- a negation

pub read_neg-returns-then-depth-eq0 : goal.read_neg-returns-then-depth-eq0
read_neg-returns-then-depth-eq0 t c = opens-stops c.args.tokens.now c.args.at c.requires (neg-not c.args.depth) c.if-depth-eq0.true (sym c.if-is_word.ensures)

pub read_neg-read_neg-requires : goal.read_neg-read_neg-requires
read_neg-read_neg-requires t c =
    let h : c.args.at < length c.args.tokens.now = mark-within c.args.tokens.now c.args.at (Word words.Not) (sym c.if-is_word.ensures) in (omega arith, omega arith)

pub read_neg-returns-in_err-of : goal.read_neg-returns-in_err-of
read_neg-returns-in_err-of t c =
    let p = err_from_is_err_and c.from_residual.result c.from_residual.ensures.1 in
    let d : ℕ = c.args.depth in
    let made : (CondTree → Plan) → CondTree → Plan = λ k a. k (negation a) in
    rw (p.1, p.2)
    (then-stops made (neg d) (neg (d - 1)) c.args.tokens.now c.args.at (c.args.at + 1) c.in_err-of.field-0.0
    (opens-leads c.args.tokens.now c.args.at (neg-not d) (omega arith) (sym c.if-is_word.ensures)) c.in_err-of.ensures)

pub read_neg-returns-then-is_word : goal.read_neg-returns-then-is_word
read_neg-returns-then-is_word t c =
    let d : ℕ = c.args.depth in
    let made : (CondTree → Plan) → CondTree → Plan = λ k a. k (negation a) in
    rw c.in_ok-negation_of.ensures
    (then-leads made (neg d) (neg (d - 1)) (given (cond_tree c.in_ok-of.of)) c.args.tokens.now c.args.at (c.args.at + 1) c.in_ok-of.end
    (opens-leads c.args.tokens.now c.args.at (neg-not d) (omega arith) (sym c.if-is_word.ensures)) c.in_ok-of.ensures)

-- ---- brackets

pub read_brackets-returns-then-depth-eq0 : goal.read_brackets-returns-then-depth-eq0
read_brackets-returns-then-depth-eq0 t c = opens-stops c.args.tokens.now c.args.at c.requires.within (neg-bracket c.args.depth) c.if-depth-eq0.true c.requires.open

pub read_brackets-read_cond-requires : goal.read_brackets-read_cond-requires
read_brackets-read_cond-requires t c =
    let h : c.args.at < length c.args.tokens.now = mark-within c.args.tokens.now c.args.at (Sign signs.OpenBracket) c.requires.open in (omega arith, omega arith)

pub read_brackets-returns-in_err-of : goal.read_brackets-returns-in_err-of
read_brackets-returns-in_err-of t c =
    let p = err_from_is_err_and c.from_residual.result c.from_residual.ensures.1 in
    let d : ℕ = c.args.depth in
    let closed : (CondTree → Plan) → CondTree → Plan = λ k a. must (Sign signs.CloseBracket) (k a) in
    rw (p.1, p.2)
    (then-stops closed (neg d) (cond (d - 1)) c.args.tokens.now c.args.at (c.args.at + 1) c.in_err-of.field-0.0
    (opens-leads c.args.tokens.now c.args.at (neg-bracket d) (omega arith) c.requires.open) c.in_err-of.ensures)

pub read_brackets-returns-in_err-behind : goal.read_brackets-returns-in_err-behind
read_brackets-returns-in_err-behind t c =
    let p = err_from_is_err_and c.from_residual-in_err-behind.result c.from_residual-in_err-behind.ensures.1 in
    let d : ℕ = c.args.depth in
    let a : CondTree = cond_tree c.in_ok-of.of in
    let closed : (CondTree → Plan) → CondTree → Plan = λ k b. must (Sign signs.CloseBracket) (k b) in
    rw (p.1, p.2)
    (then-stops (given a) (neg d) (must (Sign signs.CloseBracket)) c.args.tokens.now c.args.at c.in_ok-of.end c.in_err-behind.field-0.0
    (then-leads closed (neg d) (cond (d - 1)) (given a) c.args.tokens.now c.args.at (c.args.at + 1) c.in_ok-of.end
    (opens-leads c.args.tokens.now c.args.at (neg-bracket d) (omega arith) c.requires.open) c.in_ok-of.ensures) c.in_err-behind.ensures.stops)

pub read_brackets-returns : goal.read_brackets-returns
read_brackets-returns t c =
    let d : ℕ = c.args.depth in
    let a : CondTree = cond_tree c.in_ok-of.of in
    let closed : (CondTree → Plan) → CondTree → Plan = λ k b. must (Sign signs.CloseBracket) (k b) in
    then-leads (given a) (neg d) (must (Sign signs.CloseBracket)) (λ p. p) c.args.tokens.now c.args.at c.in_ok-of.end c.in_ok-behind.behind
    (then-leads closed (neg d) (cond (d - 1)) (given a) c.args.tokens.now c.args.at (c.args.at + 1) c.in_ok-of.end
    (opens-leads c.args.tokens.now c.args.at (neg-bracket d) (omega arith) c.requires.open) c.in_ok-of.ensures) c.in_ok-behind.ensures

-- ---- conjunctions

pub read_conj-read_neg-requires-in-loop-alloc : goal.read_conj-read_neg-requires-in-loop-alloc
read_conj-read_neg-requires-in-loop-alloc t c =
    let h : c.loop-alloc.end < length c.args.tokens.now = mark-within c.args.tokens.now c.loop-alloc.end (Word words.And) (sym c.loop-alloc-test.ensures) in (omega arith, omega arith)

pub read_conj-returns-in_err-right : goal.read_conj-returns-in_err-right
read_conj-returns-in_err-right t c =
    let p = err_from_is_err_and c.from_residual-in_err-right.result c.from_residual-in_err-right.ensures.1 in
    let d : ℕ = c.args.depth in
    let a : CondTree = cond_tree c.loop-alloc.left in
    let more : (CondTree → Plan) → CondTree → Plan = λ k b. negs d (both a b) k in
    rw (p.1, p.2)
    (then-stops more (conj d) (neg d) c.args.tokens.now c.args.at (c.loop-alloc.end + 1) c.in_err-right.field-0.0
    (on-mark c.args.tokens.now c.args.at c.loop-alloc.end c.loop-alloc.invariant (negs-choose d a) (sym c.loop-alloc-test.ensures)) c.in_err-right.ensures)

pub read_conj-loop-alloc-preserved : goal.read_conj-loop-alloc-preserved
read_conj-loop-alloc-preserved t c =
    let d : ℕ = c.args.depth in
    let a : CondTree = cond_tree c.loop-alloc.left in
    let more : (CondTree → Plan) → CondTree → Plan = λ k b. negs d (both a b) k in
    rw c.in_ok-left-2.ensures
    (then-leads more (conj d) (neg d) (given (cond_tree c.in_ok-right.right)) c.args.tokens.now c.args.at (c.loop-alloc.end + 1) c.in_ok-right.next
    (on-mark c.args.tokens.now c.args.at c.loop-alloc.end c.loop-alloc.invariant (negs-choose d a) (sym c.loop-alloc-test.ensures)) c.in_ok-right.ensures)

pub read_conj-returns : goal.read_conj-returns
read_conj-returns t c =
    past-mark c.args.tokens.now c.args.at c.loop-alloc.end c.loop-alloc.invariant (negs-choose c.args.depth (cond_tree c.loop-alloc.left)) (sym c.loop-alloc-test.ensures)

-- ---- conditions

pub read_cond-read_conj-requires-in-loop-alloc : goal.read_cond-read_conj-requires-in-loop-alloc
read_cond-read_conj-requires-in-loop-alloc t c =
    let h : c.loop-alloc.end < length c.args.tokens.now = mark-within c.args.tokens.now c.loop-alloc.end (Word words.Or) (sym c.loop-alloc-test.ensures) in (omega arith, omega arith)

pub read_cond-returns-in_err-right : goal.read_cond-returns-in_err-right
read_cond-returns-in_err-right t c =
    let p = err_from_is_err_and c.from_residual-in_err-right.result c.from_residual-in_err-right.ensures.1 in
    let d : ℕ = c.args.depth in
    let a : CondTree = cond_tree c.loop-alloc.left in
    let more : (CondTree → Plan) → CondTree → Plan = λ k b. conjs d (either a b) k in
    rw (p.1, p.2)
    (then-stops more (cond d) (conj d) c.args.tokens.now c.args.at (c.loop-alloc.end + 1) c.in_err-right.field-0.0
    (on-mark c.args.tokens.now c.args.at c.loop-alloc.end c.loop-alloc.invariant (conjs-choose d a) (sym c.loop-alloc-test.ensures)) c.in_err-right.ensures)

pub read_cond-loop-alloc-preserved : goal.read_cond-loop-alloc-preserved
read_cond-loop-alloc-preserved t c =
    let d : ℕ = c.args.depth in
    let a : CondTree = cond_tree c.loop-alloc.left in
    let more : (CondTree → Plan) → CondTree → Plan = λ k b. conjs d (either a b) k in
    rw c.in_ok-left-2.ensures
    (then-leads more (cond d) (conj d) (given (cond_tree c.in_ok-right.right)) c.args.tokens.now c.args.at (c.loop-alloc.end + 1) c.in_ok-right.next
    (on-mark c.args.tokens.now c.args.at c.loop-alloc.end c.loop-alloc.invariant (conjs-choose d a) (sym c.loop-alloc-test.ensures)) c.in_ok-right.ensures)

pub read_cond-returns : goal.read_cond-returns
read_cond-returns t c =
    past-mark c.args.tokens.now c.args.at c.loop-alloc.end c.loop-alloc.invariant (conjs-choose c.args.depth (cond_tree c.loop-alloc.left)) (sym c.loop-alloc-test.ensures)
