use Rattle.std.proofs.Common.{List, ℕ, ◌+◌}
use Rattle.std.proofs.lemmas.Result.{err_from_is_err_and}
use Rattle.smc_query.specs.Trees.{ExprTree, CallTree, expr_tree, fold}
use Rattle.smc_query.specs.Machine.{Plan, name, argument, call}
use Rattle.smc_parse.specs.Reading.{given}
use Rattle.smc_parse.proofs.LeadLaws.{then-leads, then-stops}
use Rattle.smc_parse.proofs.CallLaws.{fold-leads}
use Rattle.smc_parse.proofs.call.read_fold.Goals as goal

pub must_name-requires : goal.must_name-requires
must_name-requires c = (fold-leads c.args.tokens.now c.args.at c.args.depth c.requires.fold).within

pub returns-in_err-name : goal.returns-in_err-name
returns-in_err-name c =
    let p = err_from_is_err_and c.from_residual.result c.from_residual.ensures.1 in
    let made : (CallTree → Plan) → List ℕ → Plan = λ k n. argument c.args.depth (λ a. k (fold n a)) in
    rw (p.1, p.2)
    (then-stops made (call c.args.depth) name c.args.tokens.now c.args.at (c.args.at + 1) c.in_err-name.field-0.0
    (fold-leads c.args.tokens.now c.args.at c.args.depth c.requires.fold) c.in_err-name.ensures)

pub returns-in_err-of : goal.returns-in_err-of
returns-in_err-of c =
    let p = err_from_is_err_and c.from_residual-in_err-of.result c.from_residual-in_err-of.ensures.1 in
    let named : (CallTree → Plan) → List ℕ → Plan = λ k n. argument c.args.depth (λ a. k (fold n a)) in
    let made : (CallTree → Plan) → ExprTree → Plan = λ k a. k (fold c.in_ok-name.name a) in
    rw (p.1, p.2)
    (then-stops made (call c.args.depth) (argument c.args.depth) c.args.tokens.now c.args.at c.in_ok-name.open c.in_err-of.field-0.0
    (then-leads named (call c.args.depth) name (given c.in_ok-name.name) c.args.tokens.now c.args.at (c.args.at + 1) c.in_ok-name.open
    (fold-leads c.args.tokens.now c.args.at c.args.depth c.requires.fold) c.in_ok-name.ensures) c.in_err-of.ensures)

pub returns : goal.returns
returns c =
    let named : (CallTree → Plan) → List ℕ → Plan = λ k n. argument c.args.depth (λ a. k (fold n a)) in
    let made : (CallTree → Plan) → ExprTree → Plan = λ k a. k (fold c.in_ok-name.name a) in
    then-leads made (call c.args.depth) (argument c.args.depth) (given (expr_tree c.in_ok-of.of)) c.args.tokens.now c.args.at c.in_ok-name.open c.in_ok-of.end
    (then-leads named (call c.args.depth) name (given c.in_ok-name.name) c.args.tokens.now c.args.at (c.args.at + 1) c.in_ok-name.open
    (fold-leads c.args.tokens.now c.args.at c.args.depth c.requires.fold) c.in_ok-name.ensures) c.in_ok-of.ensures
