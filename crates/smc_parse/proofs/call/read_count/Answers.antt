use Rattle.std.proofs.Common.{◌+◌}
use Rattle.std.proofs.lemmas.Result.{err_from_is_err_and}
use Rattle.smc_tokens.specs.declared.token.Token.TheVariants.{Sign}
use Rattle.smc_tokens.specs.declared.sign.Sign.TheVariants as signs
use Rattle.smc_query.specs.Trees.{CallTree, count}
use Rattle.smc_query.specs.Machine.{Plan, must, call}
use Rattle.smc_parse.specs.Reading.{given}
use Rattle.smc_parse.proofs.LeadLaws.{then-leads, then-misses}
use Rattle.smc_parse.proofs.CallLaws.{count-leads}
use Rattle.smc_parse.proofs.call.read_count.Goals as goal

pub must_sign-requires : goal.must_sign-requires
must_sign-requires c = (count-leads c.args.tokens.now c.args.at c.args.depth c.requires.count).within

pub returns-in_err-inner : goal.returns-in_err-inner
returns-in_err-inner c =
    let p = err_from_is_err_and c.from_residual.result c.from_residual.ensures.1 in
    let made : (CallTree → Plan) → Plan = λ k. must (Sign signs.Close) (k count) in
    rw (p.1, p.2)
    (then-misses made (call c.args.depth) (must (Sign signs.Open)) c.args.tokens.now c.args.at (c.args.at + 1) c.in_err-inner.field-0.0
    (count-leads c.args.tokens.now c.args.at c.args.depth c.requires.count) c.in_err-inner.ensures)

pub returns-in_err-behind : goal.returns-in_err-behind
returns-in_err-behind c =
    let p = err_from_is_err_and c.from_residual-in_err-behind.result c.from_residual-in_err-behind.ensures.1 in
    let made : (CallTree → Plan) → Plan = λ k. must (Sign signs.Close) (k count) in
    rw (p.1, p.2)
    (then-misses (given count) (call c.args.depth) (must (Sign signs.Close)) c.args.tokens.now c.args.at c.in_ok-inner.inner c.in_err-behind.field-0.0
    (then-leads made (call c.args.depth) (must (Sign signs.Open)) (λ p. p) c.args.tokens.now c.args.at (c.args.at + 1) c.in_ok-inner.inner
    (count-leads c.args.tokens.now c.args.at c.args.depth c.requires.count) c.in_ok-inner.ensures) c.in_err-behind.ensures)

pub returns : goal.returns
returns c =
    let made : (CallTree → Plan) → Plan = λ k. must (Sign signs.Close) (k count) in
    then-leads (given count) (call c.args.depth) (must (Sign signs.Close)) (λ p. p) c.args.tokens.now c.args.at c.in_ok-inner.inner c.in_ok-behind.behind
    (then-leads made (call c.args.depth) (must (Sign signs.Open)) (λ p. p) c.args.tokens.now c.args.at (c.args.at + 1) c.in_ok-inner.inner
    (count-leads c.args.tokens.now c.args.at c.args.depth c.requires.count) c.in_ok-inner.ensures) c.in_ok-behind.ensures
