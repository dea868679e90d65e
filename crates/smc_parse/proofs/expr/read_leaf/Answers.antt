use Rattle.std.proofs.lemmas.Result.{err_from_is_err_and}
use Rattle.smc_query.specs.Trees.{ExprTree, PathTree, field, path_tree}
use Rattle.smc_query.specs.Machine.{Plan, path, factor}
use Rattle.smc_parse.specs.Reading.{given}
use Rattle.smc_parse.proofs.LeadLaws.{then-leads, then-stops}
use Rattle.smc_parse.proofs.ExprLaws.{number-leads, date-leads, text-leads, field-leads, word-stops, sign-stops, factor-end}
use Rattle.smc_parse.proofs.expr.read_leaf.Goals as goal

pub returns-in_default : goal.returns-in_default
returns-in_default c depth = factor-end c.args.tokens.now c.args.at depth c.requires.within c.in_default.ensures

pub returns-in-Number : goal.returns-in-Number
returns-in-Number c depth = number-leads c.args.tokens.now c.args.at depth c.in-Number.units c.in-Number.decimals (rw c.in-Number.is at c.in-Some.ensures)

pub returns-in-Date : goal.returns-in-Date
returns-in-Date c depth = date-leads c.args.tokens.now c.args.at depth c.in-Date.year c.in-Date.month c.in-Date.day (rw c.in-Date.is at c.in-Some.ensures)

pub returns-in_ok-copied-in-Text : goal.returns-in_ok-copied-in-Text
returns-in_ok-copied-in-Text c depth = rw c.in_ok-copied-in-Text.ensures (text-leads c.args.tokens.now c.args.at depth c.in-Text.text (rw c.in-Text.is at c.in-Some.ensures))

pub returns-in_err-path-in-Name : goal.returns-in_err-path-in-Name
returns-in_err-path-in-Name c depth =
    let p = err_from_is_err_and c.from_residual-in_err-path-in-Name.result c.from_residual-in_err-path-in-Name.ensures.1 in
    let made : (ExprTree → Plan) → PathTree → Plan = λ k p. k (field p) in
    rw (p.1, p.2)
    (then-stops made (factor depth) path c.args.tokens.now c.args.at c.args.at c.in_err-path-in-Name.field-0.0
    (field-leads c.args.tokens.now c.args.at depth c.in-Name.field-0 c.requires.within (rw c.in-Name.is at c.in-Some.ensures)) c.in_err-path-in-Name.ensures)

pub returns-in_ok-path-in-Name : goal.returns-in_ok-path-in-Name
returns-in_ok-path-in-Name c depth =
    let made : (ExprTree → Plan) → PathTree → Plan = λ k p. k (field p) in
    then-leads made (factor depth) path (given (path_tree c.in_ok-path-in-Name.path)) c.args.tokens.now c.args.at c.args.at c.in_ok-path-in-Name.end
    (field-leads c.args.tokens.now c.args.at depth c.in-Name.field-0 c.requires.within (rw c.in-Name.is at c.in-Some.ensures)) c.in_ok-path-in-Name.ensures

pub returns-in-Word : goal.returns-in-Word
returns-in-Word c depth = word-stops c.args.tokens.now c.args.at depth c.in-Word.field-0 c.requires.within (rw c.in-Word.is at c.in-Some.ensures)

pub returns-in-Sign : goal.returns-in-Sign
returns-in-Sign c depth =
    sign-stops c.args.tokens.now c.args.at depth c.in-Sign.field-0 c.requires.within (rw c.in-Sign.is at c.in-Some.ensures) c.requires.no_minus c.requires.no_open
