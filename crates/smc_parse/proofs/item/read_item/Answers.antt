use Rattle.std.proofs.Common.{List, ℕ, Option}
use Rattle.std.proofs.lemmas.Result.{err_from_is_err_and}
use Rattle.smc_tokens.specs.declared.token.Placed.{Placed}
use Rattle.smc_query.specs.Trees.{CallTree, ItemTree, call_tree}
use Rattle.smc_query.specs.Machine.{Plan, call, item}
use Rattle.smc_parse.specs.Reading.{Leads, given}
use Rattle.smc_parse.specs.Parts.{label}
use Rattle.smc_parse.proofs.LeadLaws.{then-leads, then-stops}
use Rattle.smc_parse.proofs.item.read_item.Goals as goal

-- an output column of a call and a label
made : CallTree → (ItemTree → Plan) → Option (List ℕ) → Plan
made a k text = k (record { call = a; label = text })

-- behind the call of an output column its label may come
call-read : (placed : List Placed) (at d behind : ℕ) (a : CallTree) → Leads (call d) (given a) placed at behind → Leads (item d) (λ k. label (made a k)) placed at behind
unfolding made
call-read placed at d behind a h =
    record { later = h.later; within = h.within; goes = λ k. h.goes (λ b. label (λ text. k (record { call = b; label = text }))) }

pub returns-in_err-call : goal.returns-in_err-call
returns-in_err-call c =
    let p = err_from_is_err_and c.from_residual.result c.from_residual.ensures.1 in
    rw (p.1, p.2) (λ k. c.in_err-call.ensures (λ b. label (λ text. k (record { call = b; label = text }))))

pub returns-in_err-label : goal.returns-in_err-label
returns-in_err-label c =
    let p = err_from_is_err_and c.from_residual-in_err-label.result c.from_residual-in_err-label.ensures.1 in
    let a : CallTree = call_tree c.in_ok-call.call in
    rw (p.1, p.2)
    (then-stops (made a) (item c.args.depth) label c.args.tokens.now c.args.at c.in_ok-call.behind c.in_err-label.field-0.0
    (call-read c.args.tokens.now c.args.at c.args.depth c.in_ok-call.behind a c.in_ok-call.ensures) c.in_err-label.ensures)

pub returns : goal.returns
unfolding made
returns c =
    let a : CallTree = call_tree c.in_ok-call.call in
    then-leads (made a) (item c.args.depth) label (given c.in_ok-label.label) c.args.tokens.now c.args.at c.in_ok-call.behind c.in_ok-label.end
    (call-read c.args.tokens.now c.args.at c.args.depth c.in_ok-call.behind a c.in_ok-call.ensures) c.in_ok-label.ensures
