use Rattle.std.proofs.Common.{List, ◌+◌, ◌<◌, ◌++◌, ◌∷◌, [], map, length, sym, arith}
use Rattle.std.proofs.lemmas.List.{map-append}
use Rattle.std.proofs.lemmas.Result.{err_from_is_err_and}
use Rattle.smc_tokens.specs.declared.token.Token.TheVariants.{Sign}
use Rattle.smc_tokens.specs.declared.sign.Sign.TheVariants as signs
use Rattle.smc_query.specs.Trees.{KeyTree, key_tree}
use Rattle.smc_query.specs.Machine.{Plan, key, keys}
use Rattle.smc_parse.specs.Reading.{given}
use Rattle.smc_parse.specs.Parts.{key_list}
use Rattle.smc_parse.proofs.LeadLaws.{on-mark, past-mark, then-leads, then-stops, mark-within}
use Rattle.smc_parse.proofs.PartLaws.{keys-choose}
use Rattle.smc_parse.proofs.key.read_keys.Goals as goal

pub read_key-requires-in-loop-alloc : goal.read_key-requires-in-loop-alloc
read_key-requires-in-loop-alloc c =
    let h : c.loop-alloc.end < length c.args.tokens.now = mark-within c.args.tokens.now c.loop-alloc.end (Sign signs.Comma) (sym c.loop-alloc-test.ensures) in omega arith

pub returns-in_err-key : goal.returns-in_err-key
returns-in_err-key c =
    let p = err_from_is_err_and c.from_residual-in_err-key.result c.from_residual-in_err-key.ensures.1 in
    let made : List KeyTree = map key_tree c.loop-alloc.keys.items in
    let more : (List KeyTree → Plan) → KeyTree → Plan = λ k one. keys (made ++ one ∷ []) k in
    rw (p.1, p.2)
    (then-stops more key_list key c.args.tokens.now c.args.at (c.loop-alloc.end + 1) c.in_err-key.field-0.0
    (on-mark c.args.tokens.now c.args.at c.loop-alloc.end c.loop-alloc.invariant (keys-choose made) (sym c.loop-alloc-test.ensures)) c.in_err-key.ensures)

pub loop-alloc-preserved : goal.loop-alloc-preserved
loop-alloc-preserved c =
    let made : List KeyTree = map key_tree c.loop-alloc.keys.items in
    let more : (List KeyTree → Plan) → KeyTree → Plan = λ k one. keys (made ++ one ∷ []) k in
    rw (c.in_ok-push-2.ensures.items, map-append)
    (then-leads more key_list key (given (key_tree c.in_ok-key.key)) c.args.tokens.now c.args.at (c.loop-alloc.end + 1) c.in_ok-key.next
    (on-mark c.args.tokens.now c.args.at c.loop-alloc.end c.loop-alloc.invariant (keys-choose made) (sym c.loop-alloc-test.ensures)) c.in_ok-key.ensures)

pub returns : goal.returns
returns c =
    rw c.of.ensures
    (past-mark c.args.tokens.now c.args.at c.loop-alloc.end c.loop-alloc.invariant (keys-choose (map key_tree c.loop-alloc.keys.items)) (sym c.loop-alloc-test.ensures))
