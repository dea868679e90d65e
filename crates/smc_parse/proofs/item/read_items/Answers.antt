use Rattle.std.proofs.Common.{List, ◌+◌, ◌<◌, ◌++◌, ◌∷◌, [], map, length, sym, arith}
use Rattle.std.proofs.lemmas.List.{map-append}
use Rattle.std.proofs.lemmas.Result.{err_from_is_err_and}
use Rattle.smc_tokens.specs.declared.token.Token.TheVariants.{Sign}
use Rattle.smc_tokens.specs.declared.sign.Sign.TheVariants as signs
use Rattle.smc_query.specs.Trees.{ItemTree, item_tree}
use Rattle.smc_query.specs.Machine.{Plan, item, items}
use Rattle.smc_parse.specs.Reading.{given}
use Rattle.smc_parse.specs.Parts.{item_list}
use Rattle.smc_parse.proofs.LeadLaws.{on-mark, past-mark, then-leads, then-stops, mark-within}
use Rattle.smc_parse.proofs.PartLaws.{items-choose}
use Rattle.smc_parse.proofs.item.read_items.Goals as goal

pub read_item-requires-in-loop-alloc : goal.read_item-requires-in-loop-alloc
read_item-requires-in-loop-alloc c =
    let h : c.loop-alloc.end < length c.args.tokens.now = mark-within c.args.tokens.now c.loop-alloc.end (Sign signs.Comma) (sym c.loop-alloc-test.ensures) in omega arith

pub returns-in_err-item : goal.returns-in_err-item
returns-in_err-item c =
    let p = err_from_is_err_and c.from_residual-in_err-item.result c.from_residual-in_err-item.ensures.1 in
    let made : List ItemTree = map item_tree c.loop-alloc.items.items in
    let more : (List ItemTree → Plan) → ItemTree → Plan = λ k one. items c.args.depth (made ++ one ∷ []) k in
    rw (p.1, p.2)
    (then-stops more (item_list c.args.depth) (item c.args.depth) c.args.tokens.now c.args.at (c.loop-alloc.end + 1) c.in_err-item.field-0.0
    (on-mark c.args.tokens.now c.args.at c.loop-alloc.end c.loop-alloc.invariant (items-choose c.args.depth made) (sym c.loop-alloc-test.ensures)) c.in_err-item.ensures)

pub loop-alloc-preserved : goal.loop-alloc-preserved
loop-alloc-preserved c =
    let made : List ItemTree = map item_tree c.loop-alloc.items.items in
    let more : (List ItemTree → Plan) → ItemTree → Plan = λ k one. items c.args.depth (made ++ one ∷ []) k in
    rw (c.in_ok-push-2.ensures.items, map-append)
    (then-leads more (item_list c.args.depth) (item c.args.depth) (given (item_tree c.in_ok-item.item)) c.args.tokens.now c.args.at (c.loop-alloc.end + 1) c.in_ok-item.next
    (on-mark c.args.tokens.now c.args.at c.loop-alloc.end c.loop-alloc.invariant (items-choose c.args.depth made) (sym c.loop-alloc-test.ensures)) c.in_ok-item.ensures)

pub returns : goal.returns
returns c =
    rw c.of.ensures
    (past-mark c.args.tokens.now c.args.at c.loop-alloc.end c.loop-alloc.invariant (items-choose c.args.depth (map item_tree c.loop-alloc.items.items)) (sym c.loop-alloc-test.ensures))
