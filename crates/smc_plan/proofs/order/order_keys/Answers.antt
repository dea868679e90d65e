use Rattle.std.proofs.Common.{List, map, inr}
use Rattle.std.proofs.lemmas.Result.{err_from_is_err_and}
use Rattle.smc_query.specs.Trees.{PathTree, ItemTree, item_tree, key_tree, path_tree}
use Rattle.smc_plan.specs.Orders.{order_key}
use Rattle.smc_plan.specs.Planned.{planned_key}
use Rattle.smc_plan.proofs.EachLaws.{at-next, at-fault, given-part, given-fault}
use Rattle.smc_plan.proofs.order.order_keys.Goals as goal

pub returns-in_err-order_key : goal.returns-in_err-order_key
returns-in_err-order_key c =
    let p = err_from_is_err_and c.from_residual.result c.from_residual.ensures.1 in
    let by : List PathTree = map path_tree c.args.by.now in
    let items : List ItemTree = map item_tree c.args.items.now in
    λ leaves. rw (p.1, p.2)
    (at-fault (planned_key by items) key_tree c.args.keys.now leaves c.loop-key.key-index c.loop-key.columns.items leaves c.key-item.result c.in_err-order_key.field-0.0
    c.loop-key-test.true c.key-item.is (c.loop-key.invariant leaves)
    (inr (given-fault (order_key by items (key_tree c.key-item.result)) c.in_err-order_key.field-0.0 leaves c.in_err-order_key.ensures)))

pub loop-key-preserved : goal.loop-key-preserved
loop-key-preserved c =
    let by : List PathTree = map path_tree c.args.by.now in
    let items : List ItemTree = map item_tree c.args.items.now in
    λ leaves. rw c.in_ok-push.ensures.items
    (at-next (planned_key by items) key_tree c.args.keys.now leaves c.loop-key.key-index c.loop-key.columns.items leaves leaves c.key-item.result c.in_ok-order_key.field-0
    c.loop-key-test.true c.key-item.is (c.loop-key.invariant leaves)
    (given-part (order_key by items (key_tree c.key-item.result)) c.in_ok-order_key.field-0 leaves c.in_ok-order_key.ensures))
