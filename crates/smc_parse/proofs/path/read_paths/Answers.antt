use Rattle.std.proofs.Common.{List, ◌+◌, ◌<◌, ◌++◌, ◌∷◌, [], map, length, sym, arith}
use Rattle.std.proofs.lemmas.List.{map-append}
use Rattle.std.proofs.lemmas.Result.{err_from_is_err_and}
use Rattle.smc_tokens.specs.declared.token.Token.TheVariants.{Sign}
use Rattle.smc_tokens.specs.declared.sign.Sign.TheVariants as signs
use Rattle.smc_query.specs.Trees.{PathTree, path_tree}
use Rattle.smc_query.specs.Machine.{Plan, path, paths}
use Rattle.smc_parse.specs.Reading.{given}
use Rattle.smc_parse.specs.Parts.{path_list}
use Rattle.smc_parse.proofs.LeadLaws.{on-mark, past-mark, then-leads, then-stops, mark-within}
use Rattle.smc_parse.proofs.PartLaws.{paths-choose}
use Rattle.smc_parse.proofs.path.read_paths.Goals as goal

pub read_path-requires-in-loop-alloc : goal.read_path-requires-in-loop-alloc
read_path-requires-in-loop-alloc c =
    let h : c.loop-alloc.end < length c.args.tokens.now = mark-within c.args.tokens.now c.loop-alloc.end (Sign signs.Comma) (sym c.loop-alloc-test.ensures) in omega arith

pub returns-in_err-path : goal.returns-in_err-path
returns-in_err-path c =
    let p = err_from_is_err_and c.from_residual-in_err-path.result c.from_residual-in_err-path.ensures.1 in
    let made : List PathTree = map path_tree c.loop-alloc.paths.items in
    let more : (List PathTree → Plan) → PathTree → Plan = λ k one. paths (made ++ one ∷ []) k in
    rw (p.1, p.2)
    (then-stops more path_list path c.args.tokens.now c.args.at (c.loop-alloc.end + 1) c.in_err-path.field-0.0
    (on-mark c.args.tokens.now c.args.at c.loop-alloc.end c.loop-alloc.invariant (paths-choose made) (sym c.loop-alloc-test.ensures)) c.in_err-path.ensures)

pub loop-alloc-preserved : goal.loop-alloc-preserved
loop-alloc-preserved c =
    let made : List PathTree = map path_tree c.loop-alloc.paths.items in
    let more : (List PathTree → Plan) → PathTree → Plan = λ k one. paths (made ++ one ∷ []) k in
    rw (c.in_ok-push-2.ensures.items, map-append)
    (then-leads more path_list path (given (path_tree c.in_ok-path.path)) c.args.tokens.now c.args.at (c.loop-alloc.end + 1) c.in_ok-path.next
    (on-mark c.args.tokens.now c.args.at c.loop-alloc.end c.loop-alloc.invariant (paths-choose made) (sym c.loop-alloc-test.ensures)) c.in_ok-path.ensures)

pub returns : goal.returns
returns c =
    rw c.of.ensures
    (past-mark c.args.tokens.now c.args.at c.loop-alloc.end c.loop-alloc.invariant (paths-choose (map path_tree c.loop-alloc.paths.items)) (sym c.loop-alloc-test.ensures))
