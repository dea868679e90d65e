use Rattle.std.proofs.Common.{List, ℕ, ◌+◌, ◌++◌, ◌∷◌, [], sym, arith}
use Rattle.std.proofs.lemmas.Result.{err_from_is_err_and}
use Rattle.smc_tokens.specs.declared.token.Token.TheVariants.{Sign}
use Rattle.smc_tokens.specs.declared.sign.Sign.TheVariants as signs
use Rattle.smc_query.specs.Trees.{PathTree}
use Rattle.smc_query.specs.Machine.{Plan, path, name, names}
use Rattle.smc_parse.specs.Reading.{given}
use Rattle.smc_parse.proofs.LeadLaws.{leads-on, leads-mark, leads-none, then-leads, then-stops, mark-within}
use Rattle.smc_parse.proofs.PartLaws.{names-choose}
use Rattle.smc_parse.proofs.path.read_path.Goals as goal

pub must_name-requires-in-loop-alloc : goal.must_name-requires-in-loop-alloc
must_name-requires-in-loop-alloc c = let h = mark-within c.args.tokens.now c.loop-alloc.end (Sign signs.Dot) (sym c.loop-alloc-test.ensures) in omega (arith, h)

pub returns-in_err-name : goal.returns-in_err-name
returns-in_err-name c =
    let p = err_from_is_err_and c.from_residual-in_err-name.result c.from_residual-in_err-name.ensures.1 in
    let ps : PathTree = c.loop-alloc.names.items in
    let more : (PathTree → Plan) → List ℕ → Plan = λ k n. names (ps ++ n ∷ []) k in
    rw (p.1, p.2)
    (then-stops more path name c.args.tokens.now c.args.at (c.loop-alloc.end + 1) c.in_err-name.field-0.0
    (leads-on path (names ps) (λ k. name (more k)) c.args.tokens.now c.args.at c.loop-alloc.end (c.loop-alloc.end + 1) c.loop-alloc.invariant
    (leads-mark c.args.tokens.now c.loop-alloc.end (names-choose ps) (sym c.loop-alloc-test.ensures))) c.in_err-name.ensures)

pub loop-alloc-preserved : goal.loop-alloc-preserved
loop-alloc-preserved c =
    let ps : PathTree = c.loop-alloc.names.items in
    let more : (PathTree → Plan) → List ℕ → Plan = λ k n. names (ps ++ n ∷ []) k in
    rw c.in_ok-push-2.ensures.items
    (then-leads more path name (given c.in_ok-name.name) c.args.tokens.now c.args.at (c.loop-alloc.end + 1) c.in_ok-name.next
    (leads-on path (names ps) (λ k. name (more k)) c.args.tokens.now c.args.at c.loop-alloc.end (c.loop-alloc.end + 1) c.loop-alloc.invariant
    (leads-mark c.args.tokens.now c.loop-alloc.end (names-choose ps) (sym c.loop-alloc-test.ensures))) c.in_ok-name.ensures)

pub returns : goal.returns
returns c =
    let ps : PathTree = c.loop-alloc.names.items in
    rw c.of.ensures
    (leads-on path (names ps) (given ps) c.args.tokens.now c.args.at c.loop-alloc.end c.loop-alloc.end c.loop-alloc.invariant
    (leads-none c.args.tokens.now c.loop-alloc.end c.loop-alloc.invariant.within (names-choose ps) (sym c.loop-alloc-test.ensures)))
