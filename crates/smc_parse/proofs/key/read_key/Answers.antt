use Rattle.std.proofs.Common.{List, ℕ, true, false, sym}
use Rattle.std.proofs.lemmas.Result.{err_from_is_err_and}
use Rattle.smc_tokens.specs.declared.token.Token.TheVariants.{Word}
use Rattle.smc_tokens.specs.declared.token.Placed.{Placed}
use Rattle.smc_tokens.specs.declared.reserved.Reserved.TheVariants as words
use Rattle.smc_query.specs.Trees.{PathTree, KeyTree, path_tree}
use Rattle.smc_query.specs.Machine.{Plan, may, path, key}
use Rattle.smc_parse.specs.Reading.{Leads, given}
use Rattle.smc_parse.proofs.LeadLaws.{on-mark, past-mark, Chooses}
use Rattle.smc_parse.proofs.PartLaws.{may-choose}
use Rattle.smc_parse.proofs.key.read_key.Goals as goal

-- behind the path of a key `desc` may come
turned : PathTree → (KeyTree → Plan) → Plan
turned a k = may (Word words.Desc) (k (record { path = a; desc = true })) (k (record { path = a; desc = false }))

turned-chooses : (a : PathTree) → Chooses (turned a) (Word words.Desc) (given (record { path = a; desc = true })) (given (record { path = a; desc = false }))
unfolding turned
turned-chooses a = may-choose (Word words.Desc) (given (record { path = a; desc = true })) (given (record { path = a; desc = false }))

path-read : (placed : List Placed) (at end : ℕ) (a : PathTree) → Leads path (given a) placed at end → Leads key (turned a) placed at end
unfolding turned
path-read placed at end a h = record {
  later = h.later;
  within = h.within;
  goes = λ k. h.goes (λ b. may (Word words.Desc) (k (record { path = b; desc = true })) (k (record { path = b; desc = false })));
}

pub returns-in_err-path : goal.returns-in_err-path
returns-in_err-path c =
    let p = err_from_is_err_and c.from_residual.result c.from_residual.ensures.1 in
    rw (p.1, p.2) (λ k. c.in_err-path.ensures (λ b. may (Word words.Desc) (k (record { path = b; desc = true })) (k (record { path = b; desc = false }))))

pub returns-then-is_word : goal.returns-then-is_word
returns-then-is_word c =
    let a : PathTree = path_tree c.in_ok-path.path in
    on-mark c.args.tokens.now c.args.at c.in_ok-path.end (path-read c.args.tokens.now c.args.at c.in_ok-path.end a c.in_ok-path.ensures) (turned-chooses a) (sym c.if-is_word.ensures)

pub returns : goal.returns
returns c =
    let a : PathTree = path_tree c.in_ok-path.path in
    past-mark c.args.tokens.now c.args.at c.in_ok-path.end (path-read c.args.tokens.now c.args.at c.in_ok-path.end a c.in_ok-path.ensures) (turned-chooses a) (sym c.if-is_word.ensures)
