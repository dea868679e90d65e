use Rattle.std.proofs.Common.{ℕ, ◌+◌, ◌<◌, length, Option, Some, None, sym, arith}
use Rattle.std.proofs.lemmas.Result.{err_from_is_err_and}
use Rattle.smc_tokens.specs.declared.token.Token.TheVariants.{Word}
use Rattle.smc_tokens.specs.declared.reserved.Reserved.TheVariants as words
use Rattle.smc_query.specs.Trees.{CondTree, cond_tree}
use Rattle.smc_query.specs.Machine.{Plan, cond, filter}
use Rattle.smc_parse.specs.Reading.{given}
use Rattle.smc_parse.proofs.LeadLaws.{leads-mark, leads-none, then-leads, then-stops, mark-within, Chooses}
use Rattle.smc_parse.proofs.PartLaws.{may-choose}
use Rattle.smc_parse.proofs.parts.read_filter.Goals as goal

filtered : (Option CondTree → Plan) → CondTree → Plan
filtered k a = k (Some a)

filter-chooses : (d : ℕ) → Chooses (filter d) (Word words.Where) (λ k. cond d (filtered k)) (given None)
unfolding filtered
filter-chooses d = may-choose (Word words.Where) (λ k. cond d (λ a. k (Some a))) (given None)

pub read_cond-requires : goal.read_cond-requires
read_cond-requires c = let h : c.args.at < length c.args.tokens.now = mark-within c.args.tokens.now c.args.at (Word words.Where) (sym c.if-is_word.ensures) in omega arith

pub returns-in_err-cond : goal.returns-in_err-cond
returns-in_err-cond c =
    let p = err_from_is_err_and c.from_residual.result c.from_residual.ensures.1 in
    rw (p.1, p.2)
    (then-stops filtered (filter c.args.depth) (cond c.args.depth) c.args.tokens.now c.args.at (c.args.at + 1) c.in_err-cond.field-0.0
    (leads-mark c.args.tokens.now c.args.at (filter-chooses c.args.depth) (sym c.if-is_word.ensures)) c.in_err-cond.ensures)

pub returns-then-is_word : goal.returns-then-is_word
unfolding filtered
returns-then-is_word c =
    then-leads filtered (filter c.args.depth) (cond c.args.depth) (given (cond_tree c.in_ok-cond.cond)) c.args.tokens.now c.args.at (c.args.at + 1) c.in_ok-cond.end
    (leads-mark c.args.tokens.now c.args.at (filter-chooses c.args.depth) (sym c.if-is_word.ensures)) c.in_ok-cond.ensures

pub returns : goal.returns
returns c = leads-none c.args.tokens.now c.args.at c.requires (filter-chooses c.args.depth) (sym c.if-is_word.ensures)
