use Rattle.std.proofs.Common.{ℕ, ◌+◌, ◌<◌, length, Option, Some, None, sym, arith}
use Rattle.std.proofs.lemmas.Result.{err_from_is_err_and}
use Rattle.smc_tokens.specs.declared.token.Token.TheVariants.{Word}
use Rattle.smc_tokens.specs.declared.reserved.Reserved.TheVariants as words
use Rattle.smc_query.specs.Machine.{Plan, whole, first}
use Rattle.smc_parse.specs.Reading.{given}
use Rattle.smc_parse.proofs.LeadLaws.{leads-mark, leads-none, then-leads, then-misses, mark-within, Chooses}
use Rattle.smc_parse.proofs.PartLaws.{may-choose}
use Rattle.smc_parse.proofs.parts.read_first.Goals as goal

counted : (Option ℕ → Plan) → ℕ → Plan
counted k n = k (Some n)

first-chooses : Chooses first (Word words.First) (λ k. whole (counted k)) (given None)
unfolding counted
first-chooses = may-choose (Word words.First) (λ k. whole (λ n. k (Some n))) (given None)

pub must_whole-requires : goal.must_whole-requires
must_whole-requires c = let h : c.args.at < length c.args.tokens.now = mark-within c.args.tokens.now c.args.at (Word words.First) (sym c.if-is_word.ensures) in omega arith

pub returns-in_err-count : goal.returns-in_err-count
returns-in_err-count c =
    let p = err_from_is_err_and c.from_residual.result c.from_residual.ensures.1 in
    rw (p.1, p.2)
    (then-misses counted first whole c.args.tokens.now c.args.at (c.args.at + 1) c.in_err-count.field-0.0 (leads-mark c.args.tokens.now c.args.at first-chooses (sym c.if-is_word.ensures)) c.in_err-count.ensures)

pub returns-then-is_word : goal.returns-then-is_word
unfolding counted
returns-then-is_word c =
    then-leads counted first whole (given c.in_ok-count.count) c.args.tokens.now c.args.at (c.args.at + 1) c.in_ok-count.end
    (leads-mark c.args.tokens.now c.args.at first-chooses (sym c.if-is_word.ensures)) c.in_ok-count.ensures

pub returns : goal.returns
returns c = leads-none c.args.tokens.now c.args.at c.requires first-chooses (sym c.if-is_word.ensures)
