use Rattle.std.proofs.Common.{List, ℕ, ◌+◌, ◌<◌, length, Option, Some, None, sym, arith}
use Rattle.std.proofs.lemmas.Result.{err_from_is_err_and}
use Rattle.smc_tokens.specs.declared.token.Token.TheVariants.{Word}
use Rattle.smc_tokens.specs.declared.reserved.Reserved.TheVariants as words
use Rattle.smc_query.specs.Machine.{Plan, name}
use Rattle.smc_parse.specs.Reading.{given}
use Rattle.smc_parse.specs.Parts.{label}
use Rattle.smc_parse.proofs.LeadLaws.{leads-mark, leads-none, then-leads, then-stops, mark-within, Chooses}
use Rattle.smc_parse.proofs.PartLaws.{may-choose}
use Rattle.smc_parse.proofs.item.read_label.Goals as goal

labelled : (Option (List ℕ) → Plan) → List ℕ → Plan
labelled k n = k (Some n)

label-chooses : Chooses label (Word words.As) (λ k. name (labelled k)) (given None)
unfolding labelled
label-chooses = may-choose (Word words.As) (λ k. name (λ n. k (Some n))) (given None)

pub must_name-requires : goal.must_name-requires
must_name-requires c = let h : c.args.at < length c.args.tokens.now = mark-within c.args.tokens.now c.args.at (Word words.As) (sym c.if-is_word.ensures) in omega arith

pub returns-in_err-name : goal.returns-in_err-name
returns-in_err-name c =
    let p = err_from_is_err_and c.from_residual.result c.from_residual.ensures.1 in
    rw (p.1, p.2)
    (then-stops labelled label name c.args.tokens.now c.args.at (c.args.at + 1) c.in_err-name.field-0.0 (leads-mark c.args.tokens.now c.args.at label-chooses (sym c.if-is_word.ensures)) c.in_err-name.ensures)

pub returns-then-is_word : goal.returns-then-is_word
unfolding labelled
returns-then-is_word c =
    then-leads labelled label name (given c.in_ok-name.name) c.args.tokens.now c.args.at (c.args.at + 1) c.in_ok-name.end (leads-mark c.args.tokens.now c.args.at label-chooses (sym c.if-is_word.ensures)) c.in_ok-name.ensures

pub returns : goal.returns
returns c = leads-none c.args.tokens.now c.args.at c.requires label-chooses (sym c.if-is_word.ensures)
