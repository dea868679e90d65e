use Rattle.smc_tbl.proofs.NumberLaws.{parts-of}
use Rattle.smc_tbl.proofs.numbers.read_hundredths.Goals as goal

pub returns-in_err-whole-clause-none : goal.returns-in_err-whole-clause-none
returns-in_err-whole-clause-none c =
    let cut = c.in-Some.ensures in
    rw c.from_residual-in_err-whole.ensures
    (λ value spells. c.in_err-whole.ensures.none (parts-of c.args.most value c.args.text.now c.in-Some.whole.now c.in-Some.decimals.now cut.cut cut.front spells).whole_digits)

pub returns-in_err-decimals-clause-none : goal.returns-in_err-decimals-clause-none
returns-in_err-decimals-clause-none c =
    let cut = c.in-Some.ensures in
    rw c.from_residual-in_err-decimals.ensures
    (λ value spells. c.in_err-decimals.ensures.none (parts-of c.args.most value c.args.text.now c.in-Some.whole.now c.in-Some.decimals.now cut.cut cut.front spells).decimal_digits)
