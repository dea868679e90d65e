use Rattle.std.proofs.lemmas.Int.{to_z-of_z}
use mir.Syntax.{w64}
use Rattle.smc_tbl.proofs.NumberLaws.{minus-not, plain-not, spells-below}
use Rattle.smc_tbl.proofs.numbers.read_amount.Goals as goal

pub returns-in_err-read_hundredths-in-Some-clause-none : goal.returns-in_err-read_hundredths-in-Some-clause-none
returns-in_err-read_hundredths-in-Some-clause-none c =
    rw c.from_residual.ensures (minus-not c.args.text.now c.in-Some.number.now c.in-Some.ensures.some c.in_err-read_hundredths-in-Some.ensures.none)

pub returns-in_err-read_hundredths-in-None-clause-none : goal.returns-in_err-read_hundredths-in-None-clause-none
returns-in_err-read_hundredths-in-None-clause-none c =
    rw c.from_residual-in_err-read_hundredths-in-None.ensures (plain-not c.args.text.now c.in-None.ensures.none c.in_err-read_hundredths-in-None.ensures.none)

pub returns-in_ok-read_hundredths-in-Some-clause-some : goal.returns-in_ok-read_hundredths-in-Some-clause-some
returns-in_ok-read_hundredths-in-Some-clause-some c =
    rw (to_z-of_z w64 c.below_zero.result (record { sfits = c.below_zero.type_inv }))
    (spells-below c.args.text.now c.in-Some.number.now c.in_ok-read_hundredths-in-Some.field-0 c.below_zero.result c.in-Some.ensures.some
    c.in_ok-read_hundredths-in-Some.ensures.some c.below_zero.ensures)
