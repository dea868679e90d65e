use Rattle.std.proofs.Common.{◌+◌, length, ap}
use Rattle.smc_tokens.proofs.DigitLaws.{room_whole, room_decimals}
use Rattle.smc_tokens.proofs.NumberLaws.{number_found}
use Rattle.smc_tokens.proofs.number.read_number.Goals as goal

pub digits_onto-requires-clause-room : goal.digits_onto-requires-clause-room
digits_onto-requires-clause-room c = room_whole _ c.first_digits-whole.ensures.few

pub digits_onto-requires-2-clause-room : goal.digits_onto-requires-2-clause-room
digits_onto-requires-2-clause-room c = room_decimals _ _ _ c.first_digits-whole.ensures.few c.digits_onto.ensures.bound c.decimals_in-decimals.ensures.few

pub returns : goal.returns
returns c =
    let (takes, ascii) = number_found _ _ _ _ _ _ _ c.requires.digit c.requires.no_date c.first_digits-whole.ensures.value c.split_at.ensures.back
    c.decimals_in-decimals.ensures.value c.digits_onto.ensures.value c.digits_onto-2.ensures.value
    (ap (λ n. length c.first_digits-whole.result.now + n) c.fraction_len.ensures) in
    record { takes = takes; ascii = ascii }
