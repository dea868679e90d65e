use Rattle.std.proofs.Common.{sym, ◌∙◌}
use Rattle.smc_tokens.proofs.SignLaws.{pair_found, byte_found, sign_none}
use Rattle.smc_tokens.proofs.read.read_sign.Goals as goal

pub returns-in-Some : goal.returns-in-Some
returns-in-Some c = let (takes, ascii) = pair_found _ _ c.requires.other (sym c.pair_at.ensures ∙ c.in-Some.is) in record { takes = takes; ascii = ascii }

pub returns-in-Some-of_byte : goal.returns-in-Some-of_byte
returns-in-Some-of_byte c =
    let (takes, ascii) = byte_found _ _ c.requires.some c.requires.other (sym c.pair_at.ensures ∙ c.in_default.is) (sym c.of_byte.ensures ∙ c.in-Some-of_byte.is) in
    record { takes = takes; ascii = ascii }

pub returns-in-None : goal.returns-in-None
returns-in-None c = sign_none _ c.requires.other (sym c.pair_at.ensures ∙ c.in_default.is) (sym c.of_byte.ensures ∙ c.in-None.is)
