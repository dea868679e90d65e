use Rattle.std.proofs.Common.{arith}
use Rattle.smc_meaning.proofs.TextOrders.{length-text_of}
use Rattle.smc_meaning.proofs.text.TextIn.byte.Goals as goal

pub text_byte-requires : goal.text_byte-requires
text_byte-requires c =
    let within = rw c.in-Words.is at c.requires in
    omega (arith, within, length-text_of c.in-Words.width c.in-Words.words.now)
