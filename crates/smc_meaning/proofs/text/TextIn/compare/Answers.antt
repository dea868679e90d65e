use Rattle.std.proofs.Common.{arith}
use Rattle.smc_meaning.specs.Texts.{bytes_in}
use Rattle.smc_meaning.proofs.TextOrders.{slice_cmp-end}
use Rattle.smc_meaning.proofs.text.TextIn.compare.Goals as goal

pub returns : goal.returns
returns c =
    let end = slice_cmp-end (bytes_in c.args.self) (bytes_in c.args.other) c.loop-place.place (omega arith) in
    cc
