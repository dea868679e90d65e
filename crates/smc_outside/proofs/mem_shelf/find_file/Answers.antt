use Rattle.std.proofs.Common.{sym, ◌∙◌}
use Rattle.smc_outside.proofs.ShelfLaws.{named-later}
use Rattle.smc_outside.proofs.mem_shelf.find_file.Goals as goal

pub loop-file-preserved : goal.loop-file-preserved
loop-file-preserved c =
    let other = rw c.as_str.ensures.value at (sym c.eq.ensures ∙ c.if-eq.false) in
    named-later c.args.files.now c.args.name.now c.loop-file.file-index c.file-item.result c.loop-file-test.true c.file-item.is c.loop-file.invariant other
