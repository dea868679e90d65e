use Rattle.smc_bounds.proofs.WholeLaws.{scans-bounded}
use Rattle.smc_bounds.proofs.laws.a_scan_is_bounded.Goals as goal

pub returns : goal.returns
returns c shape opening world m next last steps pass coll first now valid h here step leads there =
    scans-bounded shape opening world m next last steps pass coll first now valid h here step leads there
