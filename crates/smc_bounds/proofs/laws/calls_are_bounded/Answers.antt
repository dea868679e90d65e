use Rattle.smc_bounds.proofs.BoundLaws.{calls-bounded}
use Rattle.smc_bounds.proofs.laws.calls_are_bounded.Goals as goal

pub returns : goal.returns
returns c shape opening world m last steps pass more started first now valid h leads own here there =
    calls-bounded shape opening world m last steps pass more started first now valid h leads own here there
