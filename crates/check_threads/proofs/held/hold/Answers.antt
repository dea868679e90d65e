use Rattle.smc_does.proofs.Bridges.{look-holds}
use Rattle.check_threads.proofs.held.hold.Goals as goal

pub read-word-requires-clause-good : goal.read-word-requires-clause-good
read-word-requires-clause-good c = look-holds c.enter-section.result c.deref.new.self c.in-Ok.number c.in_ok-held.held c.in_ok-held.ensures.number c.in_ok-held.ensures.looks
