use Rattle.std.proofs.Common.{sym, subst}
use Rattle.smc_model.specs.World.{World, HasField}
use Rattle.smc_model.proofs.WorldLaws.{HasField-empty}
use Rattle.smc_model.proofs.model.tests.a_total_may_pass_a_word.Goals as goal

pub total-requires : goal.total-requires
total-requires g c = subst (λ (world : World). HasField world 0 1) (sym c.new-model.ensures) (HasField-empty 0 1)

pub add_largest-requires : goal.add_largest-requires
add_largest-requires g c = subst (λ (world : World). HasField world 0 1) (sym c.new-model.ensures) (HasField-empty 0 1)
