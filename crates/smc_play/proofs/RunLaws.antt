-- A call that goes on ends.
use Rattle.std.proofs.Common.{ℕ, ◌<◌, sym, subst}
use Rattle.smc_shape.specs.Layout.{Layout, IsShape}
use Rattle.smc_core.specs.declared.call.Choice.TheVariants.{Go}
use Rattle.smc_inv_bound.specs.Left.{left_of, widest}
use Rattle.smc_inv_bound.proofs.StepLaws.{step-falls}
use Rattle.smc_play.specs.Turns.{Playing, Turn}

-- each step of it leaves fewer
pub turn-falls : (p q : Playing) (pass : ℕ) → IsShape p.running.shape → Turn p pass Go q
    → left_of q.running.shape widest q.running.machine pass < left_of p.running.shape widest p.running.machine pass
turn-falls p q pass valid turn =
    subst (λ (shape : Layout). left_of shape widest q.running.machine pass < left_of p.running.shape widest p.running.machine pass) (sym turn.shape)
    (step-falls p.running.shape valid p.running.machine q.running.machine pass turn.steps)
