-- Lists of steps, one after the other.
use Rattle.std.proofs.Common.{ℕ, List, [], ◌∷◌, ◌++◌, sym, subst}
use Rattle.smc_shape.specs.Layout.{Layout}
use Rattle.smc_core.specs.declared.call.Choice.{Choice}
use Rattle.smc_core.specs.Machine.{Machine, Leads, Reach, started}

-- lists of steps are joined
pub leads-join : (shape : Layout) (m next last : Machine) (steps later : List (ℕ × Choice)) → Leads shape m steps next → Leads shape next later last → Leads shape m (steps ++ later) last
leads-join shape m next last [] later leads on = subst (λ (k : Machine). Leads shape k later last) (sym leads) on
leads-join shape m next last (step ∷ steps) later (middle, taken, leads) on = (middle, taken, leads-join shape middle next last steps later leads on)

-- what steps lead to from a machine that was reached is reached
pub reach-on : (shape : Layout) (start : List ℕ) (m last : Machine) (steps : List (ℕ × Choice)) → Reach shape start m.row m.locals → Leads shape m steps last → Reach shape start last.row last.locals
reach-on shape start m last steps reached leads = (reached.0 ++ steps, leads-join shape (started shape start) m last reached.0 steps reached.1 leads)
