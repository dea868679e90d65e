-- Why a step is refused.
use Rattle.std.specs.Prelude.{◌≡◌, ◌==◌, ℕ, ◌<◌, ◌≤◌, Bool, true, false, Option, Some, None, IsSome, slice_get}
use Rattle.smc_core.specs.declared.call.Call.TheVariants as call
use Rattle.smc_core.specs.declared.call.Choice.{Choice}
use Rattle.smc_core.specs.declared.call.Choice.TheVariants.{Start}
use Rattle.smc_core.specs.declared.local.Local.{Local}
use Rattle.smc_core.specs.declared.local.Stand.{Stand}
use Rattle.smc_core.specs.Machine.{Machine}
use Rattle.smc_core.specs.Played.{step_of}
use Rattle.smc_machine.specs.declared.step.StepFault.{StepFault}
use Rattle.smc_machine.specs.declared.step.StepFault.TheVariants.{NoPass, NotOffered, CountSpent, NoMemory}
use Rattle.smc_machine.specs.declared.step.TheConstants.{MOST_BEGUN}
use Rattle.smc_machine.specs.Running.{Running}

-- whether the choice is one more of what the pass has begun, or made, the most of
abbrev pub is_spent : Stand → Choice → Bool
is_spent stand (Start (call.Scan coll)) = stand.begun == MOST_BEGUN
is_spent stand (Start call.Note) = stand.noted == MOST_BEGUN
is_spent stand choice = false

-- whether it is so where there is such a pass
abbrev pub is_spent_in : Option Local → Choice → Bool
is_spent_in None choice = false
is_spent_in (Some l) choice = is_spent l.stand choice

-- whether it is so for this pass of the machine
abbrev pub is_spent_by : Running → ℕ → Choice → Bool
is_spent_by m pass choice = is_spent_in (slice_get m.machine.locals pass) choice

-- the machine after the step, if the pass offers one
abbrev pub next_of : Running → ℕ → Choice → Option Machine
next_of m pass choice = step_of m.shape m.machine pass choice

-- nothing but want of memory keeps the pass from taking a step
pub record IsAllowed (m : Running) (pass : ℕ) (choice : Choice) : Type 0 where
  pub here : pass < m.shape.passes
  pub offered : IsSome (next_of m pass choice)
  pub counts : is_spent_by m pass choice ≡ false

-- why the step is refused: of these causes the first counts
abbrev pub IsRefused : Running → ℕ → Choice → StepFault → Type 0
IsRefused m pass choice NoPass = m.shape.passes ≤ pass
IsRefused m pass choice NotOffered = (pass < m.shape.passes) × (next_of m pass choice ≡ None)
IsRefused m pass choice CountSpent = (pass < m.shape.passes) × IsSome (next_of m pass choice) × (is_spent_by m pass choice ≡ true)
IsRefused m pass choice NoMemory = IsAllowed m pass choice

-- it is refused, and not for want of memory
abbrev pub IsRefusedFirst : Running → ℕ → Choice → StepFault → Type 0
IsRefusedFirst m pass choice NoMemory = ⊥
IsRefusedFirst m pass choice fault = IsRefused m pass choice fault
