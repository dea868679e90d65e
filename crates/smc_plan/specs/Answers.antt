-- Answers of the planner, beside what the definitions give.
use Rattle.std.specs.Prelude.{◌≡◌, ◌⊎◌, Result, Ok, Err}
use Rattle.smc_plan.specs.declared.fault.PlanFault.{PlanFault}
use Rattle.smc_plan.specs.declared.fault.PlanFault.TheVariants.{NoMemory}

-- one step, and then another that goes by what the first gave; the first fault is that of both
abbrev pub and_then : {A B : Type 0} → Result A PlanFault → (A → Result B PlanFault) → Result B PlanFault
and_then (Ok made) later = later made
and_then (Err fault) later = Err fault

-- the answer, in this view, is what is meant, or the fault that is meant; want of memory says nothing of the query
abbrev pub Answers : {X A : Type 0} → (X → A) → Result X PlanFault → Result A PlanFault → Type 0
Answers view (Ok answer) meant = meant ≡ Ok (view answer)
Answers view (Err fault) meant = (fault ≡ NoMemory) ⊎ (meant ≡ Err fault)
