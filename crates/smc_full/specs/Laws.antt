-- What is proved of a pass that tries to add an object twice.
use Rattle.std.specs.Prelude.{◌↔◌, ℕ}
use Rattle.smc_shape.specs.Layout.{Layout, IsShape}
use Rattle.smc_model.specs.World.{World}
use Rattle.smc_core.specs.declared.done.Done.{Done}
use Rattle.smc_core.specs.declared.local.Opening.{Opening}
use Rattle.smc_core.specs.Machine.{Machine}
use Rattle.smc_rules.specs.History.{History, history_state}
use Rattle.smc_rules.specs.State.{State}
use Rattle.smc_aside.specs.Aside.{IsAlone}
use Rattle.smc_full.specs.Full.{TriesTwice, IsFull, EachSlotHolds, NoneSpent}

-- a pass that is alone, behind a history from this world, tries to add an object twice
pub record IsTriedTwice (shape : Layout) (opening : Opening) (world : World) (pass coll : ℕ) (m : Machine) (first second : Done) : Type 0 where
  pub valid : IsShape shape
  pub history : History shape opening world m
  pub alone : IsAlone pass m
  pub tries : TriesTwice shape pass coll m first second

-- this holds of the state of each history of this machine
abbrev pub Holds : Layout → Opening → World → Machine → (State → Type 0) → Type 0
Holds shape opening world m Fact = (h : History shape opening world m) → Fact (history_state h)

-- the second try is refused exactly where each slot has an object then, if no entry is spent
abbrev pub SecondIsExact : Type 0
SecondIsExact = (shape : Layout) (opening : Opening) (world : World) (pass coll : ℕ) (m : Machine) (first second : Done) (tried : IsTriedTwice shape opening world pass coll m first second)
    → Holds shape opening world tried.tries.again (λ s. NoneSpent shape s coll → IsFull second ↔ EachSlotHolds shape s coll)

-- both tries are refused exactly where each slot has an object at the first one, if no entry is spent
abbrev pub BothAreExact : Type 0
BothAreExact = (shape : Layout) (opening : Opening) (world : World) (pass coll : ℕ) (m : Machine) (first second : Done) (tried : IsTriedTwice shape opening world pass coll m first second)
    → Holds shape opening world tried.tries.entered (λ s. NoneSpent shape s coll → (IsFull first × IsFull second) ↔ EachSlotHolds shape s coll)

-- where each slot has an object at the first try both are refused, spent entries or not
abbrev pub FullRefusesBoth : Type 0
FullRefusesBoth = (shape : Layout) (opening : Opening) (world : World) (pass coll : ℕ) (m : Machine) (first second : Done) (tried : IsTriedTwice shape opening world pass coll m first second)
    → Holds shape opening world tried.tries.entered (λ s. EachSlotHolds shape s coll → IsFull first × IsFull second)
