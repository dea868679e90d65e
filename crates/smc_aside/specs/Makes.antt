-- A pass makes a call, from its first step to its last, while the others stand aside.
use Rattle.std.specs.Prelude.{◌≡◌, ℕ, ◌==◌, Some, List, [], ◌∷◌, ◌++◌, length, replicate, slice_get, if◌then◌else◌}
use Rattle.smc_shape.specs.Layout.{Layout}
use Rattle.smc_core.specs.declared.call.Call.{Call}
use Rattle.smc_core.specs.declared.call.Choice.{Choice}
use Rattle.smc_core.specs.declared.call.Choice.TheVariants.{Start, Go}
use Rattle.smc_core.specs.declared.done.Done.{Done}
use Rattle.smc_core.specs.declared.local.Local.{Local}
use Rattle.smc_core.specs.Machine.{Machine, Leads}
use Rattle.smc_aside.specs.Aside.{IsUndisturbed}

-- what this pass chooses in the steps
abbrev pub own_choices : ℕ → List (ℕ × Choice) → List Choice
own_choices pass [] = []
own_choices pass (step ∷ later) = if step.0 == pass then step.1 ∷ own_choices pass later else own_choices pass later

-- from one machine to the other the pass has kept this one answer more
pub record HasAnswered (m last : Machine) (pass : ℕ) (answer : Done) : Type 0 where
  pub before : Local
  pub after : Local
  pub here : slice_get m.locals pass ≡ Some before
  pub now : slice_get last.locals pass ≡ Some after
  pub kept : after.answers ≡ before.answers ++ record { length = length after.log; done = answer } ∷ []

-- steps of this pass make the call and end it with this answer, and all other steps are of passes that stand aside
pub record Makes (shape : Layout) (pass : ℕ) (call : Call) (answer : Done) (m last : Machine) : Type 0 where
  pub steps : List (ℕ × Choice)
  pub leads : Leads shape m steps last
  pub undisturbed : IsUndisturbed pass steps
  pub more : ℕ
  pub choices : own_choices pass steps ≡ Start call ∷ replicate more Go
  pub answered : HasAnswered m last pass answer
