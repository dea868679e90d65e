-- What a pass is to do for a choice.
use Rattle.std.specs.Prelude.{◌≡◌, ℕ, ◌<◌, false, Some, List, slice_get}
use Rattle.smc_shape.specs.Layout.{Layout}
use Rattle.smc_core.specs.declared.call.Choice.{Choice}
use Rattle.smc_core.specs.declared.local.Local.{Local}
use Rattle.smc_core.specs.Machine.{local_offer, told_by}
use Rattle.smc_machine.specs.declared.machine.Chosen.{Chosen}
use Rattle.smc_machine.specs.Faults.{is_spent}

-- the pass offers this step, the other passes allow it, and it is not one more of what the pass has begun the most of
pub record IsChosen (shape : Layout) (locals : List Local) (pass : ℕ) (choice : Choice) (chosen : Chosen) : Type 0 where
  pub here : pass < shape.passes
  pub offers : (l : Local) → slice_get locals pass ≡ Some l → local_offer shape pass l choice ≡ Some chosen.offer
  pub allows : told_by locals pass choice ≡ Some chosen.told
  pub counts : (l : Local) → slice_get locals pass ≡ Some l → is_spent l.stand choice ≡ false
