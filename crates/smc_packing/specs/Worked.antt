-- Worked drives: one that moves an object, and one that finds nothing to do.
use Rattle.std.specs.Prelude.{ℕ, IsSomeAnd, [], ◌∷◌}
use Rattle.smc_shape.specs.Layout.{Layout}
use Rattle.smc_core.specs.declared.call.Call.TheVariants.{Add, Enter, Leave}
use Rattle.smc_model.specs.World.{empty_world}
use Rattle.smc_core.specs.Machine.{Machine}
use Rattle.smc_core.specs.Played.{Calls, Schedule, played, shape_of}
use Rattle.smc_inv_epoch.specs.Epochs.{opening_of}
use Rattle.smc_packing.specs.Packing.{HasState, IsPacked}

-- two objects, each in a block of its own
abbrev pub in_two_blocks : Schedule
in_two_blocks = record {
  passes = 2;
  width = 1;
  slots = 128;
  epoch = 5;
  incarnation = 0;
  lines = Calls 0 Enter ∷ Calls 0 (Add 0 0 (11 ∷ [])) ∷ Calls 0 (Add 0 64 (22 ∷ [])) ∷ Calls 0 Leave ∷ [];
}

-- two objects in one block
abbrev pub in_one_block : Schedule
in_one_block = record {
  passes = 2;
  width = 1;
  slots = 128;
  epoch = 5;
  incarnation = 0;
  lines = Calls 0 Enter ∷ Calls 0 (Add 0 0 (11 ∷ [])) ∷ Calls 0 (Add 0 1 (22 ∷ [])) ∷ Calls 0 Leave ∷ [];
}

-- from where the schedule leads pass 0 makes this of the collection, and its objects are packed then
abbrev pub PacksAfter : (Layout → ℕ → ℕ → Machine → Machine → Type 0) → Schedule → Type 0
PacksAfter Makes s = IsSomeAnd (played s) (λ m. (last : Machine) × Makes (shape_of s) 0 0 m last × HasState (shape_of s) (opening_of s) empty_world last (IsPacked (shape_of s) 0))
