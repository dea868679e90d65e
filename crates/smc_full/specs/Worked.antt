-- Worked pairs of tries: one in a collection with room, and one where each slot has an object.
use Rattle.std.specs.Prelude.{ℕ, zero, suc, ◌+◌, IsSomeAnd, List, [], ◌∷◌}
use Rattle.smc_core.specs.declared.call.Call.TheVariants.{Add, Enter, Leave}
use Rattle.smc_core.specs.declared.done.Done.{Done}
use Rattle.smc_model.specs.World.{empty_world}
use Rattle.smc_core.specs.Played.{Line, Calls, Schedule, played, shape_of}
use Rattle.smc_inv_epoch.specs.Epochs.{opening_of}
use Rattle.smc_full.specs.Laws.{IsTriedTwice}

-- nothing has been added
abbrev pub with_room : Schedule
with_room = record { passes = 2; width = 1; slots = 64; epoch = 5; incarnation = 0; lines = Calls 0 Enter ∷ Calls 0 Leave ∷ [] }

-- so many objects are added from this slot on, and the pass leaves
abbrev pub fills : ℕ → ℕ → List Line
fills from zero = Calls 0 Leave ∷ []
fills from (suc more) = Calls 0 (Add 0 from (1 ∷ [])) ∷ fills (from + 1) more

-- as many as there are slots
abbrev pub without_room : Schedule
without_room = record { passes = 2; width = 1; slots = 64; epoch = 5; incarnation = 0; lines = Calls 0 Enter ∷ fills 0 64 }

-- from where the schedule leads pass 0 tries twice, and its tries end with these answers
abbrev pub TriedAfter : Done → Done → Schedule → Type 0
TriedAfter first second s = IsSomeAnd (played s) (λ m. IsTriedTwice (shape_of s) (opening_of s) empty_world 0 0 m first second)
