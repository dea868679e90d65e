-- The epoch of a region, and the epochs that answers name, by how often it was moved on.
use Rattle.std.specs.Prelude.{◌≡◌, ℕ, ◌+◌, ◌≤◌, Some, List, [], ◌∷◌, slice_get, slice_index}
use Rattle.std.specs.List.{AllByRecursion}
use Rattle.smc_shape.specs.Layout.{Layout, IsShape}
use Rattle.smc_shape.specs.Places.{at}
use Rattle.smc_shape.specs.declared.place.Place.TheVariants as place
use Rattle.smc_model.specs.World.{World}
use Rattle.smc_core.specs.declared.done.Done.{Done}
use Rattle.smc_core.specs.declared.done.Done.TheVariants as done
use Rattle.smc_core.specs.declared.local.Answer.{Answer}
use Rattle.smc_core.specs.declared.local.Local.{Local}
use Rattle.smc_core.specs.declared.local.Opening.{Opening}
use Rattle.smc_core.specs.declared.section.TheConstants.{LAST_EPOCH}
use Rattle.smc_core.specs.Machine.{Machine}
use Rattle.smc_rules.specs.History.{History}
use Rattle.smc_trace.specs.Trace.{CallEnd, IsTrace}

-- how often a call with this answer moved the epoch on
abbrev pub moved_by : Done → ℕ
moved_by (done.Advanced epoch) = 1
moved_by _ = 0

-- how often these answers say so
abbrev pub moves_in : List Answer → ℕ
moves_in [] = 0
moves_in (answer ∷ later) = moved_by answer.done + moves_in later

-- and those of all passes
abbrev pub moves_of : List Local → ℕ
moves_of [] = 0
moves_of (l ∷ later) = moves_in l.answers + moves_of later

-- an answer names an epoch from this one to that one; where the last epoch was found, that one is it
abbrev pub NamesWithin : ℕ → ℕ → Done → Type 0
NamesWithin first now (done.Advanced epoch) = (first + 1 ≤ epoch) × (epoch ≤ now)
NamesWithin first now (done.Overtaken epoch) = (first ≤ epoch) × (epoch ≤ now)
NamesWithin first now done.Spent = now ≡ LAST_EPOCH
NamesWithin first now _ = Unit {0}

-- the epoch of the machine is the opening's and one more for each answer that moved it on, and all answers name epochs up to it
pub record CountsEpochs (shape : Layout) (opening : Opening) (m : Machine) : Type 0 where
  pub epoch : slice_index m.row (at shape place.Epoch) ≡ opening.epoch + moves_of m.locals
  pub within : opening.epoch + moves_of m.locals ≤ LAST_EPOCH
  pub named : (pass : ℕ) (l : Local) (calls : List CallEnd) → slice_get m.locals pass ≡ Some l → IsTrace l calls
      → AllByRecursion (λ end. NamesWithin opening.epoch (opening.epoch + moves_of m.locals) end.done) calls

-- so it is at the end of every history
abbrev pub EpochsAreCounted : Type 0
EpochsAreCounted = (shape : Layout) (opening : Opening) (first : World) (m : Machine) → IsShape shape
    → History shape opening first m → CountsEpochs shape opening m
