-- What is proved of what passes do.
use Rattle.std.specs.Prelude.{◌≡◌, ℕ, Some, List, ◌++◌, Contains}
use Rattle.atomic_table.specs.Seated.{TableId}
use Rattle.smc_shape.specs.Layout.{Layout}
use Rattle.smc_core.specs.declared.local.Held.{Held}
use Rattle.smc_core.specs.declared.local.Local.{Local}
use Rattle.smc_core.specs.Offer.{held_slot}
use Rattle.smc_region.specs.Callers.{Caller, new_caller}
use Rattle.smc_region.specs.Reached.{From}
use Rattle.smc_region.specs.Views.{one}
use Rattle.smc_trace.specs.Trace.{CallEnd, IsTrace}
use Rattle.smc_does.specs.Does.{Does, Stays}

-- one thing done after the other
abbrev pub DoesThen : Type 0
DoesThen = (first middle last : Caller) (calls later : List CallEnd) → Does first middle calls → Does middle last later → Does first last (calls ++ later)

-- a section that goes on, and then goes on
abbrev pub StaysThen : Type 0
StaysThen = (first middle last : Caller) → Stays first middle → Stays middle last → Stays first last

-- what a pass has done since it was new is its trace
abbrev pub DoesAll : Type 0
DoesAll = (table : TableId) (shape : Layout) (number : ℕ) (pass : Caller) (calls : List CallEnd) → Does (new_caller table shape number) pass calls → IsTrace pass.local calls

-- what a section holds it holds once: all pairs of one number agree, so each is what a look-up among them finds
abbrev pub HeldOnce : Type 0
HeldOnce = (shape : Layout) (pass : ℕ) (l : Local) → From (one shape pass l) → (x : Held) → Contains l.stand.held x → held_slot l.stand.held x.number ≡ Some x.slot
