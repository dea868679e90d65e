-- The rule of the table: its words, and the local states in the views of its seats, are a state that the machine reaches.
use Rattle.std.specs.Prelude.{◌≡◌, ℕ, ◌++◌, false, Some, List, length, slice_get}
use Rattle.std.specs.List.{AllByRecursion}
use mathlib.Core.Option.{some}
use lib.ListN.{get_elem?}
use Rattle.smc_shape.specs.Layout.{Layout}
use Rattle.smc_model.specs.declared.event.Event.{Event}
use Rattle.smc_core.specs.declared.call.Call.TheVariants as call
use Rattle.smc_core.specs.declared.call.Choice.{Choice}
use Rattle.smc_core.specs.declared.call.Choice.TheVariants.{Start}
use Rattle.smc_core.specs.declared.local.Local.{Local}
use Rattle.smc_core.specs.declared.local.Opening.{Opening}
use Rattle.smc_core.specs.Machine.{is_learnt}
use Rattle.smc_region.specs.declared.law.NoteSeen.{NoteSeen}
use Rattle.smc_region.specs.declared.law.View.{View}
use Rattle.smc_region.specs.Reached.{IsReached}

-- this seat has the local state of the pass, and no other seat has it
abbrev pub HoldsLocal : Layout → List Local → (ℕ → ℕ) → ℕ → Layout → ℕ × Local → Type 0
HoldsLocal shape locals owner seat told x = (told ≡ shape) × (owner x.0 ≡ seat) × (slice_get locals x.0 ≡ Some x.1)

-- the pass has made a note with this number, when its log was this one
pub record HasNote (locals : List Local) (pass number : ℕ) (log : List Event) : Type 0 where
  pub maker : Local
  pub here : slice_get locals pass ≡ Some maker
  pub made : slice_get maker.notes number ≡ Some (length log)
  pub later : List Event
  pub front : maker.log ≡ log ++ later

-- this seat has the note, no other seat has it, and no pass has learnt it
pub record HoldsNote (locals : List Local) (owner : ℕ → ℕ → ℕ) (seat : ℕ) (note : NoteSeen) : Type 0 where
  pub owned : owner note.pass note.number ≡ seat
  pub has : HasNote locals note.pass note.number note.log
  pub unlearnt : is_learnt locals note.pass note.number ≡ false

-- what a seat knows is so
pub record Fits (shape : Layout) (locals : List Local) (owner : ℕ → ℕ) (noter : ℕ → ℕ → ℕ) (seat : ℕ) (view : View) : Type 0 where
  pub passes : AllByRecursion (HoldsLocal shape locals owner seat view.shape) view.locals
  pub notes : AllByRecursion (HoldsNote locals noter seat) view.notes

-- some local states make up a state that is reached with these words, and what each seat knows of them is so
pub record Kept (shape : Layout) (opening : Opening) (words : List ℕ) (views : List View) : Type 0 where
  pub locals : List Local
  pub owner : ℕ → ℕ
  pub noter : ℕ → ℕ → ℕ
  pub reached : IsReached shape opening words locals
  pub fits : (seat : ℕ) (view : View) → get_elem? views seat ≡ some view → Fits shape locals owner noter seat view

-- no other pass has a say in the choice: it learns no note
abbrev pub IsOwn : Choice → Type 0
IsOwn (Start (call.Learn other note)) = ⊥
IsOwn choice = Unit {0}
