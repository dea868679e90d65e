-- What a step on the table rests on: the region is in a state that the machine reaches.
use Rattle.std.specs.Prelude.{◌≡◌, ◌⊎◌, ℕ, ◌≤◌, ◌<◌, Some, List, slice_get}
use Rattle.std.specs.List.{AllByRecursion}
use Rattle.smc_shape.specs.Layout.{Layout, IsShape}
use Rattle.smc_shape.specs.declared.place.Place.TheVariants as place
use Rattle.smc_core.specs.declared.call.Choice.{Choice}
use Rattle.smc_core.specs.declared.local.Local.{Local}
use Rattle.smc_core.specs.declared.local.Opening.{Opening}
use Rattle.smc_core.specs.declared.op.Op.{Op}
use Rattle.smc_core.specs.declared.op.Op.TheVariants.{Load, Store, Exchange, MarkGone}
use Rattle.smc_core.specs.declared.word.Word.{Word}
use Rattle.smc_core.specs.Local.{after}
use Rattle.smc_core.specs.Machine.{Machine, local_offer}
use Rattle.smc_core.specs.Row.{number_at, place_of, row_shows}
use Rattle.smc_model.specs.World.{empty_world}
use Rattle.smc_rules.specs.History.{History}
use Rattle.smc_region.specs.declared.law.View.{View}
use Rattle.smc_region.specs.Views.{one, op_of}

-- the machine has a history: a start without objects, as a region is opened, and the steps since
unfoldable pub HasHistory : Layout → Opening → Machine → Type 0
HasHistory shape opening m = History shape opening empty_world m

-- this row and these local states have one
pub record IsReached (shape : Layout) (opening : Opening) (row : List ℕ) (locals : List Local) : Type 0 where
  pub valid : IsShape shape
  pub history : HasHistory shape opening (record { row = row; locals = locals })

-- the pass has this local state there
abbrev pub StandsIn : List Local → ℕ × Local → Type 0
StandsIn locals told = slice_get locals told.0 ≡ Some told.1

-- some state that is reached has the local states of this view
pub record From (view : View) : Type 0 where
  pub opening : Opening
  pub machine : Machine
  pub reached : IsReached view.shape opening machine.row machine.locals
  pub stands : AllByRecursion (StandsIn machine.locals) view.locals

-- what a step rests on: such a state, or nothing where it loads the epoch, as the first step of a call outside a section does
abbrev pub RestsOn : View → Op → Type 0
RestsOn view op = From view ⊎ (op ≡ Load place.Epoch)

-- some state that is reached has the local states of this view, and there the operation shows this word
pub record Saw (view : View) (op : Op) (w : Word) : Type 0 where
  pub from : From view
  pub is : w ≡ row_shows view.shape op from.machine.row

-- the number of a word that an operation answers: what it found there, and 0 where it stored
abbrev pub answered_number : Op → ℕ → ℕ
answered_number (Load there) number = number
answered_number (Store there w) number = 0
answered_number (Exchange there expect w) number = number
answered_number (MarkGone coll entry) number = number

-- some state that is reached has the local states of this view, and there the operation answers this number
pub record Showed (view : View) (op : Op) (number : ℕ) : Type 0 where
  pub from : From view
  pub is : number ≡ answered_number op (number_at view.shape from.machine.row (place_of op))

-- a step that the pass took when it stood so: for some choice it offered this operation, the operation showed this word, and the
-- pass stood so next. Behind how many own steps it was, the local state before it tells
pub record Took (shape : Layout) (pass : ℕ) (before : Local) (op : Op) (seen : Word) (next : Local) : Type 0 where
  pub choice : Choice
  pub offered : op_of (local_offer shape pass before choice) ≡ Some op
  pub saw : Saw (one shape pass before) op seen
  pub leads : next ≡ after shape pass before choice 0 seen

-- a step of a call: one behind so many own steps of the pass and before so many was this operation, and showed this word. Every cause that
-- is to lie within a call is told by it
pub record TookIn (shape : Layout) (pass first last : ℕ) (op : Op) (seen : Word) : Type 0 where
  pub before : Local
  pub next : Local
  pub took : Took shape pass before op seen next
  pub since : first ≤ before.steps
  pub until : before.steps < last
