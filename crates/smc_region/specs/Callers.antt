-- What callers see of a pass, and what each of its calls leaves.
use Rattle.std.specs.Prelude.{◌≡◌, ℕ, ◌+◌, ◌<◌, Bool, [], ◌∷◌, ◌++◌, length}
use Rattle.atomic_table.specs.Seated.{TableId}
use Rattle.atomic_table.specs.Table.{Me}
use Rattle.smc_shape.specs.Layout.{Layout}
use Rattle.smc_model.specs.declared.event.Event.TheVariants as event
use Rattle.smc_core.specs.declared.done.Done.{Done}
use Rattle.smc_core.specs.declared.done.Done.TheVariants as done
use Rattle.smc_core.specs.declared.local.Local.{Local}
use Rattle.smc_core.specs.declared.phase.Phase.TheVariants.{Idle}
use Rattle.smc_core.specs.declared.section.Section.TheVariants.{Outside, Inside}
use Rattle.smc_core.specs.Local.{fresh}
use Rattle.smc_region.specs.declared.law.View.{View}
use Rattle.smc_region.specs.declared.region.Region.{Region}
use Rattle.smc_region.specs.Views.{one, sole}

-- a pass of a table with this shape: its number, and what it knows
pub record Caller : Type 0 where
  pub table : TableId
  pub shape : Layout
  pub number : ℕ
  pub local : Local

-- the pass that a seat stands for
abbrev pub caller_of : ℕ → TableId → Me (Unit {0}) View → Caller
caller_of number table me = record { table = table; shape = me.0.shape; number = number; local = sole me.0.shape me.0.locals }

-- a pass that has done nothing yet
abbrev pub new_caller : TableId → Layout → ℕ → Caller
new_caller table shape number = record { table = table; shape = shape; number = number; local = fresh shape }

-- the seat is that of this pass alone
pub record IsSeatOf (number : ℕ) (me : Me (Unit {0}) View) : Type 0 where
  pub is : me ≡ (one me.0.shape number (sole me.0.shape me.0.locals), [])
  pub below : number < me.0.shape.passes

-- it is a pass of the region
abbrev pub IsPassOf : Region → Caller → Type 0
IsPassOf region pass = (pass.table ≡ region.table.shared.table_id) × (pass.shape ≡ region.about.shape)

-- it is still that pass of that region
abbrev pub IsSame : Caller → Caller → Type 0
IsSame old new = (new.table ≡ old.table) × (new.shape ≡ old.shape) × (new.number ≡ old.number)

-- the pass is outside a section, with no call in progress and no scan
pub record IsOutside (l : Local) : Type 0 where
  pub phase : l.stand.phase ≡ Idle
  pub section : l.stand.section ≡ Outside
  pub scans : l.stand.scans ≡ []

-- an enter adds its event and keeps its answer
abbrev pub entered : Local → ℕ → Bool → Local
entered l epoch calm = record {
  stand = record l.stand { section = Inside epoch calm; phase = Idle };
  log = l.log ++ event.Enter ∷ [];
  answers = l.answers ++ record { length = length (l.log ++ event.Enter ∷ []); done = done.At epoch } ∷ [];
  notes = l.notes;
  learnt = l.learnt;
  cursors = l.cursors;
  steps = l.steps + 5;
}

-- a leave does so too, and nothing is held any more
abbrev pub left : Local → Local
left l = record {
  stand = record l.stand { section = Outside; phase = Idle; held = []; scans = [] };
  log = l.log ++ event.Leave ∷ [];
  answers = l.answers ++ record { length = length (l.log ++ event.Leave ∷ []); done = done.Out } ∷ [];
  notes = l.notes;
  learnt = l.learnt;
  cursors = l.cursors;
  steps = l.steps + 1;
}

-- a call that adds no event and keeps this answer, when the pass has taken so many steps in all
abbrev pub answered_by : Local → ℕ → Done → Local
answered_by l steps answer = record {
  stand = record l.stand { phase = Idle };
  log = l.log;
  answers = l.answers ++ record { length = length l.log; done = answer } ∷ [];
  notes = l.notes;
  learnt = l.learnt;
  cursors = l.cursors;
  steps = steps;
}
