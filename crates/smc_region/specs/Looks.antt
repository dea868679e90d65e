-- What a look-up tells, and when it tells that there is no such object.
use Rattle.std.specs.Prelude.{◌≡◌, ◌⊎◌, ℕ, ◌+◌, ◌*◌, Bool, true, false, Option, Some, None, [], ◌∷◌, ◌++◌, length}
use Rattle.smc_words.specs.declared.number.Number.{Number}
use Rattle.smc_shape.specs.Layout.{Layout}
use Rattle.smc_shape.specs.declared.place.Place.TheVariants as place
use Rattle.smc_model.specs.declared.event.Event.TheVariants as event
use Rattle.smc_core.specs.declared.call.Choice.TheVariants.{Go}
use Rattle.smc_core.specs.declared.done.Done.TheVariants as done
use Rattle.smc_core.specs.declared.local.Local.{Local}
use Rattle.smc_core.specs.declared.op.Op.{Op}
use Rattle.smc_core.specs.declared.phase.Phase.{Phase}
use Rattle.smc_core.specs.declared.phase.Phase.TheVariants as phase
use Rattle.smc_core.specs.declared.phase.objects.Finding.{Finding}
use Rattle.smc_core.specs.declared.phase.objects.Finding.TheVariants.{Absent, Stays}
use Rattle.smc_core.specs.declared.phase.objects.LookPhase.TheVariants as look
use Rattle.smc_core.specs.declared.phase.objects.Seeker.{Seeker}
use Rattle.smc_core.specs.declared.phase.objects.Seeker.TheVariants as seeker
use Rattle.smc_core.specs.declared.word.Word.{Word}
use Rattle.smc_core.specs.Local.{answered, held_after, logged}
use Rattle.smc_core.specs.Look.{copy_field, look_change, seeker_of}
use Rattle.smc_core.specs.Row.{place_of, has_place}
use Rattle.smc_core.specs.Scan.{look_scans}
use Rattle.smc_core.specs.Words.{has_object, state_of}
use Rattle.smc_region.specs.declared.held.Held.{Held}
use Rattle.smc_region.specs.Callers.{Caller}
use Rattle.smc_region.specs.Reached.{Took}

-- a look-up that finds no object, when the pass has taken so many steps in all
abbrev pub missed : Local → Number → ℕ → Local
missed l number steps = record {
  stand = record l.stand { phase = phase.Idle };
  log = l.log ++ event.Look number false ∷ [];
  answers = l.answers ++ record { length = length (l.log ++ event.Look number false ∷ []); done = done.Null } ∷ [];
  notes = l.notes;
  learnt = l.learnt;
  cursors = l.cursors;
  steps = steps;
}

-- one that finds it in this slot, where the section holds it from now on
abbrev pub found : Local → Number → ℕ → ℕ → Local
found l number slot steps = record {
  stand = record l.stand { phase = phase.Idle; held = record { number = number; slot = slot } ∷ l.stand.held };
  log = l.log ++ event.Look number true ∷ [];
  answers = l.answers ++ record { length = length (l.log ++ event.Look number true ∷ []); done = done.Here slot } ∷ [];
  notes = l.notes;
  learnt = l.learnt;
  cursors = l.cursors;
  steps = steps;
}

-- the slot of what was found, if it was
abbrev pub slot_found : Option Held → Option ℕ
slot_found None = None
slot_found (Some held) = Some held.place

-- what the look-up that answers this leaves of the pass
abbrev pub LooksUp : Option ℕ → Number → Local → Local → Type 0
LooksUp None number old new = new ≡ missed old number new.steps
LooksUp (Some slot) number old new = new ≡ found old number slot new.steps

-- at its last step the pass saw that the object is present, or that it is not
pub record SawPresent (pass : Caller) (number : Number) (present : Bool) : Type 0 where
  pub before : Local
  pub op : Op
  pub seen : Word
  pub here : place_of op ≡ place.Entry number.coll number.entry
  pub took : Took pass.shape pass.number before op seen pass.local
  pub last : pass.local.steps ≡ before.steps + 1
  pub is : has_object number.incarnation (state_of seen) ≡ present

-- so it was decided, if the region has an entry for the number; else there is no such object
abbrev pub Decided : Caller → Number → Bool → Type 0
Decided pass number present = SawPresent pass number present ⊎ ((has_place pass.shape (place.Entry number.coll number.entry) ≡ false) × (present ≡ false))

-- who looks in this phase; where no look-up is in progress it is the caller
abbrev pub looker : Phase → Seeker
looker (phase.Look looking) = seeker_of looking
looker _ = seeker.Caller

-- before the first step of a look-up: a caller's starts with it, and a scan's goes on with the call in progress
abbrev pub before_look : Bool → Seeker → Number → Phase
before_look true who number = phase.Idle
before_look false who number = phase.Look (look.Load who number)

-- what a look-up has learnt that answers this
abbrev pub finding_of : Option ℕ → Finding
finding_of None = Absent
finding_of (Some slot) = Stays slot

-- a look-up of this seeker that has learnt this, when the pass has taken so many steps in all
abbrev pub looking : Layout → Local → Seeker → Number → Finding → ℕ → Local
looking shape l who number finding steps = let made = look_change shape who number finding in record {
  stand = record l.stand { phase = made.phase; held = held_after l.stand.held Go made.holds; scans = look_scans l.stand.scans who finding };
  log = logged l.log made.event;
  answers = answered l.answers (length (logged l.log made.event)) made.answer;
  notes = l.notes;
  learnt = l.learnt;
  cursors = l.cursors;
  steps = steps;
}

-- one that helps to move the object, when so many fields are dealt with
abbrev pub helping : Layout → Local → Seeker → Number → ℕ → ℕ → ℕ → Local
helping shape l who number slot target field = record {
  stand = record l.stand { phase = phase.Look (look.Help who number slot (copy_field shape number.coll target field)) };
  log = l.log;
  answers = l.answers;
  notes = l.notes;
  learnt = l.learnt;
  cursors = l.cursors;
  steps = l.steps + 1 + 2 * field;
}
