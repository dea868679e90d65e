-- What a call on an object needs, and what it leaves of its pass.
use Rattle.std.specs.Prelude.{◌≡◌, ℕ, Bool, Some, [], ◌∷◌, ◌++◌, length, if◌then◌else◌}
use Rattle.smc_words.specs.declared.number.Number.{Number}
use Rattle.smc_shape.specs.declared.place.Place.TheVariants as place
use Rattle.smc_model.specs.declared.event.Event.{Event}
use Rattle.smc_core.specs.declared.done.Done.{Done}
use Rattle.smc_core.specs.declared.done.Done.TheVariants as done
use Rattle.smc_core.specs.declared.local.Local.{Local}
use Rattle.smc_core.specs.declared.op.Op.{Op}
use Rattle.smc_core.specs.declared.phase.Phase.TheVariants.{Idle}
use Rattle.smc_core.specs.declared.word.Word.{Word}
use Rattle.smc_core.specs.Offer.{held_slot}
use Rattle.smc_core.specs.Row.{place_of}
use Rattle.smc_core.specs.Words.{is_gone, state_of}
use Rattle.smc_region.specs.declared.held.Held.{Held}
use Rattle.smc_region.specs.Callers.{Caller}
use Rattle.smc_region.specs.Reached.{Took}

-- the section holds the object there
abbrev pub Holds : Caller → Held → Type 0
Holds pass held = held_slot pass.local.stand.held held.number ≡ Some held.place

-- a call that ends with this event and this answer, when the pass has taken so many steps in all
abbrev pub telling : Local → ℕ → Event → Done → Local
telling l steps told answer = record {
  stand = record l.stand { phase = Idle };
  log = l.log ++ told ∷ [];
  answers = l.answers ++ record { length = length (l.log ++ told ∷ []); done = answer } ∷ [];
  notes = l.notes;
  learnt = l.learnt;
  cursors = l.cursors;
  steps = steps;
}

-- a remove that is the first, or that is late, and how many steps each takes
abbrev pub removed : Bool → Done
removed first = if first then done.First else done.Late

abbrev pub remove_steps : Bool → ℕ
remove_steps first = if first then 3 else 1

-- at its next step the pass saw that the object was gone, or that it was not
pub record SawGone (pass : Caller) (number : Number) (gone : Bool) : Type 0 where
  pub op : Op
  pub seen : Word
  pub next : Local
  pub here : place_of op ≡ place.Entry number.coll number.entry
  pub took : Took pass.shape pass.number pass.local op seen next
  pub is : is_gone (state_of seen) ≡ gone
