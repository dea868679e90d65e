-- How a scan goes on.
use Rattle.std.specs.Prelude.{ℕ, ◌+◌, ◌*◌, nat_lt, Bool, Option, Some, None, [], ◌∷◌, ◌++◌, length, slice_get, if◌then◌else◌}
use Rattle.smc_words.specs.declared.number.Number.{Number}
use Rattle.smc_shape.specs.Layout.{Layout, slots_of, width_of}
use Rattle.smc_model.specs.declared.event.Event.TheVariants as event
use Rattle.smc_core.specs.declared.done.Done.TheVariants as done
use Rattle.smc_core.specs.declared.local.Local.{Local}
use Rattle.smc_core.specs.declared.phase.Phase.{Phase}
use Rattle.smc_core.specs.declared.phase.Phase.TheVariants as phase
use Rattle.smc_core.specs.declared.phase.objects.ScanPhase.TheVariants as scan
use Rattle.smc_core.specs.Scan.{passed, ended}
use Rattle.smc_region.specs.declared.held.Held.{Held}
use Rattle.smc_region.specs.Choices.{number_of}

-- the number of the section's scan with this index
abbrev pub number_at : Local → ℕ → ℕ
number_at l index = number_of (slice_get l.stand.scans index)

-- the scan goes on at this slot, or, where it has passed each, to its end
abbrev pub to_scan : Layout → ℕ → ℕ → ℕ → Phase
to_scan shape number coll slot = if nat_lt slot (slots_of shape coll) then phase.Scan (scan.Directory number coll slot) else phase.Scan (scan.End number)

-- a scan on its way that has passed the slots below this one, when the pass has taken so many steps in all
abbrev pub passing : Layout → Local → ℕ → ℕ → ℕ → ℕ → Local
passing shape l number coll slot steps = record {
  stand = record l.stand { phase = to_scan shape number coll slot; scans = passed l.stand.scans number slot };
  log = l.log;
  answers = l.answers;
  notes = l.notes;
  learnt = l.learnt;
  cursors = l.cursors;
  steps = steps;
}

-- a scan that has come to this object, in this slot
abbrev pub visiting : Local → ℕ → Number → ℕ → ℕ → Local
visiting l number met slot steps = record {
  stand = record l.stand { phase = phase.Idle; held = record { number = met; slot = slot } ∷ l.stand.held; scans = passed l.stand.scans number (slot + 1) };
  log = l.log ++ event.Visit number met ∷ [];
  answers = l.answers ++ record { length = length (l.log ++ event.Visit number met ∷ []); done = done.Visit met slot } ∷ [];
  notes = l.notes;
  learnt = l.learnt;
  cursors = l.cursors;
  steps = steps;
}

-- the step that ends a scan
abbrev pub ended_by : Local → ℕ → Local
ended_by l number = record {
  stand = record l.stand { phase = phase.Idle; scans = ended l.stand.scans number };
  log = l.log ++ event.End number ∷ [];
  answers = l.answers ++ record { length = length (l.log ++ event.End number ∷ []); done = done.End } ∷ [];
  notes = l.notes;
  learnt = l.learnt;
  cursors = l.cursors;
  steps = l.steps + 1;
}

-- a scan that has ended, past this slot
abbrev pub ending : Local → ℕ → ℕ → ℕ → Local
ending l number slot steps = record {
  stand = record l.stand { phase = phase.Idle; scans = ended (passed l.stand.scans number slot) number };
  log = l.log ++ event.End number ∷ [];
  answers = l.answers ++ record { length = length (l.log ++ event.End number ∷ []); done = done.End } ∷ [];
  notes = l.notes;
  learnt = l.learnt;
  cursors = l.cursors;
  steps = steps;
}

-- the steps of a slot of a scan, at most
abbrev pub slot_steps : Layout → ℕ → ℕ
slot_steps shape coll = 6 + 2 * width_of shape coll

-- the slots that a walk has passed which answers this
abbrev pub passed_by : ℕ → Option Held → ℕ
passed_by slots None = slots
passed_by slots (Some held) = held.place + 1

-- the step of an end
abbrev pub end_steps : Bool → ℕ
end_steps ended = if ended then 1 else 0
