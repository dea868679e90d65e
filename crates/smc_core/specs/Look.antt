-- Look up: whether an object is present, and in which slot it is held.
use Rattle.std.specs.Prelude.{ℕ, ◌+◌, ◌==◌, nat_lt, Bool, true, false, Some, if◌then◌else◌}
use Rattle.smc_words.specs.declared.layout.TheConstants.{BLANK}
use Rattle.smc_words.specs.declared.number.Number.{Number}
use Rattle.smc_shape.specs.Layout.{Layout, width_of, slots_of}
use Rattle.smc_shape.specs.declared.place.Place.TheVariants as place
use Rattle.smc_model.specs.declared.event.Event.TheVariants as event
use Rattle.smc_core.specs.declared.change.Change.{Change}
use Rattle.smc_core.specs.declared.done.Done.TheVariants as done
use Rattle.smc_core.specs.declared.kind.Kind.TheVariants as kind
use Rattle.smc_core.specs.declared.op.Offer.{Offer}
use Rattle.smc_core.specs.declared.op.Op.TheVariants.{Load, Exchange}
use Rattle.smc_core.specs.declared.phase.Phase.{Phase}
use Rattle.smc_core.specs.declared.phase.Phase.TheVariants as phase
use Rattle.smc_core.specs.declared.phase.objects.CopyPhase.{CopyPhase}
use Rattle.smc_core.specs.declared.phase.objects.CopyPhase.TheVariants as copy
use Rattle.smc_core.specs.declared.phase.objects.Finding.{Finding}
use Rattle.smc_core.specs.declared.phase.objects.Finding.TheVariants.{Absent, Stays, Abandons, Helps}
use Rattle.smc_core.specs.declared.phase.objects.LookPhase.{LookPhase}
use Rattle.smc_core.specs.declared.phase.objects.LookPhase.TheVariants as look
use Rattle.smc_core.specs.declared.phase.objects.ScanPhase.TheVariants as scan
use Rattle.smc_core.specs.declared.phase.objects.Seeker.{Seeker}
use Rattle.smc_core.specs.declared.phase.objects.Seeker.TheVariants as seeker
use Rattle.smc_core.specs.declared.word.State.{State}
use Rattle.smc_core.specs.declared.word.State.TheVariants as state
use Rattle.smc_core.specs.declared.word.Word.{Word}
use Rattle.smc_core.specs.declared.word.Word.TheVariants as word
use Rattle.smc_core.specs.Step.{step, goes, tells}
use Rattle.smc_core.specs.Words.{plain_of, forward_of, state_of, same_word}

-- the step of copying an object from its source slot: its target is loaded, then each field is loaded there and
-- exchanged here from blank, and at the end the entry swings from the source to the target
abbrev pub copy_offer : Number → ℕ → CopyPhase → Offer
copy_offer number source copy.Target = step kind.LoadForward (Load (place.Forward number.coll source))
copy_offer number source (copy.Load target field) = step kind.LoadField (Load (place.Field number.coll source field))
copy_offer number source (copy.Put target field value) = step kind.CopyField (Exchange (place.Field number.coll target field) (word.Plain BLANK) (word.Plain value))
copy_offer number source (copy.Swing target) = step kind.Swing (Exchange (place.Entry number.coll number.entry) (word.Entry (state.Locked number.incarnation source)) (word.Entry (state.Present number.incarnation target)))

-- the field is copied next, or, where it is none, the entry swings
abbrev pub copy_field : Layout → ℕ → ℕ → ℕ → CopyPhase
copy_field shape coll target field = if nat_lt field (width_of shape coll) then copy.Load target field else copy.Swing target

-- what follows a step of copying; nothing of it follows the swing
abbrev pub copy_next : Layout → ℕ → CopyPhase → Word → CopyPhase
copy_next shape coll copy.Target w = copy_field shape coll (forward_of w) 0
copy_next shape coll (copy.Load target field) w = copy.Put target field (plain_of w)
copy_next shape coll (copy.Put target field value) w = copy_field shape coll target (field + 1)
copy_next shape coll (copy.Swing target) w = copy.Swing target

-- the step of a look-up: the entry is loaded, or exchanged to the same word without the mark of a round
abbrev pub look_offer : LookPhase → Offer
look_offer (look.Load who number) = step kind.LookUp (Load (place.Entry number.coll number.entry))
look_offer (look.Abandon who number slot) = step kind.Unfreeze (Exchange (place.Entry number.coll number.entry) (word.Entry (state.Frozen number.incarnation slot)) (word.Entry (state.Present number.incarnation slot)))
look_offer (look.Help who number slot copy) = copy_offer number slot copy

-- by the entry: where its incarnation differs or its object is gone there is none; a frozen one is held in a calm
-- section, its move abandoned in another; the move of a locked one is helped
abbrev pub find : Bool → ℕ → State → Finding
find calm incarnation (state.Present other slot) = if other == incarnation then Stays slot else Absent
find calm incarnation (state.Frozen other slot) = if other == incarnation then (if calm then Stays slot else Abandons slot) else Absent
find calm incarnation (state.Locked other slot) = if other == incarnation then (if calm then Stays slot else Helps slot copy.Target) else Absent
find calm incarnation _ = Absent

-- by the entry that was seen when abandoning failed: only a locked one is not held
abbrev pub find_after_abandon : ℕ → State → Finding
find_after_abandon incarnation (state.Present other slot) = if other == incarnation then Stays slot else Absent
find_after_abandon incarnation (state.Frozen other slot) = if other == incarnation then Stays slot else Absent
find_after_abandon incarnation (state.Locked other slot) = if other == incarnation then Helps slot copy.Target else Absent
find_after_abandon incarnation _ = Absent

-- by the entry that was seen when the swing failed: each that is present is held in its slot
abbrev pub find_after_swing : ℕ → State → Finding
find_after_swing incarnation (state.Present other slot) = if other == incarnation then Stays slot else Absent
find_after_swing incarnation (state.Frozen other slot) = if other == incarnation then Stays slot else Absent
find_after_swing incarnation (state.Locked other slot) = if other == incarnation then Stays slot else Absent
find_after_swing incarnation _ = Absent

-- what a look-up learns while it helps
abbrev pub help_finding : Layout → Number → ℕ → CopyPhase → Word → Finding
help_finding shape number slot (copy.Swing target) w = if same_word w (word.Entry (state.Locked number.incarnation slot)) then Stays target else find_after_swing number.incarnation (state_of w)
help_finding shape number slot copy w = Helps slot (copy_next shape number.coll copy w)

-- what a look-up learns from its step
abbrev pub look_finding : Layout → Bool → LookPhase → Word → Finding
look_finding shape calm (look.Load who number) w = find calm number.incarnation (state_of w)
look_finding shape calm (look.Abandon who number slot) w = if same_word w (word.Entry (state.Frozen number.incarnation slot)) then Stays slot else find_after_abandon number.incarnation (state_of w)
look_finding shape calm (look.Help who number slot copy) w = help_finding shape number slot copy w

-- a caller's look-up ends with the object in this slot, which the section holds from now on
abbrev pub finds : Number → ℕ → Change
finds number slot = record {
  event = Some (event.Look number true);
  answer = Some (done.Here slot);
  holds = Some (record { number = number; slot = slot });
  phase = phase.Idle;
}

-- a scan's look-up ends with a visit: the object is held at the very slot that the scan is at
abbrev pub visits : ℕ → Number → ℕ → Change
visits number_of_scan number slot = record {
  event = Some (event.Visit number_of_scan number);
  answer = Some (done.Visit number slot);
  holds = Some (record { number = number; slot = slot });
  phase = phase.Idle;
}

-- a scan passes a slot: it goes on with the next one, or to its end
abbrev pub passes : Layout → ℕ → ℕ → ℕ → Phase
passes shape number_of_scan coll slot = if nat_lt (slot + 1) (slots_of shape coll) then phase.Scan (scan.Directory number_of_scan coll (slot + 1)) else phase.Scan (scan.End number_of_scan)

-- how the look-up goes on, by who looks
abbrev pub look_change : Layout → Seeker → Number → Finding → Change
look_change shape seeker.Caller number Absent = tells (event.Look number false) done.Null
look_change shape seeker.Caller number (Stays slot) = finds number slot
look_change shape seeker.Caller number (Abandons slot) = goes (phase.Look (look.Abandon seeker.Caller number slot))
look_change shape seeker.Caller number (Helps slot copy) = goes (phase.Look (look.Help seeker.Caller number slot copy))
look_change shape (seeker.Scan number_of_scan coll place) number Absent = goes (passes shape number_of_scan coll place)
look_change shape (seeker.Scan number_of_scan coll place) number (Stays slot) = if slot == place then visits number_of_scan number slot else goes (passes shape number_of_scan coll place)
look_change shape (seeker.Scan number_of_scan coll place) number (Abandons slot) = goes (phase.Look (look.Abandon (seeker.Scan number_of_scan coll place) number slot))
look_change shape (seeker.Scan number_of_scan coll place) number (Helps slot copy) = goes (phase.Look (look.Help (seeker.Scan number_of_scan coll place) number slot copy))

-- who looks in this phase
abbrev pub seeker_of : LookPhase → Seeker
seeker_of (look.Load who number) = who
seeker_of (look.Abandon who number slot) = who
seeker_of (look.Help who number slot copy) = who

-- the number that is looked up in it
abbrev pub sought_number : LookPhase → Number
sought_number (look.Load who number) = number
sought_number (look.Abandon who number slot) = number
sought_number (look.Help who number slot copy) = number

-- what a step of a look-up changes
abbrev pub looking_change : Layout → Bool → LookPhase → Word → Change
looking_change shape calm phase w = look_change shape (seeker_of phase) (sought_number phase) (look_finding shape calm phase w)
