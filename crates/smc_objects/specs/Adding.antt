-- How an add goes on, and why it may find no room.
use Rattle.std.specs.Prelude.{◌≡◌, ℕ, ◌+◌, ◌-◌, ◌*◌, ◌≤◌, ◌<◌, nat_lt, Bool, false, List, [], ◌∷◌, ◌++◌, length, slice_set, if◌then◌else◌}
use Rattle.smc_words.specs.declared.number.Number.{Number}
use Rattle.smc_shape.specs.Layout.{Layout, slots_of, entries_of, width_of}
use Rattle.smc_shape.specs.declared.place.Place.{Place}
use Rattle.smc_shape.specs.declared.place.Place.TheVariants as place
use Rattle.smc_model.specs.declared.event.Cause.TheVariants as cause
use Rattle.smc_model.specs.declared.event.Event.TheVariants as event
use Rattle.smc_core.specs.declared.change.Change.{Change}
use Rattle.smc_core.specs.declared.done.Done.TheVariants as done
use Rattle.smc_core.specs.declared.local.Local.{Local}
use Rattle.smc_core.specs.declared.op.Op.{Op}
use Rattle.smc_core.specs.declared.op.Op.TheVariants.{Load, Store, Exchange, MarkGone}
use Rattle.smc_core.specs.declared.phase.Phase.TheVariants as phase
use Rattle.smc_core.specs.declared.phase.objects.AddPhase.TheVariants as add
use Rattle.smc_core.specs.declared.word.State.{State}
use Rattle.smc_core.specs.declared.word.State.TheVariants as state
use Rattle.smc_core.specs.declared.word.Word.{Word}
use Rattle.smc_core.specs.Add.{refuses}
use Rattle.smc_core.specs.Local.{logged, answered}
use Rattle.smc_core.specs.Ripe.{is_ripe_slot, is_ripe_entry, next_round}
use Rattle.smc_core.specs.Row.{place_of}
use Rattle.smc_core.specs.Step.{goes}
use Rattle.smc_core.specs.Words.{dir_of, state_of, same_word}
use Rattle.smc_region.specs.Reached.{TookIn}

-- an add of these words that has not made its object: what its last step has changed, when the pass has taken so many
-- steps in all
abbrev pub adding : Local → List ℕ → ℕ → Change → Local
adding l words steps change = record {
  stand = record l.stand { phase = change.phase; words = words };
  log = logged l.log change.event;
  answers = answered l.answers (length (logged l.log change.event)) change.answer;
  notes = l.notes;
  learnt = l.learnt;
  cursors = l.cursors;
  steps = steps;
}

-- the add looks at this slot next, or, where it has looked at each, ends
abbrev pub to_slot : Layout → ℕ → ℕ → ℕ → ℕ → Change
to_slot shape coll from slot tried = if nat_lt tried (slots_of shape coll) then goes (phase.Add (add.FindSlot coll from slot tried)) else refuses coll cause.Slots

-- the add looks at this entry next, or, where it has looked at each, gives its slot back
abbrev pub to_entry : Layout → ℕ → ℕ → ℕ → ℕ → Change
to_entry shape coll slot entry tried = if nat_lt tried (entries_of shape coll) then goes (phase.Add (add.FindEntry coll slot entry tried)) else goes (phase.Add (add.DropSlot coll slot))

-- whether a section at this epoch may claim the entry: a free one that is ripe and not spent
abbrev pub is_ripe_state : ℕ → State → Bool
is_ripe_state epoch (state.Free incarnation stamp) = is_ripe_entry epoch incarnation stamp
is_ripe_state epoch _ = false

-- whether it may claim what stands at this place, a slot or an entry, where it sees this word there
abbrev pub may_claim : ℕ → Place → Word → Bool
may_claim epoch (place.Directory coll slot) w = is_ripe_slot epoch (dir_of w)
may_claim epoch (place.Entry coll entry) w = is_ripe_state epoch (state_of w)
may_claim epoch _ w = false

-- what a step showed of a slot or an entry that the section may not claim, or that another pass was first to change
abbrev pub IsTaken : ℕ → Place → Op → Word → Type 0
IsTaken epoch there (Load at) w = may_claim epoch there w ≡ false
IsTaken epoch there (Exchange at expect put) w = same_word w expect ≡ false
IsTaken epoch there (Store at stored) w = ⊥
IsTaken epoch there (MarkGone coll entry) w = ⊥

-- at a step behind so many and before so many, the pass saw there what it could not claim
pub record SawTaken (shape : Layout) (pass first last epoch : ℕ) (there : Place) : Type 0 where
  pub op : Op
  pub seen : Word
  pub here : place_of op ≡ there
  pub took : TookIn shape pass first last op seen
  pub is : IsTaken epoch there op seen

-- the index that is so many behind this one, round to the front
abbrev pub behind : ℕ → ℕ → ℕ → ℕ
behind many from tried = if nat_lt (from + tried) many then from + tried else from + tried - many

-- an add that has made its object in this slot, when the pass has taken so many steps in all
abbrev pub made : Layout → Local → Number → List ℕ → ℕ → ℕ → Local
made shape l number words slot steps = record {
  stand = record l.stand { phase = phase.Idle; words = words };
  log = l.log ++ event.Add number number.coll words ∷ [];
  answers = l.answers ++ record { length = length (l.log ++ event.Add number number.coll words ∷ []); done = done.Made slot } ∷ [];
  notes = l.notes;
  learnt = l.learnt;
  cursors = slice_set l.cursors number.coll (next_round (slots_of shape number.coll) slot);
  steps = steps;
}

-- the steps of an add, at most
abbrev pub add_steps : Layout → ℕ → ℕ
add_steps shape coll = 2 * slots_of shape coll + 2 * entries_of shape coll + width_of shape coll + 3

-- of the indices from `from` on, round to the front, this is the first that the pass did not see to be taken
pub record IsFirstFree (shape : Layout) (pass first last epoch many from index : ℕ) (there : ℕ → Place) : Type 0 where
  pub tried : ℕ
  pub within : tried < many
  pub is : index ≡ behind many from tried
  pub before : (k : ℕ) → k < tried → SawTaken shape pass first last epoch (there (behind many from k))
