-- Events of a log that are alone: by the logs and the answers, all other passes stood aside while they happened.
use Rattle.std.specs.Prelude.{◌≡◌, ◌≢◌, ◌⊎◌, ⊤, ℕ, ◌+◌, ◌<◌, ◌≤◌, nat_le, Bool, true, false, IfSome, Some, List, [], ◌∷◌, Contains, filter, length, slice_get, take}
use Rattle.smc_shape.specs.Layout.{Layout, IsShape}
use Rattle.smc_model.specs.declared.event.Event.{Event}
use Rattle.smc_model.specs.declared.event.Event.TheVariants.{Enter, Leave, Told}
use Rattle.smc_model.specs.Order.{log_of}
use Rattle.smc_core.specs.declared.call.Choice.{Choice}
use Rattle.smc_core.specs.declared.done.Done.{Done}
use Rattle.smc_core.specs.declared.done.Done.TheVariants as done
use Rattle.smc_core.specs.declared.local.Answer.{Answer}
use Rattle.smc_core.specs.declared.local.Local.{Local}
use Rattle.smc_core.specs.declared.local.Opening.{Opening}
use Rattle.smc_core.specs.declared.phase.Phase.TheVariants.{Idle}
use Rattle.smc_rules.specs.Start.{IsStart}
use Rattle.smc_model.specs.World.{World}
use Rattle.smc_core.specs.Machine.{Machine, Steps, Leads, started}
use Rattle.smc_aside.specs.Aside.{OthersAside, IsUndisturbed}
use Rattle.smc_refine.specs.Orders.{logs_of}

-- whether an event begins a section
abbrev pub is_enter : Event → Bool
is_enter Enter = true
is_enter _ = false

-- whether it ends one
abbrev pub is_leave : Event → Bool
is_leave Leave = true
is_leave _ = false

-- each section of the log has ended: it has as many leaves as enters
abbrev pub IsLeft : List Event → Type 0
IsLeft log = length (filter is_leave log) ≡ length (filter is_enter log)

-- whether a pass has a round after an answer: it has one that was begun, until it has finished or cancelled it
abbrev pub owns_then : Bool → Done → Bool
owns_then owns (done.Round coll bound moves) = true
owns_then owns (done.Nothing coll) = false
owns_then owns (done.Finished moved abandoned gone) = false
owns_then owns done.Cancelled = false
owns_then owns _ = owns

-- whether it has one after all of these answers
abbrev pub owns_after : Bool → List Answer → Bool
owns_after owns [] = owns
owns_after owns (first ∷ later) = owns_after (owns_then owns first.done) later

-- the answers that were kept while the log had at most so many events
abbrev pub answers_until : ℕ → List Answer → List Answer
answers_until count answers = filter (λ answer. nat_le answer.length count) answers

-- the event tells of this pass's log, and at least so many events of it
abbrev pub TellsOf : ℕ → ℕ → Event → Type 0
TellsOf pass least (Told other count) = (other ≡ pass) × (least ≤ count)
TellsOf pass least _ = ⊥

-- what tells that another pass stands aside from the event `since` of this pass's log to the event `until`
pub record IsApart (pass since until : ℕ) (log : List Event) (other : ℕ) (l : Local) : Type 0 where
  -- it has done so many events by then
  pub count : ℕ
  -- with these its sections have ended
  pub left : IsLeft (take count l.log)
  -- its answers by then leave it without a round
  pub no_round : owns_after false (answers_until count l.answers) ≡ false
  -- this pass was told of these events, if there are any, before
  pub told : (count ≡ 0) ⊎ Contains (take since log) (Told other count)
  -- its next event, if there is one, is that it is told of this pass, and not of less than `until`
  pub next : IfSome (slice_get l.log count) (TellsOf pass until)

-- the events `since` to `until` of this pass's log, counted from 1, are alone: every other pass stands aside meanwhile
abbrev pub Alone : List Local → ℕ → ℕ → ℕ → Type 0
Alone locals pass since until = (other : ℕ) (l : Local) → other ≢ pass → slice_get locals other ≡ Some l
    → IsApart pass since until (log_of (logs_of locals) pass) other l

-- an answer of this pass is alone: so is what happens while the log has the length that is kept with the answer
abbrev pub IsAloneAnswer : List Local → ℕ → Answer → Type 0
IsAloneAnswer locals pass answer = Alone locals pass answer.length (answer.length + 1)

-- no call is in progress
abbrev pub AllIdle : List Local → Type 0
AllIdle locals = (pass : ℕ) (l : Local) → slice_get locals pass ≡ Some l → l.stand.phase ≡ Idle

-- a moment of a list of steps from the start to the last machine: this pass's log has its event `since` and lacks `until`
pub record IsBetween (shape : Layout) (start : List ℕ) (pass since until : ℕ) (m : Machine) (later : List (ℕ × Choice)) (last : Machine) : Type 0 where
  pub earlier : List (ℕ × Choice)
  pub before : Leads shape (started shape start) earlier m
  pub after : Leads shape m later last
  pub has_first : since ≤ length (log_of (logs_of m.locals) pass)
  pub lacks_last : length (log_of (logs_of m.locals) pass) < until

-- the next step, if there is one, is of this pass or of one that stands aside; the others stand aside after it too
abbrev pub NextUndisturbed : Layout → ℕ → Machine → List (ℕ × Choice) → Type 0
NextUndisturbed shape pass m [] = ⊤
NextUndisturbed shape pass m (step ∷ later) =
    IsUndisturbed pass (step ∷ []) × ((next : Machine) → Steps shape m step.0 step.1 next → OthersAside pass next.locals)

-- at such a moment of events that are alone the others stand aside, and the next step is undisturbed
abbrev pub AloneIsUndisturbed : Type 0
AloneIsUndisturbed = (shape : Layout) (opening : Opening) (first : World) (start : List ℕ) (pass since until : ℕ) (m last : Machine) (later : List (ℕ × Choice))
    → IsShape shape → IsStart shape opening first start → IsBetween shape start pass since until m later last
    → AllIdle last.locals → Alone last.locals pass since until
    → OthersAside pass m.locals × NextUndisturbed shape pass m later

-- from one such moment to another all steps are undisturbed
abbrev pub StretchIsUndisturbed : Type 0
StretchIsUndisturbed = (shape : Layout) (opening : Opening) (first : World) (start : List ℕ) (pass since until : ℕ) (m to last : Machine) (during later : List (ℕ × Choice))
    → IsShape shape → IsStart shape opening first start → IsBetween shape start pass since until m during to
    → IsBetween shape start pass since until to later last → AllIdle last.locals → Alone last.locals pass since until
    → OthersAside pass m.locals × IsUndisturbed pass during × OthersAside pass to.locals

-- at each moment at which the log has the length of an answer that is alone the others stand aside
abbrev pub AloneAnswerIsUndisturbed : Type 0
AloneAnswerIsUndisturbed = (shape : Layout) (opening : Opening) (first : World) (start : List ℕ) (pass : ℕ) (answer : Answer) (m last : Machine) (earlier later : List (ℕ × Choice))
    → IsShape shape → IsStart shape opening first start → Leads shape (started shape start) earlier m → Leads shape m later last
    → length (log_of (logs_of m.locals) pass) ≡ answer.length → AllIdle last.locals → IsAloneAnswer last.locals pass answer
    → OthersAside pass m.locals × NextUndisturbed shape pass m later
