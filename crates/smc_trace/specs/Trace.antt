-- What a pass keeps of its calls: of each one that has ended its answer, and before it the event that it told, if it told one.
use Rattle.std.specs.Prelude.{◌≡◌, ℕ, ◌+◌, Option, Some, None, List, [], ◌∷◌, ◌++◌, length}
use Rattle.smc_model.specs.declared.event.Event.{Event}
use Rattle.smc_core.specs.declared.done.Done.{Done}
use Rattle.smc_core.specs.declared.local.Answer.{Answer}
use Rattle.smc_core.specs.declared.local.Local.{Local}

-- how a call ended: the event that it told, if it told one, and the answer that is kept
pub record CallEnd : Type 0 where
  pub event : Option Event
  pub done : Done

-- an event that was told, if one was, as a list
abbrev pub event_in : Option Event → List Event
event_in None = []
event_in (Some event) = event ∷ []

-- the events that these calls told, in order
abbrev pub events_in : List CallEnd → List Event
events_in [] = []
events_in (call ∷ later) = event_in call.event ++ events_in later

-- the answers that are kept of them, behind a log of this length: the length of an answer counts its own event
abbrev pub answers_in : ℕ → List CallEnd → List Answer
answers_in count [] = []
answers_in count (call ∷ later) =
    record { length = count + length (event_in call.event); done = call.done } ∷ answers_in (count + length (event_in call.event)) later

-- what a pass has done in all is these calls, and no others
abbrev pub IsTrace : Local → List CallEnd → Type 0
IsTrace l calls = (l.log ≡ events_in calls) × (l.answers ≡ answers_in 0 calls)

-- from one local state to the other the pass goes on by these calls, and no others
pub record Tells (old new : Local) (calls : List CallEnd) : Type 0 where
  pub log : new.log ≡ old.log ++ events_in calls
  pub answers : new.answers ≡ old.answers ++ answers_in (length old.log) calls
