-- The ends of each call, each as a list of one.
use Rattle.std.specs.Prelude.{ℕ, Bool, true, false, Option, Some, None, List, [], ◌∷◌, if◌then◌else◌}
use Rattle.smc_words.specs.declared.number.Number.{Number}
use Rattle.smc_model.specs.declared.event.Cause.{Cause}
use Rattle.smc_model.specs.declared.event.Event.TheVariants as event
use Rattle.smc_core.specs.declared.done.Done.{Done}
use Rattle.smc_core.specs.declared.done.Done.TheVariants as done
use Rattle.smc_core.specs.declared.local.Held.{Held}
use Rattle.smc_trace.specs.Trace.{CallEnd}

-- a section begins at this epoch
abbrev pub enters : ℕ → List CallEnd
enters epoch = record { event = Some event.Enter; done = done.At epoch } ∷ []

-- a section ends
abbrev pub leaves : List CallEnd
leaves = record { event = Some event.Leave; done = done.Out } ∷ []

-- an advance, by its answer
abbrev pub advances : Done → List CallEnd
advances answer = record { event = None; done = answer } ∷ []

-- a look-up, by the slot in which the object is held, if it is here
abbrev pub looks : Number → Option ℕ → List CallEnd
looks number None = record { event = Some (event.Look number false); done = done.Null } ∷ []
looks number (Some slot) = record { event = Some (event.Look number true); done = done.Here slot } ∷ []

-- an add that makes an object of these words, which lies in this slot
abbrev pub makes : Number → List ℕ → ℕ → List CallEnd
makes number words slot = record { event = Some (event.Add number number.coll words); done = done.Made slot } ∷ []

-- an add that finds no room
abbrev pub refuses : ℕ → Cause → List CallEnd
refuses coll cause = record { event = Some (event.Refused coll cause); done = done.Full cause } ∷ []

-- a read of a field, which says this
abbrev pub reads : Number → ℕ → ℕ → List CallEnd
reads number field value = record { event = Some (event.Read number field value); done = done.Value value } ∷ []

-- a write of a field
abbrev pub writes : Number → ℕ → ℕ → List CallEnd
writes number field value = record { event = Some (event.Write number field value); done = done.Written } ∷ []

-- a remove, by whether it is the first of its object
abbrev pub removes : Number → Bool → List CallEnd
removes number first = record { event = Some (event.Remove number first); done = if first then done.First else done.Late } ∷ []

-- a scan begins
abbrev pub begins : ℕ → ℕ → List CallEnd
begins scan coll = record { event = Some (event.Begin scan coll); done = done.Begun } ∷ []

-- a scan comes to an object, which is held from then on, or to its end
abbrev pub comes_to : ℕ → Option Held → List CallEnd
comes_to scan (Some held) = record { event = Some (event.Visit scan held.number); done = done.Visit held.number held.slot } ∷ []
comes_to scan None = record { event = Some (event.End scan); done = done.End } ∷ []

-- a begin of a round, by its answer
abbrev pub rounds : Done → List CallEnd
rounds answer = record { event = None; done = answer } ∷ []

-- a finish of a round, by its answer
abbrev pub finishes : Done → List CallEnd
finishes answer = record { event = None; done = answer } ∷ []

-- a round is cancelled
abbrev pub cancels : List CallEnd
cancels = record { event = None; done = done.Cancelled } ∷ []

-- a survey of a collection, which counts so many objects and so many blocks that hold them
abbrev pub surveys : ℕ → ℕ → ℕ → List CallEnd
surveys coll objects blocks = record { event = None; done = done.Surveyed coll objects blocks } ∷ []

-- a note is made, the pass's own of this number
abbrev pub notes : ℕ → List CallEnd
notes note = record { event = None; done = done.Noted note } ∷ []

-- a note is learnt, which tells so many events of the other pass
abbrev pub learns : ℕ → ℕ → List CallEnd
learns other length = record { event = Some (event.Told other length); done = done.Learned } ∷ []
