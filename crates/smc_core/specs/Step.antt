-- The parts of a step: what it does to one word, and what it changes in the pass.
use Rattle.std.specs.Prelude.{Bool, true, false, Option, Some, None}
use Rattle.smc_model.specs.declared.event.Event.{Event}
use Rattle.smc_core.specs.declared.change.Change.{Change}
use Rattle.smc_core.specs.declared.done.Done.{Done}
use Rattle.smc_core.specs.declared.kind.Kind.{Kind}
use Rattle.smc_core.specs.declared.op.Offer.{Offer}
use Rattle.smc_core.specs.declared.op.Op.{Op}
use Rattle.smc_core.specs.declared.phase.Phase.{Phase}
use Rattle.smc_core.specs.declared.phase.Phase.TheVariants.{Idle}

-- a step of this kind
abbrev pub step : Kind → Op → Offer
step kind op = record { kind = kind; op = op }

-- it is offered where the test holds
abbrev pub when : Bool → Offer → Option Offer
when true offer = Some offer
when false offer = None

-- the call goes on, in this phase
abbrev pub goes : Phase → Change
goes phase = record { event = None; answer = None; holds = None; phase = phase }

-- the call goes on after an event
abbrev pub goes_telling : Event → Phase → Change
goes_telling event phase = record { event = Some event; answer = None; holds = None; phase = phase }

-- the call ends with an answer, and no event
abbrev pub ends : Done → Change
ends answer = record { event = None; answer = Some answer; holds = None; phase = Idle }

-- the call ends with an event and an answer
abbrev pub tells : Event → Done → Change
tells event answer = record { event = Some event; answer = Some answer; holds = None; phase = Idle }
