-- What the calls of a section make of a world.
use Rattle.std.proofs.Common.{◌≡◌, List, [], ◌∷◌, ◌++◌, subst, ap, ◌∙◌}
use Rattle.smc_model.specs.declared.event.Event.{Event}
use Rattle.smc_model.specs.declared.event.Event.TheVariants.{Enter, Leave}
use Rattle.smc_model.specs.World.{World, Replay, world_through}
use Rattle.smc_model.proofs.HistoryLaws.{Replay-front, world_through-append}
use Rattle.smc_trace.specs.Named.{leaves}
use Rattle.smc_trace.specs.Trace.{CallEnd, events_in}
use Rattle.smc_trace.proofs.TraceSteps.{events_in-append}
use Rattle.smc_objects.specs.Alone.{InSection}

pub section-events : {P : List CallEnd → Type 0} (calls : List CallEnd) (s : InSection P calls) → events_in calls ≡ Enter ∷ (events_in s.inner ++ Leave ∷ [])
section-events calls s = ap events_in s.made ∙ ap (λ (es : List Event). Enter ∷ es) (events_in-append s.inner leaves)

-- a section makes of a world what its inner calls make of it
pub section-world : {P : List CallEnd → Type 0} (calls : List CallEnd) (s : InSection P calls) (world : World) → world_through world (events_in calls) ≡ world_through world (events_in s.inner)
section-world calls s world = ap (world_through world) (section-events calls s) ∙ world_through-append world (events_in s.inner) (Leave ∷ [])

-- and they replay as it does
pub section-replay : {P : List CallEnd → Type 0} (calls : List CallEnd) (s : InSection P calls) (world last : World) → Replay world (events_in calls) last
    → Replay world (events_in s.inner) (world_through world (events_in s.inner))
section-replay calls s world last replay =
    Replay-front world last (events_in s.inner) (Leave ∷ []) (subst (λ (es : List Event). Replay world es last) (section-events calls s) replay).1
