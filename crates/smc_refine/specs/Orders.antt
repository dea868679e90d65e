-- The one order of what happened: the events of a list of steps, in the order of the steps.
use Rattle.std.specs.Prelude.{◌≡◌, ℕ, List, ◌∷◌, ◌++◌, Some, map}
use Rattle.smc_shape.specs.Layout.{Layout, IsShape}
use Rattle.smc_model.specs.declared.event.Event.{Event}
use Rattle.smc_model.specs.Order.{OneOrder, events_of}
use Rattle.smc_model.specs.Scans.{ScansOnce}
use Rattle.smc_model.specs.World.{World, Replay}
use Rattle.smc_core.specs.declared.call.Choice.{Choice}
use Rattle.smc_core.specs.declared.local.Local.{Local}
use Rattle.smc_core.specs.declared.local.Opening.{Opening}
use Rattle.smc_core.specs.Machine.{Machine, Steps, Leads}
use Rattle.smc_core.specs.Told.{told_along, told_by_step}
use Rattle.smc_rules.specs.History.{History, history_order, history_world, history_state}
use Rattle.smc_rules.specs.Start.{FitsShape}
use Rattle.smc_rules.specs.Mirror.{anywhere}
use Rattle.smc_rules.specs.State.{Backs}
use Rattle.smc_laws.specs.Laws.{AllRules}

-- the logs of the passes
abbrev pub logs_of : List Local → List (List Event)
logs_of locals = map (λ l. l.log) locals

-- what was told is the history of the plain world, and all that is said of a state holds of the machine's in that world
pub record IsLawful (shape : Layout) (opening : Opening) (first : World) (m : Machine) (h : History shape opening first m) : Type 0 where
  -- it has each log as its pass has it, and knows what was told of other logs
  pub one_order : OneOrder (logs_of m.locals) (history_order h)
  -- each event may happen where it stands, and all lead from the first world to this one
  pub replay : Replay first (events_of (history_order h)) (history_world h)
  -- each scan visits once what is present throughout
  pub scans_once : ScansOnce first (events_of (history_order h))
  -- the state stands behind the machine, and has all three rules
  pub backs : Backs shape anywhere m.row m.locals (history_state h)
  pub rules : AllRules shape opening (history_state h)
  pub fits : FitsShape shape (history_world h)

-- so is every history: from each start, after every list of steps
abbrev pub HistoriesAreLawful : Type 0
HistoriesAreLawful = (shape : Layout) (opening : Opening) (first : World) (m : Machine) → IsShape shape → (h : History shape opening first m) → IsLawful shape opening first m h

-- a history that goes on by these steps: its start is the same, and its order is the earlier one with what they tell behind it
pub record GoesOn (shape : Layout) (opening : Opening) (first : World) (m : Machine) (h : History shape opening first m) (steps : List (ℕ × Choice)) (last : Machine) (leads : Leads shape m steps last) : Type 0 where
  pub later : History shape opening first last
  pub same_start : later.start ≡ h.start
  pub all_steps : later.steps ≡ h.steps ++ steps
  pub order : history_order later ≡ history_order h ++ told_along shape m steps last leads

-- so each one does
abbrev pub HistoriesGoOn : Type 0
HistoriesGoOn = (shape : Layout) (opening : Opening) (first : World) (m : Machine) (h : History shape opening first m) (steps : List (ℕ × Choice)) (last : Machine) (leads : Leads shape m steps last)
    → GoesOn shape opening first m h steps last leads

-- the moment of a history behind its first steps: it was a history then, and what was told since stands behind what had been
-- told
pub record HasMoment (shape : Layout) (opening : Opening) (first : World) (m : Machine) (h : History shape opening first m) (earlier later : List (ℕ × Choice)) : Type 0 where
  pub moment : Machine
  pub past : History shape opening first moment
  pub same_start : past.start ≡ h.start
  pub first_steps : past.steps ≡ earlier
  pub leads : Leads shape moment later m
  pub order : history_order h ≡ history_order past ++ told_along shape moment later m leads

-- so each history has one behind each of its steps
abbrev pub HistoriesHaveMoments : Type 0
HistoriesHaveMoments = (shape : Layout) (opening : Opening) (first : World) (m : Machine) (h : History shape opening first m) (earlier later : List (ℕ × Choice)) → h.steps ≡ earlier ++ later
    → HasMoment shape opening first m h earlier later

-- the moment of a history at which an event was told: what is before it in the order had been told, and the next step tells it
pub record IsToldThen (shape : Layout) (opening : Opening) (first : World) (m : Machine) (h : History shape opening first m) (before : List (ℕ × Event)) (pass : ℕ) (event : Event) (behind : List (ℕ × Event)) : Type 0 where
  pub moment : Machine
  pub past : History shape opening first moment
  pub same_start : past.start ≡ h.start
  pub order : history_order past ≡ before
  pub choice : Choice
  pub next : Machine
  pub step : Steps shape moment pass choice next
  pub tells : told_by_step shape moment pass choice next step ≡ Some event
  pub later : List (ℕ × Choice)
  pub leads : Leads shape next later m
  pub rest : told_along shape next later m leads ≡ behind

-- so each event of the order has one
abbrev pub HistoriesHaveEvents : Type 0
HistoriesHaveEvents = (shape : Layout) (opening : Opening) (first : World) (m : Machine) (h : History shape opening first m) (before : List (ℕ × Event)) (pass : ℕ) (event : Event) (behind : List (ℕ × Event))
    → history_order h ≡ before ++ (pass, event) ∷ behind → IsToldThen shape opening first m h before pass event behind
