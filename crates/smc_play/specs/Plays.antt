-- What a line of a schedule plays.
use Rattle.std.specs.Prelude.{◌≡◌, ◌⊎◌, ℕ, Bool, true, false, is_some, Option, Some, None, slice_get, slice_set, string_bytes}
use Rattle.smc_core.specs.declared.call.Choice.{Choice}
use Rattle.smc_core.specs.declared.call.Choice.TheVariants.{Go}
use Rattle.smc_schedule.specs.declared.call.StartCall.{StartCall}
use Rattle.smc_schedule.specs.declared.line.Act.{Act}
use Rattle.smc_schedule.specs.declared.line.Act.TheVariants.{Start, Run, Step, RunOn}
use Rattle.smc_schedule.specs.declared.line.ScheduleLine.{ScheduleLine}
use Rattle.smc_play.specs.Begun.{begun_of}
use Rattle.smc_play.specs.Turns.{Playing, Turn, IsRefused, GivesName}
use Rattle.smc_play.specs.declared.begun.Begun.{Begun}
use Rattle.smc_play.specs.declared.player.Player.{Player}
use Rattle.smc_play.specs.declared.player.Seat.{Seat}

-- what a player shows
abbrev pub playing : Player → Playing
playing player = record { running = player.machine; names = player.names; seats = player.seats.items; text = string_bytes player.text }

-- whether this seat has a call in progress
abbrev pub has_call : Option Seat → Bool
has_call None = false
has_call (Some seat) = is_some seat.call

-- whether this pass has one
abbrev pub goes_on : Playing → ℕ → Bool
goes_on p pass = has_call (slice_get p.seats pass)

-- the call of a line is in progress, before its first step
pub record Begins (old : Playing) (pass : ℕ) (call : StartCall) (choice : Choice) (new : Playing) : Type 0 where
  pub begun : Begun
  pub seat : Seat
  pub here : slice_get old.seats pass ≡ Some seat
  pub resolves : begun_of old.names seat.scan call ≡ Some begun
  pub choice_is : choice ≡ begun.choice
  pub names : GivesName old.names new.names begun.progress.name
  pub seats : new.seats ≡ slice_set old.seats pass (record seat { call = Some begun.progress })
  pub running : new.running ≡ old.running
  pub text : new.text ≡ old.text

-- there is no such pass, or a name of the call may not be used
abbrev pub CannotBegin : Playing → ℕ → StartCall → Type 0
CannotBegin p pass call = (seat : Seat) → slice_get p.seats pass ≡ Some seat → begun_of p.names seat.scan call ≡ None

-- the first step of a call is taken
abbrev pub StartsCall : Playing → ℕ → StartCall → Playing → Type 0
StartsCall old pass call new = (choice : Choice) × (between : Playing) × Begins old pass call choice between × Turn between pass choice new

-- it is not
abbrev pub RefusesCall : Playing → ℕ → StartCall → Type 0
RefusesCall old pass call = CannotBegin old pass call ⊎ ((choice : Choice) × (between : Playing) × Begins old pass call choice between × IsRefused between pass choice)

-- the pass goes on, step by step, until its call has ended
pub data RunsOn : Playing → ℕ → Playing → Type 0 where
  HasEnded : (p : Playing) (pass : ℕ) → goes_on p pass ≡ false → RunsOn p pass p
  GoesOn : (p q r : Playing) (pass : ℕ) → goes_on p pass ≡ true → Turn p pass Go q → RunsOn q pass r → RunsOn p pass r

-- a step is refused before its call has ended
pub data StopsOn : Playing → ℕ → Type 0 where
  StopsNow : (p : Playing) (pass : ℕ) → goes_on p pass ≡ true → IsRefused p pass Go → StopsOn p pass
  StopsLater : (p q : Playing) (pass : ℕ) → goes_on p pass ≡ true → Turn p pass Go q → StopsOn q pass → StopsOn p pass

-- what the pass is to do is done
abbrev pub TakesAct : Playing → ℕ → Act → Playing → Type 0
TakesAct old pass (Start call) new = StartsCall old pass call new
TakesAct old pass (Run call) new = (between : Playing) × StartsCall old pass call between × RunsOn between pass new
TakesAct old pass Step new = (goes_on old pass ≡ true) × Turn old pass Go new
TakesAct old pass RunOn new = (goes_on old pass ≡ true) × RunsOn old pass new

-- it is not
abbrev pub RefusesAct : Playing → ℕ → Act → Type 0
RefusesAct old pass (Start call) = RefusesCall old pass call
RefusesAct old pass (Run call) = RefusesCall old pass call ⊎ ((between : Playing) × StartsCall old pass call between × StopsOn between pass)
RefusesAct old pass Step = (goes_on old pass ≡ false) ⊎ IsRefused old pass Go
RefusesAct old pass RunOn = (goes_on old pass ≡ false) ⊎ StopsOn old pass

-- the line is played
abbrev pub TakesLine : Playing → ScheduleLine → Playing → Type 0
TakesLine old line new = TakesAct old line.pass line.act new

-- the line is refused
abbrev pub RefusesLine : Playing → ScheduleLine → Type 0
RefusesLine old line = RefusesAct old line.pass line.act
