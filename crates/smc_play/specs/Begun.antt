-- What the call of a line begins, by what its names stand for.
use Rattle.std.specs.Prelude.{ℕ, Option, Some, None, List}
use Rattle.std.specs.Option.{option_map}
use Rattle.smc_words.specs.declared.number.Number.{Number}
use Rattle.smc_core.specs.declared.call.Call.{Call}
use Rattle.smc_core.specs.declared.call.Call.TheVariants as call
use Rattle.smc_core.specs.declared.call.Choice.TheVariants.{Start}
use Rattle.smc_schedule.specs.Known.{known_as}
use Rattle.smc_schedule.specs.declared.call.StartCall.{StartCall}
use Rattle.smc_schedule.specs.declared.call.StartCall.TheVariants as line
use Rattle.smc_schedule.specs.declared.names.Known.{Known}
use Rattle.smc_schedule.specs.declared.names.Known.TheVariants.{Object}
use Rattle.smc_schedule.specs.declared.names.Names.{Names}
use Rattle.smc_schedule.specs.declared.verb.Verb.{Verb}
use Rattle.smc_schedule.specs.declared.verb.Verb.TheVariants as verb
use Rattle.smc_play.specs.declared.begun.Begun.{Begun}

-- the object that a name stands for, if it does
abbrev pub number_of : Option Known → Option Number
number_of (Some (Object number)) = Some number
number_of _ = None

-- a call that gives no name
abbrev pub plain : Verb → Call → Begun
plain verb call = record { progress = record { verb = verb; name = None }; choice = Start call }

-- an add under a name that was not given yet
abbrev pub added : Option Known → List ℕ → ℕ → List ℕ → Option Begun
added None name from words = Some (record { progress = record { verb = verb.Add; name = Some name }; choice = Start (call.Add 0 from words) })
added (Some known) name from words = None

-- a call on an object, where the name stands for one
abbrev pub looked : Option Number → Option Begun
looked object = option_map (λ number. plain verb.Look (call.Look number)) object

abbrev pub read : Option Number → ℕ → Option Begun
read object field = option_map (λ number. plain verb.Read (call.Read number field)) object

abbrev pub written : Option Number → ℕ → ℕ → Option Begun
written object field value = option_map (λ number. plain verb.Write (call.Write number field value)) object

abbrev pub removed : Option Number → Option Begun
removed object = option_map (λ number. plain verb.Remove (call.Remove number)) object

-- going on with the latest scan of the section, where there is one
abbrev pub next : Option ℕ → Option Begun
next scan = option_map (λ number. plain verb.Next (call.Next number)) scan

-- what the call of a line begins
abbrev pub begun_of : Names → Option ℕ → StartCall → Option Begun
begun_of names scan line.Enter = Some (plain verb.Enter call.Enter)
begun_of names scan line.Leave = Some (plain verb.Leave call.Leave)
begun_of names scan line.Advance = Some (plain verb.Advance call.Advance)
begun_of names scan (line.Add name from words) = added (known_as names name) name from words
begun_of names scan (line.Look name) = looked (number_of (known_as names name))
begun_of names scan (line.Read name field) = read (number_of (known_as names name)) field
begun_of names scan (line.Write name field value) = written (number_of (known_as names name)) field value
begun_of names scan (line.Remove name) = removed (number_of (known_as names name))
begun_of names scan line.Scan = Some (plain verb.Scan (call.Scan 0))
begun_of names scan line.Next = next scan
begun_of names scan line.Begin = Some (plain verb.Begin (call.Begin 0))
begun_of names scan line.Finish = Some (plain verb.Finish call.Finish)
begun_of names scan line.Cancel = Some (plain verb.Cancel call.Cancel)
