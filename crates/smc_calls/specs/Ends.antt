-- Which call an end belongs to.
use Rattle.std.specs.Prelude.{◌≡◌, ◌⊎◌, ℕ, true, false, Option, Some, None, List}
use Rattle.smc_words.specs.declared.number.Number.{Number}
use Rattle.smc_model.specs.declared.event.Event.{Event}
use Rattle.smc_model.specs.declared.event.Event.TheVariants as event
use Rattle.smc_core.specs.declared.call.Call.{Call}
use Rattle.smc_core.specs.declared.call.Call.TheVariants as call
use Rattle.smc_core.specs.declared.done.Done.{Done}
use Rattle.smc_core.specs.declared.done.Done.TheVariants as done
use Rattle.smc_trace.specs.Trace.{CallEnd}

-- by the answer: the event that was told with it, and the call that ends so
abbrev pub EndsSo : Done → Option Event → Call → Type 0
EndsSo (done.At epoch) told made = (told ≡ Some event.Enter) × (made ≡ call.Enter)
EndsSo done.Out told made = (told ≡ Some event.Leave) × (made ≡ call.Leave)
EndsSo (done.Advanced epoch) told made = (told ≡ None) × (made ≡ call.Advance)
EndsSo (done.NotYet pass seen) told made = (told ≡ None) × (made ≡ call.Advance)
EndsSo (done.Overtaken seen) told made = (told ≡ None) × (made ≡ call.Advance)
EndsSo done.Spent told made = (told ≡ None) × (made ≡ call.Advance)
EndsSo (done.Made slot) told made = (number : Number) × (from : ℕ) × (words : List ℕ)
    × (told ≡ Some (event.Add number number.coll words)) × (made ≡ call.Add number.coll from words)
EndsSo (done.Full cause) told made = (coll : ℕ) × (from : ℕ) × (words : List ℕ)
    × (told ≡ Some (event.Refused coll cause)) × (made ≡ call.Add coll from words)
EndsSo (done.Here slot) told made = (number : Number) × (told ≡ Some (event.Look number true)) × (made ≡ call.Look number)
EndsSo done.Null told made = (number : Number) × (told ≡ Some (event.Look number false)) × (made ≡ call.Look number)
EndsSo (done.Value value) told made = (number : Number) × (field : ℕ) × (told ≡ Some (event.Read number field value)) × (made ≡ call.Read number field)
EndsSo done.Written told made = (number : Number) × (field : ℕ) × (value : ℕ)
    × (told ≡ Some (event.Write number field value)) × (made ≡ call.Write number field value)
EndsSo done.First told made = (number : Number) × (told ≡ Some (event.Remove number true)) × (made ≡ call.Remove number)
EndsSo done.Late told made = (number : Number) × (told ≡ Some (event.Remove number false)) × (made ≡ call.Remove number)
EndsSo done.Begun told made = (scan : ℕ) × (coll : ℕ) × (told ≡ Some (event.Begin scan coll)) × (made ≡ call.Scan coll)
EndsSo (done.Visit number slot) told made = (scan : ℕ) × (told ≡ Some (event.Visit scan number)) × (made ≡ call.Next scan)
EndsSo done.End told made = (scan : ℕ) × ((told ≡ Some (event.End scan)) ⊎ (told ≡ None)) × (made ≡ call.Next scan)
EndsSo (done.Round coll bound moves) told made = (told ≡ None) × (made ≡ call.Begin coll)
EndsSo (done.Nothing coll) told made = (told ≡ None) × (made ≡ call.Begin coll)
EndsSo (done.Busy bound pass other) told made = (coll : ℕ) × (told ≡ None) × (made ≡ call.Begin coll)
EndsSo (done.Finished moved abandoned gone) told made = (told ≡ None) × (made ≡ call.Finish)
EndsSo (done.Early epoch bound) told made = (told ≡ None) × (made ≡ call.Finish)
EndsSo done.Cancelled told made = (told ≡ None) × (made ≡ call.Cancel)
EndsSo (done.Noted note) told made = (told ≡ None) × (made ≡ call.Note)
EndsSo done.Learned told made = (other : ℕ) × (note : ℕ) × (length : ℕ) × (told ≡ Some (event.Told other length)) × (made ≡ call.Learn other note)
EndsSo (done.Surveyed coll objects blocks) told made = (told ≡ None) × (made ≡ call.Survey coll)

-- this is how that call ended
abbrev pub IsEndOf : Call → CallEnd → Type 0
IsEndOf made end = EndsSo end.done end.event made
