-- The choice of the machine that a caller's choice is.
use Rattle.std.specs.Prelude.{ℕ, List, Option, Some, None, slice_get}
use Rattle.smc_core.specs.declared.call.Call.TheVariants as call
use Rattle.smc_core.specs.declared.call.Choice.{Choice}
use Rattle.smc_core.specs.declared.call.Choice.TheVariants as choice
use Rattle.smc_core.specs.declared.local.Scan.{Scan}
use Rattle.smc_region.specs.declared.chosen.Chosen.{Chosen}
use Rattle.smc_region.specs.declared.chosen.Chosen.TheVariants as chosen
use Rattle.smc_region.specs.declared.law.View.{View}
use Rattle.smc_region.specs.Views.{sole}

-- the number of a scan, if there is one
abbrev pub number_of : Option Scan → ℕ
number_of None = 0
number_of (Some scan) = scan.number

-- the choice, in a section that has begun these scans
abbrev pub choice_of : List Scan → Chosen → Choice
choice_of scans chosen.Go = choice.Go
choice_of scans chosen.Enter = choice.Start call.Enter
choice_of scans chosen.Leave = choice.Start call.Leave
choice_of scans chosen.Advance = choice.Start call.Advance
choice_of scans (chosen.Add coll from words) = choice.Start (call.Add coll from words.now)
choice_of scans (chosen.Look number) = choice.Start (call.Look number)
choice_of scans (chosen.Read number field) = choice.Start (call.Read number field)
choice_of scans (chosen.Write number field value) = choice.Start (call.Write number field value)
choice_of scans (chosen.Remove number) = choice.Start (call.Remove number)
choice_of scans (chosen.Scan coll) = choice.Start (call.Scan coll)
choice_of scans (chosen.Next place) = choice.Start (call.Next (number_of (slice_get scans place)))
choice_of scans (chosen.Begin coll) = choice.Start (call.Begin coll)
choice_of scans chosen.Finish = choice.Start call.Finish
choice_of scans chosen.Cancel = choice.Start call.Cancel
choice_of scans (chosen.Survey coll) = choice.Start (call.Survey coll)
choice_of scans chosen.Note = choice.Start call.Note
choice_of scans (chosen.Learn pass note) = choice.Start (call.Learn pass note)

-- the choice of the one pass of a view
abbrev pub seat_choice : View → Chosen → Choice
seat_choice view chosen = choice_of (sole view.shape view.locals).stand.scans chosen
