-- What `run` reads, and what its status says of it.
use Rattle.std.specs.Prelude.{◌≡◌, ◌⊎◌, ℕ, List, [], Option, Some, None, IfSome}
use Rattle.std.specs.Io.KnownBytes.{Keeps}
use Rattle.smc_region.specs.Ends.{Ended}
use Rattle.smc_history.specs.Happened.{Happened}
use Rattle.smc_types.specs.Tables.{the_tables}
use Rattle.smc_script.specs.declared.fault.ScriptKind.{ScriptKind}
use Rattle.smc_script.specs.Scripts.{IsRefused, SpellsScript}
use Rattle.smc_script.specs.Trees.{ScriptTree}
use Rattle.smc_load.specs.Files.{Told}
use Rattle.smc_folds.specs.Kinds.{Kind}
use Rattle.smc_replies.specs.Books.{fold_names}
use Rattle.smc_replies.specs.Scripts.{unknown_line}
use Rattle.smc_runner.specs.declared.ending.RunEnd.{RunEnd}
use Rattle.smc_runner.specs.declared.ending.RunEnd.TheVariants as end
use Rattle.smc_runner.specs.Runs.{RunsTo}
use Rattle.smc_run.specs.declared.status.Status.{Status}
use Rattle.smc_run.specs.declared.status.Status.TheVariants.{Done, BadScript, BadTable, NoFile, ReadFault, WriteFault, TableFull, NoMemory}

-- the text spells the script, over the tables and these folds
abbrev pub Spells : List Kind → ScriptTree → List ℕ → Type 0
Spells kinds script text = SpellsScript the_tables (fold_names kinds) text script

-- the text spells a script, whose first part that is not run begins at this line
abbrev pub IsUnknownAt : List Kind → ℕ → List ℕ → Type 0
IsUnknownAt kinds line text = (script : ScriptTree) × Spells kinds script text × (unknown_line script.folds script.parts ≡ Some line)

-- the line is the first that is refused, or where none is, the first with a command that is not run
abbrev pub IsNoScriptAt : List Kind → ℕ → List ℕ → Type 0
IsNoScriptAt kinds line text = ((kind : ScriptKind) × IsRefused the_tables (fold_names kinds) text line kind) ⊎ IsUnknownAt kinds line text

-- the text is a script, where it is told, whose running over these files and folds ends so
abbrev pub RunsScript : RunEnd → Option (List ℕ) → Told → List Kind → Option Ended → Option (List ℕ) → Option (List ℕ) → Type 0
RunsScript ended text files kinds quiet before after = (script : ScriptTree) × IfSome text (Spells kinds script) × RunsTo ended files kinds script quiet before after

-- there is no closed region, and nothing was written
abbrev pub Untouched : Option Ended → Option (List ℕ) → Option (List ℕ) → Type 0
Untouched quiet before after = (quiet ≡ None) × Keeps before after

-- what the status of `run` says of the text that was to be read, of the files and folds, of the closed region, and of what was written
-- before and after; a fault of reading without a region is one of the input, and with one it is one of the shelf
abbrev pub RunEnds : Status → Option (List ℕ) → Told → List Kind → Option Ended → Option (List ℕ) → Option (List ℕ) → Type 0
RunEnds (BadScript line) text files kinds quiet before after = IfSome text (IsNoScriptAt kinds line) × Untouched quiet before after
RunEnds ReadFault text files kinds None before after = Keeps before after
RunEnds ReadFault text files kinds (Some quiet) before after = RunsScript end.ReadFault text files kinds (Some quiet) before after
RunEnds NoMemory text files kinds quiet before after = Untouched quiet before after ⊎ RunsScript end.NoMemory text files kinds quiet before after
RunEnds Done text files kinds quiet before after = RunsScript end.Done text files kinds quiet before after
RunEnds WriteFault text files kinds quiet before after = RunsScript end.WriteFault text files kinds quiet before after
RunEnds (NoFile name) text files kinds quiet before after = RunsScript (end.NoFile name) text files kinds quiet before after
RunEnds (BadTable (Some name) line) text files kinds quiet before after = RunsScript (end.BadTable name line) text files kinds quiet before after
RunEnds (TableFull name line) text files kinds quiet before after = RunsScript (end.TableFull name line) text files kinds quiet before after
RunEnds _ text files kinds quiet before after = ⊥

-- what it says where the script was read: that it is refused, or how its running ends
abbrev pub RunsKnown : Status → Told → List Kind → ScriptTree → Option Ended → Option (List ℕ) → Option (List ℕ) → Type 0
RunsKnown (BadScript line) files kinds script quiet before after = (unknown_line script.folds script.parts ≡ Some line) × Untouched quiet before after
RunsKnown Done files kinds script quiet before after = RunsTo end.Done files kinds script quiet before after
RunsKnown WriteFault files kinds script quiet before after = RunsTo end.WriteFault files kinds script quiet before after
RunsKnown NoMemory files kinds script quiet before after = RunsTo end.NoMemory files kinds script quiet before after
RunsKnown (NoFile name) files kinds script quiet before after = RunsTo (end.NoFile name) files kinds script quiet before after
RunsKnown (BadTable (Some name) line) files kinds script quiet before after = RunsTo (end.BadTable name line) files kinds script quiet before after
RunsKnown (TableFull name line) files kinds script quiet before after = RunsTo (end.TableFull name line) files kinds script quiet before after
RunsKnown ReadFault files kinds script quiet before after = RunsTo end.ReadFault files kinds script quiet before after
RunsKnown _ files kinds script quiet before after = ⊥

-- the logs of a closed region's passes have one order, by the steps from its opening on, which replays on a plain map
abbrev pub IsLawful : Ended → Type 0
IsLawful quiet = Happened quiet.shape quiet.opening (record { row = quiet.words; locals = quiet.locals })
