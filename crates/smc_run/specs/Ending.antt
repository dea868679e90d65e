-- How the program ends.
use Rattle.std.specs.Prelude.{ℕ, Some, None}
use Rattle.smc_tbl.specs.declared.fault.TblFault.{TblFault}
use Rattle.smc_tbl.specs.declared.fault.TblFault.TheVariants as fault
use Rattle.smc_script.specs.declared.fault.ScriptFault.{ScriptFault}
use Rattle.smc_script.specs.declared.fault.ScriptFault.TheVariants as script
use Rattle.smc_runner.specs.declared.ending.RunEnd.{RunEnd}
use Rattle.smc_runner.specs.declared.ending.RunEnd.TheVariants as run
use Rattle.smc_run.specs.declared.status.Status.{Status}
use Rattle.smc_run.specs.declared.status.Status.TheVariants.{Done, BadWords, BadScript, BadTable, NoFile, ReadFault, WriteFault, TableFull, NoMemory}

-- the number that the process ends with
abbrev pub code_of : Status → ℕ
code_of Done = 0
code_of BadWords = 1
code_of (BadScript line) = 2
code_of (BadTable file line) = 3
code_of (NoFile name) = 4
code_of ReadFault = 5
code_of WriteFault = 6
code_of (TableFull file line) = 7
code_of NoMemory = 8

-- the status after a fault of the input's table at this line
abbrev pub status_of : TblFault → ℕ → Status
status_of fault.ReadFault line = ReadFault
status_of fault.NoMemory line = NoMemory
status_of _ line = BadTable None line

-- the status where there is no script
abbrev pub refused_at : ScriptFault → Status
refused_at script.ReadFault = ReadFault
refused_at (script.Bad line kind) = BadScript line
refused_at script.NoMemory = NoMemory

-- the status where a script that was run ends so
abbrev pub status_of_run : RunEnd → Status
status_of_run run.Done = Done
status_of_run run.WriteFault = WriteFault
status_of_run (run.NoFile name) = NoFile name
status_of_run (run.BadTable name line) = BadTable (Some name) line
status_of_run (run.TableFull name line) = TableFull name line
status_of_run run.ReadFault = ReadFault
status_of_run run.NoMemory = NoMemory
