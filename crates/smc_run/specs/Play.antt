-- What the playing of a schedule reads and writes.
use Rattle.std.specs.Prelude.{◌≡◌, ℕ, Option, List}
use Rattle.smc_play.specs.Ending.{PlayEnds}
use Rattle.smc_play.specs.declared.play.PlayEnd.{PlayEnd}
use Rattle.smc_play.specs.declared.play.PlayEnd.TheVariants as end
use Rattle.smc_run.specs.declared.status.Status.{Status}
use Rattle.smc_run.specs.declared.status.Status.TheVariants.{Done, BadScript, ReadFault, WriteFault, NoMemory}

-- the status of the program whose schedule ends so
abbrev pub status_at : PlayEnd → Status
status_at end.Done = Done
status_at (end.BadLine line) = BadScript line
status_at end.ReadFault = ReadFault
status_at end.WriteFault = WriteFault
status_at end.NoMemory = NoMemory

-- what a status says of the schedule that was to be read, and of what was written before and after
abbrev pub PlaysAs : Status → Option (List ℕ) → Option (List ℕ) → Option (List ℕ) → Type 0
PlaysAs status text before after = (ended : PlayEnd) × (status ≡ status_at ended) × PlayEnds ended text before after
