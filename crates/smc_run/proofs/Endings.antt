-- How a tally ends, from what was read and what was written.
use Rattle.std.proofs.Common.{ℕ, List, IfSome}
use Rattle.std.specs.Prelude.{Option}
use Rattle.smc_run.specs.declared.status.Status.{Status}
use Rattle.smc_run.specs.declared.status.Status.TheVariants.{Done, WriteFault, NoMemory}
use Rattle.smc_types.specs.declared.row.Value.{Value}
use Rattle.smc_types.specs.declared.schema.Schema.{Schema}
use Rattle.smc_run.specs.Tally.{IsTable, TallyEnds, WritesText, report_of}

-- the report of a table was written, or a front of it, or nothing
pub TallyEnds-written : (schema : Schema) (status : Status) (text before after : Option (List ℕ)) (rows : List (List Value))
    → IfSome text (λ bytes. IsTable schema bytes rows) → WritesText status before after (report_of rows) → TallyEnds schema status text before after
TallyEnds-written schema Done text before after rows table writes = (rows, table, writes)
TallyEnds-written schema WriteFault text before after rows table writes = (rows, table, writes)
TallyEnds-written schema NoMemory text before after rows table writes = writes
TallyEnds-written schema _ text before after rows table writes = absurd writes
