-- What an edit does with a row.
use Rattle.std.specs.Prelude.{⊤, ℕ, ◌<◌, List, Option, None, Some, slice_index, if◌then◌else◌}
use Rattle.smc_words.specs.declared.layout.TheConstants.{BLANK}
use Rattle.smc_types.specs.Faults.{value_fault}
use Rattle.smc_types.specs.Records.{value_words}
use Rattle.smc_types.specs.declared.column.FieldType.{FieldType}
use Rattle.smc_types.specs.declared.encoding.EncodeFault.{EncodeFault}
use Rattle.smc_types.specs.declared.row.Value.{Value}
use Rattle.smc_types.specs.declared.row.Value.TheVariants.{Number as OfNumber, Day as OfDay, Text as OfText}
use Rattle.smc_plan.specs.Edits.{PlannedEdit}
use Rattle.smc_meaning.specs.Kept.{meets_filter}
use Rattle.smc_meaning.specs.Values.{Cell, number, day, text, scale_of, units_at, value_of}
use Rattle.smc_meaning.specs.declared.editing.Edited.{Edited}
use Rattle.smc_meaning.specs.declared.editing.Edited.TheVariants.{Unmet, Outside, Word}

-- what is to stand in a column: a number with the decimals of the column, or a day
abbrev pub column_value : FieldType → Cell → Value
column_value kind (number units scale) = OfNumber (units_at (scale_of kind) units scale)
column_value kind (day days) = OfDay days
column_value kind (text bytes) = OfText bytes

-- this word is written, if there is no fault
abbrev pub unless_fault : Option EncodeFault → ℕ → Edited
unless_fault None word = Word word
unless_fault (Some fault) word = Outside

-- what is written for a value into a column: its word, if the column can hold the value
abbrev pub written_of : FieldType → Value → Edited
written_of kind value = unless_fault (value_fault kind value) (slice_index (value_words kind value) 0)

-- what an edit does with a row: where the row meets the condition, the value is written at the decimals of the column
abbrev pub edited : PlannedEdit → List ℕ → Edited
edited plan words =
    if meets_filter plan.leaves plan.filter words then written_of plan.field.kind (column_value plan.field.kind (value_of plan.leaves plan.value.typed words))
    else Unmet

-- a word that is written is not the blank one
abbrev pub IsFilledBy : Edited → Type 0
IsFilledBy (Word word) = word < BLANK
IsFilledBy edited = ⊤
