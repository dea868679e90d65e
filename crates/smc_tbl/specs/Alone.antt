-- A text that is one field, and what it spells on its own.
use Rattle.std.specs.Prelude.{ℕ, Bool, true, false, List, Option, None, Some}
use Rattle.smc_types.specs.declared.column.FieldType.{FieldType}
use Rattle.smc_types.specs.declared.row.Value.{Value}
use Rattle.smc_tbl.specs.Fields.{Lacks, SpellsField}
use Rattle.smc_tbl.specs.TableText.{IsText}
use Rattle.smc_tbl.specs.declared.bytes.TheConstants.{BAR}
use Rattle.smc_tbl.specs.declared.fault.TblFault.{TblFault}
use Rattle.smc_tbl.specs.declared.fault.TblFault.TheVariants.{NoMemory}

-- the text can be one field of a line
pub record IsFieldText (text : List ℕ) : Type 0 where
  pub of_text : IsText text
  pub no_bar : Lacks BAR text

-- the text is one field and spells the value in a column of this type
pub record SpellsAlone (kind : FieldType) (text : List ℕ) (value : Value) : Type 0 where
  pub is_field : IsFieldText text
  pub spells : SpellsField kind text value

-- what an answer says of the text: it spells this value, or none
abbrev pub IsFieldRead : FieldType → List ℕ → Option Value → Type 0
IsFieldRead kind text (Some value) = SpellsAlone kind text value
IsFieldRead kind text None = (value : Value) → ¬ SpellsAlone kind text value

-- whether memory was refused
abbrev pub is_memory : TblFault → Bool
is_memory NoMemory = true
is_memory _ = false
