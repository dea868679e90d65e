-- What one column of a line gives.
use Rattle.std.specs.Prelude.{◌≡◌, ℕ, List, ◌∷◌, ◌++◌, Option, None, Some, Result, Ok, Err, ℤ}
use Rattle.smc_types.specs.declared.column.FieldType.{FieldType}
use Rattle.smc_types.specs.declared.row.Value.{Value}
use Rattle.smc_types.specs.declared.row.Value.TheVariants.{Number as OfNumber}
use Rattle.smc_tbl.specs.Fields.{Lacks, SpellsField, SpellsNothing, fault_of}
use Rattle.smc_tbl.specs.declared.fault.TblFault.{TblFault}
use Rattle.smc_tbl.specs.declared.fault.TblFault.TheVariants.{Number}
use Rattle.smc_tbl.specs.declared.bytes.TheConstants.{BAR}

-- what a field gives: a value that it spells, or the fault of its column where it spells none
abbrev pub FieldGives : FieldType → List ℕ → Result Value TblFault → Type 0
FieldGives kind field (Ok value) = SpellsField kind field value
FieldGives kind field (Err fault) = SpellsNothing kind field × (fault ≡ fault_of kind)

-- the line begins with a field that spells the value; behind its bar stands the rest
pub record TakesField (kind : FieldType) (line : List ℕ) (value : Value) (rest : List ℕ) : Type 0 where
  pub field : List ℕ
  pub cut : line ≡ field ++ BAR ∷ rest
  pub alone : Lacks BAR field
  pub spells : SpellsField kind field value

-- a number that a field spells, or the fault of a field that spells none
abbrev pub number_read : Option ℤ → Result Value TblFault
number_read None = Err Number
number_read (Some number) = Ok (OfNumber number)
