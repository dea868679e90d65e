-- The words that a line gives: those of the row that it spells.
use Rattle.std.specs.Prelude.{◌≡◌, ℕ, List, [], ◌++◌, All, Bool, true, false, None, Some, Option, Result, Ok, Err}
use Rattle.smc_types.specs.Columns.{value_kinds}
use Rattle.smc_types.specs.Records.{value_words, row_words}
use Rattle.smc_types.specs.Rows.{IsValue}
use Rattle.smc_types.specs.declared.column.FieldType.{FieldType}
use Rattle.smc_types.specs.declared.row.Value.{Value}
use Rattle.smc_types.specs.declared.schema.Schema.{Schema}
use Rattle.smc_tbl.specs.Column.{TakesField}
use Rattle.smc_tbl.specs.Fields.{SpellsField}
use Rattle.smc_tbl.specs.Reading.{Reads}
use Rattle.smc_tbl.specs.TableText.{FieldsGive, FitsColumns, SpellsRow}
use Rattle.smc_tbl.specs.declared.fault.TblFault.{TblFault}

-- there is a row that the line spells, and these are its words
pub record SpellsWords (schema : Schema) (line words : List ℕ) : Type 0 where
  pub row : List Value
  pub spells : SpellsRow schema line row
  pub words_are : words ≡ row_words (value_kinds schema.columns) row

-- these are the words of a row within its columns
pub record AreRowWords (schema : Schema) (words : List ℕ) : Type 0 where
  pub row : List Value
  pub fits : FitsColumns (value_kinds schema.columns) row
  pub texts : All IsValue row
  pub words_are : words ≡ row_words (value_kinds schema.columns) row

-- there is a value that the field spells in a column of this type, and the words grew by its words
pub record FieldAddsWords (kind : FieldType) (field old new : List ℕ) : Type 0 where
  pub value : Value
  pub spells : SpellsField kind field value
  pub text : IsValue value
  pub grown : new ≡ old ++ value_words kind value

-- there is a value that the first field of the line spells, and the words grew by its words
pub record ColumnAddsWords (kind : FieldType) (line rest old new : List ℕ) : Type 0 where
  pub value : Value
  pub takes : TakesField kind line value rest
  pub text : IsValue value
  pub grown : new ≡ old ++ value_words kind value

-- there are values that the fields of the line spell in columns of these types, and the words grew by their words
pub record LineAddsWords (kinds : List FieldType) (line old new : List ℕ) : Type 0 where
  pub row : List Value
  pub gives : FieldsGive kinds line (Ok row)
  pub texts : All IsValue row
  pub grown : new ≡ old ++ row_words kinds row

-- the answer that a plain call gives, but for the row
abbrev pub without_row : Result Bool TblFault → Result (Option (List Value)) TblFault
without_row (Ok true) = Ok (Some [])
without_row (Ok false) = Ok None
without_row (Err fault) = Err fault

-- what an answer says of the text before it and of the text after it: where there is a row, these are its words
abbrev pub ReadsWords : Schema → Result Bool TblFault → List ℕ → List ℕ → List ℕ → Type 0
ReadsWords schema (Ok true) words text later =
    (row : List Value) × Reads schema (Ok (Some row)) text later × (words ≡ row_words (value_kinds schema.columns) row)
ReadsWords schema (Ok false) words text later = Reads schema (Ok None) text later
ReadsWords schema (Err fault) words text later = Reads schema (Err fault) text later
