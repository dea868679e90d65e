-- The text of a table: its lines, and what each line gives, a row or the first of its faults.
use Rattle.std.specs.Prelude.{◌≡◌, ℕ, ◌≤◌, ◌⊎◌, Bool, ◌||◌, ◌&&◌, not, nat_lt, IsTrue, ⊤, if◌then◌else◌, ◌==◌, List, [], ◌∷◌, ◌++◌, length, None, Result, Ok, Err, IsUtf8}
use Rattle.std.specs.List.{list_all, onto_first}
use Rattle.smc_types.specs.Columns.{value_kinds}
use Rattle.smc_types.specs.Faults.{value_fault}
use Rattle.smc_types.specs.declared.column.FieldType.{FieldType}
use Rattle.smc_types.specs.declared.row.Value.{Value}
use Rattle.smc_types.specs.declared.schema.Schema.{Schema}
use Rattle.smc_tbl.specs.Fields.{Lacks, SpellsField, SpellsNothing, fault_of}
use Rattle.smc_tbl.specs.declared.fault.TblFault.{TblFault}
use Rattle.smc_tbl.specs.declared.fault.TblFault.TheVariants.{FieldCount, BadText, LineTooLong, NoMemory}
use Rattle.smc_tbl.specs.declared.bytes.TheConstants.{BAR, MAX_LINE, NEWLINE}

-- the lines of a text; each ends with a newline, which the last one may lack
abbrev pub lines : List ℕ → List (List ℕ)
lines [] = []
lines (byte ∷ text) = if byte == NEWLINE then [] ∷ lines text else onto_first byte (lines text)

-- a line within the limit of length
abbrev pub IsShort : List ℕ → Type 0
IsShort line = length line ≤ MAX_LINE

-- a byte that may stand in a line of text
abbrev pub is_text_byte : ℕ → Bool
is_text_byte byte = not (byte == 0 || byte == NEWLINE)

-- the same, and of ASCII
abbrev pub is_plain_byte : ℕ → Bool
is_plain_byte byte = is_text_byte byte && nat_lt byte 128

-- a line of text: UTF-8 without byte 0 and newline
pub record IsText (line : List ℕ) : Type 0 where
  pub utf8 : IsUtf8 line
  pub bytes : IsTrue (list_all is_text_byte line)

-- the line is these fields, each followed by a bar
abbrev pub HasFields : List ℕ → List (List ℕ) → Type 0
HasFields line [] = line ≡ []
HasFields line (field ∷ fields) = (rest : List ℕ) × (line ≡ field ++ BAR ∷ rest) × Lacks BAR field × HasFields rest fields

-- the line has one field for each of these columns
abbrev pub IsDivided : List FieldType → List ℕ → Type 0
IsDivided kinds line = (fields : List (List ℕ)) × HasFields line fields × (length fields ≡ length kinds)

-- the fields spell these values, each in its column
abbrev pub SpellValues : List FieldType → List (List ℕ) → List Value → Type 0
SpellValues [] [] [] = ⊤
SpellValues (kind ∷ kinds) (field ∷ fields) (value ∷ values) = SpellsField kind field value × SpellValues kinds fields values
SpellValues kinds fields values = ⊥

-- the first column from the left whose field spells no value has this fault
abbrev pub HasFirstFault : List FieldType → List (List ℕ) → TblFault → Type 0
HasFirstFault (kind ∷ kinds) (field ∷ fields) fault =
    (SpellsNothing kind field × (fault ≡ fault_of kind)) ⊎ ((value : Value) × SpellsField kind field value × HasFirstFault kinds fields fault)
HasFirstFault kinds fields fault = ⊥

-- the row has one value for each column, of its kind and within its range or width
abbrev pub FitsColumns : List FieldType → List Value → Type 0
FitsColumns [] [] = ⊤
FitsColumns (kind ∷ kinds) (value ∷ values) = (value_fault kind value ≡ None) × FitsColumns kinds values
FitsColumns kinds values = ⊥

-- what fields give, one for each column: a row, or the fault of the first column that has one
abbrev pub ColumnsGive : List FieldType → List (List ℕ) → Result (List Value) TblFault → Type 0
ColumnsGive kinds fields (Ok row) = SpellValues kinds fields row
ColumnsGive kinds fields (Err fault) = HasFirstFault kinds fields fault

-- what a line of text gives: what its fields give, or a fault where it has not one for each column
abbrev pub FieldsGive : List FieldType → List ℕ → Result (List Value) TblFault → Type 0
FieldsGive kinds line (Err FieldCount) = ¬ IsDivided kinds line
FieldsGive kinds line reading =
    (fields : List (List ℕ)) × HasFields line fields × (length fields ≡ length kinds) × ColumnsGive kinds fields reading

-- what a line gives: its row, or its first fault in the order of the tests
abbrev pub Gives : Schema → List ℕ → Result (List Value) TblFault → Type 0
Gives schema line (Err LineTooLong) = ¬ IsShort line
Gives schema line (Err BadText) = IsShort line × ¬ IsText line
Gives schema line reading = IsShort line × IsText line × FieldsGive (value_kinds schema.columns) line reading

-- a line gives one thing and no other: exactly one row or first fault
abbrev pub GivesOne : Schema → List ℕ → Type 0
GivesOne schema line =
    (reading : Result (List Value) TblFault) × Gives schema line reading × ((other : Result (List Value) TblFault) → Gives schema line other → other ≡ reading)

-- the line spells the row
abbrev pub SpellsRow : Schema → List ℕ → List Value → Type 0
SpellsRow schema line row = Gives schema line (Ok row)

-- the fact of the result, unless memory ran out
abbrev pub UnlessMemory : {A : Type 0} → Result A TblFault → (Result A TblFault → Type 0) → Type 0
UnlessMemory (Err NoMemory) fact = ⊤
UnlessMemory result fact = fact result
