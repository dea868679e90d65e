-- What a line gives, from its first field and from what stands behind it.
use Rattle.std.proofs.Common.{◌≡◌, ◌≢◌, ℕ, suc, List, [], ◌∷◌, ◌++◌, append_assoc, length, Ok, Err, refl, sym, ap, ◌∙◌, arith, inl, inr}
use Rattle.std.specs.Prelude.{Result}
use Rattle.smc_types.specs.declared.column.FieldType.{FieldType}
use Rattle.smc_types.specs.declared.column.FieldType.TheVariants.{Count, Amount, Rate, Day, Text, RefTo}
use Rattle.smc_types.specs.declared.row.Value.{Value}
use Rattle.smc_types.specs.declared.schema.Schema.{Schema}
use Rattle.smc_types.specs.Columns.{value_kinds}
use Rattle.smc_tbl.specs.declared.fault.TblFault.{TblFault}
use Rattle.smc_tbl.specs.declared.fault.TblFault.TheVariants.{FieldCount, Number, Date, TextTooLong, BadText, LineTooLong, ReadFault, TooManyLines, NoMemory}
use Rattle.smc_tbl.specs.declared.bytes.TheConstants.{BAR}
use Rattle.smc_tbl.specs.Fields.{Lacks, SpellsField, SpellsNothing, fault_of}
use Rattle.smc_tbl.specs.Column.{FieldGives}
use Rattle.smc_tbl.specs.TableText.{HasFields, IsDivided, FieldsGive, HasFirstFault, IsShort, IsText, Gives, UnlessMemory}
use Rattle.smc_tbl.proofs.Cuts.{one_cut, uncut}

-- values in front of what the rest gives
abbrev pub behind : List Value → Result (List Value) TblFault → Result (List Value) TblFault
behind values (Ok more) = Ok (values ++ more)
behind values (Err fault) = Err fault

module _ (kind : FieldType) (kinds : List FieldType) (line field rest : List ℕ) (cut : line ≡ field ++ BAR ∷ rest) (alone : Lacks BAR field) where
  -- a line is divided as what stands behind its first field
  pub divided-more : IsDivided kinds rest → IsDivided (kind ∷ kinds) line
  divided-more (fields, has, count) = (field ∷ fields, (rest, cut, alone, has), ap suc count)

  less : (fields : List (List ℕ)) → HasFields line fields → length fields ≡ length (kind ∷ kinds) → IsDivided kinds rest
  less [] has count = absurd (omega arith)
  less (first ∷ fields) (later, first_cut, first_alone, has) count =
      let same : rest ≡ later = (one_cut BAR field first rest later alone first_alone (sym cut ∙ first_cut)).1 in
      (fields, rw same has, omega arith)

  pub divided-less : IsDivided (kind ∷ kinds) line → IsDivided kinds rest
  divided-less (fields, has, count) = less fields has count

  -- what stands behind a field that spells a value decides
  pub gives-spelled : (value : Value) (reading : Result (List Value) TblFault) → SpellsField kind field value → FieldsGive kinds rest reading
      → FieldsGive (kind ∷ kinds) line (behind (value ∷ []) reading)
  gives-spelled value (Ok row) spells (fields, has, count, gives) = (field ∷ fields, (rest, cut, alone, has), ap suc count, (spells, gives))
  gives-spelled value (Err FieldCount) spells none = λ divided. none (divided-less divided)
  gives-spelled value (Err _) spells (fields, has, count, gives) = (field ∷ fields, (rest, cut, alone, has), ap suc count, inr (value, spells, gives))

  -- the fault of a field that spells none counts where the line is divided
  pub gives-fault : SpellsNothing kind field → IsDivided kinds rest → (fault : TblFault) → fault ≡ fault_of kind → FieldsGive (kind ∷ kinds) line (Err fault)
  gives-fault nothing (fields, has, count) fault is =
      let P : TblFault → Type 0 = λ f. FieldsGive (kind ∷ kinds) line (Err f) in
      rw is (by_kind kind nothing)
    where
      by_kind : (k : FieldType) → SpellsNothing k field → FieldsGive (k ∷ kinds) line (Err (fault_of k))
      by_kind Count nothing = (field ∷ fields, (rest, cut, alone, has), ap suc count, inl (nothing, refl))
      by_kind Amount nothing = (field ∷ fields, (rest, cut, alone, has), ap suc count, inl (nothing, refl))
      by_kind Rate nothing = (field ∷ fields, (rest, cut, alone, has), ap suc count, inl (nothing, refl))
      by_kind Day nothing = (field ∷ fields, (rest, cut, alone, has), ap suc count, inl (nothing, refl))
      by_kind (Text width) nothing = (field ∷ fields, (rest, cut, alone, has), ap suc count, inl (nothing, refl))
      by_kind (RefTo table) nothing = (field ∷ fields, (rest, cut, alone, has), ap suc count, inl (nothing, refl))

-- a line without a bar has no field
undivided : (kind : FieldType) (kinds : List FieldType) (line : List ℕ) → Lacks BAR line → (fields : List (List ℕ)) → HasFields line fields → length fields ≢ length (kind ∷ kinds)
undivided kind kinds line lacks [] has count = omega arith
undivided kind kinds line lacks (first ∷ fields) (later, first_cut, first_alone, has) count = uncut BAR line first later lacks first_cut

pub divided-uncut : (kind : FieldType) (kinds : List FieldType) (line : List ℕ) → Lacks BAR line → ¬ IsDivided (kind ∷ kinds) line
divided-uncut kind kinds line lacks (fields, has, count) = undivided kind kinds line lacks fields has count

-- behind the last column nothing may stand
none-left : (line : List ℕ) (fields : List (List ℕ)) → HasFields line fields → length fields ≡ 0 → line ≡ []
none-left line [] has count = has
none-left line (first ∷ fields) has count = absurd (omega arith)

pub divided-last : (line : List ℕ) → IsDivided [] line → line ≡ []
divided-last line (fields, has, count) = none-left line fields has count

pub divided-end : (line : List ℕ) → line ≡ [] → IsDivided [] line
divided-end line none = ([], none, refl)

-- values in front of one more
pub behind-push : (values : List Value) (value : Value) (reading : Result (List Value) TblFault) → behind values (behind (value ∷ []) reading) ≡ behind (values ++ value ∷ []) reading
behind-push values value (Ok more) = ap Ok (sym (append_assoc values (value ∷ []) more))
behind-push values value (Err fault) = refl

-- a fault that was told stands unless memory ran out
pub column-fault : (kind : FieldType) (kinds : List FieldType) (line field rest : List ℕ) → line ≡ field ++ BAR ∷ rest → Lacks BAR field → (fault : TblFault)
    → UnlessMemory (Err fault) (FieldGives kind field) → IsDivided kinds rest → UnlessMemory (Err fault) (FieldsGive (kind ∷ kinds) line)
column-fault kind kinds line field rest cut alone NoMemory given divided = tt
column-fault kind kinds line field rest cut alone FieldCount given divided = gives-fault kind kinds line field rest cut alone given.0 divided FieldCount given.1
column-fault kind kinds line field rest cut alone Number given divided = gives-fault kind kinds line field rest cut alone given.0 divided Number given.1
column-fault kind kinds line field rest cut alone Date given divided = gives-fault kind kinds line field rest cut alone given.0 divided Date given.1
column-fault kind kinds line field rest cut alone TextTooLong given divided = gives-fault kind kinds line field rest cut alone given.0 divided TextTooLong given.1
column-fault kind kinds line field rest cut alone BadText given divided = gives-fault kind kinds line field rest cut alone given.0 divided BadText given.1
column-fault kind kinds line field rest cut alone LineTooLong given divided = gives-fault kind kinds line field rest cut alone given.0 divided LineTooLong given.1
column-fault kind kinds line field rest cut alone ReadFault given divided = gives-fault kind kinds line field rest cut alone given.0 divided ReadFault given.1
column-fault kind kinds line field rest cut alone TooManyLines given divided = gives-fault kind kinds line field rest cut alone given.0 divided TooManyLines given.1

-- what follows of a fault that was told
pub fault-then : (fault : TblFault) (A B : Result (List Value) TblFault → Type 0) → (A (Err fault) → B (Err fault)) → UnlessMemory (Err fault) A → UnlessMemory (Err fault) B
fault-then NoMemory A B then given = tt
fault-then FieldCount A B then given = then given
fault-then Number A B then given = then given
fault-then Date A B then given = then given
fault-then TextTooLong A B then given = then given
fault-then BadText A B then given = then given
fault-then LineTooLong A B then given = then given
fault-then ReadFault A B then given = then given
fault-then TooManyLines A B then given = then given

-- the faults that a column can have
abbrev pub IsColumnFault : TblFault → Type 0
IsColumnFault Number = Unit {0}
IsColumnFault Date = Unit {0}
IsColumnFault TextTooLong = Unit {0}
IsColumnFault fault = ⊥

fault_of-column : (kind : FieldType) → IsColumnFault (fault_of kind)
fault_of-column Count = tt
fault_of-column Amount = tt
fault_of-column Rate = tt
fault_of-column Day = tt
fault_of-column (Text width) = tt
fault_of-column (RefTo table) = tt

pub first-fault : (kinds : List FieldType) (fields : List (List ℕ)) (fault : TblFault) → HasFirstFault kinds fields fault → IsColumnFault fault
first-fault [] fields fault has = absurd has
first-fault (kind ∷ kinds) [] fault has = absurd has
first-fault (kind ∷ kinds) (field ∷ fields) fault (inl (nothing, is)) = rw is (fault_of-column kind)
first-fault (kind ∷ kinds) (field ∷ fields) fault (inr (value, spells, later)) = first-fault kinds fields fault later

module _ (schema : Schema) (line : List ℕ) (short : IsShort line) (text : IsText line) where
  -- a line of text gives what its fields give
  pub line-gives : (reading : Result (List Value) TblFault) → UnlessMemory reading (FieldsGive (value_kinds schema.columns) line) → UnlessMemory reading (Gives schema line)
  line-gives (Ok row) given = (short, text, given)
  line-gives (Err NoMemory) given = tt
  line-gives (Err FieldCount) given = (short, text, given)
  line-gives (Err Number) given = (short, text, given)
  line-gives (Err Date) given = (short, text, given)
  line-gives (Err TextTooLong) given = (short, text, given)
  line-gives (Err BadText) (fields, has, count, fault) = absurd (first-fault (value_kinds schema.columns) fields BadText fault)
  line-gives (Err LineTooLong) (fields, has, count, fault) = absurd (first-fault (value_kinds schema.columns) fields LineTooLong fault)
  line-gives (Err ReadFault) given = (short, text, given)
  line-gives (Err TooManyLines) given = (short, text, given)
