-- Every line gives a row or a first fault.
use Rattle.std.proofs.Common.{◌≡◌, ℕ, ℤ, List, [], ◌∷◌, length, Ok, Err, refl, sym, ◌∙◌, arith, inl, inr}
use Rattle.std.specs.Prelude.{◌⊎◌, Result}
use Rattle.std.specs.List.{list_all}
use Rattle.std.specs.Str.{is_utf8}
use Rattle.std.proofs.lemmas.Bool.{cases_lt, cases_Bool, false≢true}
use Rattle.std.proofs.lemmas.Str.{IsUtf8-from_is_utf8, is_utf8-from_IsUtf8}
use Rattle.smc_types.specs.Columns.{value_kinds}
use Rattle.smc_types.specs.Days.{SpellsDay}
use Rattle.smc_types.specs.declared.column.FieldType.{FieldType}
use Rattle.smc_types.specs.declared.row.Value.{Value}
use Rattle.smc_types.specs.declared.schema.Schema.{Schema}
use Rattle.smc_tbl.specs.declared.bytes.TheConstants.{BAR, MAX_LINE}
use Rattle.smc_tbl.specs.declared.fault.TblFault.{TblFault}
use Rattle.smc_tbl.specs.declared.fault.TblFault.TheVariants.{FieldCount, BadText, LineTooLong}
use Rattle.smc_tbl.specs.Fields.{SpellsField, fault_of}
use Rattle.smc_tbl.specs.TableText.{ColumnsGive, Gives, GivesOne, HasFields, IsDivided, IsShort, IsText, is_text_byte}
use Rattle.smc_tbl.proofs.FieldLaws.{divided-end, divided-last, divided-less, divided-more, divided-uncut, first-fault}
use Rattle.smc_tbl.proofs.Cuts.{cut_or_lacks}
use Rattle.smc_tbl.proofs.OneReading.{gives_same}
use Rattle.smc_tbl.proofs.ValueCases.{value_or_none}

-- the fact, or its contrary
abbrev Either : Type 0 → Type 0
Either P = P ⊎ ¬ P

short_or_not : (line : List ℕ) → Either (IsShort line)
short_or_not line = elim (cases_lt MAX_LINE (length line)) [ inl long ↦ inr (λ short. omega arith) | inr short ↦ inl short ]

pub text_or_not : (line : List ℕ) → Either (IsText line)
text_or_not line =
    elim (cases_Bool (list_all is_text_byte line)) [
      | inr other ↦ inr (λ text. false≢true (sym other ∙ text.bytes))
      | inl bytes ↦ elim (cases_Bool (is_utf8 line)) [
        | inr other ↦ inr (λ text. false≢true (sym other ∙ is_utf8-from_IsUtf8 line text.utf8))
        | inl chars ↦ inl (record { utf8 = IsUtf8-from_is_utf8 line chars; bytes = bytes })
      ]
    ]

-- a line has one field for each column, or it has not
divided_or_not : (kinds : List FieldType) (line : List ℕ) → Either (IsDivided kinds line)
divided_or_not [] [] = inl (divided-end [] refl)
divided_or_not [] (byte ∷ line) = inr (λ divided. let none : byte ∷ line ≡ [] = divided-last (byte ∷ line) divided in let never : ⊥ = cc in never)
divided_or_not (kind ∷ kinds) line =
    elim (cut_or_lacks BAR line) [
      | inr lacks ↦ inr (divided-uncut kind kinds line lacks)
      | inl (field, rest, cut, alone) ↦ elim (divided_or_not kinds rest) [
        | inl divided ↦ inl (divided-more kind kinds line field rest cut alone divided)
        | inr none ↦ inr (λ divided. none (divided-less kind kinds line field rest cut alone divided))
      ]
    ]

-- what fields give, one for each column
abbrev SomeOfColumns : List FieldType → List (List ℕ) → Type 0
SomeOfColumns kinds fields = (reading : Result (List Value) TblFault) × ColumnsGive kinds fields reading

more_columns : (kind : FieldType) (kinds : List FieldType) (field : List ℕ) (fields : List (List ℕ)) (value : Value) → SpellsField kind field value
    → (reading : Result (List Value) TblFault) → ColumnsGive kinds fields reading → SomeOfColumns (kind ∷ kinds) (field ∷ fields)
more_columns kind kinds field fields value spells (Ok row) gives = (Ok (value ∷ row), (spells, gives))
more_columns kind kinds field fields value spells (Err fault) gives = (Err fault, inr (value, spells, gives))

columns_give : (kinds : List FieldType) (fields : List (List ℕ)) → length fields ≡ length kinds → SomeOfColumns kinds fields
columns_give [] [] count = (Ok [], tt)
columns_give [] (field ∷ fields) count = absurd (omega arith)
columns_give (kind ∷ kinds) [] count = absurd (omega arith)
columns_give (kind ∷ kinds) (field ∷ fields) count =
    elim (value_or_none kind field) [
      | inr nothing ↦ (Err (fault_of kind), inl (nothing, refl))
      | inl (value, spells) ↦ let (reading, gives) = columns_give kinds fields (omega arith) in more_columns kind kinds field fields value spells reading gives
    ]

module _ (schema : Schema) (line : List ℕ) where
  -- what the columns give is what the line gives
  of_columns : IsShort line → IsText line → (fields : List (List ℕ)) → HasFields line fields → length fields ≡ length (value_kinds schema.columns)
      → (reading : Result (List Value) TblFault) → ColumnsGive (value_kinds schema.columns) fields reading → Gives schema line reading
  of_columns short text fields has count (Err FieldCount) gives = absurd (first-fault (value_kinds schema.columns) fields FieldCount gives)
  of_columns short text fields has count (Err BadText) gives = absurd (first-fault (value_kinds schema.columns) fields BadText gives)
  of_columns short text fields has count (Err LineTooLong) gives = absurd (first-fault (value_kinds schema.columns) fields LineTooLong gives)
  of_columns short text fields has count _ gives = (short, text, (fields, has, count, gives))

  -- a line gives something
  gives_some : (reading : Result (List Value) TblFault) × Gives schema line reading
  gives_some =
      elim (short_or_not line) [
        | inr long ↦ (Err LineTooLong, long)
        | inl short ↦ elim (text_or_not line) [
          | inr bad ↦ (Err BadText, (short, bad))
          | inl text ↦ elim (divided_or_not (value_kinds schema.columns) line) [
            | inr undivided ↦ (Err FieldCount, (short, text, undivided))
            | inl (fields, has, count) ↦
                let (reading, gives) = columns_give (value_kinds schema.columns) fields count in
                (reading, of_columns short text fields has count reading gives)
          ]
        ]
      ]

-- a line gives one thing and no other
pub gives_one : ((text : List ℕ) (a b : ℤ) → SpellsDay text a → SpellsDay text b → a ≡ b) → (schema : Schema) (line : List ℕ) → GivesOne schema line
gives_one one_day schema line =
    let (reading, gives) = gives_some schema line in
    (reading, gives, λ other given. gives_same one_day schema line other reading given gives)
