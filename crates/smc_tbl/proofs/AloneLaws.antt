-- A text that is one field spells one value of a column, or none; and values that are spelled are within their columns.
use Rattle.std.proofs.Common.{◌≡◌, ℕ, ℤ, List, [], ◌∷◌, None, inl, inr}
use Rattle.std.specs.Prelude.{◌⊎◌}
use Rattle.std.specs.List.{All}
use Rattle.std.proofs.lemmas.List.Elements.{All-cons, All-nil}
use Rattle.smc_types.specs.Columns.{value_kinds}
use Rattle.smc_types.specs.Days.{SpellsDay, IsDay}
use Rattle.smc_types.specs.Faults.{value_fault}
use Rattle.smc_types.specs.Rows.{IsValue}
use Rattle.smc_types.specs.Texts.{IsText as IsRowText}
use Rattle.smc_types.specs.declared.column.FieldType.{FieldType}
use Rattle.smc_types.specs.declared.column.FieldType.TheVariants.{Count, Amount, Rate, Day, Text, RefTo}
use Rattle.smc_types.specs.declared.row.Value.{Value}
use Rattle.smc_types.specs.declared.row.Value.TheVariants.{Number as OfNumber, Day as OfDay, Text as OfText}
use Rattle.smc_types.specs.declared.schema.Schema.{Schema}
use Rattle.smc_tbl.specs.Alone.{IsFieldRead, IsFieldText, SpellsAlone}
use Rattle.smc_tbl.specs.Fields.{SpellsField}
use Rattle.smc_tbl.specs.TableText.{HasFields, SpellValues, SpellsRow}
use Rattle.smc_tbl.specs.declared.bytes.TheConstants.{BAR}
use Rattle.smc_tbl.proofs.Cuts.{cut_or_lacks, uncut}
use Rattle.smc_tbl.proofs.Existence.{text_or_not}
use Rattle.smc_tbl.proofs.FitLaws.{spelled-good}
use Rattle.smc_tbl.proofs.OneReading.{one_value}
use Rattle.smc_tbl.proofs.TextLaws.{field-text, rest-text, row-text}
use Rattle.smc_tbl.proofs.ValueCases.{OneOrNone, value_or_none}

-- where no value is spelled in a column, none is spelled alone
alone-nothing : (kind : FieldType) (text : List ℕ) → ((value : Value) → ¬ SpellsField kind text value) → IsFieldRead kind text None
alone-nothing kind text nothing value alone = nothing value alone.spells

-- ---- one value, or none

-- a text can be a field, or it can't
abbrev Known : Type 0 → Type 0
Known fact = fact ⊎ ¬ fact

field-known : (text : List ℕ) → Known (IsFieldText text)
field-known text =
    elim (text_or_not text) [
      | inr bad ↦ inr (λ is. bad is.of_text)
      | inl good ↦ elim (cut_or_lacks BAR text) [
        | inr lacks ↦ inl (record { of_text = good; no_bar = lacks })
        | inl (field, rest, cut, alone) ↦ inr (λ is. uncut BAR text field rest is.no_bar cut)
      ]
    ]

-- a field spells a value on its own, or none
pub alone-some : (kind : FieldType) (text : List ℕ) → OneOrNone Value (SpellsAlone kind text)
alone-some kind text =
    elim (field-known text) [
      | inr bad ↦ inr (λ value alone. bad alone.is_field)
      | inl good ↦ elim (value_or_none kind text) [
        | inl (value, spells) ↦ inl (value, record { is_field = good; spells = spells })
        | inr none ↦ inr (alone-nothing kind text none)
      ]
    ]

module _ (one_day : (text : List ℕ) (a b : ℤ) → SpellsDay text a → SpellsDay text b → a ≡ b) where
  -- a field spells one value on its own
  pub alone-one : (kind : FieldType) (text : List ℕ) (a b : Value) → SpellsAlone kind text a → SpellsAlone kind text b → a ≡ b
  alone-one kind text a b first second = one_value one_day kind text a b first.spells second.spells

-- ---- what is spelled is within its columns

module _ (day_in_range : (text : List ℕ) (day : ℤ) → SpellsDay text day → IsDay day) where
  -- a value that is spelled alone has no fault
  pub alone-good : (kind : FieldType) (text : List ℕ) (value : Value) → SpellsAlone kind text value → value_fault kind value ≡ None
  alone-good kind text value alone = spelled-good day_in_range kind text value alone.spells

-- a value that a field spells can stand in a row where the field can
value-text : (kind : FieldType) (field : List ℕ) (value : Value) → IsRowText field → SpellsField kind field value → IsValue value
value-text kind field (OfNumber number) text spells = tt
value-text kind field (OfDay day) text spells = tt
value-text (Text width) field (OfText bytes) text spells = rw spells.text_is text
value-text Count field (OfText bytes) text spells = absurd spells
value-text Amount field (OfText bytes) text spells = absurd spells
value-text Rate field (OfText bytes) text spells = absurd spells
value-text Day field (OfText bytes) text spells = absurd spells
value-text (RefTo table) field (OfText bytes) text spells = absurd spells

-- so can all values of a line
values-text : (kinds : List FieldType) (line : List ℕ) (fields : List (List ℕ)) (row : List Value) → IsRowText line → HasFields line fields → SpellValues kinds fields row
    → All IsValue row
values-text [] line [] [] text has spells = All-nil IsValue
values-text [] line [] (value ∷ row) text has spells = absurd spells
values-text [] line (field ∷ fields) row text has spells = absurd spells
values-text (kind ∷ kinds) line [] row text has spells = absurd spells
values-text (kind ∷ kinds) line (field ∷ fields) [] text has spells = absurd spells
values-text (kind ∷ kinds) line (field ∷ fields) (value ∷ row) text (rest, cut, alone, has) spells =
    All-cons IsValue value row (value-text kind field value (field-text line field rest BAR cut text) spells.0)
    (values-text kinds rest fields row (rest-text line field rest BAR cut text) has spells.1)

-- the texts of a row that a line spells can stand in a row
pub row-texts : (schema : Schema) (line : List ℕ) (row : List Value) → SpellsRow schema line row → All IsValue row
row-texts schema line row (short, text, (fields, has, count, spells)) =
    values-text (value_kinds schema.columns) line fields row (row-text line text) has spells
