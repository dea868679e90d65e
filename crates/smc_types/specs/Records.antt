-- The words of a record: those of a row and of its references.
use Rattle.std.specs.Prelude.{ℕ, unsigned_abs, List, [], ◌∷◌, ◌++◌, take, drop, if◌then◌else◌}
use Rattle.std.specs.List.{flat_map}
use Rattle.smc_types.specs.Columns.{width_of, is_reference}
use Rattle.smc_types.specs.Numbers.{moved}
use Rattle.smc_types.specs.Texts.{text_words}
use Rattle.smc_types.specs.declared.column.Column.{Column}
use Rattle.smc_types.specs.declared.column.FieldType.{FieldType}
use Rattle.smc_types.specs.declared.column.FieldType.TheVariants.{Count, Amount, Rate, Day, Text}
use Rattle.smc_types.specs.declared.row.Value.{Value}
use Rattle.smc_types.specs.declared.row.Value.TheVariants.{Number, Day as OfDay, Text as OfText}

-- the words that stand for a value: a Count as it is, an Amount, a Rate and a Day moved, a text eight bytes a word
abbrev pub value_words : FieldType → Value → List ℕ
value_words Count (Number number) = unsigned_abs number ∷ []
value_words Amount (Number number) = moved number ∷ []
value_words Rate (Number number) = moved number ∷ []
value_words Day (OfDay day) = moved day ∷ []
value_words (Text width) (OfText text) = text_words (width_of (Text width)) text
value_words kind value = []

-- column by column: of a reference the next reference word, of every other column the words of the next value
abbrev pub record_words : List Column → List Value → List ℕ → List ℕ
record_words [] values refs = []
record_words (column ∷ columns) values refs =
    if is_reference column.kind then take 1 refs ++ record_words columns values (drop 1 refs)
    else flat_map (value_words column.kind) (take 1 values) ++ record_words columns (drop 1 values) refs

-- the words of a row alone, value after value
abbrev pub row_words : List FieldType → List Value → List ℕ
row_words (kind ∷ kinds) (value ∷ values) = value_words kind value ++ row_words kinds values
row_words kinds values = []
