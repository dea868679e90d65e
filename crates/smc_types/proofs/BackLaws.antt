-- A row is read back from its record, whose last words are the references.
use Rattle.std.proofs.Common.{◌≡◌, ℕ, Bool, true, false, ◌&&◌, List, [], ◌∷◌, ◌++◌, append_assoc, take, drop, length, length-append, Option, None, Some, refl, sym, ap, ◌∙◌, arith}
use Rattle.std.proofs.Math.Seq.{take-append_seam, drop-append_seam}
use Rattle.std.proofs.lemmas.List.Elements.{All-head, All-tail}
use Rattle.std.specs.List.{All, list_all}
use Rattle.std.specs.Option.{option_or}
use Rattle.smc_types.specs.declared.column.Column.{Column}
use Rattle.smc_types.specs.declared.column.FieldType.{FieldType}
use Rattle.smc_types.specs.declared.column.FieldType.TheVariants.{Count, Amount, Rate, Day, Text, RefTo}
use Rattle.smc_types.specs.declared.encoding.EncodeFault.{EncodeFault}
use Rattle.smc_types.specs.declared.row.Value.{Value}
use Rattle.smc_types.specs.Columns.{width_of, columns_width, is_reference, references_last, reference_count, value_count, value_kinds}
use Rattle.smc_types.specs.Faults.{value_fault, values_fault}
use Rattle.smc_types.specs.Records.{value_words, record_words, row_words}
use Rattle.smc_types.specs.Rows.{IsValue, value_of, row_of}
use Rattle.smc_types.proofs.ColumnLaws.{reference_count-reference, reference_count-value, value_count-reference, value_count-value, value_kinds-value, columns_width-cons}
use Rattle.smc_types.proofs.RecordLaws.{record_words-reference, record_words-value}
use Rattle.smc_types.proofs.RowLaws.{row_of-reference, row_of-value}
use Rattle.smc_types.proofs.ValueLaws.{length-value_words, value_of-value_words}

-- a reference takes one word
width_of-reference : (kind : FieldType) → is_reference kind ≡ true → width_of kind ≡ 1
width_of-reference (RefTo table) is = refl
width_of-reference (Text width) is = cc
width_of-reference Count is = refl
width_of-reference Amount is = refl
width_of-reference Rate is = refl
width_of-reference Day is = refl

-- where neither has a fault, the first has none
pub first_good : (first rest : Option EncodeFault) → option_or first rest ≡ None → first ≡ None
first_good None rest none = refl
first_good (Some fault) rest none = cc

-- nor has the rest
rest_good : (first rest : Option EncodeFault) → option_or first rest ≡ None → rest ≡ None
rest_good None rest none = none
rest_good (Some fault) rest none = cc

-- a value that stands first is read from its own words
value_first : (kind : FieldType) (value : Value) (later : List ℕ) → IsValue value → value_fault kind value ≡ None → value_of kind (take (width_of kind) (value_words kind value ++ later)) ≡ value
value_first kind value later is good =
    ap (λ width. value_of kind (take width (value_words kind value ++ later))) (sym (length-value_words kind value good))
    ∙ ap (value_of kind) (take-append_seam (value_words kind value) later)
    ∙ value_of-value_words kind value is good

-- and the others from those behind them
later_left : (kind : FieldType) (value : Value) (later : List ℕ) → value_fault kind value ≡ None → drop (width_of kind) (value_words kind value ++ later) ≡ later
later_left kind value later good =
    ap (λ width. drop width (value_words kind value ++ later)) (sym (length-value_words kind value good))
    ∙ drop-append_seam (value_words kind value) later

-- a row, with as many reference words as its columns have, is one that a record can hold
pub record Encodes (columns : List Column) (values : List Value) (refs : List ℕ) : Type 0 where
  pub values_all : length values ≡ value_count columns
  pub references_all : length refs ≡ reference_count columns
  pub texts : All IsValue values
  pub good : values_fault (value_kinds columns) values ≡ None

-- behind a reference
pub encodes_reference : (column : Column) (columns : List Column) (values : List Value) (word : ℕ) (refs : List ℕ) → is_reference column.kind ≡ true → Encodes (column ∷ columns) values (word ∷ refs) → Encodes columns values refs
encodes_reference column columns values word refs is so = record {
  values_all = so.values_all ∙ value_count-reference column columns is;
  references_all = let count = reference_count-reference column columns is in omega (arith, so.references_all, count);
  texts = so.texts;
  good = rw is at so.good;
}

-- behind a value
pub encodes_value : (column : Column) (columns : List Column) (value : Value) (values : List Value) (refs : List ℕ) → is_reference column.kind ≡ false → Encodes (column ∷ columns) (value ∷ values) refs → Encodes columns values refs
encodes_value column columns value values refs is so = record {
  values_all = let count = value_count-value column columns is in omega (arith, so.values_all, count);
  references_all = so.references_all ∙ reference_count-value column columns is;
  texts = All-tail IsValue value values so.texts;
  good = rest_good (value_fault column.kind value) (values_fault (value_kinds columns) values) (rw is at so.good);
}

-- a record whose first column is a reference
back_reference : (column : Column) (columns : List Column) (values : List Value) (refs : List ℕ) → is_reference column.kind ≡ true → Encodes (column ∷ columns) values refs
    → ((values : List Value) (refs : List ℕ) → Encodes columns values refs → row_of columns (record_words columns values refs) ≡ values)
    → row_of (column ∷ columns) (record_words (column ∷ columns) values refs) ≡ values
back_reference column columns values [] is so later =
    let one = reference_count-reference column columns is in absurd (omega (arith, so.references_all, one))
back_reference column columns values (word ∷ refs) is so later =
    ap (row_of (column ∷ columns)) (record_words-reference column columns values word refs is)
    ∙ row_of-reference column columns (word ∷ record_words columns values refs) is
    ∙ ap (λ width. row_of columns (drop width (word ∷ record_words columns values refs))) (width_of-reference column.kind is)
    ∙ later values refs (encodes_reference column columns values word refs is so)

-- a record whose first column is none
back_value : (column : Column) (columns : List Column) (values : List Value) (refs : List ℕ) → is_reference column.kind ≡ false → Encodes (column ∷ columns) values refs
    → ((values : List Value) (refs : List ℕ) → Encodes columns values refs → row_of columns (record_words columns values refs) ≡ values)
    → row_of (column ∷ columns) (record_words (column ∷ columns) values refs) ≡ values
back_value column columns [] refs is so later =
    let one = value_count-value column columns is in absurd (omega (arith, so.values_all, one))
back_value column columns (value ∷ values) refs is so later =
    let rest : List ℕ = record_words columns values refs in
    let good = first_good (value_fault column.kind value) (values_fault (value_kinds columns) values) (rw is at so.good) in
    ap (row_of (column ∷ columns)) (record_words-value column columns value values refs is)
    ∙ row_of-value column columns (value_words column.kind value ++ rest) is
    ∙ ap (λ first. first ∷ row_of columns (drop (width_of column.kind) (value_words column.kind value ++ rest))) (value_first column.kind value rest (All-head IsValue value values so.texts) good)
    ∙ ap (λ words. value ∷ row_of columns words) (later_left column.kind value rest good)
    ∙ ap (λ others. value ∷ others) (later values refs (encodes_value column columns value values refs is so))

-- a row is read back from the words of its record
pub row_of-record_words : (columns : List Column) (values : List Value) (refs : List ℕ) → Encodes columns values refs → row_of columns (record_words columns values refs) ≡ values
row_of-record_words [] [] refs so = refl
row_of-record_words [] (value ∷ values) refs so = absurd (omega (arith, so.values_all))
row_of-record_words (column ∷ columns) values refs so =
    elim (is_reference column.kind) as (λ test. is_reference column.kind ≡ test → row_of (column ∷ columns) (record_words (column ∷ columns) values refs) ≡ values) [
      | true ↦ λ is. back_reference column columns values refs is so (row_of-record_words columns)
      | false ↦ λ is. back_value column columns values refs is so (row_of-record_words columns)
    ] refl

-- the width of a record whose first column is a reference
width_reference : (column : Column) (columns : List Column) (values : List Value) (refs : List ℕ) → is_reference column.kind ≡ true → Encodes (column ∷ columns) values refs
    → ((values : List Value) (refs : List ℕ) → Encodes columns values refs → length (record_words columns values refs) ≡ columns_width columns)
    → length (record_words (column ∷ columns) values refs) ≡ columns_width (column ∷ columns)
width_reference column columns values [] is so later =
    let one = reference_count-reference column columns is in absurd (omega (arith, so.references_all, one))
width_reference column columns values (word ∷ refs) is so later =
    ap length (record_words-reference column columns values word refs is)
    ∙ omega (arith, later values refs (encodes_reference column columns values word refs is so), columns_width-cons column columns, width_of-reference column.kind is)

-- the width of a record whose first column is none
width_value : (column : Column) (columns : List Column) (values : List Value) (refs : List ℕ) → is_reference column.kind ≡ false → Encodes (column ∷ columns) values refs
    → ((values : List Value) (refs : List ℕ) → Encodes columns values refs → length (record_words columns values refs) ≡ columns_width columns)
    → length (record_words (column ∷ columns) values refs) ≡ columns_width (column ∷ columns)
width_value column columns [] refs is so later =
    let one = value_count-value column columns is in absurd (omega (arith, so.values_all, one))
width_value column columns (value ∷ values) refs is so later =
    let good = first_good (value_fault column.kind value) (values_fault (value_kinds columns) values) (rw is at so.good) in
    ap length (record_words-value column columns value values refs is)
    ∙ omega (
      arith,
      length-append (value_words column.kind value) (record_words columns values refs),
      length-value_words column.kind value good,
      later values refs (encodes_value column columns value values refs is so),
      columns_width-cons column columns,
    )

-- a record has the width of its columns
pub length-record_words : (columns : List Column) (values : List Value) (refs : List ℕ) → Encodes columns values refs → length (record_words columns values refs) ≡ columns_width columns
length-record_words [] values refs so = refl
length-record_words (column ∷ columns) values refs so =
    elim (is_reference column.kind) as (λ test. is_reference column.kind ≡ test → length (record_words (column ∷ columns) values refs) ≡ columns_width (column ∷ columns)) [
      | true ↦ λ is. width_reference column columns values refs is so (length-record_words columns)
      | false ↦ λ is. width_value column columns values refs is so (length-record_words columns)
    ] refl

-- where both tests pass, each does
both : (first second : Bool) → (first && second) ≡ true → (first ≡ true) × (second ≡ true)
both true second is = (refl, is)
both false second is = cc

-- references alone have no value's type
value_kinds-references : (columns : List Column) → list_all (λ column. is_reference column.kind) columns ≡ true → value_kinds columns ≡ []
value_kinds-references [] all = refl
value_kinds-references (column ∷ columns) all =
    let each = both (is_reference column.kind) (list_all (λ column. is_reference column.kind) columns) all in
    rw each.0 (value_kinds-references columns each.1)

-- the record of references alone is their words
record_words-references : (columns : List Column) (values : List Value) (refs : List ℕ) → list_all (λ column. is_reference column.kind) columns ≡ true → length refs ≡ reference_count columns → record_words columns values refs ≡ refs
record_words-references [] values [] all count = refl
record_words-references [] values (word ∷ refs) all count = absurd (omega arith)
record_words-references (column ∷ columns) values [] all count =
    let each = both (is_reference column.kind) (list_all (λ column. is_reference column.kind) columns) all in
    let one = reference_count-reference column columns each.0 in absurd (omega arith)
record_words-references (column ∷ columns) values (word ∷ refs) all count =
    let each = both (is_reference column.kind) (list_all (λ column. is_reference column.kind) columns) all in
    let one = reference_count-reference column columns each.0 in
    record_words-reference column columns values word refs each.0
    ∙ ap (λ rest. word ∷ rest) (record_words-references columns values refs each.1 (omega arith))

-- a record whose references stand last, and whose first column is one
last_reference : (column : Column) (columns : List Column) (values : List Value) (refs : List ℕ) → is_reference column.kind ≡ true → references_last (column ∷ columns) ≡ true → length refs ≡ reference_count (column ∷ columns)
    → record_words (column ∷ columns) values refs ≡ row_words (value_kinds (column ∷ columns)) values ++ refs
last_reference column columns values refs is last count =
    let rest : list_all (λ column. is_reference column.kind) columns ≡ true = rw is at last in
    let all : list_all (λ column. is_reference column.kind) (column ∷ columns) ≡ true = rw (is, rest) in
    record_words-references (column ∷ columns) values refs all count
    ∙ ap (λ kinds. row_words kinds values ++ refs) (sym (value_kinds-references (column ∷ columns) all))

-- a record whose references stand last, and whose first column is none
last_value : (column : Column) (columns : List Column) (values : List Value) (refs : List ℕ) → is_reference column.kind ≡ false → length values ≡ value_count (column ∷ columns)
    → ((values : List Value) → length values ≡ value_count columns → record_words columns values refs ≡ row_words (value_kinds columns) values ++ refs)
    → record_words (column ∷ columns) values refs ≡ row_words (value_kinds (column ∷ columns)) values ++ refs
last_value column columns [] refs is count later =
    let one = value_count-value column columns is in absurd (omega arith)
last_value column columns (value ∷ values) refs is count later =
    let one = value_count-value column columns is in
    record_words-value column columns value values refs is
    ∙ ap (λ rest. value_words column.kind value ++ rest) (later values (omega arith))
    ∙ sym (append_assoc (value_words column.kind value) (row_words (value_kinds columns) values) refs)
    ∙ ap (λ kinds. row_words kinds (value ∷ values) ++ refs) (sym (value_kinds-value column columns is))

-- where the references stand last, their words do
pub record_words-last : (columns : List Column) (values : List Value) (refs : List ℕ) → references_last columns ≡ true → length values ≡ value_count columns → length refs ≡ reference_count columns
    → record_words columns values refs ≡ row_words (value_kinds columns) values ++ refs
record_words-last [] values [] last all count = refl
record_words-last [] values (word ∷ refs) last all count = absurd (omega arith)
record_words-last (column ∷ columns) values refs last all count =
    elim (is_reference column.kind) as (λ test. is_reference column.kind ≡ test → record_words (column ∷ columns) values refs ≡ row_words (value_kinds (column ∷ columns)) values ++ refs) [
      | true ↦ λ is. last_reference column columns values refs is last count
      | false ↦ λ is. last_value column columns values refs is all
          (λ others whole. record_words-last columns others refs (rw is at last) whole (count ∙ reference_count-value column columns is))
    ] refl
