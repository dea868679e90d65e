-- The words of a row with those of its references behind them are as many as a record has.
use Rattle.std.proofs.Common.{◌≡◌, ℕ, ◌+◌, true, false, cond, List, [], ◌∷◌, zero, suc, drop, length, length-append, Option, None, refl, subst, ap, ◌∙◌, arith}
use Rattle.std.proofs.lemmas.List.Sums.{sum_by-cons}
use Rattle.std.specs.Int.{div_ceil}
use Rattle.smc_types.specs.Columns.{columns_width, is_reference, reference_count, value_kinds, width_of}
use Rattle.smc_types.specs.Records.{row_words, value_words}
use Rattle.smc_types.specs.declared.column.Column.{Column}
use Rattle.smc_types.specs.declared.column.FieldType.{FieldType}
use Rattle.smc_types.specs.declared.column.FieldType.TheVariants.{Count, Amount, Rate, Day, Text, RefTo}
use Rattle.smc_types.specs.declared.column.TheConstants.{WORD_BYTES}
use Rattle.smc_types.specs.declared.row.Value.{Value}
use Rattle.smc_types.specs.declared.row.Value.TheVariants.{Number as OfNumber, Day as OfDay, Text as OfText}
use Rattle.smc_types.specs.Faults.{value_fault}
use Rattle.smc_types.specs.Texts.{text_words}
use Rattle.smc_types.specs.declared.schema.Schema.{Schema}
use Rattle.smc_tbl.specs.TableText.{FitsColumns}
use Rattle.smc_tbl.specs.Words.{AreRowWords}
use Rattle.smc_load.specs.Loading.{Entries, record_of, reference_of, references_among}

-- a column adds its width
columns_width-cons : (column : Column) (columns : List Column) → columns_width (column ∷ columns) ≡ width_of column.kind + columns_width columns
columns_width-cons column columns = sum_by-cons (λ (other : Column). width_of other.kind) column columns

-- a reference counts as one, and has no value's type
reference_count-reference : (column : Column) (columns : List Column) → is_reference column.kind ≡ true → reference_count (column ∷ columns) ≡ 1 + reference_count columns
reference_count-reference column columns is = sum_by-cons (λ (other : Column). cond (is_reference other.kind) 1 0) column columns ∙ rw is

value_kinds-reference : (column : Column) (columns : List Column) → is_reference column.kind ≡ true → value_kinds (column ∷ columns) ≡ value_kinds columns
value_kinds-reference column columns is = rw is

-- any other column counts as none, and has its own type
reference_count-value : (column : Column) (columns : List Column) → is_reference column.kind ≡ false → reference_count (column ∷ columns) ≡ reference_count columns
reference_count-value column columns is = sum_by-cons (λ (other : Column). cond (is_reference other.kind) 1 0) column columns ∙ rw is (omega arith)

value_kinds-value : (column : Column) (columns : List Column) → is_reference column.kind ≡ false → value_kinds (column ∷ columns) ≡ column.kind ∷ value_kinds columns
value_kinds-value column columns is = rw is

-- a value without fault has as many words as its column
length-text_words : (count : ℕ) (text : List ℕ) → length (text_words count text) ≡ count
unfolding text_words
length-text_words zero text = refl
length-text_words (suc count) text = rw (length-text_words count (drop WORD_BYTES text))

length-value_words : (kind : FieldType) (value : Value) → value_fault kind value ≡ None → length (value_words kind value) ≡ width_of kind
length-value_words Count (OfNumber number) good = refl
length-value_words Amount (OfNumber number) good = refl
length-value_words Rate (OfNumber number) good = refl
length-value_words Day (OfDay day) good = refl
length-value_words (Text width) (OfText text) good = length-text_words (div_ceil width WORD_BYTES) text
length-value_words kind value good = cc

-- a reference has one word
width-reference : (kind : FieldType) → is_reference kind ≡ true → width_of kind ≡ 1
width-reference (RefTo table) is = refl
width-reference (Text width) is = cc
width-reference Count is = refl
width-reference Amount is = refl
width-reference Rate is = refl
width-reference Day is = refl

module _ (columns : List Column) (keys : Entries) (words : List ℕ) where
  one-word : (kind : FieldType) (by : Option ℕ) → is_reference kind ≡ true → length (reference_of columns keys words kind by) ≡ 1
  one-word (RefTo table) by is = refl
  one-word (Text width) by is = cc
  one-word Count by is = cc
  one-word Amount by is = cc
  one-word Rate by is = cc
  one-word Day by is = cc

  no-word : (kind : FieldType) (by : Option ℕ) → is_reference kind ≡ false → length (reference_of columns keys words kind by) ≡ 0
  no-word (RefTo table) by is = cc
  no-word (Text width) by is = refl
  no-word Count by is = refl
  no-word Amount by is = refl
  no-word Rate by is = refl
  no-word Day by is = refl

  -- each reference has a word, and no other column
  pub references-length : (among : List Column) → length (references_among columns keys words among) ≡ reference_count among
  references-length [] = refl
  references-length (column ∷ among) =
      let both = length-append (reference_of columns keys words column.kind column.by) (references_among columns keys words among) in
      let rest = references-length among in
      elim (is_reference column.kind) as (λ test. is_reference column.kind ≡ test → length (references_among columns keys words (column ∷ among)) ≡ reference_count (column ∷ among)) [
        | true ↦ λ is. let one = one-word column.kind column.by is in let more = reference_count-reference column among is in omega (arith, both, rest, one, more)
        | false ↦ λ is. let none = no-word column.kind column.by is in let same = reference_count-value column among is in omega (arith, both, rest, none, same)
      ] refl

-- a row with its references has the words of these columns
abbrev IsWide : List Column → List Value → Type 0
IsWide columns row = length (row_words (value_kinds columns) row) + reference_count columns ≡ columns_width columns

module _ (column : Column) (columns : List Column) (later : (row : List Value) → FitsColumns (value_kinds columns) row → IsWide columns row) where
  wide-reference : (row : List Value) → is_reference column.kind ≡ true → FitsColumns (value_kinds columns) row → IsWide (column ∷ columns) row
  wide-reference row is fits =
      let kinds = ap (λ (k : List FieldType). length (row_words k row)) (value_kinds-reference column columns is) in
      let rest = later row fits in
      let one = width-reference column.kind is in
      omega (arith, kinds, rest, one, reference_count-reference column columns is, columns_width-cons column columns)

  wide-value : (row : List Value) → is_reference column.kind ≡ false → FitsColumns (column.kind ∷ value_kinds columns) row → IsWide (column ∷ columns) row
  wide-value [] is fits = absurd fits
  wide-value (value ∷ row) is fits =
      let kinds = ap (λ (k : List FieldType). length (row_words k (value ∷ row))) (value_kinds-value column columns is) in
      let both = length-append (value_words column.kind value) (row_words (value_kinds columns) row) in
      let first = length-value_words column.kind value fits.0 in
      let rest = later row fits.1 in
      omega (arith, kinds, both, first, rest, reference_count-value column columns is, columns_width-cons column columns)

row-length : (columns : List Column) (row : List Value) → FitsColumns (value_kinds columns) row → IsWide columns row
row-length [] [] fits = refl
row-length [] (value ∷ row) fits = absurd fits
row-length (column ∷ columns) row fits =
    elim (is_reference column.kind) as (λ test. is_reference column.kind ≡ test → IsWide (column ∷ columns) row) [
      | true ↦ λ is. wide-reference column columns (row-length columns) row is (subst (λ (k : List FieldType). FitsColumns k row) (value_kinds-reference column columns is) fits)
      | false ↦ λ is. wide-value column columns (row-length columns) row is (subst (λ (k : List FieldType). FitsColumns k row) (value_kinds-value column columns is) fits)
    ] refl

-- a record is as wide as its columns
pub record-width : (schema : Schema) (keys : Entries) (words : List ℕ) → AreRowWords schema words → length (record_of schema.columns keys words) ≡ columns_width schema.columns
record-width schema keys words are =
    let both = length-append words (references_among schema.columns keys words schema.columns) in
    let own = ap length are.words_are in
    omega (arith, both, own, row-length schema.columns are.row are.fits, references-length schema.columns keys words schema.columns)
