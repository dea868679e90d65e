-- The columns of a table, and the fields of a record.
use Rattle.std.proofs.Common.{◌≡◌, ℕ, zero, suc, ◌+◌, ◌-◌, ◌≤◌, ◌<◌, Bool, true, false, List, [], ◌∷◌, ◌++◌, length, take, Option, Some, None, refl, sym, subst, ap, ◌∙◌, arith}
use Rattle.std.specs.Option.{option_map}
use Rattle.std.specs.Prelude.{slice_get, slice_index_or}
use Rattle.std.proofs.lemmas.List.{length-append, take_at}
use Rattle.std.proofs.lemmas.List.Sums.{sum_by-cons}
use Rattle.smc_types.specs.Columns.{columns_width, width_of}
use Rattle.smc_types.specs.declared.column.Column.{Column}
use Rattle.smc_types.specs.declared.column.FieldType.{FieldType}
use Rattle.smc_types.specs.declared.column.FieldType.TheVariants.{Count, Amount, Rate, Day, Text, RefTo}
use Rattle.smc_types.specs.declared.schema.Schema.{Schema}
use Rattle.smc_query.specs.Trees.{Word}
use Rattle.smc_load.specs.Loading.{place_of}
use Rattle.smc_script.specs.Tables.{column_at, is_editable, kind_at, kind_by}

-- a column that may be written takes one word
pub one-word : (kind : FieldType) → is_editable kind ≡ true → width_of kind ≡ 1
one-word Count is = refl
one-word Amount is = refl
one-word Rate is = refl
one-word Day is = refl
one-word (Text width) is = absurd cc
one-word (RefTo table) is = absurd cc

-- the columns with one more in front
width-more : (first : Column) (columns : List Column) → columns_width (first ∷ columns) ≡ width_of first.kind + columns_width columns
width-more first columns = sum_by-cons (λ (column : Column). width_of column.kind) first columns

-- its field lies in the record
pub field-within : (columns : List Column) (at : ℕ) (column : Column) → slice_get columns at ≡ Some column → width_of column.kind ≡ 1 → place_of columns at < columns_width columns
field-within [] at column there one = absurd cc
field-within (first ∷ columns) zero column there one =
    let same : first ≡ column = cc in
    let width = ap (λ (c : Column). width_of c.kind) same ∙ one in
    let start : place_of (first ∷ columns) zero ≡ 0 = refl in
    let whole = width-more first columns in
    omega (arith, width, start, whole)
field-within (first ∷ columns) (suc at) column there one =
    let later = field-within columns at column there one in
    let start = width-more first (take at columns) in
    let whole = width-more first columns in
    omega (arith, later, start, whole)

-- the words of a row, without those that stand behind them
pub without-last : (words row refs : List ℕ) (count : ℕ) → words ≡ row ++ refs → length refs ≡ count → take (length words - count) words ≡ row
without-last words row refs count is many =
    let long = ap length is in
    let both = length-append row refs in
    let n : length words - count ≡ length row = omega (arith, long, both, many) in
    ap (λ (k : ℕ). take k words) n ∙ ap (λ (w : List ℕ). take (length row) w) is ∙ take_at row refs (length row) refl

-- a table has one schema
pub one-schema : (by : Option Schema) (a b : Schema) → by ≡ Some a → by ≡ Some b → a ≡ b
one-schema by a b one two = some-schema a b (sym one ∙ two)
  where
    some-schema : (a b : Schema) → Some a ≡ Some b → a ≡ b
    some-schema a b is = cc

-- what stands at a place of the columns
pub column-there : (columns : List Column) (at : ℕ) (column : Column) → at < length columns → column ≡ slice_index_or columns at column → slice_get columns at ≡ Some column
column-there [] at column within is = absurd (omega (arith, within))
column-there (first ∷ columns) zero column within is = ap (λ (c : Column). Some c) (sym is)
column-there (first ∷ columns) (suc at) column within is = column-there columns at column (omega (arith, within)) is

-- the column of this name has the type that was found by the name
pub kind-there : (by : Option Schema) (schema : Schema) (name : Word) (kind : FieldType) (at : ℕ) (column : Column) → by ≡ Some schema → kind_by by name ≡ Some kind
    → column_at schema.columns name ≡ Some at → slice_get schema.columns at ≡ Some column → column.kind ≡ kind
kind-there by schema name kind at column is found named there =
    let one : kind_at schema.columns (column_at schema.columns name) ≡ Some kind = subst (λ (s : Option Schema). kind_by s name ≡ Some kind) is found in
    let two : kind_at schema.columns (Some at) ≡ Some kind = subst (λ (p : Option ℕ). kind_at schema.columns p ≡ Some kind) named one in
    let three : Some column.kind ≡ Some kind = subst (λ (c : Option Column). option_map (λ (x : Column). x.kind) c ≡ Some kind) there two in
    some-kind column.kind kind three
  where
    some-kind : (a b : FieldType) → Some a ≡ Some b → a ≡ b
    some-kind a b is = cc
