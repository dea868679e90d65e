-- How far the words of a record have been read.
use Rattle.std.proofs.Common.{◌≡◌, ℕ, ◌+◌, ◌<◌, true, false, List, [], ◌∷◌, ◌++◌, append_assoc, take, drop, drop-drop, length, get_or, sym, ap, ◌∙◌, arith}
use Rattle.smc_types.specs.declared.column.Column.{Column}
use Rattle.smc_types.specs.declared.row.Value.{Value}
use Rattle.smc_types.specs.Columns.{width_of, columns_width, is_reference}
use Rattle.smc_types.specs.Rows.{value_of, row_of}
use Rattle.smc_types.proofs.ColumnLaws.{drop_at, columns_width-cons}

-- so many columns, whose words end at that place, have given these values
pub record Read (columns : List Column) (words : List ℕ) (column at : ℕ) (values : List Value) : Type 0 where
  pub words_left : at + columns_width (drop column columns) ≡ length words
  pub values_left : values ++ row_of (drop column columns) (drop at words) ≡ row_of columns words

-- the words of the next column are there
pub read_within : (columns : List Column) (words : List ℕ) (column at : ℕ) (values : List Value) (next : Column)
    → Read columns words column at values → column < length columns → next ≡ get_or columns column next
    → at + width_of next.kind + columns_width (drop (column + 1) columns) ≡ length words
read_within columns words column at values next so_far below is =
    let left = ap columns_width (drop_at columns column next below is) ∙ columns_width-cons next (drop (column + 1) columns) in
    omega (arith, so_far.words_left, left)

-- a reference gives no value
pub row_of-reference : (column : Column) (columns : List Column) (words : List ℕ) → is_reference column.kind ≡ true → row_of (column ∷ columns) words ≡ row_of columns (drop (width_of column.kind) words)
row_of-reference column columns words is = rw is

-- any other column gives one
pub row_of-value : (column : Column) (columns : List Column) (words : List ℕ) → is_reference column.kind ≡ false → row_of (column ∷ columns) words ≡ value_of column.kind (take (width_of column.kind) words) ∷ row_of columns (drop (width_of column.kind) words)
row_of-value column columns words is = rw is

-- the next column is a reference
pub read_reference : (columns : List Column) (words : List ℕ) (column at : ℕ) (values : List Value) (next : Column)
    → Read columns words column at values → column < length columns → next ≡ get_or columns column next → is_reference next.kind ≡ true
    → Read columns words (column + 1) (at + width_of next.kind) values
read_reference columns words column at values next so_far below here is =
    let left = drop_at columns column next below here in
    record {
      words_left = read_within columns words column at values next so_far below here;
      values_left =
          ap (λ later. values ++ row_of (drop (column + 1) columns) later) (sym (drop-drop (width_of next.kind) at words))
          ∙ ap (λ later. values ++ later) (sym (row_of-reference next (drop (column + 1) columns) (drop at words) is))
          ∙ ap (λ later. values ++ row_of later (drop at words)) (sym left)
          ∙ so_far.values_left;
    }

-- the next column has a value
pub read_value : (columns : List Column) (words : List ℕ) (column at : ℕ) (values : List Value) (next : Column)
    → Read columns words column at values → column < length columns → next ≡ get_or columns column next → is_reference next.kind ≡ false
    → Read columns words (column + 1) (at + width_of next.kind) (values ++ value_of next.kind (take (width_of next.kind) (drop at words)) ∷ [])
read_value columns words column at values next so_far below here is =
    let left = drop_at columns column next below here in
    let value : Value = value_of next.kind (take (width_of next.kind) (drop at words)) in
    record {
      words_left = read_within columns words column at values next so_far below here;
      values_left =
          append_assoc values (value ∷ []) _
          ∙ ap (λ later. values ++ value ∷ row_of (drop (column + 1) columns) later) (sym (drop-drop (width_of next.kind) at words))
          ∙ ap (λ later. values ++ later) (sym (row_of-value next (drop (column + 1) columns) (drop at words) is))
          ∙ ap (λ later. values ++ row_of later (drop at words)) (sym left)
          ∙ so_far.values_left;
    }
