-- The counts and the width of columns, one column after another.
use Rattle.std.proofs.Common.{◌≡◌, ℕ, ◌+◌, ◌<◌, true, false, not, cond, List, ◌∷◌, drop, length, get_or, sym, ap, ◌∙◌, arith}
use Rattle.std.proofs.lemmas.List.{drop_more}
use Rattle.std.proofs.lemmas.List.Sums.{sum_by-cons}
use Rattle.smc_types.specs.declared.column.Column.{Column}
use Rattle.smc_types.specs.Columns.{width_of, columns_width, is_reference, reference_count, value_count, value_kinds}

-- what is left begins with the element at the index
pub drop_at : {X : Type 0} → (xs : List X) (index : ℕ) (x : X) → index < length xs → x ≡ get_or xs index x → drop index xs ≡ x ∷ drop (index + 1) xs
drop_at xs index x below at = drop_more xs index x below ∙ ap (λ first. first ∷ drop (index + 1) xs) (sym at)

-- a reference counts as one
pub reference_count-reference : (column : Column) (columns : List Column) → is_reference column.kind ≡ true → reference_count (column ∷ columns) ≡ 1 + reference_count columns
reference_count-reference column columns is =
    sum_by-cons (λ (other : Column). cond (is_reference other.kind) 1 0) column columns ∙ rw is

-- and not as a value
pub value_count-reference : (column : Column) (columns : List Column) → is_reference column.kind ≡ true → value_count (column ∷ columns) ≡ value_count columns
value_count-reference column columns is =
    sum_by-cons (λ (other : Column). cond (not (is_reference other.kind)) 1 0) column columns ∙ rw is (omega arith)

-- any other column counts as a value
pub value_count-value : (column : Column) (columns : List Column) → is_reference column.kind ≡ false → value_count (column ∷ columns) ≡ 1 + value_count columns
value_count-value column columns is =
    sum_by-cons (λ (other : Column). cond (not (is_reference other.kind)) 1 0) column columns ∙ rw is

-- and not as a reference
pub reference_count-value : (column : Column) (columns : List Column) → is_reference column.kind ≡ false → reference_count (column ∷ columns) ≡ reference_count columns
reference_count-value column columns is =
    sum_by-cons (λ (other : Column). cond (is_reference other.kind) 1 0) column columns ∙ rw is (omega arith)

-- a reference has no value's type
pub value_kinds-reference : (column : Column) (columns : List Column) → is_reference column.kind ≡ true → value_kinds (column ∷ columns) ≡ value_kinds columns
value_kinds-reference column columns is = rw is

-- any other column has its own
pub value_kinds-value : (column : Column) (columns : List Column) → is_reference column.kind ≡ false → value_kinds (column ∷ columns) ≡ column.kind ∷ value_kinds columns
value_kinds-value column columns is = rw is

-- a column adds its width
pub columns_width-cons : (column : Column) (columns : List Column) → columns_width (column ∷ columns) ≡ width_of column.kind + columns_width columns
columns_width-cons column columns = sum_by-cons (λ (other : Column). width_of other.kind) column columns
