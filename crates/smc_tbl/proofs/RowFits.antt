-- The row that stands in any words fits its columns.
use Rattle.std.proofs.Common.{◌≡◌, ◌≤◌, Bool, true, false, not, ℕ, ℤ, pos, neg_ℤ, ◌≤ℤ◌, List, [], ◌∷◌, length, map, filter, take, drop, None, refl, sym, ap, ◌∙◌, arith}
use Rattle.std.proofs.lemmas.Bool.Decides.{nat_tests}
use Rattle.std.proofs.lemmas.Int.{ints, clamps}
use Rattle.std.proofs.lemmas.List.{length-take}
use Rattle.std.specs.List.{prefix_len}
use Rattle.std.specs.Prelude.{slice_index}
use Rattle.smc_types.specs.Columns.{is_reference, value_kinds, width_of}
use Rattle.smc_types.specs.Faults.{range_fault, value_fault}
use Rattle.smc_types.specs.Numbers.{moved_back, nearest}
use Rattle.smc_types.specs.Rows.{row_of, value_of}
use Rattle.smc_types.specs.Texts.{bytes_of, is_text_byte, text_of}
use Rattle.smc_types.specs.declared.column.Column.{Column}
use Rattle.smc_types.specs.declared.column.FieldType.{FieldType}
use Rattle.smc_types.specs.declared.column.FieldType.TheVariants.{Count, Amount, Rate, Day, Text, RefTo}
use Rattle.smc_types.specs.declared.number.TheConstants.{AMOUNT_MAX, COUNT_MAX, DAY_MAX, DAY_MIN, RATE_MAX}
use Rattle.smc_tbl.specs.TableText.{FitsColumns}

-- a number that was brought between two bounds lies between them
nearest-good : (least greatest number : ℤ) → least ≤ℤ greatest → range_fault least greatest (nearest least greatest number) ≡ None
nearest-good least greatest number order = grind (arith, ints, clamps, order)

-- a text that was cut is no longer than its column
text-good : (width : ℕ) (words : List ℕ) → length (text_of width words) ≤ width
text-good width words =
    let all = take width (bytes_of words) in
    let cut = length-take (prefix_len is_text_byte all) all in
    let most = length-take width (bytes_of words) in
    omega (arith, cut, most)

value-good : (kind : FieldType) (words : List ℕ) → is_reference kind ≡ false → value_fault kind (value_of kind words) ≡ None
value-good Count words value = nearest-good (pos 0) COUNT_MAX (pos (slice_index words 0)) (omega (arith, ints))
value-good Amount words value = nearest-good (neg_ℤ AMOUNT_MAX) AMOUNT_MAX (moved_back (slice_index words 0)) (omega (arith, ints))
value-good Rate words value = nearest-good (pos 0) RATE_MAX (moved_back (slice_index words 0)) (omega (arith, ints))
value-good Day words value = nearest-good DAY_MIN DAY_MAX (moved_back (slice_index words 0)) (omega (arith, ints))
value-good (Text width) words value = let short = text-good width words in grind (arith, nat_tests, short)
value-good (RefTo table) words value = absurd cc

-- the row of the columns with one more in front
fits-more : (column : Column) (columns : List Column) (words : List ℕ) (reference : Bool) → is_reference column.kind ≡ reference
    → FitsColumns (value_kinds columns) (row_of columns (drop (width_of column.kind) words)) → FitsColumns (value_kinds (column ∷ columns)) (row_of (column ∷ columns) words)
fits-more column columns words true is later = rw is later
fits-more column columns words false is later = rw is (value-good column.kind (take (width_of column.kind) words) is, later)

pub row-of-fits : (columns : List Column) (words : List ℕ) → FitsColumns (value_kinds columns) (row_of columns words)
row-of-fits [] words = tt
row-of-fits (column ∷ columns) words = fits-more column columns words (is_reference column.kind) refl (row-of-fits columns (drop (width_of column.kind) words))
