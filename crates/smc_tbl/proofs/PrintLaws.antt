-- How a row is printed, one column after another.
use Rattle.std.proofs.Common.{◌≡◌, ℕ, ◌+◌, ◌<◌, ◌≤◌, true, false, List, [], ◌∷◌, ◌++◌, append_assoc, append-nil, length, length-drop, get_or, drop, None, suc, add-one, refl, sym, ap, ◌∙◌, arith}
use Rattle.std.proofs.Math.Seq.{drop-cons}
use Rattle.smc_types.specs.Columns.{is_reference, value_kinds}
use Rattle.smc_types.specs.Faults.{value_fault}
use Rattle.smc_types.specs.declared.column.Column.{Column}
use Rattle.smc_types.specs.declared.column.FieldType.{FieldType}
use Rattle.smc_types.specs.declared.row.Value.{Value}
use Rattle.smc_tbl.specs.declared.bytes.TheConstants.{BAR}
use Rattle.smc_tbl.specs.Printed.{PrintsBehind, PrintsRow}
use Rattle.smc_tbl.specs.TableText.{FitsColumns}
use Rattle.smc_tbl.proofs.KindLaws.{kinds-value, kinds-reference, kinds-end}

-- the values that are left can be printed behind what was printed
pub record Progress (all : List FieldType) (values : List Value) (left : List FieldType) (place : ℕ) (line : List ℕ) : Type 0 where
  pub printable : FitsColumns left (drop place values)
  pub prints : (rest : List ℕ) → PrintsRow left (drop place values) rest → PrintsRow all values (line ++ rest)

-- a value is left for a column
left-value : (kind : FieldType) (kinds : List FieldType) (values : List Value) (place : ℕ) → FitsColumns (kind ∷ kinds) (drop place values) → place < length values
left-value kind kinds values place printable = by (drop place values) refl printable
  where
    by : (left : List Value) → drop place values ≡ left → FitsColumns (kind ∷ kinds) left → place < length values
    by [] is none = absurd none
    by (value ∷ more) is some = omega (arith, simp length-drop at (ap length is))

module _ (all : List FieldType) (values : List Value) (columns : List Column) (i place : ℕ) (line : List ℕ) (column : Column)
    (within : i < length columns) (here : column ≡ get_or columns i column) (so_far : Progress all values (value_kinds (drop i columns)) place line) where
  -- a reference changes nothing
  pub progress-reference : is_reference column.kind ≡ true → Progress all values (value_kinds (drop (i + 1) columns)) place line
  progress-reference reference = rw (kinds-reference columns i column within here reference) at so_far

  module _ (file : is_reference column.kind ≡ false) where
    next : Progress all values (column.kind ∷ value_kinds (drop (i + 1) columns)) place line
    next = rw (kinds-value columns i column within here file) at so_far

    -- a column of the file has its value
    pub value-within : place < length values
    value-within = left-value column.kind (value_kinds (drop (i + 1) columns)) values place next.printable

    from_here : (value : Value) → value ≡ get_or values place value → drop place values ≡ value ∷ drop (place + 1) values
    from_here value is = rw (add-one) (drop-cons values place value value-within ∙ ap (λ first. first ∷ drop (suc place) values) (sym is))

    -- which can be printed
    pub value-good : (value : Value) → value ≡ get_or values place value → value_fault column.kind value ≡ None
    value-good value is = let printable = rw (from_here value is) at next.printable in printable.0

    -- a value more
    pub progress-value : (value : Value) → value ≡ get_or values place value → (grown : List ℕ) → PrintsBehind column.kind value line grown
        → Progress all values (value_kinds (drop (i + 1) columns)) (place + 1) (grown ++ BAR ∷ [])
    progress-value value is grown behind =
        let printable = rw (from_here value is) at next.printable in
        let prints = rw (from_here value is) at next.prints in
        record {
          printable = printable.1;
          prints = λ rest prints_rest.
              let whole = prints (behind.field ++ BAR ∷ rest) (behind.field, rest, refl, behind.prints, prints_rest) in
              rw (behind.grown, append_assoc (line ++ behind.field) (BAR ∷ []) rest, append_assoc line behind.field (BAR ∷ rest)) whole;
        }

-- all values were printed
none_left : (left : List Value) → FitsColumns [] left → left ≡ []
none_left [] printable = refl
none_left (value ∷ left) printable = absurd printable

pub progress-end : (all : List FieldType) (values : List Value) (columns : List Column) (i place : ℕ) (line : List ℕ) → length columns ≤ i
    → Progress all values (value_kinds (drop i columns)) place line → PrintsRow all values line
progress-end all values columns i place line past so_far =
    let last = rw (kinds-end columns i past) at so_far in
    let prints = rw (none_left (drop place values) last.printable) at last.prints in
    rw (append-nil line) at (prints [] refl)

pub progress-start : (all : List FieldType) (values : List Value) → FitsColumns all values → Progress all values all 0 []
progress-start all values printable = record { printable = printable; prints = λ rest prints. prints }
