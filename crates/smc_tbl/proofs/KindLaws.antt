-- The columns of a file, one after another.
use Rattle.std.proofs.Common.{◌≡◌, ℕ, ◌+◌, ◌<◌, ◌≤◌, ◌↔◌, true, false, List, [], ◌∷◌, ◌++◌, append-nil, length, get_or, drop, suc, add-one, Ok, Err, refl, sym, ap, ◌∙◌, drop_of_length-le, arith}
use Rattle.std.specs.Prelude.{Result}
use Rattle.std.proofs.Math.Seq.{drop-cons}
use Rattle.smc_types.specs.Columns.{is_reference, value_kinds}
use Rattle.smc_types.specs.declared.column.Column.{Column}
use Rattle.smc_types.specs.declared.column.FieldType.{FieldType}
use Rattle.smc_types.specs.declared.row.Value.{Value}
use Rattle.smc_tbl.specs.declared.bytes.TheConstants.{BAR}
use Rattle.smc_tbl.specs.declared.fault.TblFault.{TblFault}
use Rattle.smc_tbl.specs.declared.fault.TblFault.TheVariants.{FieldCount}
use Rattle.smc_tbl.specs.Column.{TakesField}
use Rattle.smc_tbl.specs.Fields.{Lacks}
use Rattle.smc_tbl.specs.TableText.{IsDivided, FieldsGive, UnlessMemory}
use Rattle.smc_tbl.proofs.FieldLaws.{behind, behind-push, divided-last, divided-less, divided-more, divided-uncut, fault-then, gives-spelled}

module _ (columns : List Column) (i : ℕ) (column : Column) (within : i < length columns) (here : column ≡ get_or columns i column) where
  from_here : drop i columns ≡ column ∷ drop (i + 1) columns
  from_here = rw (add-one) (drop-cons columns i column within ∙ ap (λ first. first ∷ drop (suc i) columns) (sym here))

  -- a column of the file is the next one
  pub kinds-value : is_reference column.kind ≡ false → value_kinds (drop i columns) ≡ column.kind ∷ value_kinds (drop (i + 1) columns)
  kinds-value value = rw (from_here, value) refl

  -- a reference is passed over
  pub kinds-reference : is_reference column.kind ≡ true → value_kinds (drop i columns) ≡ value_kinds (drop (i + 1) columns)
  kinds-reference reference = rw (from_here, reference) refl

-- behind the last column there is none
pub kinds-end : (columns : List Column) (i : ℕ) → length columns ≤ i → value_kinds (drop i columns) ≡ []
kinds-end columns i past = rw (drop_of_length-le columns {i = i} past) refl

-- a line is divided by all columns as what is left of it by those that are left
abbrev pub DividedAs : List FieldType → List ℕ → List FieldType → List ℕ → Type 0
DividedAs all line left rest = IsDivided all line ↔ IsDivided left rest

module _ (all : List FieldType) (line : List ℕ) (columns : List Column) (i : ℕ) (column : Column) (within : i < length columns) (here : column ≡ get_or columns i column)
    (rest : List ℕ) (so_far : DividedAs all line (value_kinds (drop i columns)) rest) where
  -- a reference changes nothing
  pub divided-reference : is_reference column.kind ≡ true → DividedAs all line (value_kinds (drop (i + 1) columns)) rest
  divided-reference reference = rw (kinds-reference columns i column within here reference) at so_far

  -- a field goes
  pub divided-field : is_reference column.kind ≡ false → (field later : List ℕ) → rest ≡ field ++ BAR ∷ later → Lacks BAR field
      → DividedAs all line (value_kinds (drop (i + 1) columns)) later
  divided-field value field later cut alone =
      let next = rw (kinds-value columns i column within here value) at so_far in
      let others = value_kinds (drop (i + 1) columns) in
      (λ divided. divided-less column.kind others rest field later cut alone (next.0 divided), λ divided. next.1 (divided-more column.kind others rest field later cut alone divided))

  -- a field is missing
  pub divided-none : is_reference column.kind ≡ false → Lacks BAR rest → ¬ IsDivided all line
  divided-none value lacks divided =
      let next = rw (kinds-value columns i column within here value) at so_far in
      divided-uncut column.kind (value_kinds (drop (i + 1) columns)) rest lacks (next.0 divided)

-- what the line gives is decided by what is left of it, behind the values that were read
abbrev pub Decides : List FieldType → List ℕ → List Value → List FieldType → List ℕ → Type 0
Decides all line values left rest = (reading : Result (List Value) TblFault) → FieldsGive left rest reading → FieldsGive all line (behind values reading)

module _ (all : List FieldType) (line : List ℕ) (columns : List Column) (i : ℕ) (column : Column) (within : i < length columns) (here : column ≡ get_or columns i column)
    (rest : List ℕ) (values : List Value) (so_far : Decides all line values (value_kinds (drop i columns)) rest) where
  -- a reference changes nothing
  pub decides-reference : is_reference column.kind ≡ true → Decides all line values (value_kinds (drop (i + 1) columns)) rest
  decides-reference reference = rw (kinds-reference columns i column within here reference) at so_far

  -- a value more
  pub decides-value : is_reference column.kind ≡ false → (value : Value) (later : List ℕ) → TakesField column.kind rest value later
      → Decides all line (values ++ value ∷ []) (value_kinds (drop (i + 1) columns)) later
  decides-value file value later takes reading gives =
      let next = rw (kinds-value columns i column within here file) at so_far in
      let others = value_kinds (drop (i + 1) columns) in
      rw (← behind-push values value reading)
      (next (behind (value ∷ []) reading) (gives-spelled column.kind others rest takes.field later takes.cut takes.alone value reading takes.spells gives))

  -- a fault
  pub decides-fault : is_reference column.kind ≡ false → (fault : TblFault)
      → UnlessMemory (Err fault) (FieldsGive (column.kind ∷ value_kinds (drop (i + 1) columns)) rest) → UnlessMemory (Err fault) (FieldsGive all line)
  decides-fault file fault given =
      let next = rw (kinds-value columns i column within here file) at so_far in
      fault-then fault (FieldsGive (column.kind ∷ value_kinds (drop (i + 1) columns)) rest) (FieldsGive all line) (next (Err fault)) given

module _ (all : List FieldType) (line : List ℕ) (columns : List Column) (i : ℕ) (past : length columns ≤ i) (rest : List ℕ) (values : List Value)
    (so_far : Decides all line values (value_kinds (drop i columns)) rest) where
  -- bytes behind the last column
  pub decides-more : 0 < length rest → ¬ IsDivided all line
  decides-more some =
      let last = rw (kinds-end columns i past) at so_far in
      last (Err FieldCount) (λ divided. let none : rest ≡ [] = divided-last rest divided in let size : length rest ≡ 0 = ap length none in omega arith)

  -- the whole row
  pub decides-row : length rest ≡ 0 → FieldsGive all line (Ok values)
  decides-row none =
      let last = rw (kinds-end columns i past) at so_far in
      let whole = last (Ok []) ([], empty rest none, refl, tt) in
      rw (append-nil values) at whole
    where
      empty : (bytes : List ℕ) → length bytes ≡ 0 → bytes ≡ []
      empty [] none = refl
      empty (byte ∷ bytes) none = absurd (omega arith)
