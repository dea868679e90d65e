-- How far the words of a record have been written.
use Rattle.std.proofs.Common.{◌≡◌, ℕ, ◌+◌, ◌<◌, ◌≤◌, true, false, List, [], ◌∷◌, ◌++◌, append_assoc, append-nil, take, drop, length, get_or, None, sym, ap, ◌∙◌, arith}
use Rattle.std.proofs.lemmas.List.{drop_more, drop_all, take_more, take_all}
use Rattle.std.proofs.lemmas.List.Elements.{All-push}
use Rattle.std.specs.List.{All}
use Rattle.smc_types.specs.declared.column.Column.{Column}
use Rattle.smc_types.specs.declared.row.Value.{Value}
use Rattle.smc_types.specs.Columns.{is_reference, reference_count, value_count, value_kinds}
use Rattle.smc_types.specs.Faults.{value_fault, values_fault}
use Rattle.smc_types.specs.Records.{value_words, record_words}
use Rattle.smc_types.specs.Rows.{IsValue}
use Rattle.smc_types.proofs.ColumnLaws.{drop_at, reference_count-reference, reference_count-value, value_count-reference, value_count-value, value_kinds-reference}

-- so many columns, values and references have their words behind those of the start, and no fault was met
pub record Progress (columns : List Column) (values : List Value) (refs start : List ℕ) (column value reference : ℕ) (words : List ℕ) : Type 0 where
  pub values_left : value + value_count (drop column columns) ≡ length values
  pub references_left : reference + reference_count (drop column columns) ≡ length refs
  pub words_left : words ++ record_words (drop column columns) (drop value values) (drop reference refs) ≡ start ++ record_words columns values refs
  pub fault_left : values_fault (value_kinds (drop column columns)) (drop value values) ≡ values_fault (value_kinds columns) values
  pub texts : All IsValue (take value values)

-- the words of a reference column
pub record_words-reference : (column : Column) (columns : List Column) (values : List Value) (word : ℕ) (refs : List ℕ) → is_reference column.kind ≡ true → record_words (column ∷ columns) values (word ∷ refs) ≡ word ∷ record_words columns values refs
record_words-reference column columns values word refs is = rw is

-- the words of any other column
pub record_words-value : (column : Column) (columns : List Column) (value : Value) (values : List Value) (refs : List ℕ) → is_reference column.kind ≡ false → record_words (column ∷ columns) (value ∷ values) refs ≡ value_words column.kind value ++ record_words columns values refs
record_words-value column columns value values refs is = rw (is, append-nil)

-- a value without fault leaves the faults of those behind it
values_fault-good : (column : Column) (columns : List Column) (value : Value) (values : List Value) → is_reference column.kind ≡ false → value_fault column.kind value ≡ None → values_fault (value_kinds (column ∷ columns)) (value ∷ values) ≡ values_fault (value_kinds columns) values
values_fault-good column columns value values is good = rw (is, good)

-- the next column is a reference
pub progress_reference : (columns : List Column) (values : List Value) (refs start : List ℕ) (column value reference : ℕ) (words : List ℕ) (next : Column)
    → Progress columns values refs start column value reference words → column < length columns → next ≡ get_or columns column next → is_reference next.kind ≡ true
    → Progress columns values refs start (column + 1) value (reference + 1) (words ++ get_or refs reference 0 ∷ [])
progress_reference columns values refs start column value reference words next so_far below at is =
    let left = drop_at columns column next below at in
    let one : reference_count (drop column columns) ≡ 1 + reference_count (drop (column + 1) columns) = ap reference_count left ∙ reference_count-reference next (drop (column + 1) columns) is in
    let none : value_count (drop column columns) ≡ value_count (drop (column + 1) columns) = ap value_count left ∙ value_count-reference next (drop (column + 1) columns) is in
    let within : reference < length refs = omega (arith, so_far.references_left, one) in
    let word = drop_more refs reference 0 within in
    record {
      values_left = omega (arith, so_far.values_left, none);
      references_left = omega (arith, so_far.references_left, one);
      words_left =
          append_assoc words (get_or refs reference 0 ∷ []) _
          ∙ ap (λ rest. words ++ rest) (sym (record_words-reference next (drop (column + 1) columns) (drop value values) (get_or refs reference 0) (drop (reference + 1) refs) is))
          ∙ ap (λ rest. words ++ record_words rest (drop value values) (get_or refs reference 0 ∷ drop (reference + 1) refs)) (sym left)
          ∙ ap (λ rest. words ++ record_words (drop column columns) (drop value values) rest) (sym word)
          ∙ so_far.words_left;
      fault_left =
          ap (λ kinds. values_fault kinds (drop value values)) (sym (value_kinds-reference next (drop (column + 1) columns) is))
          ∙ ap (λ rest. values_fault (value_kinds rest) (drop value values)) (sym left)
          ∙ so_far.fault_left;
      texts = so_far.texts;
    }

-- the next column has a value without fault
pub progress_value : (columns : List Column) (values : List Value) (refs start : List ℕ) (column value reference : ℕ) (words : List ℕ) (next : Column) (first : Value)
    → Progress columns values refs start column value reference words → column < length columns → next ≡ get_or columns column next → is_reference next.kind ≡ false
    → first ≡ get_or values value first → value_fault next.kind first ≡ None → IsValue first
    → Progress columns values refs start (column + 1) (value + 1) reference (words ++ value_words next.kind first)
progress_value columns values refs start column value reference words next first so_far below at is here good text =
    let left = drop_at columns column next below at in
    let one : value_count (drop column columns) ≡ 1 + value_count (drop (column + 1) columns) = ap value_count left ∙ value_count-value next (drop (column + 1) columns) is in
    let none : reference_count (drop column columns) ≡ reference_count (drop (column + 1) columns) = ap reference_count left ∙ reference_count-value next (drop (column + 1) columns) is in
    let within : value < length values = omega (arith, so_far.values_left, one) in
    let rest = drop_at values value first within here in
    record {
      values_left = omega (arith, so_far.values_left, one);
      references_left = omega (arith, so_far.references_left, none);
      words_left =
          append_assoc words (value_words next.kind first) _
          ∙ ap (λ more. words ++ more) (sym (record_words-value next (drop (column + 1) columns) first (drop (value + 1) values) (drop reference refs) is))
          ∙ ap (λ more. words ++ record_words more (first ∷ drop (value + 1) values) (drop reference refs)) (sym left)
          ∙ ap (λ more. words ++ record_words (drop column columns) more (drop reference refs)) (sym rest)
          ∙ so_far.words_left;
      fault_left =
          sym (values_fault-good next (drop (column + 1) columns) first (drop (value + 1) values) is good)
          ∙ ap (λ more. values_fault (value_kinds more) (first ∷ drop (value + 1) values)) (sym left)
          ∙ ap (λ more. values_fault (value_kinds (drop column columns)) more) (sym rest)
          ∙ so_far.fault_left;
      texts = rw (take_more values value first within, ← here) (All-push IsValue (take value values) first so_far.texts text);
    }

-- at the end each text was met
pub progress_texts : (columns : List Column) (values : List Value) (refs start : List ℕ) (column value reference : ℕ) (words : List ℕ)
    → Progress columns values refs start column value reference words → length columns ≤ column → All IsValue values
progress_texts columns values refs start column value reference words so_far all =
    let none = ap value_count (drop_all column columns all) in
    let whole : length values ≤ value = omega (arith, so_far.values_left, none) in
    rw take_all at so_far.texts
