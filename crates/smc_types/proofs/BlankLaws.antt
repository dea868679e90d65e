-- No word of a record is the blank one.
use Rattle.std.proofs.Common.{◌≡◌, inl, inr, ℕ, zero, suc, ◌<◌, true, false, ℤ, pos, neg_ℤ, ◌≤ℤ◌, unsigned_abs, List, [], ◌∷◌, drop, None, refl, arith}
use Rattle.std.proofs.lemmas.Int.{ints}
use Rattle.std.proofs.lemmas.List.Elements.{All-cons, All-head, All-tail, All-append}
use Rattle.std.specs.Int.{div_ceil}
use Rattle.std.specs.List.{All}
use Rattle.smc_types.specs.declared.column.Column.{Column}
use Rattle.smc_types.specs.declared.column.FieldType.{FieldType}
use Rattle.smc_types.specs.declared.column.FieldType.TheVariants.{Count, Amount, Rate, Day, Text}
use Rattle.smc_types.specs.declared.column.TheConstants.{WORD_BYTES}
use Rattle.smc_types.specs.declared.number.TheConstants.{COUNT_MAX, AMOUNT_MAX, RATE_MAX, DAY_MIN, DAY_MAX, OFFSET}
use Rattle.smc_types.specs.declared.row.Value.{Value}
use Rattle.smc_types.specs.declared.row.Value.TheVariants.{Number as OfNumber, Day as OfDay, Text as OfText}
use Rattle.smc_types.specs.Columns.{is_reference, value_kinds}
use Rattle.smc_types.specs.Faults.{range_fault, value_fault, values_fault}
use Rattle.smc_types.specs.Numbers.{moved}
use Rattle.smc_types.specs.Records.{value_words, record_words}
use Rattle.smc_types.specs.References.{IsReference, IsFilled}
use Rattle.smc_types.specs.Rows.{IsValue}
use Rattle.smc_words.specs.declared.layout.TheConstants.{BLANK}
use Rattle.smc_types.specs.Texts.{IsText, word_of, text_words}
use Rattle.smc_types.proofs.TextLaws.{text_small, text_drop}
use Rattle.smc_types.proofs.ValueLaws.{range_is}
use Rattle.smc_types.proofs.BackLaws.{Encodes, encodes_reference, encodes_value, first_good}
use Rattle.smc_types.proofs.ColumnLaws.{reference_count-reference, value_count-value}
use Rattle.smc_types.proofs.RecordLaws.{record_words-reference, record_words-value}

-- no words are all filled
none_filled : All IsFilled []
none_filled k d below = absurd (omega arith)

-- a word below the blank one is filled
below_filled : (word : ℕ) → word < BLANK → IsFilled word
below_filled word below is = omega arith

-- one filled word
one_filled : (word : ℕ) → word < BLANK → All IsFilled (word ∷ [])
one_filled word below = All-cons IsFilled word [] (below_filled word below) none_filled

-- the word of a reference
reference_filled : (word : ℕ) → IsReference word → IsFilled word
reference_filled word (inl null) is = omega arith
reference_filled word (inr given) is =
    let fits = given.1 in
    omega (arith, fits.given, fits.incarnation, fits.entry, fits.coll, given.2)

-- the word of bytes of a text
word_filled : (text : List ℕ) → IsText text → IsFilled (word_of text)
unfolding word_of
word_filled text is same =
    let b0 = text_small text is 0 in let b1 = text_small text is 1 in let b2 = text_small text is 2 in let b3 = text_small text is 3 in
    let b4 = text_small text is 4 in let b5 = text_small text is 5 in let b6 = text_small text is 6 in let b7 = text_small text is 7 in
    omega arith

-- the words of a text
text_filled : (count : ℕ) (text : List ℕ) → IsText text → All IsFilled (text_words count text)
unfolding text_words
text_filled zero text is = none_filled
text_filled (suc count) text is =
    All-cons IsFilled (word_of text) (text_words count (drop WORD_BYTES text)) (word_filled text is) (text_filled count (drop WORD_BYTES text) (text_drop WORD_BYTES text is))

-- the word of a number that is moved
moved_filled : (least greatest number : ℤ) → neg_ℤ OFFSET ≤ℤ least → greatest ≤ℤ OFFSET → range_fault least greatest number ≡ None → All IsFilled (moved number ∷ [])
moved_filled least greatest number low high good =
    let within = range_is least greatest number good in
    one_filled (moved number) (omega (arith, ints, within.0, within.1))

-- the words of a value without fault
value_filled : (kind : FieldType) (value : Value) → IsValue value → value_fault kind value ≡ None → All IsFilled (value_words kind value)
value_filled Count (OfNumber number) is good =
    let within = range_is (pos 0) COUNT_MAX number good in
    one_filled (unsigned_abs number) (omega (arith, ints, within.0, within.1))
value_filled Amount (OfNumber number) is good = moved_filled (neg_ℤ AMOUNT_MAX) AMOUNT_MAX number (omega (arith, ints)) (omega (arith, ints)) good
value_filled Rate (OfNumber number) is good = moved_filled (pos 0) RATE_MAX number (omega (arith, ints)) (omega (arith, ints)) good
value_filled Day (OfDay day) is good = moved_filled DAY_MIN DAY_MAX day (omega (arith, ints)) (omega (arith, ints)) good
value_filled (Text width) (OfText text) is good = text_filled (div_ceil width WORD_BYTES) text is
value_filled kind value is good = cc

-- a record whose first column is a reference
filled_reference : (column : Column) (columns : List Column) (values : List Value) (refs : List ℕ) → is_reference column.kind ≡ true → All IsReference refs → Encodes (column ∷ columns) values refs
    → ((values : List Value) (refs : List ℕ) → All IsReference refs → Encodes columns values refs → All IsFilled (record_words columns values refs))
    → All IsFilled (record_words (column ∷ columns) values refs)
filled_reference column columns values [] is are so later =
    let one = reference_count-reference column columns is in absurd (omega (arith, so.references_all, one))
filled_reference column columns values (word ∷ refs) is are so later =
    rw (record_words-reference column columns values word refs is)
    (All-cons IsFilled word (record_words columns values refs) (reference_filled word (All-head IsReference word refs are))
    (later values refs (All-tail IsReference word refs are) (encodes_reference column columns values word refs is so)))

-- a record whose first column is none
filled_value : (column : Column) (columns : List Column) (values : List Value) (refs : List ℕ) → is_reference column.kind ≡ false → All IsReference refs → Encodes (column ∷ columns) values refs
    → ((values : List Value) (refs : List ℕ) → All IsReference refs → Encodes columns values refs → All IsFilled (record_words columns values refs))
    → All IsFilled (record_words (column ∷ columns) values refs)
filled_value column columns [] refs is are so later =
    let one = value_count-value column columns is in absurd (omega (arith, so.values_all, one))
filled_value column columns (value ∷ values) refs is are so later =
    let good = first_good (value_fault column.kind value) (values_fault (value_kinds columns) values) (rw is at so.good) in
    rw (record_words-value column columns value values refs is)
    (All-append IsFilled (value_words column.kind value) (record_words columns values refs) (value_filled column.kind value (All-head IsValue value values so.texts) good)
    (later values refs are (encodes_value column columns value values refs is so)))

-- the words of a record
pub record_filled : (columns : List Column) (values : List Value) (refs : List ℕ) → All IsReference refs → Encodes columns values refs → All IsFilled (record_words columns values refs)
record_filled [] values refs are so = none_filled
record_filled (column ∷ columns) values refs are so =
    elim (is_reference column.kind) as (λ test. is_reference column.kind ≡ test → All IsFilled (record_words (column ∷ columns) values refs)) [
      | true ↦ λ is. filled_reference column columns values refs is are so (record_filled columns)
      | false ↦ λ is. filled_value column columns values refs is are so (record_filled columns)
    ] refl
