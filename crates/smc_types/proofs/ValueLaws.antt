-- A value is read back from its words.
use Rattle.std.proofs.Common.{◌≡◌, ℕ, ◌≤◌, Bool, true, false, cond, ℤ, pos, neg_ℤ, ◌≤ℤ◌, unsigned_abs, List, length, Some, None, refl, ap, ◌∙◌, lit<, arith}
use Rattle.std.proofs.lemmas.Bool.Decides.{nat_tests}
use Rattle.std.proofs.lemmas.Grind.{div_ceil_times}
use Rattle.std.proofs.lemmas.Int.{ints, clamps}
use Rattle.std.specs.Int.{div_ceil}
use Rattle.smc_types.specs.declared.column.TheConstants.{WORD_BYTES}
use Rattle.smc_types.specs.declared.column.FieldType.{FieldType}
use Rattle.smc_types.specs.declared.column.FieldType.TheVariants.{Count, Amount, Rate, Day, Text}
use Rattle.smc_types.specs.declared.encoding.EncodeFault.{EncodeFault}
use Rattle.smc_types.specs.declared.encoding.EncodeFault.TheVariants.{Range, Long}
use Rattle.smc_types.specs.declared.number.TheConstants.{COUNT_MAX, AMOUNT_MAX, RATE_MAX, DAY_MIN, DAY_MAX, OFFSET}
use Rattle.smc_types.specs.declared.row.Value.{Value}
use Rattle.smc_types.specs.declared.row.Value.TheVariants.{Number, Day as OfDay, Text as OfText}
use Rattle.smc_types.specs.Columns.{width_of}
use Rattle.smc_types.specs.Faults.{range_fault, text_fault, value_fault}
use Rattle.smc_types.specs.Numbers.{is_from, moved, moved_back, nearest}
use Rattle.smc_types.specs.Records.{value_words}
use Rattle.smc_types.specs.Rows.{IsValue, value_of}
use Rattle.smc_types.proofs.TextLaws.{text_of-text_words, length-text_words}

-- where a test chose no fault, it was passed
passed : (test : Bool) (fault : EncodeFault) → cond test None (Some fault) ≡ None → test ≡ true
passed true fault none = refl
passed false fault none = cc

-- a number without fault lies between the two
pub range_is : (least greatest number : ℤ) → range_fault least greatest number ≡ None → (least ≤ℤ number) × (number ≤ℤ greatest)
range_is least greatest number none =
    let within = passed (is_from least greatest number) Range none in
    grind (arith, ints)

-- a text without fault is not too long
pub text_is : (width : ℕ) (text : List ℕ) → text_fault width text ≡ None → length text ≤ width
text_is width text none =
    let within = passed _ Long none in
    grind (arith, nat_tests)

-- a number between the two is its own nearest
nearest_is : (least greatest number : ℤ) → least ≤ℤ number → number ≤ℤ greatest → nearest least greatest number ≡ number
nearest_is least greatest number low high = omega (arith, ints, clamps)

-- a moved number is moved back
moved_back-moved : (number : ℤ) → neg_ℤ OFFSET ≤ℤ number → moved_back (moved number) ≡ number
moved_back-moved number low = omega (arith, ints)

-- so a number without fault is read back
moved_back_is : (least greatest number : ℤ) → neg_ℤ OFFSET ≤ℤ least → range_fault least greatest number ≡ None → nearest least greatest (moved_back (moved number)) ≡ number
moved_back_is least greatest number low good =
    let within = range_is least greatest number good in
    ap (nearest least greatest) (moved_back-moved number (omega (arith, ints, within.0))) ∙ nearest_is least greatest number within.0 within.1

-- and so is a number that is not moved
count_is : (greatest number : ℤ) → range_fault (pos 0) greatest number ≡ None → nearest (pos 0) greatest (pos (unsigned_abs number)) ≡ number
count_is greatest number good =
    let within = range_is (pos 0) greatest number good in
    let same : pos (unsigned_abs number) ≡ number = omega (arith, ints, within.0) in
    ap (nearest (pos 0) greatest) same ∙ nearest_is (pos 0) greatest number within.0 within.1

-- a value without fault has as many words as its column
pub length-value_words : (kind : FieldType) (value : Value) → value_fault kind value ≡ None → length (value_words kind value) ≡ width_of kind
length-value_words Count (Number number) good = refl
length-value_words Amount (Number number) good = refl
length-value_words Rate (Number number) good = refl
length-value_words Day (OfDay day) good = refl
length-value_words (Text width) (OfText text) good = length-text_words (div_ceil width WORD_BYTES) text
length-value_words kind value good = cc

-- and is read back from them
pub value_of-value_words : (kind : FieldType) (value : Value) → IsValue value → value_fault kind value ≡ None → value_of kind (value_words kind value) ≡ value
value_of-value_words Count (Number number) is good = ap Number (count_is COUNT_MAX number good)
value_of-value_words Amount (Number number) is good = ap Number (moved_back_is (neg_ℤ AMOUNT_MAX) AMOUNT_MAX number (omega (arith, ints)) good)
value_of-value_words Rate (Number number) is good = ap Number (moved_back_is (pos 0) RATE_MAX number (omega (arith, ints)) good)
value_of-value_words Day (OfDay day) is good = ap OfDay (moved_back_is DAY_MIN DAY_MAX day (omega (arith, ints)) good)
value_of-value_words (Text width) (OfText text) is good =
    ap OfText (text_of-text_words (div_ceil width WORD_BYTES) width text is (text_is width text good) (div_ceil_times width WORD_BYTES (lit< tt)).0)
value_of-value_words kind value is good = cc
