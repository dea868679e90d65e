-- The words of a row may stand in fields: none is the blank one, and each is below it.
use Rattle.std.proofs.Common.{◌≡◌, ℕ, zero, suc, ◌<◌, Bool, true, false, cond, ℤ, pos, neg_ℤ, ◌≤ℤ◌, unsigned_abs, List, [], ◌∷◌, ◌++◌, drop, get_or, Some, None, refl, ap, ◌∙◌, arith}
use Rattle.std.proofs.lemmas.Bool.Decides.{nat_tests}
use Rattle.std.proofs.lemmas.Int.{ints}
use Rattle.std.proofs.lemmas.List.Elements.{All-head, All-tail}
use Rattle.std.proofs.lemmas.List.Folds.{list_all-append}
use Rattle.std.specs.Int.{div_ceil}
use Rattle.std.specs.List.{All}
use Rattle.smc_types.specs.declared.column.FieldType.{FieldType}
use Rattle.smc_types.specs.declared.column.FieldType.TheVariants.{Count, Amount, Rate, Day, Text}
use Rattle.smc_types.specs.declared.column.TheConstants.{WORD_BYTES}
use Rattle.smc_types.specs.declared.number.TheConstants.{COUNT_MAX, AMOUNT_MAX, RATE_MAX, DAY_MIN, DAY_MAX, OFFSET}
use Rattle.smc_types.specs.declared.row.Value.{Value}
use Rattle.smc_types.specs.declared.row.Value.TheVariants.{Number as OfNumber, Day as OfDay, Text as OfText}
use Rattle.smc_types.specs.declared.encoding.EncodeFault.{EncodeFault}
use Rattle.smc_types.specs.declared.encoding.EncodeFault.TheVariants.{Range}
use Rattle.smc_types.specs.Faults.{range_fault, value_fault}
use Rattle.smc_types.specs.Numbers.{is_from, moved}
use Rattle.smc_types.specs.Records.{row_words, value_words}
use Rattle.smc_types.specs.Rows.{IsValue}
use Rattle.smc_types.specs.Texts.{IsText, is_text_byte, word_of, text_words}
use Rattle.smc_words.specs.declared.layout.TheConstants.{BLANK}
use Rattle.smc_types.specs.Columns.{value_kinds}
use Rattle.smc_types.specs.declared.schema.Schema.{Schema}
use Rattle.smc_tbl.specs.TableText.{FitsColumns}
use Rattle.smc_tbl.specs.Words.{AreRowWords}
use Rattle.smc_core.specs.Add.{has_no_blank, is_value}

-- one word below the blank one
one-small : (word : ℕ) → word < BLANK → has_no_blank (word ∷ []) ≡ true
one-small word below = grind (arith, nat_tests)

-- a byte of a text is below the blank one
byte-small : (byte : ℕ) → is_text_byte byte ≡ true → byte < 255
byte-small byte is = grind (arith, nat_tests)

text-rest : (byte : ℕ) (text : List ℕ) → IsText (byte ∷ text) → IsText text
text-rest byte text is k d below = is (suc k) d (omega (arith, below))

text_small : (text : List ℕ) → IsText text → (i : ℕ) → get_or text i 0 < 255
text_small [] is i = omega arith
text_small (byte ∷ text) is zero = byte-small byte (is 0 0 (omega arith))
text_small (byte ∷ text) is (suc i) = text_small text (text-rest byte text is) i

-- what is left of a text is one
text_drop : (n : ℕ) (text : List ℕ) → IsText text → IsText (drop n text)
text_drop zero text is = is
text_drop (suc n) [] is = is
text_drop (suc n) (byte ∷ text) is = text_drop n text (text-rest byte text is)

-- where a test chose no fault, it was passed
passed : (test : Bool) (fault : EncodeFault) → cond test None (Some fault) ≡ None → test ≡ true
passed true fault none = refl
passed false fault none = cc

-- a number without fault lies between the two
range_is : (least greatest number : ℤ) → range_fault least greatest number ≡ None → (least ≤ℤ number) × (number ≤ℤ greatest)
range_is least greatest number none =
    let within = passed (is_from least greatest number) Range none in
    grind (arith, ints)

-- the word of bytes of a text
word-small : (text : List ℕ) → IsText text → word_of text < BLANK
unfolding word_of
word-small text is =
    let b0 = text_small text is 0 in let b1 = text_small text is 1 in let b2 = text_small text is 2 in let b3 = text_small text is 3 in
    let b4 = text_small text is 4 in let b5 = text_small text is 5 in let b6 = text_small text is 6 in let b7 = text_small text is 7 in
    omega arith

-- the words of a text
text-small : (count : ℕ) (text : List ℕ) → IsText text → has_no_blank (text_words count text) ≡ true
unfolding text_words
text-small zero text is = refl
text-small (suc count) text is =
    let first = word-small text is in
    let rest = text-small count (drop WORD_BYTES text) (text_drop WORD_BYTES text is) in
    grind (arith, nat_tests)

-- the word of a number that is moved
moved-small : (least greatest number : ℤ) → neg_ℤ OFFSET ≤ℤ least → greatest ≤ℤ OFFSET → range_fault least greatest number ≡ None → has_no_blank (moved number ∷ []) ≡ true
moved-small least greatest number low high good =
    let within = range_is least greatest number good in
    one-small (moved number) (omega (arith, ints, within.0, within.1))

-- the words of a value
pub value-small : (kind : FieldType) (value : Value) → IsValue value → value_fault kind value ≡ None → has_no_blank (value_words kind value) ≡ true
value-small Count (OfNumber number) is good =
    let within = range_is (pos 0) COUNT_MAX number good in
    one-small (unsigned_abs number) (omega (arith, ints, within.0, within.1))
value-small Amount (OfNumber number) is good = moved-small (neg_ℤ AMOUNT_MAX) AMOUNT_MAX number (omega (arith, ints)) (omega (arith, ints)) good
value-small Rate (OfNumber number) is good = moved-small (pos 0) RATE_MAX number (omega (arith, ints)) (omega (arith, ints)) good
value-small Day (OfDay day) is good = moved-small DAY_MIN DAY_MAX day (omega (arith, ints)) (omega (arith, ints)) good
value-small (Text width) (OfText text) is good = text-small (div_ceil width WORD_BYTES) text is
value-small kind value is good = cc

-- words behind others
pub behind-small : (front words : List ℕ) → has_no_blank front ≡ true → has_no_blank words ≡ true → has_no_blank (front ++ words) ≡ true
behind-small front words first rest = list_all-append is_value front words ∙ rw (first, rest) refl

-- one word behind others
pub one-more-small : (front : List ℕ) (word : ℕ) → has_no_blank front ≡ true → word < BLANK → has_no_blank (front ++ word ∷ []) ≡ true
one-more-small front word first below = behind-small front (word ∷ []) first (one-small word below)

-- the words of a row within its columns
pub row-small : (kinds : List FieldType) (row : List Value) → FitsColumns kinds row → All IsValue row → has_no_blank (row_words kinds row) ≡ true
row-small [] [] fits are = refl
row-small [] (value ∷ row) fits are = absurd fits
row-small (kind ∷ kinds) [] fits are = absurd fits
row-small (kind ∷ kinds) (value ∷ row) fits are =
    behind-small (value_words kind value) (row_words kinds row) (value-small kind value (All-head IsValue value row are) fits.0)
    (row-small kinds row fits.1 (All-tail IsValue value row are))

-- the words of a row of the table
pub are-small : (schema : Schema) (words : List ℕ) → AreRowWords schema words → has_no_blank words ≡ true
are-small schema words are = ap has_no_blank are.words_are ∙ row-small (value_kinds schema.columns) are.row are.fits are.texts
