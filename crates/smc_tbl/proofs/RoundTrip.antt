-- A row that a line spells is spelled again by what is printed of it.
use Rattle.std.proofs.Common.{◌≡◌, ℕ, suc, ◌+◌, ◌/◌, ◌%◌, ◌<◌, Bool, ◌||◌, true, false, List, [], ◌∷◌, ◌++◌, length, length-append, get_or, refl, sym, ap, ◌∙◌, arith}
use Rattle.std.specs.Prelude.{◌==◌, if◌then◌else◌}
use Rattle.std.specs.Char.{is_ascii_digit}
use Rattle.std.specs.List.{list_all}
use Rattle.std.proofs.lemmas.Bool.Decides.{nat_tests}
use Rattle.std.proofs.lemmas.List.Folds.{list_all-append}
use Rattle.std.proofs.lemmas.Str.{IsUtf8-append, IsUtf8-drop, IsUtf8-take, IsCharBoundary-after_ascii, IsCharBoundary-before_ascii}
use Rattle.std.proofs.Math.Seq.{drop-append-add, get_or-append_seam, take-append_seam}
use Rattle.smc_types.specs.Calendar.{IsDate, is_leap_year}
use Rattle.smc_types.specs.Columns.{value_kinds}
use Rattle.smc_types.specs.Days.{date_text, digits as two_digits}
use Rattle.smc_types.specs.declared.column.FieldType.{FieldType}
use Rattle.smc_types.specs.declared.column.FieldType.TheVariants.{Count, Amount, Rate, Day, Text, RefTo}
use Rattle.smc_types.specs.declared.days.CivilDate.{CivilDate}
use Rattle.smc_types.specs.declared.row.Value.{Value}
use Rattle.smc_types.specs.declared.row.Value.TheVariants.{Number as OfNumber, Day as OfDay, Text as OfText}
use Rattle.smc_types.specs.declared.schema.Schema.{Schema}
use Rattle.smc_tbl.specs.declared.bytes.TheConstants.{BAR}
use Rattle.smc_tbl.specs.declared.numbers.TheConstants.{MINUS, POINT}
use Rattle.smc_tbl.specs.Fields.{Lacks, SpellsField, SpellsHundredths, behind_point, sign}
use Rattle.smc_tbl.specs.Printed.{PrintsRow, PrintsValue}
use Rattle.smc_tbl.specs.TableText.{HasFields, IsShort, IsText, SpellValues, SpellsRow, is_plain_byte, is_text_byte}
use Rattle.smc_tbl.proofs.RespellLaws.{respelled, two_are_digits}
use Rattle.smc_tbl.proofs.TextLaws.{IsText-plain, and-left, and-right}

-- a byte of a number or of a day
abbrev is_number_byte : ℕ → Bool
is_number_byte byte = is_ascii_digit byte || (byte == POINT || byte == MINUS)

abbrev IsNumeric : List ℕ → Type 0
IsNumeric bytes = list_all is_number_byte bytes ≡ true

numeric-plain : (bytes : List ℕ) → IsNumeric bytes → list_all is_plain_byte bytes ≡ true
numeric-plain [] numeric = refl
numeric-plain (byte ∷ bytes) numeric =
    let rest : IsNumeric bytes = grind (arith, nat_tests) in
    let later : list_all is_plain_byte bytes ≡ true = numeric-plain bytes rest in
    grind (arith, nat_tests, later)

numeric-lacks : (bytes : List ℕ) → IsNumeric bytes → Lacks BAR bytes
numeric-lacks [] numeric = refl
numeric-lacks (byte ∷ bytes) numeric =
    let rest : IsNumeric bytes = grind (arith, nat_tests) in
    let later : Lacks BAR bytes = numeric-lacks bytes rest in
    grind (arith, nat_tests, later)

digits-numeric : (bytes : List ℕ) → list_all is_ascii_digit bytes ≡ true → IsNumeric bytes
digits-numeric [] digits = refl
digits-numeric (byte ∷ bytes) digits =
    let rest : list_all is_ascii_digit bytes ≡ true = grind (arith, nat_tests) in
    let later : IsNumeric bytes = digits-numeric bytes rest in
    grind (arith, nat_tests, later)

numeric-append : (front behind : List ℕ) → IsNumeric front → IsNumeric behind → IsNumeric (front ++ behind)
numeric-append front behind first second = rw (list_all-append is_number_byte front behind, first, second) refl

-- what spells a number or a day consists of such bytes
decimals-numeric : (decimals : List ℕ) → list_all is_ascii_digit decimals ≡ true → IsNumeric (behind_point decimals)
decimals-numeric [] digits = refl
decimals-numeric (tenth ∷ decimals) digits = digits-numeric (tenth ∷ decimals) digits

hundredths-numeric : (most units : ℕ) (text : List ℕ) → SpellsHundredths most text units → IsNumeric text
hundredths-numeric most units text spells =
    rw (spells.text_is)
    (numeric-append spells.whole (behind_point spells.decimals) (digits-numeric spells.whole spells.whole_digits.digits) (decimals-numeric spells.decimals spells.decimal_digits.digits))

sign-numeric : (below : Bool) → IsNumeric (sign below)
sign-numeric true = refl
sign-numeric false = refl

two-numeric : (number : ℕ) → number < 100 → IsNumeric (two_digits number)
two-numeric number small = digits-numeric (two_digits number) (two_are_digits number small)

-- no month has a hundred days
month-short : (leap : Bool) (month : ℕ) → (if month == 2 then (if leap then 29 else 28) else (if (month == 4) || (month == 6) || (month == 9) || (month == 11) then 30 else 31)) < 100
month-short leap month = grind (arith, nat_tests)

day-short : (date : CivilDate) → IsDate date → date.day < 100
day-short date is = omega (arith, is.day_high, month-short (is_leap_year date.year) date.month)

date-numeric : (date : CivilDate) → IsDate date → IsNumeric (date_text date)
date-numeric date is =
    let dash : IsNumeric (MINUS ∷ []) = refl in
    let day = numeric-append (MINUS ∷ []) (two_digits date.day) dash (two-numeric date.day (day-short date is)) in
    let month = numeric-append (two_digits date.month) (MINUS ∷ [] ++ two_digits date.day) (two-numeric date.month (omega (arith, is.month_high))) day in
    let dashed = numeric-append (MINUS ∷ []) (two_digits date.month ++ MINUS ∷ [] ++ two_digits date.day) dash month in
    let year = numeric-append (two_digits (date.year % 100)) (MINUS ∷ [] ++ two_digits date.month ++ MINUS ∷ [] ++ two_digits date.day) (two-numeric (date.year % 100) (omega arith)) dashed in
    numeric-append (two_digits (date.year / 100)) (two_digits (date.year % 100) ++ MINUS ∷ [] ++ two_digits date.month ++ MINUS ∷ [] ++ two_digits date.day) (two-numeric (date.year / 100) (omega (arith, is.year))) year

-- a field that stands in a line of text
record IsClean (field : List ℕ) : Type 0 where
  alone : Lacks BAR field
  text : IsText field

numeric-clean : (field : List ℕ) → IsNumeric field → IsClean field
numeric-clean field numeric = record { alone = numeric-lacks field numeric; text = IsText-plain field (numeric-plain field numeric) }

-- what is printed for a value of such a field is one
clean : (kind : FieldType) (value : Value) (field printed : List ℕ) → IsClean field → SpellsField kind field value → PrintsValue kind value printed → SpellsField kind printed value → IsClean printed
clean Count (OfNumber count) field printed is spells prints again = numeric-clean printed (digits-numeric printed again.digits.digits)
clean Amount (OfNumber amount) field printed is spells prints again =
    numeric-clean printed (rw (again.text_is) (numeric-append (sign again.below) again.number (sign-numeric again.below) (hundredths-numeric 10 again.units again.number again.number_is)))
clean Rate (OfNumber rate) field printed is spells prints again = numeric-clean printed (hundredths-numeric 1 again.units printed again.number_is)
clean Day (OfDay day) field printed is spells prints again = numeric-clean printed (rw (again.text_is) (date-numeric again.date again.is_date))
clean (Text width) (OfText bytes) field printed is spells prints again = let same : printed ≡ field = prints ∙ spells.text_is in rw same is
clean Count _ field printed is spells prints again = absurd spells
clean Amount _ field printed is spells prints again = absurd spells
clean Rate _ field printed is spells prints again = absurd spells
clean Day _ field printed is spells prints again = absurd spells
clean (Text width) _ field printed is spells prints again = absurd spells
clean (RefTo table) value field printed is spells prints again = absurd spells

-- the parts of a line of text are text
front-text : (front rest : List ℕ) → IsText (front ++ BAR ∷ rest) → IsText front
front-text front rest text =
    let line = front ++ BAR ∷ rest in
    let size : length line ≡ length front + suc (length rest) = length-append front (BAR ∷ rest) in
    let bar : get_or line (length front) 0 ≡ BAR = get_or-append_seam front BAR rest 0 in
    let chars = IsUtf8-take line (length front) text.utf8 (IsCharBoundary-before_ascii line (length front) (omega arith) (omega arith)) in
    record {
      utf8 = rw (take-append_seam front (BAR ∷ rest)) at chars;
      bytes = and-left _ _ (sym (list_all-append is_text_byte front (BAR ∷ rest)) ∙ text.bytes);
    }

rest-text : (front rest : List ℕ) → IsText (front ++ BAR ∷ rest) → IsText rest
rest-text front rest text =
    let line = front ++ BAR ∷ rest in
    let size : length line ≡ length front + suc (length rest) = length-append front (BAR ∷ rest) in
    let bar : get_or line (length front) 0 ≡ BAR = get_or-append_seam front BAR rest 0 in
    let chars = IsUtf8-drop line (length front + 1) text.utf8 (IsCharBoundary-after_ascii line (length front) text.utf8 (omega arith) (omega arith)) in
    record {
      utf8 = rw (drop-append-add front (BAR ∷ rest) 1) at chars;
      bytes = and-right (list_all is_text_byte front) (list_all is_text_byte (BAR ∷ rest)) (sym (list_all-append is_text_byte front (BAR ∷ rest)) ∙ text.bytes);
    }

-- and so are they together
joined-text : (front rest : List ℕ) → IsText front → IsText rest → IsText (front ++ BAR ∷ rest)
joined-text front rest first second = record {
  utf8 = IsUtf8-append front (BAR ∷ rest) first.utf8 (IsUtf8-append (BAR ∷ []) rest (IsText-plain (BAR ∷ []) refl).utf8 second.utf8);
  bytes = rw (list_all-append is_text_byte front (BAR ∷ rest), first.bytes) second.bytes;
}

-- the printed row has a field for each column, which spells its value
record Respells (kinds : List FieldType) (row : List Value) (printed : List ℕ) : Type 0 where
  text : IsText printed
  fields : List (List ℕ)
  has : HasFields printed fields
  count : length fields ≡ length kinds
  spells : SpellValues kinds fields row

again : (kinds : List FieldType) (fields : List (List ℕ)) (row : List Value) (line printed : List ℕ) → IsText line → HasFields line fields → SpellValues kinds fields row
    → PrintsRow kinds row printed → Respells kinds row printed
again [] [] [] line printed text has spells prints = rw prints (record { text = IsText-plain [] refl; fields = []; has = refl; count = refl; spells = tt })
again [] [] (value ∷ row) line printed text has spells prints = absurd spells
again [] (field ∷ fields) row line printed text has spells prints = absurd spells
again (kind ∷ kinds) [] row line printed text has spells prints = absurd spells
again (kind ∷ kinds) (field ∷ fields) [] line printed text has spells prints = absurd spells
again (kind ∷ kinds) (field ∷ fields) (value ∷ row) line printed text (rest, cut, alone, has) spells (new, later, is, prints, prints_later) =
    let whole : IsText (field ++ BAR ∷ rest) = rw cut at text in
    let spelled = respelled kind value field new spells.0 prints in
    let good = clean kind value field new (record { alone = alone; text = front-text field rest whole }) spells.0 prints spelled in
    let more = again kinds fields row rest later (rest-text field rest whole) has spells.1 prints_later in
    record {
      text = rw is (joined-text new later good.text more.text);
      fields = new ∷ more.fields;
      has = (later, is, good.alone, more.has);
      count = ap suc more.count;
      spells = (spelled, more.spells);
    }

-- the printed row is spelled again
pub spelled-again : (schema : Schema) (row : List Value) (line printed : List ℕ) → SpellsRow schema line row → PrintsRow (value_kinds schema.columns) row printed → IsShort printed
    → SpellsRow schema printed row
spelled-again schema row line printed (short, text, (fields, has, count, spells)) prints within =
    let all = again (value_kinds schema.columns) fields row line printed text has spells prints in
    (within, all.text, (all.fields, all.has, all.count, all.spells))
