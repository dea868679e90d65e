-- How long the line of a row is at most.
use Rattle.std.proofs.Common.{◌≡◌, ℕ, suc, ◌+◌, ◌/◌, ◌%◌, ◌^◌, ◌<◌, ◌≤◌, ℤ, pos, negsuc, neg_ℤ, ◌≤ℤ◌, Bool, true, List, [], ◌∷◌, length, length-append, None, refl, arith}
use Rattle.std.specs.Prelude.{decimal, unsigned_abs, nat_le}
use Rattle.std.specs.List.{Contains, list_all}
use Rattle.std.proofs.lemmas.Bool.Decides.{nat_tests}
use Rattle.std.proofs.lemmas.Fmt.{length-decimal-le}
use Rattle.std.proofs.lemmas.Int.{ints}
use Rattle.std.proofs.lemmas.List.Sums.{AllPass-from_list_all, sum_by-cons}
use Rattle.smc_types.specs.Columns.{value_kinds}
use Rattle.smc_types.specs.Days.{SpellsDay, IsDay, digits as two_digits}
use Rattle.smc_types.specs.Faults.{range_fault, value_fault}
use Rattle.smc_types.specs.Tables.{the_tables}
use Rattle.smc_types.specs.declared.column.FieldType.{FieldType}
use Rattle.smc_types.specs.declared.column.FieldType.TheVariants.{Count, Amount, Rate, Day, Text, RefTo}
use Rattle.smc_types.specs.declared.number.TheConstants.{COUNT_MAX, AMOUNT_MAX, RATE_MAX}
use Rattle.smc_types.specs.declared.row.Value.{Value}
use Rattle.smc_types.specs.declared.row.Value.TheVariants.{Number as OfNumber, Day as OfDay, Text as OfText}
use Rattle.smc_types.specs.declared.schema.Schema.{Schema}
use Rattle.smc_tbl.specs.declared.bytes.TheConstants.{BAR, MAX_LINE}
use Rattle.smc_tbl.specs.declared.numbers.TheConstants.{AMOUNT_DIGITS, COUNT_DIGITS, POINT, RATE_DIGITS}
use Rattle.smc_tbl.specs.Printed.{PrintsRow, PrintsValue, amount_text, hundredths_length, hundredths_text, longest_row, longest_value}
use Rattle.smc_tbl.specs.TableText.{FitsColumns, IsShort, SpellsRow}
use Rattle.smc_tbl.proofs.FitLaws.{row-fits}
use Rattle.smc_tbl.proofs.RoundTrip.{spelled-again}

-- a number without fault is within its range
ranged : (least greatest number : ℤ) → range_fault least greatest number ≡ None → (least ≤ℤ number) × (number ≤ℤ greatest)
ranged least greatest number good = (grind (arith, ints, nat_tests), grind (arith, ints, nat_tests))

-- behind the digits stand a point and two decimals
hundredths-short : (most units : ℕ) → 0 < most → units / 100 < 10 ^ most → units < 2 ^ 64 → length (hundredths_text units) ≤ hundredths_length most
hundredths-short most units some small fits =
    omega (arith, length-append (decimal (units / 100)) (POINT ∷ two_digits (units % 100)), length-decimal-le most (units / 100) some small (omega arith))

-- before them may stand a minus
amount-short : (amount : ℤ) → neg_ℤ AMOUNT_MAX ≤ℤ amount → amount ≤ℤ AMOUNT_MAX → length (amount_text amount) ≤ longest_value Amount
amount-short (pos units) low high =
    let small : units < 10 ^ 12 = omega (arith, ints) in
    omega (arith, hundredths-short AMOUNT_DIGITS units (omega arith) (omega arith) (omega arith))
amount-short (negsuc less) low high =
    let small : suc less < 10 ^ 12 = omega (arith, ints) in
    omega (arith, hundredths-short AMOUNT_DIGITS (suc less) (omega arith) (omega arith) (omega arith))

count-short : (count : ℤ) → pos 0 ≤ℤ count → count ≤ℤ COUNT_MAX → length (decimal (unsigned_abs count)) ≤ longest_value Count
count-short (pos count) low high =
    let small : count < 10 ^ 12 = omega (arith, ints) in
    length-decimal-le COUNT_DIGITS count (omega arith) small (omega arith)
count-short (negsuc less) low high = absurd (omega (arith, ints))

rate-short : (rate : ℤ) → pos 0 ≤ℤ rate → rate ≤ℤ RATE_MAX → length (hundredths_text (unsigned_abs rate)) ≤ longest_value Rate
rate-short (pos rate) low high =
    let small : rate < 1000 = omega (arith, ints) in
    hundredths-short RATE_DIGITS rate (omega arith) (omega arith) (omega arith)
rate-short (negsuc less) low high = absurd (omega (arith, ints))

day-short : (day : ℤ) (text : List ℕ) → SpellsDay text day → length text ≤ longest_value Day
day-short day text says = rw says.text_is (omega arith)

-- a value within its column is printed in so many bytes at most
value-short : (kind : FieldType) (value : Value) (text : List ℕ) → value_fault kind value ≡ None → PrintsValue kind value text → length text ≤ longest_value kind
value-short Count (OfNumber count) text good prints = let range = ranged (pos 0) COUNT_MAX count good in rw prints (count-short count range.0 range.1)
value-short Amount (OfNumber amount) text good prints = let range = ranged (neg_ℤ AMOUNT_MAX) AMOUNT_MAX amount good in rw prints (amount-short amount range.0 range.1)
value-short Rate (OfNumber rate) text good prints = let range = ranged (pos 0) RATE_MAX rate good in rw prints (rate-short rate range.0 range.1)
value-short Day (OfDay day) text good prints = day-short day text prints
value-short (Text width) (OfText bytes) text good prints =
    let fits : length bytes ≤ width = grind (arith, nat_tests) in
    rw prints fits
value-short Count _ text good prints = absurd prints
value-short Amount _ text good prints = absurd prints
value-short Rate _ text good prints = absurd prints
value-short Day _ text good prints = absurd prints
value-short (Text width) _ text good prints = absurd prints
value-short (RefTo table) value text good prints = absurd prints

-- and so is a row
pub row-short : (kinds : List FieldType) (row : List Value) (printed : List ℕ) → FitsColumns kinds row → PrintsRow kinds row printed → length printed ≤ longest_row kinds
row-short [] [] printed fits prints = rw prints (omega arith)
row-short [] (value ∷ row) printed fits prints = absurd fits
row-short (kind ∷ kinds) [] printed fits prints = absurd fits
row-short (kind ∷ kinds) (value ∷ row) printed fits (field, rest, is, prints, prints_rest) =
    let first = value-short kind value field fits.0 prints in
    let later = row-short kinds row rest fits.1 prints_rest in
    rw is (omega (arith, length-append field (BAR ∷ rest), sum_by-cons (λ kind. longest_value kind + 1) kind kinds))

-- a row of each table is no longer than a line may be
abbrev is_short_table : Schema → Bool
is_short_table schema = nat_le (longest_row (value_kinds schema.columns)) MAX_LINE

tables-short : list_all is_short_table the_tables.schemas ≡ true
unfolding the_tables
tables-short = refl

table-short : (schema : Schema) → Contains the_tables.schemas schema → longest_row (value_kinds schema.columns) ≤ MAX_LINE
table-short schema (place, within, is) =
    let here = AllPass-from_list_all is_short_table the_tables.schemas tables-short place schema within in
    let short : nat_le (longest_row (value_kinds schema.columns)) MAX_LINE ≡ true = rw is at here in
    grind (arith, nat_tests)

-- so a printed row of a table is short
pub table-row-short : (schema : Schema) (row : List Value) (printed : List ℕ) → Contains the_tables.schemas schema
    → FitsColumns (value_kinds schema.columns) row → PrintsRow (value_kinds schema.columns) row printed → IsShort printed
table-row-short schema row printed table fits prints =
    omega (arith, table-short schema table, row-short (value_kinds schema.columns) row printed fits prints)

-- and is spelled again
pub table-row-spelled : ((text : List ℕ) (day : ℤ) → SpellsDay text day → IsDay day) → (schema : Schema) (row : List Value) (line printed : List ℕ)
    → Contains the_tables.schemas schema → SpellsRow schema line row → PrintsRow (value_kinds schema.columns) row printed → SpellsRow schema printed row
table-row-spelled day_in_range schema row line printed table spells prints =
    spelled-again schema row line printed spells prints (table-row-short schema row printed table (row-fits day_in_range schema line row spells) prints)
