-- A number of a text is read where it is written.
use Rattle.std.proofs.Common.{rules, ◌≡◌, ℕ, suc, ◌+◌, ◌/◌, ◌^◌, ◌<◌, ◌≤◌, true, false, ◌&&◌, eqb, List, [], ◌∷◌, ◌++◌, length, take, drop, Some, decimal, refl, arith, ◌∙◌, sym, ap}
use Rattle.std.specs.Char.{is_ascii_digit, is_ascii_lowercase}
use Rattle.std.specs.List.{list_all, prefix_len}
use Rattle.std.specs.Str.Parse.{digits_value, digits_value_after}
use Rattle.std.proofs.lemmas.Bool.{ne_eqb, and_from, and_parts, and_left, and_right, cond-true, cond-false, eqb-true, lt-ltb, lt-leb, leb-true, ltb-true, false_from_ne_true, true≢false, false≢true}
use Rattle.std.proofs.lemmas.Fmt.{digits_decimal, digits_value-decimal, decimal_nonempty, length-decimal-le}
use Rattle.std.proofs.lemmas.List.Folds.{list_all-append, list_all_at}
use Rattle.std.proofs.lemmas.Str.Parse.{IsDigitsTest, IsNumeralModel, numerals_by_value}
use Rattle.std.proofs.Math.Seq.{take-append_seam, drop-append_seam}
use Rattle.std.proofs.Math.Nat.{pow-le-pow_right}
use Rattle.smc_tokens.specs.Tokens.{dash, point, token_of, has_date_form, is_number, digits_of, behind_digits, are_digits, is_fraction, number_of}
use Rattle.smc_tokens.specs.declared.limits.TheConstants.{MAX_DIGITS}
use Rattle.smc_tokens.specs.declared.token.Token.TheVariants.{Number}
use Rattle.smc_print.specs.TokenText.{token_text, last_digits, fraction_text, number_text}
use Rattle.smc_print.specs.Laws.{IsRead}
use Rattle.smc_print.proofs.DigitTexts.{value_less, value_front, last_of, value_append}
use Rattle.smc_print.proofs.BrokenTokens.{in_number, fraction_passes, digits_pass}

digit_tests : IsDigitsTest (λ (ds : List ℕ). list_all is_ascii_digit ds ≡ true)
digit_tests = search rules

digit_model : IsNumeralModel (λ (ds : List ℕ). list_all is_ascii_digit ds ≡ true) (digits_value 10)
digit_model = numerals_by_value _ digit_tests

-- digits run up to what is no digit
run_whole : (ds behind : List ℕ) → list_all is_ascii_digit ds ≡ true → prefix_len is_ascii_digit behind ≡ 0 → prefix_len is_ascii_digit (ds ++ behind) ≡ length ds
run_whole [] behind all stops = stops
run_whole (d ∷ ds) behind all stops =
    let (here, later) = and_parts _ _ all in
    let more : prefix_len is_ascii_digit (ds ++ behind) ≡ length ds = run_whole ds behind later stops in
    let one : 1 + length ds ≡ suc (length ds) = omega arith in
    cond-true _ _ _ here ∙ ap (λ n. 1 + n) more ∙ one

fraction_stops : (behind : List ℕ) → is_fraction behind ≡ true → prefix_len is_ascii_digit behind ≡ 0
fraction_stops [] is = refl
fraction_stops (b ∷ bs) is =
    let (first, digits) = and_parts _ _ is in
    let same : b ≡ point = eqb-true b point first in
    rw same refl

-- how many digits are so many
are_so_many : (most : ℕ) (ds : List ℕ) → 0 < length ds → length ds ≤ most → list_all is_ascii_digit ds ≡ true → are_digits most ds ≡ true
are_so_many most [] some few all = absurd (omega arith)
are_so_many most (d ∷ ds) some few all = let (here, later) = and_parts _ _ all in and_from _ _ here (and_from _ _ later (lt-ltb (length ds) most (omega arith)))

-- what has the form of a date has a byte that is in no number
date_no_number : (bytes : List ℕ) → has_date_form bytes ≡ true → list_all in_number bytes ≡ false
unfolding in_number
date_no_number (a ∷ b ∷ c ∷ d ∷ e ∷ f ∷ g ∷ h ∷ i ∷ j ∷ []) form =
    let (digits, dashes) = and_parts (list_all is_ascii_digit (a ∷ b ∷ c ∷ d ∷ f ∷ g ∷ i ∷ j ∷ [])) (eqb e dash && eqb h dash) form in
    let (eth, hth) = and_parts (eqb e dash) (eqb h dash) dashes in
    let is : e ≡ dash = eqb-true e dash eth in
    list_all_at in_number (a ∷ b ∷ c ∷ d ∷ e ∷ f ∷ g ∷ h ∷ i ∷ j ∷ []) 4 0 (omega arith) (ap in_number is)
date_no_number _ form = absurd (false≢true form)

-- digits that are followed by a fraction are this number
number_token : (d : ℕ) (ds behind : List ℕ) → list_all is_ascii_digit (d ∷ ds) ≡ true → length (d ∷ ds) ≤ MAX_DIGITS → is_fraction behind ≡ true
    → token_of ((d ∷ ds) ++ behind) ≡ Some (Number (digits_value 10 ((d ∷ ds) ++ drop 1 behind)) (length (drop 1 behind)))
unfolding token_of
number_token d ds behind all few fraction =
    let whole : List ℕ = d ∷ ds in
    let (digit, later) = and_parts (is_ascii_digit d) (list_all is_ascii_digit ds) all in
    let (low, high) = and_parts _ _ digit in
    let most : d ≤ 57 = leb-true d 57 high in
    let letter : is_ascii_lowercase d ≡ false = and_left _ _ (lt-leb 97 d (omega arith)) in
    let run : prefix_len is_ascii_digit (whole ++ behind) ≡ length whole = run_whole whole behind all (fraction_stops behind fraction) in
    let front : digits_of (whole ++ behind) ≡ whole = ap (λ n. take n (whole ++ behind)) run ∙ take-append_seam whole behind in
    let back : behind_digits (whole ++ behind) ≡ behind = ap (λ n. drop n (whole ++ behind)) run ∙ drop-append_seam whole behind in
    let digits : are_digits MAX_DIGITS whole ≡ true = are_so_many MAX_DIGITS whole (omega arith) few all in
    let bytes : list_all in_number (whole ++ behind) ≡ true = list_all-append in_number whole behind ∙ and_from _ _ (digits_pass MAX_DIGITS whole digits) (fraction_passes behind fraction) in
    let form : has_date_form (whole ++ behind) ≡ false = false_from_ne_true _ (λ has. true≢false (sym bytes ∙ date_no_number (whole ++ behind) has)) in
    let number : is_number (whole ++ behind) ≡ true = and_from _ _ (ap (are_digits MAX_DIGITS) front ∙ digits) (ap is_fraction back ∙ fraction) in
    let value : number_of (whole ++ behind) ≡ Number (digits_value 10 (whole ++ drop 1 behind)) (length (drop 1 behind)) = rw (front, back) refl in
    cond-false _ _ _ (and_left _ _ letter)
    ∙ cond-false _ _ _ (and_right _ _ (and_left _ _ form))
    ∙ cond-true _ _ _ number
    ∙ ap Some value

-- the fraction that is written is the one that was read
fraction_is : (behind : List ℕ) (before : ℕ) → is_fraction behind ≡ true → fraction_text (digits_value_after 10 before (drop 1 behind)) (length (drop 1 behind)) ≡ behind
fraction_is [] before is = refl
fraction_is (b ∷ []) before is = let (first, digits) = and_parts _ _ is in absurd (false≢true digits)
fraction_is (b ∷ c ∷ cs) before is =
    let (first, digits) = and_parts _ _ is in
    let same : b ≡ point = eqb-true b point first in
    let (here, more) = and_parts (is_ascii_digit c) _ digits in
    let (later, few) = and_parts (list_all is_ascii_digit cs) _ more in
    let all : list_all is_ascii_digit (c ∷ cs) ≡ true = and_from _ _ here later in
    let last : last_digits (length (c ∷ cs)) (digits_value_after 10 before (c ∷ cs)) ≡ c ∷ cs = last_of before (c ∷ cs) all in
    cond-false _ _ _ (ne_eqb (length (c ∷ cs)) 0 (λ none. absurd (omega arith))) ∙ ap (λ ts. point ∷ ts) last ∙ ap (λ (byte : ℕ). byte ∷ c ∷ cs) (sym same)

-- the digits of a fraction
fraction_digits : (behind : List ℕ) → is_fraction behind ≡ true → list_all is_ascii_digit (drop 1 behind) ≡ true
fraction_digits [] is = refl
fraction_digits (b ∷ []) is = refl
fraction_digits (b ∷ c ∷ cs) is =
    let (first, digits) = and_parts _ _ is in
    let (here, more) = and_parts (is_ascii_digit c) _ digits in
    let (later, few) = and_parts (list_all is_ascii_digit cs) _ more in
    and_from _ _ here later

-- the digits before it
whole_digits : (most : ℕ) (ds : List ℕ) → are_digits most ds ≡ true → (list_all is_ascii_digit ds ≡ true) × (length ds ≤ most)
whole_digits most [] are = absurd (false≢true are)
whole_digits most (d ∷ ds) are =
    let (here, more) = and_parts (is_ascii_digit d) _ are in
    let (later, few) = and_parts (list_all is_ascii_digit ds) _ more in
    let less : length ds < most = ltb-true (length ds) most few in
    (and_from _ _ here later, omega arith)

powers : (i j : ℕ) → i ≤ j → 10 ^ i ≤ 10 ^ j
powers i j least = pow-le-pow_right {n = 10} (omega arith) least

decimal_token : (ds behind : List ℕ) → 0 < length ds → list_all is_ascii_digit ds ≡ true → length ds ≤ MAX_DIGITS → is_fraction behind ≡ true
    → token_of (ds ++ behind) ≡ Some (Number (digits_value 10 (ds ++ drop 1 behind)) (length (drop 1 behind)))
decimal_token [] behind some all few fraction = absurd (omega arith)
decimal_token (d ∷ ds) behind some all few fraction = number_token d ds behind all few fraction

pub number_read : (bytes : List ℕ) → is_number bytes ≡ true → IsRead (number_of bytes)
unfolding token_text
number_read bytes is =
    let w = digits_of bytes in
    let behind = behind_digits bytes in
    let f = drop 1 behind in
    let k = length f in
    let v = digits_value 10 w in
    let (digits, fraction) = and_parts (are_digits MAX_DIGITS w) (is_fraction behind) is in
    let (all, few) = whole_digits MAX_DIGITS w digits in
    let tail : list_all is_ascii_digit f ≡ true = fraction_digits behind fraction in
    let value : digits_value 10 (w ++ f) ≡ digits_value_after 10 v f = value_append 0 w f in
    let front : digits_value_after 10 v f / 10 ^ k ≡ v = value_front v f tail in
    let written : fraction_text (digits_value_after 10 v f) k ≡ behind = fraction_is behind v fraction in
    let text : number_text (digits_value 10 (w ++ f)) k ≡ decimal v ++ behind = rw (value, front, written) refl in
    let less : v < 10 ^ length w = value_less w all in
    let most : 10 ^ length w ≤ 10 ^ 12 = powers (length w) 12 few in
    let small : v < 10 ^ 12 = omega arith in
    let fits : v < 2 ^ 64 = omega arith in
    let own : digits_value 10 (decimal v) ≡ v = digits_value-decimal digit_model v fits in
    let again : digits_value 10 (decimal v ++ f) ≡ digits_value 10 (w ++ f) = value_append 0 (decimal v) f ∙ ap (λ n. digits_value_after 10 n f) own ∙ sym value in
    ap token_of text
    ∙ decimal_token (decimal v) behind (decimal_nonempty v fits) (digits_decimal digit_model v fits) (length-decimal-le 12 v (omega arith) small fits) fraction
    ∙ ap (λ n. Some (Number n k)) again
