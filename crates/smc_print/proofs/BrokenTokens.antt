-- A token goes on as no token behind a space.
use Rattle.std.proofs.Common.{◌≡◌, inl, inr, ℕ, Bool, true, false, ◌&&◌, ◌||◌, eqb, not, List, [], ◌∷◌, ◌++◌, take-append-drop, Some, None, refl, ◌∙◌, sym, ap}
use Rattle.std.specs.Char.{is_ascii_digit}
use Rattle.std.specs.List.{list_all, find}
use Rattle.std.specs.Str.{bytes_eq}
use Rattle.std.proofs.lemmas.Bool.{and_from, and_parts, and_left, and_right, or_left, or_right, cases_Bool, cond-false, eqb-true, false_from_ne_true, true≢false, false≢true}
use Rattle.std.proofs.lemmas.List.Folds.{list_all-append}
use Rattle.std.proofs.lemmas.Slice.Eq.{bytes_eq-Decides}
use Rattle.smc_tokens.specs.Marks.{sign_text}
use Rattle.smc_tokens.specs.Tokens.{space, quote, dash, point, token_of, signed, all_signs, is_name, is_name_byte, is_date, has_date_form, is_number, digits_of, behind_digits, are_digits, is_fraction, is_quoted, is_text_byte, ends_quoted}
use Rattle.smc_tokens.proofs.AsciiLaws.{all_imply}
use Rattle.smc_tokens.proofs.Finding.{find_none}
use Rattle.smc_tokens.specs.declared.token.Token.{Token}
use Rattle.smc_tokens.specs.declared.sign.Sign.{Sign}
use Rattle.smc_tokens.specs.declared.sign.Sign.TheVariants.{Equal, Unequal, Less, LessEqual, Greater, GreaterEqual, Plus, Minus, Star, Open, Close, OpenBracket, CloseBracket, Comma, Dot}

-- a test that a space fails fails on a list with one
space_fails : (p : ℕ → Bool) (bytes more : List ℕ) → p space ≡ false → list_all p (bytes ++ space ∷ more) ≡ false
space_fails p bytes more fails = list_all-append p bytes (space ∷ more) ∙ and_right _ _ (and_left _ _ fails)

name_broken : (b : ℕ) (bs more : List ℕ) → is_name (b ∷ (bs ++ space ∷ more)) ≡ false
name_broken b bs more = and_right _ _ (and_left _ _ (space_fails is_name_byte bs more refl))

-- ---- dates

in_date : ℕ → Bool
in_date byte = is_ascii_digit byte || eqb byte dash

date_bytes : (bytes : List ℕ) → has_date_form bytes ≡ true → list_all in_date bytes ≡ true
unfolding in_date
date_bytes (a ∷ b ∷ c ∷ d ∷ e ∷ f ∷ g ∷ h ∷ i ∷ j ∷ []) form =
    let (digits, dashes) = and_parts (list_all is_ascii_digit (a ∷ b ∷ c ∷ d ∷ f ∷ g ∷ i ∷ j ∷ [])) (eqb e dash && eqb h dash) form in
    let (eth, hth) = and_parts (eqb e dash) (eqb h dash) dashes in
    let (ath, bs) = and_parts (is_ascii_digit a) (list_all is_ascii_digit (b ∷ c ∷ d ∷ f ∷ g ∷ i ∷ j ∷ [])) digits in
    let (bth, cs) = and_parts (is_ascii_digit b) (list_all is_ascii_digit (c ∷ d ∷ f ∷ g ∷ i ∷ j ∷ [])) bs in
    let (cth, ds) = and_parts (is_ascii_digit c) (list_all is_ascii_digit (d ∷ f ∷ g ∷ i ∷ j ∷ [])) cs in
    let (dth, fs) = and_parts (is_ascii_digit d) (list_all is_ascii_digit (f ∷ g ∷ i ∷ j ∷ [])) ds in
    let (fth, gs) = and_parts (is_ascii_digit f) (list_all is_ascii_digit (g ∷ i ∷ j ∷ [])) fs in
    let (gth, is) = and_parts (is_ascii_digit g) (list_all is_ascii_digit (i ∷ j ∷ [])) gs in
    let (ith, js) = and_parts (is_ascii_digit i) (list_all is_ascii_digit (j ∷ [])) is in
    let (jth, none) = and_parts (is_ascii_digit j) true js in
    let digit = λ (byte : ℕ) (is : is_ascii_digit byte ≡ true). or_left (is_ascii_digit byte) (eqb byte dash) is in
    let line = λ (byte : ℕ) (is : eqb byte dash ≡ true). or_right (is_ascii_digit byte) (eqb byte dash) is in
    and_from _ _ (digit a ath) (and_from _ _ (digit b bth) (and_from _ _ (digit c cth) (and_from _ _ (digit d dth) (and_from _ _ (line e eth)
    (and_from _ _ (digit f fth) (and_from _ _ (digit g gth) (and_from _ _ (line h hth) (and_from _ _ (digit i ith) (and_from _ _ (digit j jth) refl)))))))))
date_bytes _ form = absurd (false≢true form)

date_broken : (b : ℕ) (bs more : List ℕ) → is_date (b ∷ (bs ++ space ∷ more)) ≡ false
unfolding in_date
date_broken b bs more =
    let form : has_date_form (b ∷ (bs ++ space ∷ more)) ≡ false =
    false_from_ne_true _ (λ has. true≢false (sym (date_bytes (b ∷ (bs ++ space ∷ more)) has) ∙ space_fails in_date (b ∷ bs) more refl)) in
    and_right _ _ (and_left _ _ form)

-- ---- numbers

unfoldable pub in_number : ℕ → Bool
in_number byte = is_ascii_digit byte || eqb byte point

pub digits_pass : (most : ℕ) (bytes : List ℕ) → are_digits most bytes ≡ true → list_all in_number bytes ≡ true
unfolding in_number
digits_pass most [] are = absurd (false≢true are)
digits_pass most (b ∷ bs) are =
    let (first, later) = and_parts _ _ are in
    let (digits, few) = and_parts _ _ later in
    and_from _ _ (or_left _ _ first) (all_imply is_ascii_digit in_number (λ byte is. or_left _ _ is) bs digits)

pub fraction_passes : (bytes : List ℕ) → is_fraction bytes ≡ true → list_all in_number bytes ≡ true
unfolding in_number
fraction_passes [] is = refl
fraction_passes (b ∷ bs) is = let (first, digits) = and_parts _ _ is in and_from _ _ (or_right _ _ first) (digits_pass _ bs digits)

number_bytes : (bytes : List ℕ) → is_number bytes ≡ true → list_all in_number bytes ≡ true
number_bytes bytes is =
    let (digits, fraction) = and_parts _ _ is in
    let parts : digits_of bytes ++ behind_digits bytes ≡ bytes = take-append-drop _ bytes in
    let all : list_all in_number (digits_of bytes ++ behind_digits bytes) ≡ true =
    list_all-append in_number (digits_of bytes) (behind_digits bytes) ∙ and_from _ _ (digits_pass _ (digits_of bytes) digits) (fraction_passes (behind_digits bytes) fraction) in
    ap (list_all in_number) (sym parts) ∙ all

number_broken : (bytes more : List ℕ) → is_number (bytes ++ space ∷ more) ≡ false
unfolding in_number
number_broken bytes more = false_from_ne_true _ (λ is. true≢false (sym (number_bytes (bytes ++ space ∷ more) is) ∙ space_fails in_number bytes more refl))

-- ---- texts

-- what ends with a quote has none before it
ended_broken : (bytes more : List ℕ) → ends_quoted bytes ≡ true → ends_quoted (bytes ++ space ∷ more) ≡ false
ended_broken [] more ends = absurd (false≢true ends)
ended_broken (b ∷ []) more ends = let same : b ≡ quote = eqb-true b quote ends in and_left _ _ (ap is_text_byte same)
ended_broken (b ∷ c ∷ cs) more ends = let (here, later) = and_parts _ _ ends in and_right _ _ (ended_broken (c ∷ cs) more later)

quote_token : (bytes : List ℕ) → ends_quoted bytes ≡ false → token_of (quote ∷ bytes) ≡ None
unfolding token_of
quote_token bytes is = cond-false _ _ _ is

quoted_broken : (b : ℕ) (bs more : List ℕ) (token : Token) → token_of (b ∷ bs) ≡ Some token → is_quoted (b ∷ (bs ++ space ∷ more)) ≡ false
quoted_broken b bs more token spelled =
    elim (cases_Bool (eqb b quote)) [
      | inr other ↦ and_left _ _ other
      | inl same ↦
          let is : b ≡ quote = eqb-true b quote same in
          elim (cases_Bool (ends_quoted bs)) [
            | inl ends ↦ and_right _ _ (ended_broken bs more ends)
            | inr not_ended ↦
                let none : token_of (quote ∷ bs) ≡ None = quote_token bs not_ended in
                let some : token_of (quote ∷ bs) ≡ Some token = rw is at spelled in
                absurd (cc)
          ]
    ]

-- ---- signs

plain : ℕ → Bool
plain byte = not (eqb byte space)

sign_plain : (sign : Sign) → list_all plain (sign_text sign) ≡ true
unfolding plain
sign_plain Equal = refl
sign_plain Unequal = refl
sign_plain Less = refl
sign_plain LessEqual = refl
sign_plain Greater = refl
sign_plain GreaterEqual = refl
sign_plain Plus = refl
sign_plain Minus = refl
sign_plain Star = refl
sign_plain Open = refl
sign_plain Close = refl
sign_plain OpenBracket = refl
sign_plain CloseBracket = refl
sign_plain Comma = refl
sign_plain Dot = refl

sign_broken : (sign : Sign) (bytes more : List ℕ) → bytes_eq (sign_text sign) (bytes ++ space ∷ more) ≡ false
unfolding plain
sign_broken sign bytes more = false_from_ne_true _ (λ same.
    let is : sign_text sign ≡ bytes ++ space ∷ more = (bytes_eq-Decides (sign_text sign) (bytes ++ space ∷ more)).0 same in
    true≢false (sym (sign_plain sign) ∙ ap (list_all plain) is ∙ space_fails plain bytes more refl))

signs_broken : (bytes more : List ℕ) → find (λ sign. bytes_eq (sign_text sign) (bytes ++ space ∷ more)) all_signs ≡ None
signs_broken bytes more = find_none (λ (sign : Sign). bytes_eq (sign_text sign) (bytes ++ space ∷ more)) all_signs (λ sign. sign_broken sign bytes more)

-- ---- a token

pub broken : (bytes more : List ℕ) (token : Token) → token_of bytes ≡ Some token → token_of (bytes ++ space ∷ more) ≡ None
unfolding token_of
broken [] more token spelled = let h = spelled in absurd (cc)
broken (b ∷ bs) more token spelled =
    cond-false _ _ _ (name_broken b bs more)
    ∙ cond-false _ _ _ (date_broken b bs more)
    ∙ cond-false _ _ _ (number_broken (b ∷ bs) more)
    ∙ cond-false _ _ _ (quoted_broken b bs more token spelled)
    ∙ ap signed (signs_broken (b ∷ bs) more)
