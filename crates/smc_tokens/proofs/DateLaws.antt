-- The date at the front of a text.
use Rattle.std.proofs.Common.{◌≡◌, inl, inr, ℕ, zero, suc, ◌≤◌, ◌<◌, true, false, ◌&&◌, eqb, List, [], ◌∷◌, length, length-take-le, get_or, take, drop, None, subst, refl, arith, ◌∙◌, sym, ap}
use Rattle.std.specs.Char.{is_ascii_digit}
use Rattle.std.specs.List.{list_all}
use Rattle.std.proofs.lemmas.Bool.{and_from, and_parts, and_left, and_right, cases_eq, cond-true, cond-false, eqb-true, false≢true}
use Rattle.std.proofs.lemmas.List.{get_or-take}
use Rattle.smc_tokens.specs.Front.{NoFront}
use Rattle.smc_tokens.specs.Tokens.{dash, point, token_of, has_date_form, is_civil, is_date, are_digits, is_fraction, is_number, year_of, month_of, day_of, TakesToken}
use Rattle.smc_tokens.specs.declared.token.Token.TheVariants.{Date}
use Rattle.smc_tokens.proofs.DigitLaws.{all_at, digit_range}
use Rattle.smc_tokens.proofs.KindLaws.{digit_token}

-- bytes that are not ten have not the form of a date
other_len : (bytes : List ℕ) → (length bytes ≡ 10 → ⊥) → has_date_form bytes ≡ false
other_len (a ∷ b ∷ c ∷ d ∷ e ∷ f ∷ g ∷ h ∷ i ∷ j ∷ []) other = absurd (other refl)
other_len _ other = refl

-- what the form says of the digits in it
pub record HasDigits (bytes : List ℕ) : Type 0 where
  pub len : length bytes ≡ 10
  pub year : list_all is_ascii_digit (take 4 bytes) ≡ true
  pub month : list_all is_ascii_digit (take 2 (drop 5 bytes)) ≡ true
  pub day : list_all is_ascii_digit (take 2 (drop 8 bytes)) ≡ true
  pub first : is_ascii_digit (get_or bytes 0 0) ≡ true
  pub last : is_ascii_digit (get_or bytes 9 0) ≡ true

pub form_digits : (bytes : List ℕ) → has_date_form bytes ≡ true → HasDigits bytes
form_digits (a ∷ b ∷ c ∷ d ∷ e ∷ f ∷ g ∷ h ∷ i ∷ j ∷ []) form =
    let (all, dashes) = and_parts (list_all is_ascii_digit (a ∷ b ∷ c ∷ d ∷ f ∷ g ∷ i ∷ j ∷ [])) (eqb e dash && eqb h dash) form in
    let digit = λ (k : ℕ) (less : k < 8). all_at is_ascii_digit (a ∷ b ∷ c ∷ d ∷ f ∷ g ∷ i ∷ j ∷ []) k all less in
    record {
      len = refl;
      year = and_from (is_ascii_digit a) (list_all is_ascii_digit (b ∷ c ∷ d ∷ [])) (digit 0 (omega arith))
          (and_from (is_ascii_digit b) (list_all is_ascii_digit (c ∷ d ∷ [])) (digit 1 (omega arith))
          (and_from (is_ascii_digit c) (list_all is_ascii_digit (d ∷ [])) (digit 2 (omega arith)) (and_from (is_ascii_digit d) true (digit 3 (omega arith)) refl)));
      month = and_from (is_ascii_digit f) (list_all is_ascii_digit (g ∷ [])) (digit 4 (omega arith)) (and_from (is_ascii_digit g) true (digit 5 (omega arith)) refl);
      day = and_from (is_ascii_digit i) (list_all is_ascii_digit (j ∷ [])) (digit 6 (omega arith)) (and_from (is_ascii_digit j) true (digit 7 (omega arith)) refl);
      first = digit 0 (omega arith);
      last = digit 7 (omega arith);
    }
form_digits _ form = absurd (false≢true form)

-- ---- whether ten bytes are a date

pub no_form : (bytes : List ℕ) → has_date_form bytes ≡ false → is_date bytes ≡ false
no_form [] form = refl
no_form (b ∷ bs) form = and_right _ _ (and_left _ _ form)

pub no_civil : (bytes : List ℕ) → is_civil (year_of bytes) (month_of bytes) (day_of bytes) ≡ false → is_date bytes ≡ false
no_civil [] civil = refl
no_civil (b ∷ bs) civil = and_right _ _ (and_right _ _ civil)

pub date_is : (bytes : List ℕ) → has_date_form bytes ≡ true → is_civil (year_of bytes) (month_of bytes) (day_of bytes) ≡ true → is_date bytes ≡ true
date_is [] form civil = absurd (false≢true form)
date_is (b ∷ bs) form civil = let digits = form_digits (b ∷ bs) form in and_from _ _ digits.first (and_from _ _ form civil)

-- ---- the fronts of a text

other_front : (text : List ℕ) (k : ℕ) → k ≤ length text → (k ≡ 10 → ⊥) → is_date (take k text) ≡ false
other_front text k within other = no_form (take k text) (other_len (take k text) (λ ten. other (sym (length-take-le k text within) ∙ ten)))

-- a text of fewer bytes begins with no date
pub too_short : (text : List ℕ) → length text < 10 → NoFront is_date text
too_short text short k within = other_front text k within (λ ten. omega arith)

-- nor does one of which the first ten are none
pub no_date : (text front : List ℕ) → front ≡ take 10 text → is_date front ≡ false → NoFront is_date text
no_date text front front_is none k within = elim (cases_eq k 10) [
  | inl ten ↦ ap (λ n. is_date (take n text)) ten ∙ sym (ap is_date front_is) ∙ none
  | inr other ↦ other_front text k within other
]

-- four digits with a byte behind them that is no digit and no point are the front of no longer number
five_bytes : (a b c d e : ℕ) (bytes : List ℕ) → is_ascii_digit a ≡ true → is_ascii_digit b ≡ true → is_ascii_digit c ≡ true → is_ascii_digit d ≡ true
    → is_ascii_digit e ≡ false → eqb e point ≡ false → is_number (a ∷ b ∷ c ∷ d ∷ e ∷ bytes) ≡ false
five_bytes a b c d e bytes a_is b_is c_is d_is e_is other = simp (a_is, b_is, c_is, d_is, e_is) (and_right true (is_fraction (e ∷ bytes)) (and_left (eqb e point) (are_digits 4 bytes) other))

-- what begins like a date is no number where it is longer than the year
no_number : (text : List ℕ) → has_date_form (take 10 text) ≡ true → (k : ℕ) → 10 < k → is_number (take k text) ≡ false
no_number (a ∷ b ∷ c ∷ d ∷ e ∷ f ∷ g ∷ h ∷ i ∷ j ∷ rest) form (suc (suc (suc (suc (suc k))))) long =
    let (all, dashes) = and_parts (list_all is_ascii_digit (a ∷ b ∷ c ∷ d ∷ f ∷ g ∷ i ∷ j ∷ [])) (eqb e dash && eqb h dash) form in
    let digit = λ (m : ℕ) (less : m < 8). all_at is_ascii_digit (a ∷ b ∷ c ∷ d ∷ f ∷ g ∷ i ∷ j ∷ []) m all less in
    let (dash_is, other) = and_parts (eqb e dash) (eqb h dash) dashes in
    let same : e ≡ dash = eqb-true e dash dash_is in
    five_bytes a b c d e (take k (f ∷ g ∷ h ∷ i ∷ j ∷ rest)) (digit 0 (omega arith)) (digit 1 (omega arith)) (digit 2 (omega arith)) (digit 3 (omega arith)) (ap is_ascii_digit same) (ap (λ byte. eqb byte point) same)
no_number _ form (suc (suc (suc (suc (suc k))))) long = absurd (false≢true form)
no_number _ form k long = absurd (omega arith)

-- ---- the token

pub takes_date : (text : List ℕ) → 10 ≤ length text → has_date_form (take 10 text) ≡ true → is_date (take 10 text) ≡ true
    → TakesToken text 10 (Date (year_of (take 10 text)) (month_of (take 10 text)) (day_of (take 10 text)))
takes_date [] long form date = absurd (omega arith)
takes_date (b ∷ bs) long form date =
    let digits = form_digits (take 10 (b ∷ bs)) form in
    record {
      within = long;
      spelled = digit_token b (take 9 bs) digits.first ∙ cond-true _ _ _ date;
      longest = λ more. elim more as (λ m. 10 < m → m ≤ length (b ∷ bs) → token_of (take m (b ∷ bs)) ≡ None) [
        | zero ↦ λ less within. absurd (omega arith)
        | suc m ↦ λ less within.
            digit_token b (take m bs) digits.first
            ∙ cond-false _ _ _ (other_front (b ∷ bs) (suc m) within (λ ten. omega arith))
            ∙ cond-false _ _ _ (no_number (b ∷ bs) form (suc m) less)
      ];
    }

-- its last byte is a digit
pub date_ascii : (text : List ℕ) → has_date_form (take 10 text) ≡ true → get_or text 9 0 < 128
date_ascii text form =
    let digits = form_digits (take 10 text) form in
    let same : get_or (take 10 text) 9 0 ≡ get_or text 9 0 = get_or-take 10 text 9 0 (omega arith) in
    let (low, high) = digit_range (get_or (take 10 text) 9 0) digits.last in
    omega arith

-- what a reader found is the token
pub date_found : (text front : List ℕ) (year month day : ℕ) → front ≡ take 10 text → 10 ≤ length text → has_date_form front ≡ true
    → year ≡ year_of front → month ≡ month_of front → day ≡ day_of front → is_civil year month day ≡ true
    → TakesToken text 10 (Date year month day) × (get_or text 9 0 < 128)
date_found text front year month day front_is long form year_is month_is day_is civil =
    let form_is : has_date_form (take 10 text) ≡ true = subst (λ bytes. has_date_form bytes ≡ true) front_is form in
    let civil_is : is_civil (year_of front) (month_of front) (day_of front) ≡ true = let same : is_civil year month day ≡ is_civil (year_of front) (month_of front) (day_of front) = cc in sym same ∙ civil in
    let date : is_date (take 10 text) ≡ true = subst (λ bytes. is_date bytes ≡ true) front_is (date_is front form civil_is) in
    let token : Date (year_of (take 10 text)) (month_of (take 10 text)) (day_of (take 10 text)) ≡ Date year month day = subst (λ bytes. Date (year_of bytes) (month_of bytes) (day_of bytes) ≡ Date year month day) front_is (cc) in
    (subst (TakesToken text 10) token (takes_date text long form_is date), date_ascii text form_is)
