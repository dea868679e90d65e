-- The longest number at the front of a text, and what it spells.
use Rattle.std.proofs.Common.{◌≡◌, inl, inr, ℕ, ◌+◌, ◌-◌, ◌*◌, ◌≤◌, ◌<◌, min, Bool, true, ◌&&◌, ◌||◌, eqb, List, [], ◌∷◌, ◌++◌, length, length-take-le, length-drop, take-append-drop, get_or, take, drop, subst, refl, arith, ◌∙◌, sym, ap}
use Rattle.std.specs.Char.{is_ascii_digit, digit_value}
use Rattle.std.specs.List.{list_all, prefix_len}
use Rattle.std.specs.Str.Parse.{digits_value, digits_value_after}
use Rattle.std.proofs.lemmas.Bool.{and_from, and_parts, and_left, and_right, cases_lt, eqb-true, false≢true, or_left, or_right, or_cases}
use Rattle.std.proofs.lemmas.List.{take-take, drop_all, drop-take, get_or-drop}
use Rattle.std.proofs.lemmas.List.Sums.{prefix_len-le-length, prefix_len_passes}
use Rattle.smc_tokens.specs.Front.{IsLongest, NoFront, first_digits, decimals_in, fraction_len}
use Rattle.smc_tokens.specs.Tokens.{point, digits_of, behind_digits, are_digits, is_fraction, is_number, number_of, is_date, TakesToken}
use Rattle.smc_tokens.specs.declared.token.Token.TheVariants.{Number}
use Rattle.std.proofs.lemmas.List.Folds.{list_all-append}
use Rattle.smc_tokens.proofs.AsciiLaws.{all_imply, last_ascii, taken_some}
use Rattle.smc_tokens.proofs.DigitLaws.{digit_range}
use Rattle.smc_tokens.proofs.FractionLaws.{IsFraction, fraction_at, no_decimals}
use Rattle.smc_tokens.proofs.KindLaws.{digit_front, takes_longest}
use Rattle.smc_tokens.proofs.RunLaws.{prefix_len-take, digits_longest, all_front}

-- ---- the fronts of a number

module _ (text : List ℕ) where
  abbrev run : ℕ
  run = prefix_len is_ascii_digit text

  -- a front of digits alone
  run_within : (k : ℕ) → k ≤ run → prefix_len is_ascii_digit (take k text) ≡ k
  run_within k short = let least : min k run ≡ k = omega arith in prefix_len-take is_ascii_digit text k ∙ least

  digits_within : (k : ℕ) → k ≤ run → digits_of (take k text) ≡ take k text
  digits_within k short = ap (λ n. take n (take k text)) (run_within k short) ∙ take-take k k text (omega arith)

  behind_within : (k : ℕ) → k ≤ run → behind_digits (take k text) ≡ []
  behind_within k short =
      let all : run ≤ length text = prefix_len-le-length is_ascii_digit text in
      let len : length (take k text) ≡ k = length-take-le k text (omega arith) in
      ap (λ n. drop n (take k text)) (run_within k short) ∙ drop_all k (take k text) (omega arith)

  number_within : (k : ℕ) → k ≤ run → is_number (take k text) ≡ (are_digits 12 (take k text) && true)
  number_within k short = ap (λ digits. are_digits 12 digits && is_fraction (behind_digits (take k text))) (digits_within k short) ∙ ap (λ behind. are_digits 12 (take k text) && is_fraction behind) (behind_within k short)

  -- a front that goes on behind its digits
  run_past : (k : ℕ) → run ≤ k → prefix_len is_ascii_digit (take k text) ≡ run
  run_past k long = let least : min k run ≡ run = omega arith in prefix_len-take is_ascii_digit text k ∙ least

  digits_past : (k : ℕ) → run ≤ k → digits_of (take k text) ≡ take run text
  digits_past k long = ap (λ n. take n (take k text)) (run_past k long) ∙ take-take run k text long

  behind_past : (k : ℕ) → run ≤ k → behind_digits (take k text) ≡ take (k - run) (drop run text)
  behind_past k long =
      let there : run + (k - run) ≡ k = omega arith in
      ap (λ n. drop n (take k text)) (run_past k long) ∙ sym (ap (λ n. drop run (take n text)) there) ∙ drop-take run (k - run) text

  number_past : (k : ℕ) → run ≤ k → is_number (take k text) ≡ (are_digits 12 (take run text) && is_fraction (take (k - run) (drop run text)))
  number_past k long = ap (λ digits. are_digits 12 digits && is_fraction (behind_digits (take k text))) (digits_past k long) ∙ ap (λ behind. are_digits 12 (take run text) && is_fraction behind) (behind_past k long)

  -- what the number at the front consists of
  abbrev whole_at : List ℕ
  whole_at = first_digits 12 text

  abbrev decimals_at : List ℕ
  decimals_at = decimals_in (drop (length whole_at) text)

  abbrev number_len : ℕ
  number_len = length whole_at + fraction_len decimals_at

  -- the longest front that is a number has this length, and consists of these digits
  pub record IsNumberFront : Type 0 where
    pub longest : IsLongest is_number text number_len
    pub whole_is : digits_of (take number_len text) ≡ whole_at
    pub decimals_are : drop 1 (behind_digits (take number_len text)) ≡ decimals_at

  whole_len : length whole_at ≡ min run 12
  whole_len = let all : run ≤ length text = prefix_len-le-length is_ascii_digit text in length-take-le (min run 12) text (omega arith)

  -- more digits than a number has
  many_digits : is_ascii_digit (get_or text 0 0) ≡ true → 12 < run → IsNumberFront
  many_digits digit many =
      let digits = digits_longest 12 text (omega arith) digit in
      let all : run ≤ length text = prefix_len-le-length is_ascii_digit text in
      let twelve : length whole_at ≡ 12 = let most : min run 12 ≡ 12 = omega arith in whole_len ∙ most in
      let next : is_ascii_digit (get_or (drop 12 text) 0 0) ≡ true = ap is_ascii_digit (get_or-drop 12 text 0 0) ∙ prefix_len_passes is_ascii_digit text 12 0 many in
      let none : decimals_at ≡ [] = ap (λ n. decimals_in (drop n text)) twelve ∙ no_decimals (drop 12 text) next in
      let most : min run 12 ≡ 12 = omega arith in
      let bare : length whole_at + fraction_len [] ≡ 12 = omega arith in
      let count : number_len ≡ 12 = ap (λ decimals. length whole_at + fraction_len decimals) none ∙ bare in
      let passes : are_digits 12 (take 12 text) ≡ true = ap (λ n. are_digits 12 (take n text)) (sym most) ∙ digits.passes in
      record {
        longest = subst (IsLongest is_number text) (sym count) (record {
          within = omega arith;
          passes = number_within 12 (omega arith) ∙ and_from _ _ passes refl;
          longest = λ more less within. elim (cases_lt run more) [
            | inl past ↦ number_past more (omega arith) ∙ and_left _ _ (digits.longest run (omega arith) all)
            | inr short ↦ number_within more short ∙ and_left _ _ (digits.longest more (omega arith) within)
          ];
        });
        whole_is = ap (λ n. digits_of (take n text)) count ∙ digits_within 12 (omega arith) ∙ sym (ap (λ n. take n text) most);
        decimals_are = ap (λ n. drop 1 (behind_digits (take n text))) count ∙ ap (drop 1) (behind_within 12 (omega arith)) ∙ sym none;
      }

  -- as many as it may have, or fewer
  few_digits : is_ascii_digit (get_or text 0 0) ≡ true → run ≤ 12 → IsNumberFront
  few_digits digit few =
      let digits = digits_longest 12 text (omega arith) digit in
      let all : run ≤ length text = prefix_len-le-length is_ascii_digit text in
      let most : min run 12 ≡ run = omega arith in
      let len : length whole_at ≡ run = whole_len ∙ most in
      let fraction : IsFraction (drop run text) decimals_at = subst (λ n. IsFraction (drop run text) (decimals_in (drop n text))) (sym len) (fraction_at (drop run text)) in
      let inside : fraction_len decimals_at ≤ length (drop run text) = fraction.longest.within in
      let rest : length (drop run text) ≡ length text - run = length-drop run text in
      let behind : number_len - run ≡ fraction_len decimals_at = omega arith in
      let whole : are_digits 12 (take run text) ≡ true = ap (λ n. are_digits 12 (take n text)) (sym most) ∙ digits.passes in
      record {
        longest = record {
          within = omega arith;
          passes = number_past number_len (omega arith) ∙ and_from _ _ whole (ap (λ n. is_fraction (take n (drop run text))) behind ∙ fraction.longest.passes);
          longest = λ more less within. number_past more (omega arith) ∙ and_right _ _ (fraction.longest.longest (more - run) (omega arith) (omega arith));
        };
        whole_is = digits_past number_len (omega arith) ∙ sym (ap (λ n. take n text) most);
        decimals_are = ap (drop 1) (behind_past number_len (omega arith)) ∙ ap (λ n. drop 1 (take n (drop run text))) behind ∙ fraction.decimals_are;
      }

  pub number_front : is_ascii_digit (get_or text 0 0) ≡ true → IsNumberFront
  number_front digit = elim (cases_lt 12 run) [ inl many ↦ many_digits digit many | inr few ↦ few_digits digit few ]

-- the value of digits, and of those behind them
value-append : (before : ℕ) (xs ys : List ℕ) → digits_value_after 10 before (xs ++ ys) ≡ digits_value_after 10 (digits_value_after 10 before xs) ys
value-append before [] ys = refl
value-append before (x ∷ xs) ys = value-append (before * 10 + digit_value x) xs ys

-- the number that the longest front spells
pub number_is : (text : List ℕ) → IsNumberFront text
    → number_of (take (number_len text) text) ≡ Number (digits_value_after 10 (digits_value_after 10 0 (whole_at text)) (decimals_at text)) (length (decimals_at text))
number_is text front =
    ap (λ digits. Number (digits_value 10 (digits ++ drop 1 (behind_digits (take (number_len text) text)))) (length (drop 1 (behind_digits (take (number_len text) text))))) front.whole_is
    ∙ ap (λ decimals. Number (digits_value 10 (whole_at text ++ decimals)) (length decimals)) front.decimals_are
    ∙ ap (λ units. Number units (length (decimals_at text))) (value-append 0 (whole_at text) (decimals_at text))

-- ---- the number as a token

-- the bytes of a number, and of what stands behind its digits, are digits and points
abbrev in_number : ℕ → Bool
in_number byte = is_ascii_digit byte || eqb byte point

fraction_bytes : (bytes : List ℕ) → is_fraction bytes ≡ true → list_all in_number bytes ≡ true
fraction_bytes [] fraction = refl
fraction_bytes (b ∷ []) fraction = absurd (let (dot, digits) = and_parts _ _ fraction in false≢true digits)
fraction_bytes (b ∷ c ∷ cs) fraction =
    let (dot, digits) = and_parts _ _ fraction in
    let (first, others) = and_parts _ _ digits in
    let (all, few) = and_parts _ _ others in
    and_from _ _ (or_right _ _ dot) (and_from _ _ (or_left _ _ first) (all_imply is_ascii_digit in_number (λ byte. or_left _ _) cs all))

number_bytes : (bytes : List ℕ) → is_number bytes ≡ true → list_all in_number bytes ≡ true
number_bytes bytes number =
    let here = prefix_len is_ascii_digit bytes in
    let whole_run : here ≤ prefix_len is_ascii_digit bytes = omega arith in
    let (whole, behind) = and_parts _ _ number in
    let digits : list_all in_number (digits_of bytes) ≡ true = all_imply is_ascii_digit in_number (λ byte. or_left _ _) (digits_of bytes) (all_front is_ascii_digit bytes here whole_run) in
    let rest : list_all in_number (behind_digits bytes) ≡ true = fraction_bytes (behind_digits bytes) behind in
    subst (λ all. list_all in_number all ≡ true) (take-append-drop here bytes) (list_all-append in_number (digits_of bytes) (behind_digits bytes) ∙ and_from _ _ digits rest)

in_number_ascii : (byte : ℕ) → in_number byte ≡ true → byte < 128
in_number_ascii byte is = elim (or_cases (is_ascii_digit byte) (eqb byte point) is) [
  | inl digit ↦ let (low, high) = digit_range byte digit in omega arith
  | inr dot ↦ let same : byte ≡ point = eqb-true byte point dot in omega arith
]

-- what a reader found is the token
pub number_found : (text whole behind decimals : List ℕ) (first units count : ℕ) → is_ascii_digit (get_or text 0 0) ≡ true → NoFront is_date text
    → whole ≡ first_digits 12 text → behind ≡ drop (length whole) text → decimals ≡ decimals_in behind
    → first ≡ digits_value_after 10 0 whole → units ≡ digits_value_after 10 first decimals → count ≡ length whole + fraction_len decimals
    → TakesToken text count (Number units (length decimals)) × (get_or text (count - 1) 0 < 128)
number_found text whole behind decimals first units count digit no_date whole_is behind_is decimals_is first_is units_is count_is =
    let front = number_front text digit in
    let rest_is : behind ≡ drop (length (whole_at text)) text = behind_is ∙ ap (λ w. drop (length w) text) whole_is in
    let decimals_are : decimals ≡ decimals_at text = decimals_is ∙ ap decimals_in rest_is in
    let len : number_len text ≡ count = cc in
    let takes = takes_longest is_number number_of text (number_len text) (digit_front text digit no_date) front.longest in
    let token : number_of (take (number_len text) text) ≡ Number units (length decimals) = let spells = number_is text front in cc in
    let all : list_all in_number (take (number_len text) text) ≡ true = number_bytes (take (number_len text) text) front.longest.passes in
    let Found : ℕ → Type 0 = λ n. TakesToken text n (Number units (length decimals)) × (get_or text (n - 1) 0 < 128) in
    subst Found len (
      subst (TakesToken text (number_len text)) token takes,
      last_ascii in_number in_number_ascii text (number_len text) (taken_some takes) front.longest.within all,
    )
