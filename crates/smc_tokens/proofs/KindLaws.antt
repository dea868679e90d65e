-- The first byte of a token decides its kind.
use Rattle.std.proofs.Common.{◌≡◌, ℕ, zero, suc, ◌-◌, ◌≤◌, Bool, true, false, cond, eqb, List, [], ◌∷◌, length, get_or, take, drop, Some, None, subst, refl, arith, ◌∙◌, sym, ap}
use Rattle.std.specs.Char.{is_ascii_digit, is_ascii_lowercase}
use Rattle.std.specs.Str.{bytes_eq}
use Rattle.std.proofs.lemmas.Bool.{and_left, and_right, and_parts, or_parts, or_left, or_right, ne_eqb, leb-true, lt-leb, cond-true, cond-false, true≢false}
use Rattle.smc_tokens.specs.Front.{IsLongest, NoFront, begins_other, spelled_word, spelled_sign}
use Rattle.smc_tokens.specs.Marks.{sign_text}
use Rattle.smc_tokens.specs.Tokens.{all_signs, quote, named, token_of, signed, is_name, is_date, is_number, is_quoted, number_of, year_of, month_of, day_of, TakesToken, BeginsNoToken}
use Rattle.smc_tokens.specs.declared.token.Token.{Token}
use Rattle.smc_tokens.specs.declared.token.Token.TheVariants.{Date, Text}
use Rattle.smc_tokens.specs.declared.sign.Sign.{Sign}
use Rattle.smc_tokens.specs.declared.sign.Sign.TheVariants.{Equal, Unequal, Less, LessEqual, Greater, GreaterEqual, Plus, Minus, Star, Open, Close, OpenBracket, CloseBracket, Comma, Dot}
use Rattle.smc_tokens.proofs.Finding.{find_none}
use Rattle.smc_tokens.proofs.TokenLaws.{no-token}

-- ---- the signs

-- a sign of which the first byte is another one
other_sign : (sign : Sign) (byte : ℕ) (bytes : List ℕ) → (get_or (sign_text sign) 0 0 ≡ byte → ⊥) → bytes_eq (sign_text sign) (byte ∷ bytes) ≡ false
other_sign Equal byte bytes differs = and_left _ _ (ne_eqb _ _ differs)
other_sign Unequal byte bytes differs = and_left _ _ (ne_eqb _ _ differs)
other_sign Less byte bytes differs = and_left _ _ (ne_eqb _ _ differs)
other_sign LessEqual byte bytes differs = and_left _ _ (ne_eqb _ _ differs)
other_sign Greater byte bytes differs = and_left _ _ (ne_eqb _ _ differs)
other_sign GreaterEqual byte bytes differs = and_left _ _ (ne_eqb _ _ differs)
other_sign Plus byte bytes differs = and_left _ _ (ne_eqb _ _ differs)
other_sign Minus byte bytes differs = and_left _ _ (ne_eqb _ _ differs)
other_sign Star byte bytes differs = and_left _ _ (ne_eqb _ _ differs)
other_sign Open byte bytes differs = and_left _ _ (ne_eqb _ _ differs)
other_sign Close byte bytes differs = and_left _ _ (ne_eqb _ _ differs)
other_sign OpenBracket byte bytes differs = and_left _ _ (ne_eqb _ _ differs)
other_sign CloseBracket byte bytes differs = and_left _ _ (ne_eqb _ _ differs)
other_sign Comma byte bytes differs = and_left _ _ (ne_eqb _ _ differs)
other_sign Dot byte bytes differs = and_left _ _ (ne_eqb _ _ differs)

-- no sign begins like a token of another kind
sign_begins : (sign : Sign) → begins_other (get_or (sign_text sign) 0 0) ≡ false
sign_begins Equal = refl
sign_begins Unequal = refl
sign_begins Less = refl
sign_begins LessEqual = refl
sign_begins Greater = refl
sign_begins GreaterEqual = refl
sign_begins Plus = refl
sign_begins Minus = refl
sign_begins Star = refl
sign_begins Open = refl
sign_begins Close = refl
sign_begins OpenBracket = refl
sign_begins CloseBracket = refl
sign_begins Comma = refl
sign_begins Dot = refl

-- bytes that begin like a token of another kind spell no sign
no_sign : (byte : ℕ) (bytes : List ℕ) → begins_other byte ≡ true → spelled_sign (byte ∷ bytes) ≡ None
no_sign byte bytes other = find_none (λ sign. bytes_eq (sign_text sign) (byte ∷ bytes)) all_signs
    (λ sign. other_sign sign byte bytes (λ same. true≢false (sym other ∙ sym (ap begins_other same) ∙ sign_begins sign)))

-- ---- what the first byte leaves of the definition of a token

-- a letter is no digit, and no quote
letter_range : (byte : ℕ) → is_ascii_lowercase byte ≡ true → 97 ≤ byte
letter_range byte letter = let (low, high) = and_parts _ _ letter in leb-true 97 byte low

letter_digit : (byte : ℕ) → is_ascii_lowercase byte ≡ true → is_ascii_digit byte ≡ false
letter_digit byte letter = let low : 97 ≤ byte = letter_range byte letter in and_right _ _ (lt-leb byte 57 (omega arith))

letter_quote : (byte : ℕ) → is_ascii_lowercase byte ≡ true → eqb byte quote ≡ false
letter_quote byte letter = let low : 97 ≤ byte = letter_range byte letter in ne_eqb byte quote (λ same. omega arith)

-- a digit is no letter, and no quote
digit_most : (byte : ℕ) → is_ascii_digit byte ≡ true → byte ≤ 57
digit_most byte digit = let (low, high) = and_parts _ _ digit in leb-true byte 57 high

digit_letter : (byte : ℕ) → is_ascii_digit byte ≡ true → is_ascii_lowercase byte ≡ false
digit_letter byte digit = let most : byte ≤ 57 = digit_most byte digit in and_left _ _ (lt-leb 97 byte (omega arith))

digit_quote : (byte : ℕ) → is_ascii_digit byte ≡ true → eqb byte quote ≡ false
digit_quote byte digit = let (low, high) = and_parts _ _ digit in let least : 48 ≤ byte = leb-true 48 byte low in ne_eqb byte quote (λ same. omega arith)

-- a text that begins with no digit is no number
digit_none : (byte : ℕ) (bytes : List ℕ) → is_ascii_digit byte ≡ false → is_number (byte ∷ bytes) ≡ false
digit_none byte bytes other = rw other refl

abbrev pub name_token : List ℕ → Token
name_token bytes = named bytes (spelled_word bytes)

abbrev pub date_token : List ℕ → Token
date_token bytes = Date (year_of bytes) (month_of bytes) (day_of bytes)

abbrev pub text_token : List ℕ → Token
text_token bytes = Text (take (length bytes - 2) (drop 1 bytes))

pub letter_token : (byte : ℕ) (bytes : List ℕ) → is_ascii_lowercase byte ≡ true
    → token_of (byte ∷ bytes) ≡ cond (is_name (byte ∷ bytes)) (Some (name_token (byte ∷ bytes))) None
unfolding token_of
letter_token byte bytes letter =
    ap (λ rest. cond (is_name (byte ∷ bytes)) (Some (name_token (byte ∷ bytes))) rest)
    (cond-false _ _ _ (and_left _ _ (letter_digit byte letter))
    ∙ cond-false _ _ _ (digit_none byte bytes (letter_digit byte letter))
    ∙ cond-false _ _ _ (and_left _ _ (letter_quote byte letter))
    ∙ ap signed (no_sign byte bytes (or_left _ _ letter)))

pub digit_token : (byte : ℕ) (bytes : List ℕ) → is_ascii_digit byte ≡ true
    → token_of (byte ∷ bytes) ≡ cond (is_date (byte ∷ bytes)) (Some (date_token (byte ∷ bytes))) (cond (is_number (byte ∷ bytes)) (Some (number_of (byte ∷ bytes))) None)
unfolding token_of
digit_token byte bytes digit =
    cond-false _ _ _ (and_left _ _ (digit_letter byte digit))
    ∙ ap (λ rest. cond (is_date (byte ∷ bytes)) (Some (date_token (byte ∷ bytes))) (cond (is_number (byte ∷ bytes)) (Some (number_of (byte ∷ bytes))) rest))
    (cond-false _ _ _ (and_left _ _ (digit_quote byte digit))
    ∙ ap signed (no_sign byte bytes (or_right _ _ (or_left _ _ digit))))

pub quote_token : (bytes : List ℕ) → token_of (quote ∷ bytes) ≡ cond (is_quoted (quote ∷ bytes)) (Some (text_token (quote ∷ bytes))) None
unfolding token_of
quote_token bytes = refl

pub sign_token : (byte : ℕ) (bytes : List ℕ) → begins_other byte ≡ false → token_of (byte ∷ bytes) ≡ signed (spelled_sign (byte ∷ bytes))
unfolding token_of
sign_token byte bytes other =
    let (letter, rest) = or_parts _ _ other in
    let (digit, quoted) = or_parts _ _ rest in
    cond-false _ _ _ (and_left _ _ letter)
    ∙ cond-false _ _ _ (and_left _ _ digit)
    ∙ cond-false _ _ _ (digit_none byte bytes digit)
    ∙ cond-false _ _ _ (and_left _ _ quoted)

-- ---- what the longest front of a kind says of the token

-- where a test decides on the fronts of a text, its longest front is the token
pub takes_longest : (test : List ℕ → Bool) (make : List ℕ → Token) (text : List ℕ) (count : ℕ)
    → ((k : ℕ) → k ≤ length text → token_of (take k text) ≡ cond (test (take k text)) (Some (make (take k text))) None)
    → IsLongest test text count → TakesToken text count (make (take count text))
takes_longest test make text count front longest = record {
  within = longest.within;
  spelled = front count longest.within ∙ cond-true _ _ _ longest.passes;
  longest = λ more less within. front more within ∙ cond-false _ _ _ (longest.longest more less within);
}

-- and where no front passes, no token begins
pub begins_none : (test : List ℕ → Bool) (make : List ℕ → Token) (text : List ℕ)
    → ((k : ℕ) → k ≤ length text → token_of (take k text) ≡ cond (test (take k text)) (Some (make (take k text))) None)
    → NoFront test text → BeginsNoToken text
begins_none test make text front none count within = front count within ∙ cond-false _ _ _ (none count within)

-- the fronts of a text that begins with a letter
pub letter_front : (text : List ℕ) → is_ascii_lowercase (get_or text 0 0) ≡ true → (k : ℕ) → k ≤ length text
    → token_of (take k text) ≡ cond (is_name (take k text)) (Some (name_token (take k text))) None
letter_front [] letter k within = absurd (true≢false (sym letter))
letter_front (b ∷ bs) letter zero within = no-token
letter_front (b ∷ bs) letter (suc k) within = letter_token b (take k bs) letter

-- and of one that begins with a digit and with no date
pub digit_front : (text : List ℕ) → is_ascii_digit (get_or text 0 0) ≡ true → NoFront is_date text → (k : ℕ) → k ≤ length text
    → token_of (take k text) ≡ cond (is_number (take k text)) (Some (number_of (take k text))) None
digit_front [] digit no_date k within = absurd (true≢false (sym digit))
digit_front (b ∷ bs) digit no_date zero within = no-token
digit_front (b ∷ bs) digit no_date (suc k) within = digit_token b (take k bs) digit ∙ cond-false _ _ _ (no_date (suc k) within)

-- and of one that begins with a quote
pub quote_front : (text : List ℕ) → get_or text 0 0 ≡ quote → (k : ℕ) → k ≤ length text
    → token_of (take k text) ≡ cond (is_quoted (take k text)) (Some (text_token (take k text))) None
quote_front [] quoted k within = absurd (omega arith)
quote_front (b ∷ bs) quoted zero within = no-token
quote_front (b ∷ bs) quoted (suc k) within =
    let P : ℕ → Type 0 = λ byte. token_of (byte ∷ take k bs) ≡ cond (is_quoted (byte ∷ take k bs)) (Some (text_token (byte ∷ take k bs))) None in
    subst P (sym quoted) (quote_token (take k bs))
