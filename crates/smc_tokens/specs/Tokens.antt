-- The tokens of a text: what bytes are one token, and how a text falls into its longest tokens.
use Rattle.std.specs.Prelude.{◌≡◌, ◌≢◌, ℕ, ◌+◌, ◌-◌, ◌%◌, ◌<◌, ◌≤◌, Bool, not, ◌&&◌, ◌||◌, ◌==◌, nat_le, nat_lt, true, false, if◌then◌else◌, List, [], ◌∷◌, ◌++◌, length, take, drop, find, Option, Some, None}
use Rattle.std.specs.Str.{bytes_eq}
use Rattle.std.specs.Str.Parse.{digits_value}
use Rattle.std.specs.Char.{is_ascii_digit, is_ascii_lowercase}
use Rattle.std.specs.List.{list_all, prefix_len}
use Rattle.smc_tokens.specs.Marks.{word_text, sign_text}
use Rattle.smc_tokens.specs.declared.limits.TheConstants.{MAX_NAME, MAX_DIGITS, MAX_DECIMALS}
use Rattle.smc_tokens.specs.declared.token.Placed.{Placed}
use Rattle.smc_tokens.specs.declared.token.Token.{Token}
use Rattle.smc_tokens.specs.declared.token.Token.TheVariants.{Name, Word, Date, Number, Text, Sign as OfSign}
use Rattle.smc_tokens.specs.declared.reserved.Reserved.{Reserved}
use Rattle.smc_tokens.specs.declared.reserved.Reserved.TheVariants.{From, Where, By, Show, Sort, First, As, And, Or, Not, Between, Desc, Sum, Avg, Min, Max, Count, Fold}
use Rattle.smc_tokens.specs.declared.sign.Sign.{Sign}
use Rattle.smc_tokens.specs.declared.sign.Sign.TheVariants.{Equal, Unequal, Less, LessEqual, Greater, GreaterEqual, Plus, Minus, Star, Open, Close, OpenBracket, CloseBracket, Comma, Dot}

abbrev pub space : ℕ
space = 32

abbrev pub newline : ℕ
newline = 10

abbrev pub quote : ℕ
quote = 39

abbrev pub dash : ℕ
dash = 45

abbrev pub point : ℕ
point = 46

abbrev pub underscore : ℕ
underscore = 95

-- ---- names and words

-- a byte of a name behind its first
abbrev pub is_name_byte : ℕ → Bool
is_name_byte byte = is_ascii_lowercase byte || is_ascii_digit byte || byte == underscore

-- a lower-case letter, then lower-case letters, digits and `_`, and not too many
abbrev pub is_name : List ℕ → Bool
is_name [] = false
is_name (byte ∷ bytes) = is_ascii_lowercase byte && (list_all is_name_byte bytes && nat_lt (length bytes) MAX_NAME)

-- all reserved words
abbrev pub all_words : List Reserved
all_words = From ∷ Where ∷ By ∷ Show ∷ Sort ∷ First ∷ As ∷ And ∷ Or ∷ Not ∷ Between ∷ Desc ∷ Sum ∷ Avg ∷ Min ∷ Max ∷ Count ∷ Fold ∷ []

-- a reserved word, or else a name
abbrev pub named : List ℕ → Option Reserved → Token
named bytes (Some word) = Word word
named bytes None = Name bytes

-- ---- numbers and dates

-- the digits that a text begins with
abbrev pub digits_of : List ℕ → List ℕ
digits_of bytes = take (prefix_len is_ascii_digit bytes) bytes

-- what stands behind them
abbrev pub behind_digits : List ℕ → List ℕ
behind_digits bytes = drop (prefix_len is_ascii_digit bytes) bytes

-- so many digits, from one on
abbrev pub are_digits : ℕ → List ℕ → Bool
are_digits most [] = false
are_digits most (byte ∷ bytes) = is_ascii_digit byte && (list_all is_ascii_digit bytes && nat_lt (length bytes) most)

-- what may stand behind the digits of a number: nothing, or a point with digits
abbrev pub is_fraction : List ℕ → Bool
is_fraction [] = true
is_fraction (byte ∷ bytes) = byte == point && are_digits MAX_DECIMALS bytes

-- digits, then nothing or a point with digits
abbrev pub is_number : List ℕ → Bool
is_number bytes = are_digits MAX_DIGITS (digits_of bytes) && is_fraction (behind_digits bytes)

-- the number that the bytes spell, with as many decimals as stand behind its point
abbrev pub number_of : List ℕ → Token
number_of bytes = Number (digits_value 10 (digits_of bytes ++ drop 1 (behind_digits bytes))) (length (drop 1 (behind_digits bytes)))

-- the rule of leap years of today, for all years
abbrev pub is_leap_year : ℕ → Bool
is_leap_year year = year % 4 == 0 && (not (year % 100 == 0) || year % 400 == 0)

-- how many days a month has, from January as 1; a month that there is not has none
abbrev pub days_in_month : ℕ → ℕ → ℕ
days_in_month year month =
    if month == 0 || nat_lt 12 month then 0
    else if month == 2 then (if is_leap_year year then 29 else 28)
    else if month == 4 || month == 6 || month == 9 || month == 11 then 30 else 31

-- a day of the civil calendar
abbrev pub is_civil : ℕ → ℕ → ℕ → Bool
is_civil year month day = not (day == 0) && nat_le day (days_in_month year month)

-- the year, the month and the day of the bytes of a date
abbrev pub year_of : List ℕ → ℕ
year_of bytes = digits_value 10 (take 4 bytes)

abbrev pub month_of : List ℕ → ℕ
month_of bytes = digits_value 10 (take 2 (drop 5 bytes))

abbrev pub day_of : List ℕ → ℕ
day_of bytes = digits_value 10 (take 2 (drop 8 bytes))

-- four digits, a dash, two digits, a dash, two digits
abbrev pub has_date_form : List ℕ → Bool
has_date_form (a ∷ (b ∷ (c ∷ (d ∷ (e ∷ (f ∷ (g ∷ (h ∷ (i ∷ (j ∷ [])))))))))) =
    list_all is_ascii_digit (a ∷ b ∷ c ∷ d ∷ f ∷ g ∷ i ∷ j ∷ []) && (e == dash && h == dash)
has_date_form _ = false

-- a civil date
abbrev pub is_date : List ℕ → Bool
is_date [] = false
is_date (byte ∷ bytes) = is_ascii_digit byte && (has_date_form (byte ∷ bytes) && is_civil (year_of (byte ∷ bytes)) (month_of (byte ∷ bytes)) (day_of (byte ∷ bytes)))

-- ---- texts and signs

-- a byte that may stand between quotes
abbrev pub is_text_byte : ℕ → Bool
is_text_byte byte = not (byte == 0 || byte == newline || byte == quote)

-- what stands behind the first quote up to the last: bytes of a text, and a quote
abbrev pub ends_quoted : List ℕ → Bool
ends_quoted [] = false
ends_quoted (byte ∷ []) = byte == quote
ends_quoted (byte ∷ bytes) = is_text_byte byte && ends_quoted bytes

-- a quote, a text, a quote
abbrev pub is_quoted : List ℕ → Bool
is_quoted [] = false
is_quoted (byte ∷ bytes) = byte == quote && ends_quoted bytes

-- all signs
abbrev pub all_signs : List Sign
all_signs = Equal ∷ Unequal ∷ Less ∷ LessEqual ∷ Greater ∷ GreaterEqual ∷ Plus ∷ Minus ∷ Star ∷ Open ∷ Close ∷ OpenBracket ∷ CloseBracket ∷ Comma ∷ Dot ∷ []

-- the token of a sign, if there is one
abbrev pub signed : Option Sign → Option Token
signed (Some sign) = Some (OfSign sign)
signed None = None

-- ---- one token

-- the token that these bytes are, if they are one; a date is tried before a number
unfoldable pub token_of : List ℕ → Option Token
token_of bytes =
    if is_name bytes then Some (named bytes (find (λ word. bytes_eq (word_text word) bytes) all_words))
    else if is_date bytes then Some (Date (year_of bytes) (month_of bytes) (day_of bytes))
    else if is_number bytes then Some (number_of bytes)
    else if is_quoted bytes then Some (Text (take (length bytes - 2) (drop 1 bytes)))
    else signed (find (λ sign. bytes_eq (sign_text sign) bytes) all_signs)

-- the first so many bytes of a text are this token, and no more of them are one
pub record TakesToken (text : List ℕ) (count : ℕ) (token : Token) : Type 0 where
  pub within : count ≤ length text
  pub spelled : token_of (take count text) ≡ Some token
  pub longest : (more : ℕ) → count < more → more ≤ length text → token_of (take more text) ≡ None

-- no front of the text is a token
abbrev pub BeginsNoToken : List ℕ → Type 0
BeginsNoToken text = (count : ℕ) → count ≤ length text → token_of (take count text) ≡ None

-- ---- a text

-- a token, and the byte where it begins
abbrev pub PlacedToken : Type 0
PlacedToken = Placed

-- From a byte on, a text falls into these tokens up to this byte: there it ends, or what is left begins no token.
pub data FallsInto : ℕ → List ℕ → List PlacedToken → ℕ → List ℕ → Type 0 where
  ended : {at : ℕ} → FallsInto at [] [] at []
  spaced : {at end : ℕ} {text rest : List ℕ} {tokens : List PlacedToken} → FallsInto (at + 1) text tokens end rest → FallsInto at (space ∷ text) tokens end rest
  taken : {at end count : ℕ} {text rest : List ℕ} {token : Token} {tokens : List PlacedToken}
      → TakesToken text count token → FallsInto (at + count) (drop count text) tokens end rest
      → FallsInto at text (record { token = token; at = at } ∷ tokens) end rest
  refused : {at byte : ℕ} {text : List ℕ} → byte ≢ space → BeginsNoToken (byte ∷ text) → FallsInto at (byte ∷ text) [] at (byte ∷ text)

-- a text falls into one list of tokens only
abbrev pub FallsIntoOne : Type 0
FallsIntoOne = (at end other : ℕ) (text rest left : List ℕ) (tokens more : List PlacedToken)
    → FallsInto at text tokens end rest → FallsInto at text more other left → (tokens ≡ more) × (end ≡ other) × (rest ≡ left)
