-- How tokens are written, with one space between them.
use Rattle.std.specs.Prelude.{◌≡◌, ℕ, zero, suc, ◌+◌, ◌/◌, ◌%◌, ◌^◌, ◌==◌, if◌then◌else◌, List, [], ◌∷◌, ◌++◌, decimal, String, string_bytes}
use Rattle.std.specs.List.{flat_map}
use Rattle.std.specs.declared.alloc.Global.{Global}
use Rattle.smc_tokens.specs.Marks.{word_text, sign_text}
use Rattle.smc_tokens.specs.Tokens.{space, quote, dash, point}
use Rattle.smc_tokens.specs.declared.token.Token.{Token}
use Rattle.smc_tokens.specs.declared.token.Token.TheVariants.{Name, Word, Date, Number, Text, Sign}

-- the last so many digits of a number
unfoldable pub last_digits : ℕ → ℕ → List ℕ
last_digits zero number = []
last_digits (suc place) number = (48 + number / 10 ^ place % 10) ∷ last_digits place number

-- what stands behind the point of so many units, and the point: nothing, where there are no decimals
abbrev pub fraction_text : ℕ → ℕ → List ℕ
fraction_text units decimals = if decimals == 0 then [] else point ∷ last_digits decimals units

-- so many units, of which ten to the power of the decimals make one
abbrev pub number_text : ℕ → ℕ → List ℕ
number_text units decimals = decimal (units / 10 ^ decimals) ++ fraction_text units decimals

-- four digits, a dash, two digits, a dash, two digits
abbrev pub date_text : ℕ → ℕ → ℕ → List ℕ
date_text year month day = last_digits 4 year ++ dash ∷ (last_digits 2 month ++ dash ∷ last_digits 2 day)

-- a text between quotes
abbrev pub quoted_text : List ℕ → List ℕ
quoted_text bytes = quote ∷ (bytes ++ quote ∷ [])

-- how a token is written
unfoldable pub token_text : Token → List ℕ
token_text (Name bytes) = bytes
token_text (Word word) = word_text word
token_text (Date year month day) = date_text year month day
token_text (Number units decimals) = number_text units decimals
token_text (Text bytes) = quoted_text bytes
token_text (Sign sign) = sign_text sign

-- tokens with a space before each
abbrev pub spaced_text : List Token → List ℕ
spaced_text tokens = flat_map (λ token. space ∷ token_text token) tokens

-- tokens with one space between them
abbrev pub tokens_text : List Token → List ℕ
tokens_text [] = []
tokens_text (token ∷ tokens) = token_text token ++ spaced_text tokens

-- these tokens are written behind what is there, each behind a space
abbrev pub Writes : String Global → String Global → List Token → Type 0
Writes old new tokens = string_bytes new ≡ string_bytes old ++ spaced_text tokens
