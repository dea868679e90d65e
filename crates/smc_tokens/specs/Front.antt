-- What a text begins with: the longest front of a kind, and the token that a reader finds there.
use Rattle.std.specs.Prelude.{◌≡◌, ℕ, ◌+◌, ◌-◌, ◌<◌, ◌≤◌, ◌==◌, ◌||◌, min, if◌then◌else◌, Bool, true, false, List, [], ◌∷◌, length, slice_index, take, find, Option, None, MatchOption}
use Rattle.std.specs.Char.{is_ascii_digit, is_ascii_lowercase}
use Rattle.std.specs.List.{prefix_len}
use Rattle.std.specs.Str.{bytes_eq}
use Rattle.smc_tokens.specs.Marks.{word_text, sign_text}
use Rattle.smc_tokens.specs.Tokens.{all_words, all_signs, point, quote, TakesToken, BeginsNoToken}
use Rattle.smc_tokens.specs.declared.limits.TheConstants.{MAX_DECIMALS}
use Rattle.smc_tokens.specs.declared.found.Found.{Found}
use Rattle.smc_tokens.specs.declared.reserved.Reserved.{Reserved}
use Rattle.smc_tokens.specs.declared.sign.Sign.{Sign}

-- the reserved word that the bytes spell
abbrev pub spelled_word : List ℕ → Option Reserved
spelled_word bytes = find (λ word. bytes_eq (word_text word) bytes) all_words

-- the sign that the bytes spell
abbrev pub spelled_sign : List ℕ → Option Sign
spelled_sign bytes = find (λ sign. bytes_eq (sign_text sign) bytes) all_signs

-- the sign that the first two bytes of the text are
abbrev pub pair_at : List ℕ → Option Sign
pair_at (first ∷ second ∷ rest) = spelled_sign (first ∷ second ∷ [])
pair_at text = None

-- a byte that begins a token of another kind than a sign
abbrev pub begins_other : ℕ → Bool
begins_other byte = is_ascii_lowercase byte || (is_ascii_digit byte || byte == quote)

-- the first so many bytes of the text pass the test, and no more of them do
pub record IsLongest (test : List ℕ → Bool) (text : List ℕ) (count : ℕ) : Type 0 where
  pub within : count ≤ length text
  pub passes : test (take count text) ≡ true
  pub longest : (more : ℕ) → count < more → more ≤ length text → test (take more text) ≡ false

-- no front of the text passes the test
abbrev pub NoFront : (List ℕ → Bool) → List ℕ → Type 0
NoFront test text = (count : ℕ) → count ≤ length text → test (take count text) ≡ false

-- the text begins with this token, whose last byte is of ASCII
pub record Finds (text : List ℕ) (found : Found) : Type 0 where
  pub takes : TakesToken text found.len found.token
  pub ascii : slice_index text (found.len - 1) < 128

-- the digits that the text begins with, at most so many
abbrev pub first_digits : ℕ → List ℕ → List ℕ
first_digits most text = take (min (prefix_len is_ascii_digit text) most) text

-- the decimals that stand behind a point at the front, as many as a number may have
abbrev pub decimals_in : List ℕ → List ℕ
decimals_in [] = []
decimals_in (byte ∷ bytes) = if byte == point then first_digits MAX_DECIMALS bytes else []

-- how many bytes decimals take with their point, which stands only before decimals
abbrev pub fraction_len : List ℕ → ℕ
fraction_len [] = 0
fraction_len decimals = 1 + length decimals

-- what a reader finds: the token that the text begins with, or that it begins with none
abbrev pub BeginsWith : List ℕ → Option Found → Type 0
BeginsWith text found = MatchOption found (BeginsNoToken text) (Finds text)
