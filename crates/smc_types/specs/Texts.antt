-- How a text stands in words.
use Rattle.std.specs.Prelude.{ℕ, zero, suc, Bool, ◌&&◌, nat_lt, List, [], ◌∷◌, take, drop, take_while}
use Rattle.std.specs.Int.{w64, from_be_bytes, to_be_bytes}
use Rattle.std.specs.List.{flat_map, AllPass}
use Rattle.smc_types.specs.declared.column.TheConstants.{WORD_BYTES}
use Rattle.smc_types.specs.declared.text.TheConstants.{PADDING, BLANK_BYTE}

-- a byte can stand in a text where it is neither the padding nor a byte of a blank word
abbrev pub is_text_byte : ℕ → Bool
is_text_byte byte = nat_lt PADDING byte && nat_lt byte BLANK_BYTE

-- every byte can stand in a text
abbrev pub IsText : List ℕ → Type 0
IsText bytes = AllPass is_text_byte bytes

-- the first eight bytes make a word, the first one highest; where there are fewer, zero bytes stand behind them
unfoldable pub word_of : List ℕ → ℕ
word_of bytes = from_be_bytes w64 bytes

-- so many words of a text, eight bytes in each
unfoldable pub text_words : ℕ → List ℕ → List ℕ
text_words zero text = []
text_words (suc count) text = word_of text ∷ text_words count (drop WORD_BYTES text)

-- the bytes of words, the highest of each first
abbrev pub bytes_of : List ℕ → List ℕ
bytes_of words = flat_map (to_be_bytes w64) words

-- the bytes before the first that no text has, and at most that many
abbrev pub text_of : ℕ → List ℕ → List ℕ
text_of width words = take_while is_text_byte (take width (bytes_of words))
