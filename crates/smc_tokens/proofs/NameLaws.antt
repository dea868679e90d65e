-- The name at the front of a text.
use Rattle.std.proofs.Common.{◌≡◌, inl, inr, ℕ, ◌-◌, ◌≤◌, ◌<◌, min, true, eqb, List, get_or, take, subst, arith, sym, ◌||◌}
use Rattle.std.specs.Char.{is_ascii_digit, is_ascii_lowercase}
use Rattle.std.specs.List.{prefix_len}
use Rattle.std.specs.Str.{IsUtf8, IsCharBoundary}
use Rattle.std.proofs.lemmas.Bool.{and_parts, leb-true, eqb-true, or_cases}
use Rattle.std.proofs.lemmas.List.Sums.{prefix_len_passes}
use Rattle.smc_tokens.specs.Tokens.{is_name, is_name_byte, underscore, TakesToken}
use Rattle.smc_tokens.proofs.AsciiLaws.{ascii_cut, taken_some}
use Rattle.smc_tokens.proofs.DigitLaws.{digit_range}
use Rattle.smc_tokens.proofs.KindLaws.{name_token, letter_front, takes_longest}
use Rattle.smc_tokens.proofs.RunLaws.{name_longest}

letter_most : (byte : ℕ) → is_ascii_lowercase byte ≡ true → byte ≤ 122
letter_most byte letter = let (low, high) = and_parts _ _ letter in leb-true byte 122 high

-- the bytes of a name are of ASCII
name_ascii : (byte : ℕ) → is_name_byte byte ≡ true → byte < 128
name_ascii byte is = elim (or_cases (is_ascii_lowercase byte || is_ascii_digit byte) (eqb byte underscore) is) [
  | inl most ↦ elim (or_cases (is_ascii_lowercase byte) (is_ascii_digit byte) most) [
    | inl letter ↦ let below : byte ≤ 122 = letter_most byte letter in omega arith
    | inr digit ↦ let (low, high) = digit_range byte digit in omega arith
  ]
  | inr line ↦ let same : byte ≡ underscore = eqb-true byte underscore line in omega arith
]

-- the token of the name, and its last byte
pub name_takes : (text : List ℕ) (len : ℕ) → is_ascii_lowercase (get_or text 0 0) ≡ true → len ≡ min (prefix_len is_name_byte text) 32 → TakesToken text len (name_token (take len text))
name_takes text len letter len_is =
    subst (λ n. TakesToken text n (name_token (take n text))) (sym len_is)
    (takes_longest is_name name_token text (min (prefix_len is_name_byte text) 32) (letter_front text letter) (name_longest text letter))

pub name_last : (text : List ℕ) (len : ℕ) → is_ascii_lowercase (get_or text 0 0) ≡ true → len ≡ min (prefix_len is_name_byte text) 32 → get_or text (len - 1) 0 < 128
name_last text len letter len_is =
    let some : 0 < len = taken_some (name_takes text len letter len_is) in
    name_ascii _ (prefix_len_passes is_name_byte text (len - 1) 0 (omega arith))

-- a text may be cut behind a name
pub name_cut : (text : List ℕ) (len : ℕ) → IsUtf8 text → is_ascii_lowercase (get_or text 0 0) ≡ true → len ≡ min (prefix_len is_name_byte text) 32 → IsCharBoundary text len
name_cut text len utf8 letter len_is =
    let takes = name_takes text len letter len_is in
    ascii_cut text len utf8 (taken_some takes) takes.within (name_last text len letter len_is)
