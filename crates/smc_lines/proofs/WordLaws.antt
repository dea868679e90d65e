-- The words of a text.
use Rattle.std.proofs.Common.{◌≡◌, ℕ, ◌+◌, ◌<◌, List, [], ◌∷◌, Bool, true, false, not, cond, refl, sym, length, All, arith}
use Rattle.std.proofs.lemmas.Bool.{ne_eqb}
use Rattle.std.proofs.lemmas.List.Elements.{All-nil, All-cons}
use Rattle.std.proofs.lemmas.List.Splits.{slice_split_first, slice_split_none, length-slice_split}
use Rattle.std.specs.Prelude.{Option, None, Some, ◌==◌, is_some, count_by}
use Rattle.std.specs.Borrow.{Bor}
use Rattle.std.specs.List.{position_or_len, before_first, after_first}
use Rattle.std.specs.Option.{option_copied}
use Rattle.smc_lines.specs.Words.{words, words_left}
use Rattle.smc_lines.specs.declared.limits.TheConstants.{SPACE}

-- a text has a word
some_words : (text : List ℕ) → false ≡ (length (words text) == 0)
some_words text =
    let some : length (words text) ≡ count_by (λ byte. byte == SPACE) text + 1 = length-slice_split (λ byte. byte == SPACE) text in
    sym (ne_eqb (length (words text)) 0 (λ none. absurd (omega arith)))

-- words are left where a text is
pub is_none-words : (rest : Option (Bor (List ℕ))) (none : Bool) → is_some rest ≡ not none → none ≡ (length (words_left (option_copied rest)) == 0)
is_none-words None true is = refl
is_none-words None false is = absurd cc
is_none-words (Some text) true is = absurd cc
is_none-words (Some text) false is = some_words text.now

-- the first word of a text with a space
pub words-first : (text : List ℕ) → position_or_len (λ byte. byte == SPACE) text < length text
    → words text ≡ before_first (λ byte. byte == SPACE) text ∷ words (after_first (λ byte. byte == SPACE) text)
words-first text within = slice_split_first (λ byte. byte == SPACE) text 0 within

-- a front as long as the text
whole-step : (passes : Bool) (size rest : ℕ) → cond (not passes) (1 + size) 0 ≡ rest + 1 → (passes ≡ false) × (size ≡ rest)
whole-step true size rest is = absurd (omega arith)
whole-step false size rest is = (refl, omega arith)

-- no byte is a space
no_space : (text : List ℕ) → position_or_len (λ byte. byte == SPACE) text ≡ length text → All (λ byte. (byte == SPACE) ≡ false) text
no_space [] is = All-nil (λ byte. (byte == SPACE) ≡ false)
no_space (byte ∷ text) is =
    let (other, rest) = whole-step (byte == SPACE) (position_or_len (λ byte. byte == SPACE) text) (length text) (omega (arith, is)) in
    All-cons (λ byte. (byte == SPACE) ≡ false) byte text other (no_space text rest)

-- a text without a space is one word
pub words-alone : (text : List ℕ) → position_or_len (λ byte. byte == SPACE) text ≡ length text → words text ≡ text ∷ []
words-alone text is = slice_split_none (λ byte. byte == SPACE) text (no_space text is)
