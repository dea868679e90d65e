-- The words of a text, one after another, and the text that they give back.
use Rattle.std.proofs.Common.{◌≡◌, ℕ, zero, suc, ◌+◌, ◌*◌, ◌<◌, ◌≤◌, true, List, [], ◌∷◌, ◌++◌, take, drop, length, get_or, lit<, refl, sym, ap, ◌∙◌, drop-drop, arith}
use Rattle.std.proofs.lemmas.Bool.Decides.{nat_tests}
use Rattle.std.proofs.lemmas.Grind.{common_steps}
use Rattle.std.proofs.lemmas.List.{get_or-drop}
use Rattle.std.proofs.lemmas.List.Sums.{prefix_len_passes}
use Rattle.std.proofs.lemmas.Nat.{be_bytes_8}
use Rattle.std.specs.Int.{w64, to_be_bytes, from_be_bytes}
use Rattle.std.specs.List.{prefix_len, take_while}
use Rattle.smc_types.specs.Texts.{is_text_byte, IsText, word_of, text_words, bytes_of, text_of}
use Rattle.smc_types.specs.declared.column.TheConstants.{WORD_BYTES}

-- no words hold nothing
pub text_words_none : (text : List ℕ) → text_words 0 text ≡ []
unfolding text_words
text_words_none text = refl

-- the next word holds the bytes behind those of the words before it
pub text_words_more : (count : ℕ) (text : List ℕ) → text_words (count + 1) text ≡ text_words count text ++ word_of (drop (count * WORD_BYTES) text) ∷ []
unfolding text_words
text_words_more zero text = refl
text_words_more (suc count) text =
    let next : suc count + 1 ≡ suc (count + 1) = omega arith in
    let far : WORD_BYTES + count * WORD_BYTES ≡ suc count * WORD_BYTES = omega arith in
    rw (next, text_words_more count (drop WORD_BYTES text), drop-drop, far)

-- what stands before the first byte that no text has is a text
pub IsText-front : (bytes : List ℕ) → IsText (take (prefix_len is_text_byte bytes) bytes)
IsText-front bytes k d h = grind (arith, common_steps, prefix_len_passes is_text_byte bytes k d)

-- the first byte of a text is one
text_first : (byte : ℕ) (text : List ℕ) → IsText (byte ∷ text) → is_text_byte byte ≡ true
text_first byte text is = is 0 0 (omega arith)

-- what follows it is a text
text_rest : (byte : ℕ) (text : List ℕ) → IsText (byte ∷ text) → IsText text
text_rest byte text is k d h = is (suc k) d (omega arith)

-- each is a byte
abbrev pub IsBytes : List ℕ → Type 0
IsBytes bytes = (i : ℕ) → get_or bytes i 0 < 256

-- a byte that can stand in a text is below the blank one
text_byte_small : (byte : ℕ) → is_text_byte byte ≡ true → byte < 255
text_byte_small byte is = grind (arith, nat_tests)

-- so is every byte of a text, and the padding behind it
pub text_small : (text : List ℕ) → IsText text → (i : ℕ) → get_or text i 0 < 255
text_small [] is i = lit< tt
text_small (byte ∷ text) is zero = text_byte_small byte (text_first byte text is)
text_small (byte ∷ text) is (suc i) = text_small text (text_rest byte text is) i

-- a text is made of bytes
text_bytes : (text : List ℕ) → IsText text → IsBytes text
text_bytes text is i = let small = text_small text is i in omega arith

-- so many bytes from the front, with zero bytes behind the last
padded : ℕ → List ℕ → List ℕ
padded zero bytes = []
padded (suc n) bytes = get_or bytes 0 0 ∷ padded n (drop 1 bytes)

-- what stands behind the first m of them
padded-add : (m n : ℕ) (bytes : List ℕ) → padded (m + n) bytes ≡ padded m bytes ++ padded n (drop m bytes)
unfolding padded
padded-add zero n bytes = let none : 0 + n ≡ n = omega arith in rw none
padded-add (suc m) n bytes =
    let next : suc m + n ≡ suc (m + n) = omega arith in
    let far : 1 + m ≡ suc m = omega arith in
    rw (next, padded-add m n (drop 1 bytes), drop-drop, far)

-- fewer of them are their front
take-padded : (n m : ℕ) (bytes : List ℕ) → n ≤ m → take n (padded m bytes) ≡ padded n bytes
unfolding padded
take-padded zero m bytes h = refl
take-padded (suc n) zero bytes h = absurd (omega arith)
take-padded (suc n) (suc m) bytes h = rw (take-padded n m (drop 1 bytes) (omega arith))

-- what is left of bytes behind a front
bytes_drop : (n : ℕ) (bytes : List ℕ) → IsBytes bytes → IsBytes (drop n bytes)
bytes_drop n bytes are i = rw get_or-drop (are (n + i))

-- the padding is of bytes
bytes_padded : (n : ℕ) (bytes : List ℕ) → IsBytes bytes → IsBytes (padded n bytes)
unfolding padded
bytes_padded zero bytes are i = lit< tt
bytes_padded (suc n) bytes are zero = are 0
bytes_padded (suc n) bytes are (suc i) = bytes_padded n (drop 1 bytes) (bytes_drop 1 bytes are) i

-- a word is made of its first eight bytes alone
word_of-padded : (text : List ℕ) → word_of text ≡ from_be_bytes w64 (padded WORD_BYTES text)
unfolding padded word_of
word_of-padded text = simp (get_or-drop, drop-drop)

-- the bytes of a word are the first eight
to_be_bytes-word_of : (text : List ℕ) → IsBytes text → to_be_bytes w64 (word_of text) ≡ padded WORD_BYTES text
unfolding padded
to_be_bytes-word_of text are =
    be_bytes_8 (padded WORD_BYTES text) (word_of text) refl (bytes_padded WORD_BYTES text are) (word_of-padded text)

-- the bytes of the words of a text are its own, with zero bytes behind them
bytes_of-text_words : (count : ℕ) (text : List ℕ) → IsBytes text → bytes_of (text_words count text) ≡ padded (count * WORD_BYTES) text
unfolding padded text_words
bytes_of-text_words zero text are = refl
bytes_of-text_words (suc count) text are =
    let left : List ℕ = drop WORD_BYTES text in
    let more : WORD_BYTES + count * WORD_BYTES ≡ suc count * WORD_BYTES = omega arith in
    ap (λ front. front ++ bytes_of (text_words count left)) (to_be_bytes-word_of text are)
    ∙ ap (λ rest. padded WORD_BYTES text ++ rest) (bytes_of-text_words count left (bytes_drop WORD_BYTES text are))
    ∙ sym (padded-add WORD_BYTES (count * WORD_BYTES) text)
    ∙ ap (λ n. padded n text) more

-- a byte that can stand in a text is taken with what follows
take_while-text : (byte : ℕ) (bytes : List ℕ) → is_text_byte byte ≡ true → take_while is_text_byte (byte ∷ bytes) ≡ byte ∷ take_while is_text_byte bytes
take_while-text byte bytes is =
    let one : 1 + prefix_len is_text_byte bytes ≡ suc (prefix_len is_text_byte bytes) = omega arith in
    rw (is, one)

-- the padding ends a text
take_while-padded : (n : ℕ) (text : List ℕ) → IsText text → length text ≤ n → take_while is_text_byte (padded n text) ≡ text
unfolding padded
take_while-padded zero [] is short = refl
take_while-padded (suc n) [] is short = refl
take_while-padded zero (byte ∷ text) is short = absurd (omega arith)
take_while-padded (suc n) (byte ∷ text) is short =
    take_while-text byte (padded n text) (text_first byte text is)
    ∙ ap (λ rest. byte ∷ rest) (take_while-padded n text (text_rest byte text is) (omega arith))

-- a text is read back from words that have room for it
pub text_of-text_words : (count width : ℕ) (text : List ℕ) → IsText text → length text ≤ width → width ≤ count * WORD_BYTES → text_of width (text_words count text) ≡ text
text_of-text_words count width text is short room =
    rw (bytes_of-text_words count text (text_bytes text is), take-padded width (count * WORD_BYTES) text room) (take_while-padded width text is short)

-- so many words are that many
pub length-text_words : (count : ℕ) (text : List ℕ) → length (text_words count text) ≡ count
unfolding text_words
length-text_words zero text = refl
length-text_words (suc count) text = rw (length-text_words count (drop WORD_BYTES text))

-- what is left of a text is one
pub text_drop : (n : ℕ) (text : List ℕ) → IsText text → IsText (drop n text)
text_drop zero text is = is
text_drop (suc n) [] is = is
text_drop (suc n) (byte ∷ text) is = text_drop n text (text_rest byte text is)
