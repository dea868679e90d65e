-- The bytes of words, one at a time, and the length of the text in them.
use Rattle.std.proofs.Common.{◌≡◌, ℕ, ◌+◌, ◌*◌, ◌/◌, ◌%◌, ◌<◌, ◌≤◌, true, false, List, [], ◌∷◌, take, length, get_or, refl, sym, ap, ◌∙◌, arith}
use Rattle.std.proofs.lemmas.List.{length-append, length-take, length-take-le, get_or-take}
use Rattle.std.proofs.lemmas.List.Concat.{get_or-flat_map}
use Rattle.std.proofs.lemmas.List.Folds.{length-prefix_len}
use Rattle.std.proofs.lemmas.List.Sums.{prefix_len_is, prefix_len-le-length}
use Rattle.std.specs.Int.{w64, to_be_bytes}
use Rattle.std.specs.List.{prefix_len}
use Rattle.smc_types.specs.Texts.{is_text_byte, bytes_of, text_of}
use Rattle.smc_types.specs.declared.column.TheConstants.{WORD_BYTES}

-- eight bytes a word
pub length-bytes_of : (words : List ℕ) → length (bytes_of words) ≡ length words * WORD_BYTES
length-bytes_of [] = refl
length-bytes_of (word ∷ words) = omega (arith, length-append (to_be_bytes w64 word) (bytes_of words), length-bytes_of words)

-- the byte at a place is one of the word in which it stands
pub byte-bytes_of : (words : List ℕ) (place : ℕ) → place < length words * WORD_BYTES
    → get_or (bytes_of words) place 0 ≡ get_or (to_be_bytes w64 (get_or words (place / WORD_BYTES) 0)) (place % WORD_BYTES) 0
byte-bytes_of words place within =
    let word : place / WORD_BYTES < length words = omega arith in
    let before : length (bytes_of (take (place / WORD_BYTES) words)) ≡ place / WORD_BYTES * WORD_BYTES =
    length-bytes_of (take (place / WORD_BYTES) words) ∙ ap (λ n. n * WORD_BYTES) (length-take-le (place / WORD_BYTES) words (omega arith)) in
    let at : length (bytes_of (take (place / WORD_BYTES) words)) + place % WORD_BYTES ≡ place = omega (arith, before) in
    ap (λ n. get_or (bytes_of words) n 0) (sym at)
    ∙ get_or-flat_map (to_be_bytes w64) words (place / WORD_BYTES) (place % WORD_BYTES) 0 0 word (omega arith)

-- a text is no longer than its column is wide
length-text_of : (width : ℕ) (words : List ℕ) → length (text_of width words) ≡ prefix_len is_text_byte (take width (bytes_of words))
length-text_of width words = length-prefix_len is_text_byte (take width (bytes_of words))

-- a byte of the text is that of the words
pub byte-text_of : (width : ℕ) (words : List ℕ) (place : ℕ) → place < length (text_of width words)
    → get_or (bytes_of words) place 0 ≡ get_or (text_of width words) place 0
byte-text_of width words place within =
    let bytes : List ℕ = take width (bytes_of words) in
    let long = length-text_of width words in
    let front = prefix_len-le-length is_text_byte bytes in
    let low : place < width = omega (arith, long, front, length-take width (bytes_of words)) in
    sym (get_or-take width (bytes_of words) place 0 low) ∙ sym (get_or-take (prefix_len is_text_byte bytes) bytes place 0 (omega (arith, long)))

-- a text ends at the first byte that no text has
pub text_of-ends : (width : ℕ) (words : List ℕ) (place : ℕ) → place < width → width ≤ length words * WORD_BYTES
    → ((k : ℕ) → k < place → is_text_byte (get_or (bytes_of words) k 0) ≡ true)
    → is_text_byte (get_or (bytes_of words) place 0) ≡ false → place ≡ length (text_of width words)
text_of-ends width words place low room passes stops =
    let long : length (take width (bytes_of words)) ≡ width = length-take-le width (bytes_of words) (omega (arith, length-bytes_of words)) in
    sym (length-text_of width words ∙ prefix_len_is is_text_byte (take width (bytes_of words)) place 0 (omega (arith, long))
    (λ k l. ap is_text_byte (get_or-take width (bytes_of words) k 0 (omega arith)) ∙ passes k l)
    (λ l. ap is_text_byte (get_or-take width (bytes_of words) place 0 low) ∙ stops))

-- or where its column ends
pub text_of-full : (width : ℕ) (words : List ℕ) → width ≤ length words * WORD_BYTES
    → ((k : ℕ) → k < width → is_text_byte (get_or (bytes_of words) k 0) ≡ true) → width ≡ length (text_of width words)
text_of-full width words room passes =
    let long : length (take width (bytes_of words)) ≡ width = length-take-le width (bytes_of words) (omega (arith, length-bytes_of words)) in
    sym (length-text_of width words ∙ prefix_len_is is_text_byte (take width (bytes_of words)) width 0 (omega (arith, long))
    (λ k l. ap is_text_byte (get_or-take width (bytes_of words) k 0 l) ∙ passes k l)
    (λ l. absurd (omega (arith, long))))
