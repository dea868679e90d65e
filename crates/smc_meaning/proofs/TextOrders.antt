-- Texts that are compared byte by byte.
use Rattle.std.proofs.Common.{◌≡◌, ℕ, ◌+◌, ◌-◌, ◌*◌, ◌<◌, ◌≤◌, min, Bool, true, false, cond, take, take_while, List, [], ◌∷◌, length, get_or, drop, refl, ◌∙◌, drop-cons, length-drop, add-one, arith}
use Rattle.std.proofs.lemmas.Bool.Decides.{nat_tests}
use Rattle.std.proofs.lemmas.List.{length-append, length-take}
use Rattle.std.proofs.lemmas.List.Sums.{take_while-cons}
use Rattle.std.specs.Int.{w64, to_be_bytes}
use Rattle.std.specs.Ordering.{nat_cmp, ordering_then}
use Rattle.std.specs.Cmp.Lexicographic.{slice_cmp}
use Rattle.smc_types.specs.Texts.{bytes_of, is_text_byte, text_of}

-- the bytes at a place decide, or else those behind it
pub slice_cmp-drop : (one other : List ℕ) (place : ℕ) → place < length one → place < length other
    → slice_cmp nat_cmp (drop place one) (drop place other)
    ≡ ordering_then (nat_cmp (get_or one place 0) (get_or other place 0)) (slice_cmp nat_cmp (drop (place + 1) one) (drop (place + 1) other))
slice_cmp-drop one other place low high = rw (add-one, drop-cons one place 0 low, drop-cons other place 0 high) refl

-- where one of them has no bytes, the lengths decide
short_cmp : (one other : List ℕ) → min (length one) (length other) ≡ 0 → slice_cmp nat_cmp one other ≡ nat_cmp (length one) (length other)
short_cmp [] [] short = refl
short_cmp [] (byte ∷ other) short = grind (arith, nat_tests)
short_cmp (byte ∷ one) [] short = grind (arith, nat_tests)
short_cmp (byte ∷ one) (byte' ∷ other) short = absurd (omega (arith, short))

nat_cmp-sub : (a b k : ℕ) → k ≤ a → k ≤ b → nat_cmp (a - k) (b - k) ≡ nat_cmp a b
nat_cmp-sub a b k low high = grind (arith, nat_tests)

-- and so they do where one text ends
pub slice_cmp-end : (one other : List ℕ) (place : ℕ) → place ≡ min (length one) (length other)
    → slice_cmp nat_cmp (drop place one) (drop place other) ≡ nat_cmp (length one) (length other)
slice_cmp-end one other place end =
    short_cmp (drop place one) (drop place other) (omega (arith, end, length-drop place one, length-drop place other))
    ∙ rw (length-drop place one, length-drop place other) (nat_cmp-sub (length one) (length other) place (omega (arith, end)) (omega (arith, end)))

-- ---- how long a text is

chosen_le : (test : Bool) (byte : ℕ) (front bytes : List ℕ) → length front ≤ length bytes → length (cond test (byte ∷ front) []) ≤ length (byte ∷ bytes)
chosen_le true byte front bytes shorter = omega (arith, shorter)
chosen_le false byte front bytes shorter = omega arith

length-take_while : (p : ℕ → Bool) (bytes : List ℕ) → length (take_while p bytes) ≤ length bytes
length-take_while p [] = omega arith
length-take_while p (byte ∷ bytes) = rw (take_while-cons p byte bytes) (chosen_le (p byte) byte (take_while p bytes) bytes (length-take_while p bytes))

length-bytes_of : (words : List ℕ) → length (bytes_of words) ≡ length words * 8
length-bytes_of [] = refl
length-bytes_of (word ∷ words) = omega (arith, length-append (to_be_bytes w64 word) (bytes_of words), length-bytes_of words)

-- a text has at most the bytes of its words
pub length-text_of : (width : ℕ) (words : List ℕ) → length (text_of width words) ≤ length words * 8
length-text_of width words =
    omega (arith, length-take_while is_text_byte (take width (bytes_of words)), length-take width (bytes_of words), length-bytes_of words)
