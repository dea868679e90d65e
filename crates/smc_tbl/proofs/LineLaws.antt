-- The first line of a text, from what was found in its front.
use Rattle.std.proofs.Common.{◌≡◌, ◌≢◌, ℕ, ◌+◌, ◌<◌, List, [], ◌∷◌, ◌++◌, All, take, drop, suc, add-one, length, slice_index, refl, sym, ap, ◌∙◌, arith, length-append, append-nil, drop_of_length-le, IfSome}
use Rattle.std.proofs.Math.Seq.{split_at, take-length}
use Rattle.std.proofs.lemmas.Bool.{ne_eqb}
use Rattle.std.proofs.lemmas.List.{take-append-le, get_or_append_left}
use Rattle.std.proofs.lemmas.List.Elements.{All-head, All-tail}
use Rattle.std.specs.Prelude.{Option, None, Some}
use Rattle.std.specs.List.{onto_first}
use Rattle.std.specs.Io.{StartsWith}
use Rattle.std.specs.Io.KnownBytes.{IsAtEnd, prepend_known}
use Rattle.smc_tbl.specs.TableText.{lines}
use Rattle.smc_tbl.specs.Reading.{FirstLineEnds, HasLongLine}
use Rattle.smc_tbl.specs.declared.bytes.TheConstants.{NEWLINE, MAX_LINE}

abbrev pub HasNoEnd : List ℕ → Type 0
HasNoEnd bytes = All (λ x. x ≢ NEWLINE) bytes

head-no_end : (byte : ℕ) (line : List ℕ) → HasNoEnd (byte ∷ line) → byte ≢ NEWLINE
head-no_end byte line none = All-head (λ x. x ≢ NEWLINE) byte line none

tail-no_end : (byte : ℕ) (line : List ℕ) → HasNoEnd (byte ∷ line) → HasNoEnd line
tail-no_end byte line none = All-tail (λ x. x ≢ NEWLINE) byte line none

-- a byte that ends no line goes before the first line
lines-cons : (byte : ℕ) (text : List ℕ) → byte ≢ NEWLINE → lines (byte ∷ text) ≡ onto_first byte (lines text)
lines-cons byte text other = rw (ne_eqb byte NEWLINE other) refl

-- a line and its end stand in front of the others
pub lines-ended : (line text : List ℕ) → HasNoEnd line → lines (line ++ NEWLINE ∷ text) ≡ line ∷ lines text
lines-ended [] text none = refl
lines-ended (byte ∷ line) text none =
    lines-cons byte (line ++ NEWLINE ∷ text) (head-no_end byte line none) ∙ ap (onto_first byte) (lines-ended line text (tail-no_end byte line none))

-- the last line may lack its end
pub lines-last : (line : List ℕ) → HasNoEnd line → 0 < length line → lines line ≡ line ∷ []
lines-last [] none some = absurd (omega arith)
lines-last (byte ∷ []) none some = lines-cons byte [] (head-no_end byte [] none)
lines-last (byte ∷ next ∷ line) none some =
    lines-cons byte (next ∷ line) (head-no_end byte (next ∷ line) none) ∙ ap (onto_first byte) (lines-last (next ∷ line) (tail-no_end byte (next ∷ line) none) (omega arith))

-- a part that begins with this byte
onto_first-begins : (byte : ℕ) (parts : List (List ℕ)) → (rest : List ℕ) × (more : List (List ℕ)) × (onto_first byte parts ≡ (byte ∷ rest) ∷ more)
onto_first-begins byte [] = ([], [], refl)
onto_first-begins byte (part ∷ parts) = (part, parts, refl)

-- bytes without an end are the front of the first line
pub lines-begun : (front text : List ℕ) → HasNoEnd front → 0 < length front → (rest : List ℕ) × (more : List (List ℕ)) × (lines (front ++ text) ≡ (front ++ rest) ∷ more)
lines-begun [] text none some = absurd (omega arith)
lines-begun (byte ∷ []) text none some =
    let (rest, more, is) = onto_first-begins byte (lines text) in
    (rest, more, lines-cons byte text (head-no_end byte [] none) ∙ is)
lines-begun (byte ∷ next ∷ front) text none some =
    let (rest, more, is) = lines-begun (next ∷ front) text (tail-no_end byte (next ∷ front) none) (omega arith) in
    (rest, more, lines-cons byte (next ∷ front ++ text) (head-no_end byte (next ∷ front) none) ∙ ap (onto_first byte) is)

-- the first end in the text is that of its first line
pub first_line-at : (text : List ℕ) (at : ℕ) → at < length text → slice_index text at ≡ NEWLINE → HasNoEnd (take at text) → FirstLineEnds at (at + 1) text
first_line-at text at within here none =
    let cut = split_at text at 0 within in
    rw (add-one) (ap lines (cut ∙ ap (λ byte. take at text ++ byte ∷ drop (suc at) text) here) ∙ lines-ended (take at text) (drop (suc at) text) none)

-- what holds of the kept bytes with any others behind them holds of the text, where it is told
pub told : (kept : List ℕ) (left : Option (List ℕ)) (P : List ℕ → Type 0) → ((rest : List ℕ) → P (kept ++ rest)) → IfSome (prepend_known kept left) P
told kept None P each = tt
told kept (Some rest) P each = each rest

-- the same, where nothing is left
pub told-end : (kept : List ℕ) (left : Option (List ℕ)) (P : List ℕ → Type 0) → IsAtEnd left → P kept → IfSome (prepend_known kept left) P
told-end kept None P end fact = tt
told-end kept (Some rest) P end fact = rw (end, append-nil) fact

-- a line that is found in the kept bytes is the first of the text
pub first_line-kept : (kept rest : List ℕ) (at : ℕ) → at < length kept → slice_index kept at ≡ NEWLINE → HasNoEnd (take at kept) → FirstLineEnds at (at + 1) (kept ++ rest)
first_line-kept kept rest at within here none =
    first_line-at (kept ++ rest) at (omega (arith, length-append kept rest)) (get_or_append_left kept rest 0 at within ∙ here)
    (rw (take-append-le at kept rest (omega arith)) none)

-- kept bytes that are too many for a row and have no end
pub long_line-kept : (kept rest : List ℕ) → HasNoEnd kept → MAX_LINE + 1 < length kept → HasLongLine (kept ++ rest)
long_line-kept kept rest none long =
    let (others, more, is) = lines-begun kept rest none (omega arith) in
    (kept ++ others, more, is, omega (arith, length-append kept others))

-- kept bytes without an end are the last line
pub first_line-last : (kept : List ℕ) → HasNoEnd kept → 0 < length kept → FirstLineEnds (length kept) (length kept) kept
first_line-last kept none some = rw (take-length, drop_of_length-le kept {i = length kept} (omega arith)) (lines-last kept none some)

-- bytes that grew by none are the same
pub same-front : (old new : List ℕ) (count : ℕ) → StartsWith new old → length new ≡ length old + count → count ≡ 0 → new ≡ old
same-front old new count front grown zero =
    let size : length new ≡ length old = omega arith in
    sym (take-length new) ∙ ap (λ n. take n new) size ∙ front
