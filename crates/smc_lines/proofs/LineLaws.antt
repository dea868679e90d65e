-- The lines of a text, from what was found in its front.
use Rattle.std.proofs.Common.{◌≡◌, ◌≢◌, ℕ, ◌+◌, ◌<◌, ◌≤◌, List, [], ◌∷◌, ◌++◌, All, take, drop, suc, add-one, length, map, slice_index, refl, ap, ◌∙◌, arith, true, false, Bool, ◌-◌, ◌==◌, if◌then◌else◌, subst, length-append, length-take, length-drop, append-nil, append_assoc}
use Rattle.std.proofs.Math.Seq.{split_at}
use Rattle.std.proofs.lemmas.Bool.{ne_eqb}
use Rattle.std.proofs.lemmas.List.{map-append, length-map, drop-drop, take-append-le, drop-append-le, get_or_append_left}
use Rattle.std.proofs.lemmas.List.Elements.{All-head, All-tail, All-nil, All-push}
use Rattle.std.specs.Prelude.{⊤}
use Rattle.std.specs.List.{onto_first}
use Rattle.std.specs.Str.Lines.{strip_carriage_return}
use Rattle.smc_lines.specs.Lines.{ended_lines, IsShort, IsWithin}
use Rattle.smc_lines.specs.Reading.{HasEnded, HasLineAt, IsRefused, PassesLimit}
use Rattle.smc_lines.specs.declared.fault.LinesFault.{LinesFault}
use Rattle.smc_lines.specs.declared.fault.LinesFault.TheVariants.{ReadFault, TooLong, TooMany, NoMemory}
use Rattle.smc_lines.specs.declared.limits.TheConstants.{NEWLINE, MAX_LINES}

abbrev pub HasNoEnd : List ℕ → Type 0
HasNoEnd bytes = All (λ x. x ≢ NEWLINE) bytes

head-no_end : (byte : ℕ) (line : List ℕ) → HasNoEnd (byte ∷ line) → byte ≢ NEWLINE
head-no_end byte line none = All-head (λ x. x ≢ NEWLINE) byte line none

tail-no_end : (byte : ℕ) (line : List ℕ) → HasNoEnd (byte ∷ line) → HasNoEnd line
tail-no_end byte line none = All-tail (λ x. x ≢ NEWLINE) byte line none

-- a byte that ends no line goes before the first line
lines-cons : (byte : ℕ) (text : List ℕ) → byte ≢ NEWLINE → ended_lines (byte ∷ text) ≡ onto_first byte (ended_lines text)
lines-cons byte text other = rw (ne_eqb byte NEWLINE other) refl

-- a line and its end stand in front of the others
pub lines-ended : (line text : List ℕ) → HasNoEnd line → ended_lines (line ++ NEWLINE ∷ text) ≡ line ∷ ended_lines text
lines-ended [] text none = refl
lines-ended (byte ∷ line) text none =
    lines-cons byte (line ++ NEWLINE ∷ text) (head-no_end byte line none) ∙ ap (onto_first byte) (lines-ended line text (tail-no_end byte line none))

-- the last line may lack its end
pub lines-last : (line : List ℕ) → HasNoEnd line → 0 < length line → ended_lines line ≡ line ∷ []
lines-last [] none some = absurd (omega arith)
lines-last (byte ∷ []) none some = lines-cons byte [] (head-no_end byte [] none)
lines-last (byte ∷ next ∷ line) none some =
    lines-cons byte (next ∷ line) (head-no_end byte (next ∷ line) none) ∙ ap (onto_first byte) (lines-last (next ∷ line) (tail-no_end byte (next ∷ line) none) (omega arith))

-- a part that begins with this byte
onto_first-begins : (byte : ℕ) (parts : List (List ℕ)) → (rest : List ℕ) × (more : List (List ℕ)) × (onto_first byte parts ≡ (byte ∷ rest) ∷ more)
onto_first-begins byte [] = ([], [], refl)
onto_first-begins byte (part ∷ parts) = (part, parts, refl)

-- bytes without an end are the front of the first line
pub lines-begun : (front text : List ℕ) → HasNoEnd front → 0 < length front → (rest : List ℕ) × (more : List (List ℕ)) × (ended_lines (front ++ text) ≡ (front ++ rest) ∷ more)
lines-begun [] text none some = absurd (omega arith)
lines-begun (byte ∷ []) text none some =
    let (rest, more, is) = onto_first-begins byte (ended_lines text) in
    (rest, more, lines-cons byte text (head-no_end byte [] none) ∙ is)
lines-begun (byte ∷ next ∷ front) text none some =
    let (rest, more, is) = lines-begun (next ∷ front) text (tail-no_end byte (next ∷ front) none) (omega arith) in
    (rest, more, lines-cons byte (next ∷ front ++ text) (head-no_end byte (next ∷ front) none) ∙ ap (onto_first byte) is)

-- the first end in the text is that of its first line
pub first_line-at : (text : List ℕ) (at : ℕ) → at < length text → slice_index text at ≡ NEWLINE → HasNoEnd (take at text)
    → ended_lines text ≡ take at text ∷ ended_lines (drop (at + 1) text)
first_line-at text at within here none =
    let cut = split_at text at 0 within in
    rw (add-one) (ap ended_lines (cut ∙ ap (λ byte. take at text ++ byte ∷ drop (suc at) text) here) ∙ lines-ended (take at text) (drop (suc at) text) none)

-- the same, with more behind the text
pub first_line-kept : (kept rest : List ℕ) (at : ℕ) → at < length kept → slice_index kept at ≡ NEWLINE → HasNoEnd (take at kept)
    → ended_lines (kept ++ rest) ≡ take at kept ∷ ended_lines (drop (at + 1) kept ++ rest)
first_line-kept kept rest at within here none =
    let front = take-append-le at kept rest (omega arith) in
    let behind = drop-append-le (at + 1) kept rest (omega arith) in
    rw (← front, ← behind)
    (first_line-at (kept ++ rest) at (omega (arith, length-append kept rest)) (get_or_append_left kept rest 0 at within ∙ here)
    (rw front none))

-- a list less its last element, or whole
part-bounds : (b : Bool) (line : List ℕ) → (length (if b then take (length line - 1) line else line) ≤ length line)
    × (length line ≤ length (if b then take (length line - 1) line else line) + 1)
part-bounds true line = (simp length-take (omega arith), simp length-take (omega arith))
part-bounds false line = (omega arith, omega arith)

-- a carriage return is one byte
pub strip-bounds : (line : List ℕ) → (length (strip_carriage_return line) ≤ length line) × (length line ≤ length (strip_carriage_return line) + 1)
strip-bounds line = part-bounds (slice_index line (length line - 1) == 13) line

-- a line whose front is too long is too long
pub long-begun : (front rest : List ℕ) → ¬ IsShort (strip_carriage_return front) → ¬ IsShort (strip_carriage_return (front ++ rest))
long-begun front [] long short = let P : List ℕ → Type 0 = λ l. IsShort (strip_carriage_return l) in long (subst P (append-nil front) short)
long-begun front (byte ∷ rest) long short =
    long (omega (arith, strip-bounds front, strip-bounds (front ++ byte ∷ rest), length-append front (byte ∷ rest)))

-- nothing has ended at the start
pub HasEnded-first : HasEnded [] 0 0
HasEnded-first = record { before = []; parts = λ rest. refl; count = refl; short = All-nil IsShort; place = omega arith; small = omega arith; few = omega arith }

-- more text behind
pub HasEnded-grown : (text piece : List ℕ) (start ended : ℕ) → HasEnded text start ended → HasEnded (text ++ piece) start ended
HasEnded-grown text piece start ended has = record {
  before = has.before;
  parts = λ rest. rw (append_assoc text piece rest, drop-append-le start text piece has.place, append_assoc (drop start text) piece rest) (has.parts (piece ++ rest));
  count = has.count;
  short = has.short;
  place = let within = has.place in omega (arith, length-append text piece);
  small = has.small;
  few = has.few;
}

module _ (text : List ℕ) (start ended : ℕ) (has : HasEnded text start ended) where
  -- one more line has ended
  pub HasEnded-more : (size : ℕ) → size < length (drop start text) → slice_index (drop start text) size ≡ NEWLINE → HasNoEnd (take size (drop start text))
      → IsShort (strip_carriage_return (take size (drop start text))) → ended < MAX_LINES → HasEnded text (start + (size + 1)) (ended + 1)
  HasEnded-more size within here none short few =
      let line = take size (drop start text) in
      let count : length line ≡ size = simp length-take (omega arith) in
      let before = has.count in
      let place = has.place in
      let small = has.small in
      record {
        before = has.before ++ line ∷ [];
        parts = λ rest.
            rw (append_assoc has.before (line ∷ []), ← drop-drop (size + 1) start text)
            (has.parts rest ∙ ap (λ l. has.before ++ l) (first_line-kept (drop start text) rest size within here none));
        count = omega (arith, length-append has.before (line ∷ []));
        short = rw (map-append strip_carriage_return has.before (line ∷ [])) (All-push IsShort (map strip_carriage_return has.before) (strip_carriage_return line) has.short short);
        place = omega (arith, length-drop start text);
        small = omega (arith, strip-bounds line);
        few = omega arith;
      }

  -- the line at the front of what has not ended has the next number
  line_at : (number : ℕ) (rest whole : List ℕ) (more : List (List ℕ)) → ended_lines (drop start text ++ rest) ≡ whole ∷ more → number ≡ ended + 1
      → (fact : List ℕ → Type 0) → fact (strip_carriage_return whole) → HasLineAt number (text ++ rest) fact
  line_at number rest whole more is place fact holds =
      let count = has.count in
      record {
        before = map strip_carriage_return has.before;
        line = strip_carriage_return whole;
        behind = map strip_carriage_return more;
        parts = ap (map strip_carriage_return) (has.parts rest ∙ ap (λ l. has.before ++ l) is) ∙ map-append strip_carriage_return has.before (whole ∷ more);
        place = omega (arith, length-map has.before strip_carriage_return);
        short = has.short;
        holds = holds;
      }

  -- the line at the front of what has not ended is past a limit
  pub refused : (fault : LinesFault) (rest line whole : List ℕ) (more : List (List ℕ)) → ended_lines (drop start text ++ rest) ≡ whole ∷ more
      → (¬ IsShort (strip_carriage_return line) → ¬ IsShort (strip_carriage_return whole)) → IsRefused fault (strip_carriage_return line) ended
      → PassesLimit fault (text ++ rest)
  refused (TooLong number) rest line whole more is longer gives =
      let few = gives.1 in
      let place = gives.0 in
      (omega arith, line_at number rest whole more is (place) (λ l. ¬ IsShort l) (longer gives.2))
  refused TooMany rest line whole more is longer gives =
      line_at (MAX_LINES + 1) rest whole more is (let full : ended ≡ MAX_LINES = gives in omega arith) (λ l. ⊤) tt
  refused ReadFault rest line whole more is longer gives = absurd gives
  refused NoMemory rest line whole more is longer gives = absurd gives

  -- the ended lines and the last one are within the limits
  end-within : (line : List ℕ) → HasNoEnd line → (0 < length line → (ended < MAX_LINES) × IsShort (strip_carriage_return line))
      → All IsShort (map strip_carriage_return (has.before ++ ended_lines line)) × (length (map strip_carriage_return (has.before ++ ended_lines line)) ≤ MAX_LINES)
  end-within [] none fits =
      let count = has.count in
      let few = has.few in
      rw (append-nil has.before) (has.short, omega (arith, length-map has.before strip_carriage_return))
  end-within (byte ∷ line) none fits =
      let (room, short) = fits (omega arith) in
      let count = has.count in
      let size = length-map has.before strip_carriage_return in
      rw (lines-last (byte ∷ line) none (omega arith), map-append strip_carriage_return has.before ((byte ∷ line) ∷ [])) (
        All-push IsShort (map strip_carriage_return has.before) (strip_carriage_return (byte ∷ line)) has.short short,
        omega (arith, length-append (map strip_carriage_return has.before) (strip_carriage_return (byte ∷ line) ∷ [])),
      )

  -- all of the text is within the limits
  pub IsWithin-open : HasNoEnd (drop start text) → (0 < length (drop start text) → (ended < MAX_LINES) × IsShort (strip_carriage_return (drop start text)))
      → IsWithin text
  IsWithin-open none fits =
      let is : ended_lines text ≡ has.before ++ ended_lines (drop start text) =
      rw (append-nil text, append-nil (drop start text)) at (has.parts []) in
      let (short, few) = end-within (drop start text) none fits in
      record { short = rw is short; few = rw is few }
