-- Texts that end in a mark, as texts and as words.
use Rattle.std.proofs.Common.{◌≡◌, ℕ, ◌-◌, ◌<◌, List, [], ◌∷◌, ◌++◌, Bool, true, false, cond, codes, length, take, drop, nat_eq, refl, sym, ap, ◌∙◌, arith, append_assoc, length-append}
use Rattle.std.proofs.Math.Seq.{drop-append_seam}
use Rattle.std.proofs.lemmas.List.{take-append-drop}
use Rattle.std.proofs.lemmas.List.Splits.{length-slice_split, join_with_byte-slice_split}
use Rattle.std.proofs.lemmas.Slice.Eq.{bytes_eq-Decides}
use Rattle.std.specs.Prelude.{◌==◌}
use Rattle.std.specs.List.{onto_first, ends_with, join_with_byte}
use Rattle.smc_lines.specs.Words.{words}
use Rattle.smc_lines.specs.declared.limits.TheConstants.{SPACE}
use Rattle.smc_schedule.proofs.CallLaws.{last_word}

-- a text has a word
some_words : (text : List ℕ) → 0 < length (words text)
some_words text = omega (arith, length-slice_split (λ byte. byte == SPACE) text)

-- parts in front of others
parts-step : (ends : Bool) (byte : ℕ) (parts more : List (List ℕ)) → 0 < length parts
    → cond ends ([] ∷ (parts ++ more)) (onto_first byte (parts ++ more)) ≡ cond ends ([] ∷ parts) (onto_first byte parts) ++ more
parts-step true byte parts more some = refl
parts-step false byte [] more some = absurd (omega arith)
parts-step false byte (part ∷ parts) more some = refl

-- the words on both sides of a space
words-append : (front later : List ℕ) → words (front ++ SPACE ∷ later) ≡ words front ++ words later
words-append [] later = refl
words-append (byte ∷ front) later =
    ap (λ (parts : List (List ℕ)). cond (byte == SPACE) ([] ∷ parts) (onto_first byte parts)) (words-append front later)
    ∙ parts-step (byte == SPACE) byte (words front) (words later) (some_words front)

-- a text with a mark behind it has its words, and the mark
pub words-marked : (front : List ℕ) → words (front ++ codes " !") ≡ words front ++ codes "!" ∷ []
words-marked front = words-append front (codes "!")

-- the last of some words
pub last_word-push : (front : List (List ℕ)) (word : List ℕ) → last_word (front ++ word ∷ []) ≡ word
last_word-push [] word = refl
last_word-push (first ∷ []) word = refl
last_word-push (first ∷ next ∷ front) word = last_word-push (next ∷ front) word

-- a text that ends in a mark
pub marked-parts : (text : List ℕ) → ends_with nat_eq text (codes " !") ≡ true → text ≡ take (length text - 2) text ++ codes " !"
marked-parts text ends =
    let end : codes " !" ≡ drop (length text - 2) text = (bytes_eq-Decides (codes " !") (drop (length text - 2) text)).0 ends in
    sym (take-append-drop (length text - 2) text) ∙ ap (λ (behind : List ℕ). take (length text - 2) text ++ behind) (sym end)

-- a mark behind a text ends it
pub marked-ends : (front : List ℕ) → ends_with nat_eq (front ++ codes " !") (codes " !") ≡ true
marked-ends front =
    let size : length (front ++ codes " !") - 2 ≡ length front = omega (arith, length-append front (codes " !")) in
    let end : codes " !" ≡ drop (length (front ++ codes " !") - 2) (front ++ codes " !") = rw size (sym (drop-append_seam front (codes " !"))) in
    (bytes_eq-Decides (codes " !") (drop (length (front ++ codes " !") - 2) (front ++ codes " !"))).1 end

-- one more word behind others
join-push : (first : List ℕ) (words : List (List ℕ)) (word : List ℕ) → join_with_byte SPACE (first ∷ (words ++ word ∷ [])) ≡ join_with_byte SPACE (first ∷ words) ++ SPACE ∷ word
join-push first [] word = refl
join-push first (next ∷ words) word =
    ap (λ (more : List ℕ). first ++ SPACE ∷ more) (join-push next words word) ∙ sym (append_assoc first (SPACE ∷ join_with_byte SPACE (next ∷ words)) (SPACE ∷ word))

-- a text whose last word, behind others, is a mark
pub marked-text : (text first : List ℕ) (others : List (List ℕ)) → words text ≡ first ∷ (others ++ codes "!" ∷ []) → text ≡ join_with_byte SPACE (first ∷ others) ++ codes " !"
marked-text text first others is =
    sym (join_with_byte-slice_split SPACE text) ∙ ap (join_with_byte SPACE) is ∙ join-push first others (codes "!")
