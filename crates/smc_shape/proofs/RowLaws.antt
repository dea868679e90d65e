-- Each word of the row is that of a place.
use Rattle.std.proofs.Common.{◌≡◌, ℕ, ◌+◌, ◌-◌, ◌*◌, ◌/◌, ◌%◌, ◌<◌, ◌≤◌, zero, suc, List, [], ◌∷◌, take, get_or, refl, sym, subst, inl, inr, arith, sum_by}
use Rattle.std.proofs.lemmas.Bool.{cases_lt}
use Rattle.std.proofs.lemmas.Nat.{div-add-mod', div_below, mod_below}
use Rattle.std.proofs.lemmas.List.Sums.{sum_by-cons}
use Rattle.smc_shape.specs.declared.coll.TheConstants.{BLOCK_SLOTS}
use Rattle.smc_shape.specs.declared.place.Place.{Place}
use Rattle.smc_shape.specs.declared.place.Place.TheVariants.{Epoch, Round, Section, Entry, Directory, Back, Forward, Field}
use Rattle.smc_shape.specs.declared.shape.TheConstants.{FIRST_SECTION}
use Rattle.smc_shape.specs.Layout.{Collection, Layout, IsShape, no_coll, coll_of, coll_words, words_of}
use Rattle.smc_shape.specs.Places.{start_of, field_offset, at, HasPlace}
use Rattle.smc_shape.proofs.PlaceLaws.{home_of, offset_in, StandsIn, at-home, InRange-home, slots-whole}

-- the place of a collection's word
record Found (coll : Collection) (c i : ℕ) : Type 0 where
  place : Place
  stands : StandsIn coll place
  home : home_of place ≡ c
  offset : offset_in coll place ≡ i

-- where a field word is left, a record has some width
some-width : (slots width k : ℕ) → k < slots * width → 0 < width
some-width slots zero k l = absurd (omega arith)
some-width slots (suc width) k l = omega arith

-- the slot of a field word: that of its column, in its block
abbrev slot-of_word : ℕ → ℕ → ℕ
slot-of_word k width = k / (BLOCK_SLOTS * width) * BLOCK_SLOTS + k % (BLOCK_SLOTS * width) % BLOCK_SLOTS

-- the field of a field word: that of its row, in its block
abbrev field-of_word : ℕ → ℕ → ℕ
field-of_word k width = k % (BLOCK_SLOTS * width) / BLOCK_SLOTS

-- a field word by its block, row and column
block-row-column : (k width : ℕ) → 0 < width → field_offset width (slot-of_word k width) (field-of_word k width) ≡ k
block-row-column k width some =
    let block : ℕ = k / (BLOCK_SLOTS * width) in
    let inner : ℕ = k % (BLOCK_SLOTS * width) in
    let high : (block * BLOCK_SLOTS + inner % BLOCK_SLOTS) / BLOCK_SLOTS ≡ block = omega arith in
    let low : (block * BLOCK_SLOTS + inner % BLOCK_SLOTS) % BLOCK_SLOTS ≡ inner % BLOCK_SLOTS = omega arith in
    let whole : block * (BLOCK_SLOTS * width) + inner ≡ k = div-add-mod' k (BLOCK_SLOTS * width) in
    rw (high, low) (omega (arith, whole))

-- the slot of a field word of a collection of whole blocks is one of its slots
slot-of_word-lt : (k width slots : ℕ) → slots % BLOCK_SLOTS ≡ 0 → 0 < width → k < slots * width → slot-of_word k width < slots
slot-of_word-lt k width slots whole some l =
    let blocks : slots ≡ BLOCK_SLOTS * (slots / BLOCK_SLOTS) = omega arith in
    let all : k < BLOCK_SLOTS * (slots / BLOCK_SLOTS) * width = subst (λ n. k < n * width) blocks l in
    let block : k / (BLOCK_SLOTS * width) < slots / BLOCK_SLOTS = div_below k (BLOCK_SLOTS * width) (slots / BLOCK_SLOTS) (omega arith) (omega (arith, all)) in
    omega (arith, block)

-- the field of a field word is one of a record's
field-of_word-lt : (k width : ℕ) → 0 < width → field-of_word k width < width
field-of_word-lt k width some = let inner = mod_below k (BLOCK_SLOTS * width) (omega arith) in omega (arith, inner)

-- the place of a word that is past all forwarding words, then of one past the owners, and so on
found-field : (coll : Collection) (c i : ℕ) → coll.slots % BLOCK_SLOTS ≡ 0 → i < coll_words coll → coll.entries + 3 * coll.slots ≤ i → Found coll c i
found-field coll c i whole l past =
    let k : ℕ = i - (coll.entries + 3 * coll.slots) in
    let lk : k < coll.slots * coll.width = omega arith in
    let some : 0 < coll.width = some-width coll.slots coll.width k lk in
    record {
      place = Field c (slot-of_word k coll.width) (field-of_word k coll.width);
      stands = (slot-of_word-lt k coll.width coll.slots whole some lk, field-of_word-lt k coll.width some);
      home = refl;
      offset = omega (arith, block-row-column k coll.width some);
    }

found-forward : (coll : Collection) (c i : ℕ) → coll.slots % BLOCK_SLOTS ≡ 0 → i < coll_words coll → coll.entries + 2 * coll.slots ≤ i → Found coll c i
found-forward coll c i whole l past = elim (cases_lt i (coll.entries + 3 * coll.slots)) [
  | inl h ↦ record { place = Forward c (i - (coll.entries + 2 * coll.slots)); stands = omega arith; home = refl; offset = omega arith }
  | inr h ↦ found-field coll c i whole l h
]

found-back : (coll : Collection) (c i : ℕ) → coll.slots % BLOCK_SLOTS ≡ 0 → i < coll_words coll → coll.entries + coll.slots ≤ i → Found coll c i
found-back coll c i whole l past = elim (cases_lt i (coll.entries + 2 * coll.slots)) [
  | inl h ↦ record { place = Back c (i - (coll.entries + coll.slots)); stands = omega arith; home = refl; offset = omega arith }
  | inr h ↦ found-forward coll c i whole l h
]

found-directory : (coll : Collection) (c i : ℕ) → coll.slots % BLOCK_SLOTS ≡ 0 → i < coll_words coll → coll.entries ≤ i → Found coll c i
found-directory coll c i whole l past = elim (cases_lt i (coll.entries + coll.slots)) [
  | inl h ↦ record { place = Directory c (i - coll.entries); stands = omega arith; home = refl; offset = omega arith }
  | inr h ↦ found-back coll c i whole l h
]

-- the place of any word of a collection of whole blocks
found : (coll : Collection) (c i : ℕ) → coll.slots % BLOCK_SLOTS ≡ 0 → i < coll_words coll → Found coll c i
found coll c i whole l = elim (cases_lt i coll.entries) [
  | inl h ↦ record { place = Entry c i; stands = h; home = refl; offset = refl }
  | inr h ↦ found-directory coll c i whole l h
]

-- the collection that has a word of all collections
record Home (colls : List Collection) (i : ℕ) : Type 0 where
  coll : ℕ
  offset : ℕ
  within : offset < coll_words (get_or colls coll no_coll)
  sum : sum_by coll_words (take coll colls) + offset ≡ i

-- a word past the first collection is one of the later ones
next-home : (x : Collection) (xs : List Collection) (i : ℕ) → coll_words x ≤ i → Home xs (i - coll_words x) → Home (x ∷ xs) i
next-home x xs i past h = record {
  coll = suc h.coll;
  offset = h.offset;
  within = h.within;
  sum = omega (arith, sum_by-cons coll_words x (take h.coll xs), h.sum);
}

-- each word of all collections is one of a collection
home : (colls : List Collection) (i : ℕ) → i < sum_by coll_words colls → Home colls i
home [] i l = absurd (omega arith)
home (x ∷ xs) i l = elim (cases_lt i (coll_words x)) [
  | inl h ↦ record { coll = zero; offset = i; within = h; sum = omega arith }
  | inr past ↦ next-home x xs i past (home xs (i - coll_words x) (omega (arith, sum_by-cons coll_words x xs)))
]

-- a place in its collection is a place of the row
place-at : (shape : Layout) (i : ℕ) (h : Home shape.colls (i - (FIRST_SECTION + shape.passes))) → FIRST_SECTION + shape.passes ≤ i → Found (coll_of shape h.coll) h.coll h.offset → HasPlace shape i
place-at shape i h past f =
    let stands : StandsIn (coll_of shape (home_of f.place)) f.place = subst (λ c. StandsIn (coll_of shape c) f.place) (sym f.home) f.stands in
    let here : at shape f.place ≡ start_of shape h.coll + offset_in (coll_of shape h.coll) f.place =
    subst (λ c. at shape f.place ≡ start_of shape c + offset_in (coll_of shape c) f.place) f.home (at-home shape f.place stands) in
    record { place = f.place; in_range = InRange-home shape f.place stands; here = omega (arith, here, f.offset, h.sum) }

-- the words past the first two: of a section, or of a collection
from-section : (shape : Layout) (i : ℕ) → FIRST_SECTION ≤ i → i < FIRST_SECTION + shape.passes → HasPlace shape i
unfolding at
from-section shape i past l = record { place = Section (i - FIRST_SECTION); in_range = omega arith; here = omega arith }

from-coll : (shape : Layout) (i : ℕ) → IsShape shape → FIRST_SECTION + shape.passes ≤ i → i < words_of shape → HasPlace shape i
unfolding words_of
from-coll shape i valid past l =
    let h = home shape.colls (i - (FIRST_SECTION + shape.passes)) (omega arith) in
    place-at shape i h past (found (coll_of shape h.coll) h.coll h.offset (slots-whole shape h.coll valid) h.within)

from-second : (shape : Layout) (i : ℕ) → IsShape shape → FIRST_SECTION ≤ i → i < words_of shape → HasPlace shape i
from-second shape i valid past l =
    elim (cases_lt i (FIRST_SECTION + shape.passes)) [ inl h ↦ from-section shape i past h | inr h ↦ from-coll shape i valid h l ]

-- each word of the row is that of a place
pub at-onto : (shape : Layout) (i : ℕ) → IsShape shape → i < words_of shape → HasPlace shape i
unfolding at
at-onto shape zero valid l = record { place = Epoch; in_range = tt; here = refl }
at-onto shape (suc zero) valid l = record { place = Round; in_range = tt; here = refl }
at-onto shape (suc (suc i)) valid l = from-second shape (suc (suc i)) valid (omega arith) l
