-- Places in range lie apart, and within the row.
use Rattle.std.proofs.Common.{◌≡◌, ℕ, ◌+◌, ◌*◌, ◌/◌, ◌%◌, ◌<◌, ◌≤◌, zero, suc, List, [], ◌∷◌, length, take, get_or, refl, sym, ap, ◌∙◌, subst, inl, inr, arith, sum_by}
use Rattle.std.proofs.lemmas.Bool.{cases_lt}
use Rattle.std.proofs.lemmas.Nat.{same_from_place, mul-add-lt}
use Rattle.std.proofs.lemmas.List.Sums.{sum_by-cons, sum_by_more_le}
use Rattle.std.proofs.lemmas.List.{get_or_past}
use Rattle.smc_shape.specs.declared.coll.TheConstants.{BLOCK_SLOTS}
use Rattle.smc_shape.specs.declared.place.Place.{Place}
use Rattle.smc_shape.specs.declared.place.Place.TheVariants.{Epoch, Round, Section, Entry, Directory, Back, Forward, Field}
use Rattle.smc_shape.specs.declared.shape.TheConstants.{MAX_WORDS}
use Rattle.smc_shape.specs.Layout.{Collection, Layout, IsShape, no_coll, coll_of, coll_words, width_of, slots_of, entries_of, words_of}
use Rattle.smc_shape.specs.Places.{InRange, start_of, field_offset, at}

-- a word of a collection is within the words of all
pub words-within : (colls : List Collection) (c a : ℕ) → a < coll_words (get_or colls c no_coll) → sum_by coll_words (take c colls) + a < sum_by coll_words colls
words-within [] c a l = absurd (omega arith)
words-within (x ∷ xs) zero a l = omega (arith, sum_by-cons coll_words x xs)
words-within (x ∷ xs) (suc c) a l =
    let h = words-within xs c a l in omega (arith, sum_by-cons coll_words x xs, sum_by-cons coll_words x (take c xs))

-- two words of collections with one index are the same word of the same collection
pub words-apart : (colls : List Collection) (c d a b : ℕ) → a < coll_words (get_or colls c no_coll) → b < coll_words (get_or colls d no_coll)
    → sum_by coll_words (take c colls) + a ≡ sum_by coll_words (take d colls) + b → (c ≡ d) × (a ≡ b)
words-apart [] c d a b l k e = absurd (omega arith)
words-apart (x ∷ xs) zero zero a b l k e = (refl, omega arith)
words-apart (x ∷ xs) zero (suc d) a b l k e = absurd (omega (arith, sum_by-cons coll_words x (take d xs)))
words-apart (x ∷ xs) (suc c) zero a b l k e = absurd (omega (arith, sum_by-cons coll_words x (take c xs)))
words-apart (x ∷ xs) (suc c) (suc d) a b l k e =
    let h = words-apart xs c d a b l k (omega (arith, sum_by-cons coll_words x (take c xs), sum_by-cons coll_words x (take d xs)))
    in (ap suc h.0, h.1)

-- a field is among the field words of its collection
pub field_offset-lt : (width slots slot field : ℕ) → slots % BLOCK_SLOTS ≡ 0 → slot < slots → field < width → field_offset width slot field < slots * width
field_offset-lt width slots slot field whole ls lf =
    let blocks : slots ≡ BLOCK_SLOTS * (slots / BLOCK_SLOTS) = omega arith in
    let within = mul-add-lt (slot / BLOCK_SLOTS) (BLOCK_SLOTS * width) (field * BLOCK_SLOTS + slot % BLOCK_SLOTS) (slots / BLOCK_SLOTS) (omega arith) (omega arith) in
    subst (λ n. field_offset width slot field < n * width) (sym blocks) (omega (arith, within))

-- fields lie apart
pub field_offset-apart : (width s f t g : ℕ) → f < width → g < width → field_offset width s f ≡ field_offset width t g → (s ≡ t) × (f ≡ g)
field_offset-apart width s f t g lf lg e =
    let block = same_from_place (s / BLOCK_SLOTS) (f * BLOCK_SLOTS + s % BLOCK_SLOTS) (t / BLOCK_SLOTS) (g * BLOCK_SLOTS + t % BLOCK_SLOTS) (BLOCK_SLOTS * width) (omega arith) (omega arith) (omega (arith, e)) in
    (omega (arith, block.0, block.1), omega (arith, block.1))

-- the words of a collection end within the row
pub coll-within : (shape : Layout) (c : ℕ) → c < length shape.colls → start_of shape c + coll_words (coll_of shape c) ≤ words_of shape
unfolding words_of
coll-within shape c l = omega (arith, sum_by_more_le coll_words shape.colls c no_coll l)

-- each collection of a region has whole blocks, and so has one that is not there
pub slots-whole : (shape : Layout) (c : ℕ) → IsShape shape → slots_of shape c % BLOCK_SLOTS ≡ 0
slots-whole shape c valid = elim (cases_lt c (length shape.colls)) [
  | inl l ↦ (valid.coll c l).slots
  | inr past ↦ ap (λ (coll : Collection). coll.slots % BLOCK_SLOTS) (get_or_past shape.colls c no_coll past)
]

-- a collection that has a slot is there
pub coll-there : (shape : Layout) (c slot : ℕ) → slot < slots_of shape c → c < length shape.colls
coll-there shape c slot l = elim (cases_lt c (length shape.colls)) [
  | inl there ↦ there
  | inr past ↦ let none = ap (λ (coll : Collection). coll.slots) (get_or_past shape.colls c no_coll past) in absurd (omega (arith, none))
]

-- every field of a record stands among the most words that a region may have
pub field-within : (shape : Layout) (c slot field : ℕ) → IsShape shape → slot < slots_of shape c → field < width_of shape c
    → start_of shape c + entries_of shape c + 3 * slots_of shape c + field_offset (width_of shape c) slot field < MAX_WORDS
field-within shape c slot field valid ls lf =
    let end = coll-within shape c (coll-there shape c slot ls) in
    omega (arith, field_offset-lt (width_of shape c) (slots_of shape c) slot field (slots-whole shape c valid) ls lf, end, valid.words)

-- and so does the first one
pub first_field-within : (shape : Layout) (c slot : ℕ) → IsShape shape → slot < slots_of shape c
    → start_of shape c + entries_of shape c + 3 * slots_of shape c + field_offset (width_of shape c) slot 0 < MAX_WORDS
first_field-within shape c slot valid ls =
    field-within shape c slot 0 valid ls (valid.coll c (coll-there shape c slot ls)).some_width

-- the collection of a place that stands in one
abbrev pub home_of : Place → ℕ
home_of Epoch = 0
home_of Round = 0
home_of (Section pass) = 0
home_of (Entry c entry) = c
home_of (Directory c slot) = c
home_of (Back c slot) = c
home_of (Forward c slot) = c
home_of (Field c slot field) = c

-- where such a place stands among the words of its collection
abbrev pub offset_in : Collection → Place → ℕ
offset_in coll Epoch = 0
offset_in coll Round = 0
offset_in coll (Section pass) = 0
offset_in coll (Entry c entry) = entry
offset_in coll (Directory c slot) = coll.entries + slot
offset_in coll (Back c slot) = coll.entries + coll.slots + slot
offset_in coll (Forward c slot) = coll.entries + 2 * coll.slots + slot
offset_in coll (Field c slot field) = coll.entries + 3 * coll.slots + field_offset coll.width slot field

-- the place is one of such a collection
abbrev pub StandsIn : Collection → Place → Type 0
StandsIn coll Epoch = ⊥
StandsIn coll Round = ⊥
StandsIn coll (Section pass) = ⊥
StandsIn coll (Entry c entry) = entry < coll.entries
StandsIn coll (Directory c slot) = slot < coll.slots
StandsIn coll (Back c slot) = slot < coll.slots
StandsIn coll (Forward c slot) = slot < coll.slots
StandsIn coll (Field c slot field) = (slot < coll.slots) × (field < coll.width)

-- a place of a collection of whole blocks is among its words
pub offset_in-lt : (coll : Collection) (p : Place) → coll.slots % BLOCK_SLOTS ≡ 0 → StandsIn coll p → offset_in coll p < coll_words coll
offset_in-lt coll Epoch whole r = absurd r
offset_in-lt coll Round whole r = absurd r
offset_in-lt coll (Section pass) whole r = absurd r
offset_in-lt coll (Entry c entry) whole r = omega arith
offset_in-lt coll (Directory c slot) whole r = omega arith
offset_in-lt coll (Back c slot) whole r = omega arith
offset_in-lt coll (Forward c slot) whole r = omega arith
offset_in-lt coll (Field c slot field) whole (ls, lf) = omega (arith, field_offset-lt coll.width coll.slots slot field whole ls lf)

-- two places of one collection stand apart in it
offset_in-apart : (coll : Collection) (p q : Place) → StandsIn coll p → StandsIn coll q → home_of p ≡ home_of q → offset_in coll p ≡ offset_in coll q → p ≡ q
offset_in-apart coll (Entry c i) (Entry d j) r u h e = λ k. Entry (h k) (e k)
offset_in-apart coll (Directory c i) (Directory d j) r u h e = let l : i ≡ j = omega arith in λ k. Directory (h k) (l k)
offset_in-apart coll (Back c i) (Back d j) r u h e = let l : i ≡ j = omega arith in λ k. Back (h k) (l k)
offset_in-apart coll (Forward c i) (Forward d j) r u h e = let l : i ≡ j = omega arith in λ k. Forward (h k) (l k)
offset_in-apart coll (Field c s f) (Field d t g) (ls, lf) (lt, lg) h e =
    let l = field_offset-apart coll.width s f t g lf lg (omega arith) in λ k. Field (h k) (l.0 k) (l.1 k)
offset_in-apart coll p q r u h e = absurd (omega arith)

-- a place of a collection stands in the row where its collection begins, and so much further
pub at-home : (shape : Layout) (p : Place) → StandsIn (coll_of shape (home_of p)) p → at shape p ≡ start_of shape (home_of p) + offset_in (coll_of shape (home_of p)) p
unfolding at
at-home shape Epoch r = absurd r
at-home shape Round r = absurd r
at-home shape (Section pass) r = absurd r
at-home shape (Entry c entry) r = omega arith
at-home shape (Directory c slot) r = omega arith
at-home shape (Back c slot) r = omega arith
at-home shape (Forward c slot) r = omega arith
at-home shape (Field c slot field) r = omega arith

-- and it is a place of the region
pub InRange-home : (shape : Layout) (p : Place) → StandsIn (coll_of shape (home_of p)) p → InRange shape p
InRange-home shape Epoch r = absurd r
InRange-home shape Round r = absurd r
InRange-home shape (Section pass) r = absurd r
InRange-home shape (Entry c entry) r = r
InRange-home shape (Directory c slot) r = r
InRange-home shape (Back c slot) r = r
InRange-home shape (Forward c slot) r = r
InRange-home shape (Field c slot field) r = r

-- two places of collections have two indices
homes-apart : (shape : Layout) (p q : Place) → IsShape shape → StandsIn (coll_of shape (home_of p)) p → StandsIn (coll_of shape (home_of q)) q → at shape p ≡ at shape q → p ≡ q
homes-apart shape p q valid r u e =
    let c : ℕ = home_of p in
    let d : ℕ = home_of q in
    let is : (c ≡ d) × (offset_in (coll_of shape c) p ≡ offset_in (coll_of shape d) q) =
    words-apart shape.colls c d (offset_in (coll_of shape c) p) (offset_in (coll_of shape d) q)
    (offset_in-lt (coll_of shape c) p (slots-whole shape c valid) r) (offset_in-lt (coll_of shape d) q (slots-whole shape d valid) u) (omega (arith, at-home shape p r, at-home shape q u, e)) in
    let same : coll_of shape d ≡ coll_of shape c = ap (coll_of shape) (sym is.0) in
    let owned : StandsIn (coll_of shape c) q = subst (λ (coll : Collection). StandsIn coll q) same u in
    let one : offset_in (coll_of shape c) p ≡ offset_in (coll_of shape c) q = is.1 ∙ ap (λ (coll : Collection). offset_in coll q) same in
    offset_in-apart (coll_of shape c) p q r owned is.0 one

-- each place has a word of the row
pub at-lt : (shape : Layout) (p : Place) → IsShape shape → InRange shape p → at shape p < words_of shape
unfolding at words_of
at-lt shape Epoch is r = omega arith
at-lt shape Round is r = omega arith
at-lt shape (Section pass) is r = omega arith
at-lt shape p is r =
    omega (arith, at-home shape p r, words-within shape.colls (home_of p) (offset_in (coll_of shape (home_of p)) p) (offset_in-lt (coll_of shape (home_of p)) p (slots-whole shape (home_of p) is) r))

-- no other place has the first index, nor the second, nor that of a section word
epoch-alone : (shape : Layout) (q : Place) → InRange shape q → at shape Epoch ≡ at shape q → Epoch ≡ q
unfolding at
epoch-alone shape Epoch u e = refl
epoch-alone shape q u e = absurd (omega arith)

round-alone : (shape : Layout) (q : Place) → InRange shape q → at shape Round ≡ at shape q → Round ≡ q
unfolding at
round-alone shape Round u e = refl
round-alone shape q u e = absurd (omega arith)

section-alone : (shape : Layout) (i : ℕ) (q : Place) → i < shape.passes → InRange shape q → at shape (Section i) ≡ at shape q → Section i ≡ q
unfolding at
section-alone shape i (Section j) l u e = let s : i ≡ j = omega arith in λ k. Section (s k)
section-alone shape i q l u e = absurd (omega arith)

-- no two places have one index
pub at-apart : (shape : Layout) (p q : Place) → IsShape shape → InRange shape p → InRange shape q → at shape p ≡ at shape q → p ≡ q
at-apart shape Epoch q is r u e = epoch-alone shape q u e
at-apart shape Round q is r u e = round-alone shape q u e
at-apart shape (Section i) q is r u e = section-alone shape i q r u e
at-apart shape p Epoch is r u e = sym (epoch-alone shape p r (sym e))
at-apart shape p Round is r u e = sym (round-alone shape p r (sym e))
at-apart shape p (Section j) is r u e = sym (section-alone shape j p u r (sym e))
at-apart shape p q is r u e = homes-apart shape p q is r u e

-- how small a collection is that is there, and one that is not
small-within : (shape : Layout) (c : ℕ) → IsShape shape → c < length shape.colls → (slots_of shape c < MAX_WORDS) × (entries_of shape c < MAX_WORDS)
small-within shape c valid l = let h = coll-within shape c l in (omega (arith, h, valid.words), omega (arith, h, valid.words))

small-past : (shape : Layout) (c : ℕ) → length shape.colls ≤ c → (slots_of shape c < MAX_WORDS) × (entries_of shape c < MAX_WORDS)
small-past shape c past =
    let none : coll_of shape c ≡ no_coll = get_or_past shape.colls c no_coll past in
    (omega (arith, ap (λ (coll : Collection). coll.slots) none), omega (arith, ap (λ (coll : Collection). coll.entries) none))

-- a collection has fewer slots than the largest region has words, and fewer entries
pub coll-small : (shape : Layout) (c : ℕ) → IsShape shape → (slots_of shape c < MAX_WORDS) × (entries_of shape c < MAX_WORDS)
coll-small shape c valid =
    elim (cases_lt c (length shape.colls)) [ inl l ↦ small-within shape c valid l | inr past ↦ small-past shape c past ]
