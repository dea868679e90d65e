-- The numbers of a region without objects say what each place says there.
use Rattle.std.proofs.Common.{◌≡◌, ℕ, ◌+◌, ◌*◌, ◌%◌, ◌<◌, zero, suc, List, [], ◌∷◌, ◌++◌, length, replicate, take, get_or, refl, sym, ap, ◌∙◌, arith, sum_by, zero-add}
use Rattle.std.specs.List.{flat_map}
use Rattle.std.proofs.lemmas.List.{length-append, length-replicate, get_or-replicate, get_or_append_left, get_or-append-add}
use Rattle.std.proofs.lemmas.List.Concat.{flat_map-cons}
use Rattle.std.proofs.lemmas.List.Sums.{sum_by-cons}
use Rattle.smc_words.specs.declared.layout.TheConstants.{BLANK}
use Rattle.smc_shape.specs.declared.coll.TheConstants.{BLOCK_SLOTS}
use Rattle.smc_shape.specs.Layout.{Collection, Layout, IsShape, no_coll, coll_of, coll_words, words_of}
use Rattle.smc_shape.specs.Places.{InRange, start_of, at, field_offset}
use Rattle.smc_shape.specs.declared.place.Place.{Place}
use Rattle.smc_shape.specs.declared.place.Place.TheVariants.{Epoch, Round, Section, Entry, Directory, Back, Forward, Field}
use Rattle.smc_shape.proofs.PlaceLaws.{home_of, offset_in, StandsIn, at-home, field_offset-lt, offset_in-lt, slots-whole}
use Rattle.smc_core.specs.declared.local.Opening.{Opening}
use Rattle.smc_core.specs.Row.{packed}
use Rattle.smc_core.specs.Machine.{IsOpened, first_word}
use Rattle.smc_row.specs.Rows.{opened_coll, opened_entry, opened_row}

-- a collection has so many words
length-opened_coll : (free : ℕ) (coll : Collection) → length (opened_coll free coll) ≡ coll_words coll
length-opened_coll free coll = simp (length-append, length-replicate) (omega arith)

-- all of them have so many
length-opened_colls : (free : ℕ) (colls : List Collection) → length (flat_map (opened_coll free) colls) ≡ sum_by coll_words colls
length-opened_colls free [] = refl
length-opened_colls free (x ∷ xs) =
    rw (flat_map-cons, length-append, length-opened_coll, length-opened_colls free xs) (sym (sum_by-cons coll_words x xs))

-- a word of a collection stands behind those of the collections before it
get_or-opened_colls : (free : ℕ) (colls : List Collection) (c a : ℕ) → a < coll_words (get_or colls c no_coll)
    → get_or (flat_map (opened_coll free) colls) (sum_by coll_words (take c colls) + a) 0 ≡ get_or (opened_coll free (get_or colls c no_coll)) a 0
get_or-opened_colls free [] c a l = absurd (omega arith)
get_or-opened_colls free (x ∷ xs) zero a l =
    ap (λ (i : ℕ). get_or (opened_coll free x ++ flat_map (opened_coll free) xs) i 0) (zero-add a) ∙ get_or_append_left (opened_coll free x) (flat_map (opened_coll free) xs) 0 a (rw length-opened_coll l)
get_or-opened_colls free (x ∷ xs) (suc c) a l =
    let behind : sum_by coll_words (take (suc c) (x ∷ xs)) + a ≡ length (opened_coll free x) + (sum_by coll_words (take c xs) + a) =
    omega (arith, length-opened_coll free x, sum_by-cons coll_words x (take c xs)) in
    rw (behind, get_or-append-add) (get_or-opened_colls free xs c a l)

module _ (free : ℕ) (coll : Collection) where
  -- an entry is free
  opened_coll-entry : (entry : ℕ) → entry < coll.entries → get_or (opened_coll free coll) entry 0 ≡ free
  opened_coll-entry entry l =
      get_or_append_left (replicate coll.entries free) _ 0 entry (rw length-replicate l) ∙ get_or-replicate coll.entries entry free 0 l

  -- behind the entries
  opened_coll-behind : (i : ℕ) → get_or (opened_coll free coll) (coll.entries + i) 0 ≡ get_or (replicate (3 * coll.slots) 0 ++ replicate (coll.slots * coll.width) BLANK) i 0
  opened_coll-behind i =
      let e : coll.entries + i ≡ length (replicate coll.entries free) + i = rw length-replicate refl in
      rw e (get_or-append-add (replicate coll.entries free) (replicate (3 * coll.slots) 0 ++ replicate (coll.slots * coll.width) BLANK) i 0)

  -- the words of a slot are 0
  opened_coll-slot : (i : ℕ) → i < 3 * coll.slots → get_or (opened_coll free coll) (coll.entries + i) 0 ≡ 0
  opened_coll-slot i l =
      opened_coll-behind i ∙ get_or_append_left (replicate (3 * coll.slots) 0) (replicate (coll.slots * coll.width) BLANK) 0 i (rw length-replicate l)
      ∙ get_or-replicate (3 * coll.slots) i 0 0 l

  -- a field is blank
  opened_coll-field : (i : ℕ) → i < coll.slots * coll.width → get_or (opened_coll free coll) (coll.entries + (3 * coll.slots + i)) 0 ≡ BLANK
  opened_coll-field i l =
      let e : 3 * coll.slots + i ≡ length (replicate {A = ℕ} (3 * coll.slots) 0) + i = rw length-replicate refl in
      opened_coll-behind (3 * coll.slots + i) ∙
      rw e (get_or-append-add (replicate (3 * coll.slots) 0) (replicate (coll.slots * coll.width) BLANK) i 0 ∙ get_or-replicate (coll.slots * coll.width) i BLANK 0 l)

-- what a place of a collection says
opened_coll-word : (opening : Opening) (coll : Collection) (there : Place) → coll.slots % BLOCK_SLOTS ≡ 0 → StandsIn coll there
    → get_or (opened_coll (opened_entry opening) coll) (offset_in coll there) 0 ≡ packed (first_word opening there)
opened_coll-word opening coll Epoch whole stands = absurd stands
opened_coll-word opening coll Round whole stands = absurd stands
opened_coll-word opening coll (Section pass) whole stands = absurd stands
opened_coll-word opening coll (Entry c entry) whole stands = opened_coll-entry (opened_entry opening) coll entry stands
opened_coll-word opening coll (Directory c slot) whole stands = opened_coll-slot (opened_entry opening) coll slot (omega arith)
opened_coll-word opening coll (Back c slot) whole stands =
    let e : coll.entries + coll.slots + slot ≡ coll.entries + (coll.slots + slot) = omega arith in
    rw e (opened_coll-slot (opened_entry opening) coll (coll.slots + slot) (omega arith))
opened_coll-word opening coll (Forward c slot) whole stands =
    let e : coll.entries + 2 * coll.slots + slot ≡ coll.entries + (2 * coll.slots + slot) = omega arith in
    rw e (opened_coll-slot (opened_entry opening) coll (2 * coll.slots + slot) (omega arith))
opened_coll-word opening coll (Field c slot field) whole stands =
    let e : coll.entries + 3 * coll.slots + field_offset coll.width slot field ≡ coll.entries + (3 * coll.slots + field_offset coll.width slot field) = omega arith in
    rw e (opened_coll-field (opened_entry opening) coll (field_offset coll.width slot field) (field_offset-lt coll.width coll.slots slot field whole stands.0 stands.1))

-- the row begins with the epoch, the round and the section words
opened_row-section : (shape : Layout) (opening : Opening) (i : ℕ) → i < 1 + shape.passes → get_or (opened_row shape opening) (suc i) 0 ≡ 0
opened_row-section shape opening i l =
    get_or_append_left (replicate (1 + shape.passes) 0) (flat_map (opened_coll (opened_entry opening)) shape.colls) 0 i (rw length-replicate l)
    ∙ get_or-replicate (1 + shape.passes) i 0 0 l

-- and goes on with the collections
opened_row-coll : (shape : Layout) (opening : Opening) (c a : ℕ) → a < coll_words (coll_of shape c)
    → get_or (opened_row shape opening) (start_of shape c + a) 0 ≡ get_or (opened_coll (opened_entry opening) (coll_of shape c)) a 0
opened_row-coll shape opening c a l =
    let behind : start_of shape c + a ≡ suc (length (replicate {A = ℕ} (1 + shape.passes) 0) + (sum_by coll_words (take c shape.colls) + a)) =
    omega (arith, length-replicate {A = ℕ} (1 + shape.passes) 0) in
    rw behind (
    get_or-append-add (replicate (1 + shape.passes) 0) (flat_map (opened_coll (opened_entry opening)) shape.colls) (sum_by coll_words (take c shape.colls) + a) 0
    ∙ get_or-opened_colls (opened_entry opening) shape.colls c a l
    )

module _ (shape : Layout) (opening : Opening) (valid : IsShape shape) where
  -- a place that stands in a collection
  word-in_coll : (there : Place) → StandsIn (coll_of shape (home_of there)) there
      → get_or (opened_row shape opening) (at shape there) 0 ≡ packed (first_word opening there)
  word-in_coll there stands =
      let whole = slots-whole shape (home_of there) valid in
      ap (λ (i : ℕ). get_or (opened_row shape opening) i 0) (at-home shape there stands)
      ∙ opened_row-coll shape opening (home_of there) (offset_in (coll_of shape (home_of there)) there) (offset_in-lt (coll_of shape (home_of there)) there whole stands)
      ∙ opened_coll-word opening (coll_of shape (home_of there)) there whole stands

  -- any place
  word-opened : (there : Place) → InRange shape there → get_or (opened_row shape opening) (at shape there) 0 ≡ packed (first_word opening there)
  unfolding at
  word-opened Epoch within = refl
  word-opened Round within = opened_row-section shape opening 0 (omega arith)
  word-opened (Section pass) within =
      let e : at shape (Section pass) ≡ suc (1 + pass) = omega arith in
      ap (λ (i : ℕ). get_or (opened_row shape opening) i 0) e ∙ opened_row-section shape opening (1 + pass) (omega arith)
  word-opened there within = word-in_coll there within

  -- the row has its length
  length-opened_row : length (opened_row shape opening) ≡ words_of shape
  unfolding words_of
  length-opened_row =
      omega (
        arith,
        length-append (replicate {A = ℕ} (1 + shape.passes) 0) (flat_map (opened_coll (opened_entry opening)) shape.colls),
        length-replicate {A = ℕ} (1 + shape.passes) 0,
        length-opened_colls (opened_entry opening) shape.colls,
      )

  -- the row is that of a region without objects
  pub opened_row-opens : IsOpened shape opening (opened_row shape opening)
  opened_row-opens = record { long = length-opened_row; words = word-opened }
