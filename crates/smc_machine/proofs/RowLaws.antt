-- Where the words of a row stand, and what an operation keeps of them.
use Rattle.std.proofs.Common.{◌≡◌, ℕ, ◌<◌, ◌==◌, Bool, true, false, List, length, get_or, set, if◌then◌else◌, Some, None, refl, sym, ap, ◌∙◌, subst, inl, inr, arith}
use Rattle.std.proofs.lemmas.Bool.{cases_eq}
use Rattle.std.proofs.lemmas.Bool.Decides.{nat_tests}
use Rattle.std.proofs.lemmas.List.{length-set, get_or-set_same, get_or-set_other, get_or_default}
use Rattle.std.proofs.lemmas.Option.{none-some, same_Some}
use Rattle.smc_shape.specs.Layout.{Layout, IsShape}
use Rattle.smc_shape.specs.Places.{InRange, at}
use Rattle.smc_shape.specs.declared.place.Place.{Place}
use Rattle.smc_shape.specs.declared.place.Place.TheVariants.{Epoch, Round, Section, Entry, Directory, Back, Forward, Field}
use Rattle.smc_shape.proofs.PlaceLaws.{at-lt, at-apart}
use Rattle.smc_core.specs.declared.op.Op.{Op}
use Rattle.smc_core.specs.declared.op.Op.TheVariants.{Load, Store, Exchange, MarkGone}
use Rattle.smc_core.specs.declared.word.Word.{Word}
use Rattle.smc_core.specs.declared.word.Word.TheVariants as word
use Rattle.smc_core.specs.declared.local.Opening.{Opening}
use Rattle.smc_core.specs.Machine.{IsOpening, IsOpened, first_word}
use Rattle.smc_core.specs.Row.{has_place, number_at, packed, place_of, put, shown, unpacked}
use Rattle.smc_automaton.specs.FitsWord.{FitsAt, FitsOp, FitsSeen, FitsWord}
use Rattle.smc_machine.specs.Rows.{IsRow, index_of}

-- a place that the region has is in range
pub has_place-true : (shape : Layout) (there : Place) → has_place shape there ≡ true → InRange shape there
has_place-true shape Epoch has = tt
has_place-true shape Round has = tt
has_place-true shape (Section pass) has = grind (arith, nat_tests)
has_place-true shape (Entry coll entry) has = grind (arith, nat_tests)
has_place-true shape (Directory coll slot) has = grind (arith, nat_tests)
has_place-true shape (Back coll slot) has = grind (arith, nat_tests)
has_place-true shape (Forward coll slot) has = grind (arith, nat_tests)
has_place-true shape (Field coll slot field) has = grind (arith, nat_tests)

-- a place that the region has is within its row
pub at-within : (shape : Layout) (row : List ℕ) (there : Place) → IsRow shape row → has_place shape there ≡ true → at shape there < length row
at-within shape row there is has = rw is.whole (at-lt shape there is.valid (has_place-true shape there has))

-- the number of a word that fits its place fits there
FitsAt-packed : (there : Place) (w : Word) → FitsWord there w → FitsAt there (packed w)
FitsAt-packed Epoch (word.Plain number) fits = fits
FitsAt-packed Epoch w fits = absurd fits
FitsAt-packed (Section pass) (word.Plain number) fits = fits
FitsAt-packed (Section pass) w fits = absurd fits
FitsAt-packed there w fits = tt

-- of two numbers that fit a place either fits
FitsAt-either : (there : Place) (test : Bool) (m n : ℕ) → FitsAt there m → FitsAt there n → FitsAt there (if test then m else n)
FitsAt-either there true m n fits other = fits
FitsAt-either there false m n fits other = other

-- what an operation leaves fits its place
FitsAt-put : (op : Op) (number : ℕ) → FitsOp op → FitsAt (place_of op) number → FitsAt (place_of op) (put op number)
FitsAt-put (Load there) number fits old = old
FitsAt-put (Store there w) number fits old = FitsAt-packed there w fits
FitsAt-put (Exchange there expect w) number fits old =
    FitsAt-either there (number == packed expect) (packed w) number (FitsAt-packed there w fits.1) old
FitsAt-put (MarkGone coll entry) number fits old = tt

module _ (shape : Layout) (row : List ℕ) (here : Place) (number : ℕ) (is : IsRow shape row) (has : has_place shape here ≡ true) (fits : FitsAt here number) where
  -- the number that is put stands at its place, and at every other one what stood there
  fits-set : (there : Place) → InRange shape there → FitsAt there (get_or (set row (at shape here) number) (at shape there) 0)
  fits-set there within = elim (cases_eq (at shape there) (at shape here)) [
    | inl same ↦
        let one : here ≡ there = at-apart shape here there is.valid (has_place-true shape here has) within (sym same) in
        subst (λ (p : Place). FitsAt p (get_or (set row (at shape here) number) (at shape p) 0)) one
        (rw (get_or-set_same row (at shape here) number 0 (at-within shape row here is has)) fits)
    | inr other ↦ rw (get_or-set_other row (at shape here) (at shape there) number 0 other) (is.fits there within)
  ]

  -- a number that fits its place is put there
  IsRow-set : IsRow shape (set row (at shape here) number)
  IsRow-set = record {
    valid = is.valid;
    whole = rw length-set is.whole;
    fits = fits-set;
  }

-- what an operation leaves of a row that runs is one
IsRow-put : (shape : Layout) (row : List ℕ) (op : Op) → IsRow shape row → has_place shape (place_of op) ≡ true → FitsOp op
    → IsRow shape (set row (at shape (place_of op)) (put op (get_or row (at shape (place_of op)) 0)))
IsRow-put shape row op is has fits =
    IsRow-set shape row (place_of op) (put op (get_or row (at shape (place_of op)) 0)) is has
    (FitsAt-put op (get_or row (at shape (place_of op)) 0) fits (is.fits (place_of op) (has_place-true shape (place_of op) has)))

-- where an index is found, the region has the place, and there
found-place : (has : Bool) (here index : ℕ) → (if has then Some here else None) ≡ Some index → (has ≡ true) × (here ≡ index)
found-place true here index found = (refl, same_Some here index found)
found-place false here index found = absurd (none-some index found)

-- what an operation leaves of a row that runs is one, by the index that it found and the number that it saw
pub IsRow-applied : (shape : Layout) (row : List ℕ) (op : Op) (index number new : ℕ) → IsRow shape row → FitsOp op
    → index_of shape (place_of op) ≡ Some index → index < length row → number ≡ get_or row index number → new ≡ put op number
    → IsRow shape (set row index new)
IsRow-applied shape row op index number new is fits found within seen made =
    let there = found-place (has_place shape (place_of op)) (at shape (place_of op)) index found in
    let old : get_or row index 0 ≡ number = get_or_default row index 0 number within ∙ sym seen in
    let put_there : IsRow shape (set row index (put op (get_or row index 0))) =
    subst (λ (i : ℕ). IsRow shape (set row i (put op (get_or row i 0)))) there.1 (IsRow-put shape row op is there.0 fits) in
    subst (λ (n : ℕ). IsRow shape (set row index n)) (ap (put op) old ∙ sym made) put_there

-- 0 fits every place
FitsAt-zero : (there : Place) → FitsAt there 0
FitsAt-zero Epoch = omega arith
FitsAt-zero (Section pass) = omega arith
FitsAt-zero there = tt

-- the number at any place fits it
FitsAt-found : (shape : Layout) (row : List ℕ) (there : Place) (has : Bool) → IsRow shape row → has_place shape there ≡ has
    → FitsAt there (if has then get_or row (at shape there) 0 else 0)
FitsAt-found shape row there true is has = is.fits there (has_place-true shape there has)
FitsAt-found shape row there false is has = FitsAt-zero there

pub FitsAt-number_at : (shape : Layout) (row : List ℕ) (there : Place) → IsRow shape row → FitsAt there (number_at shape row there)
FitsAt-number_at shape row there is = FitsAt-found shape row there (has_place shape there) is refl

-- what an operation is shown fits its place
pub FitsSeen-shown : (op : Op) (number : ℕ) → ((there : Place) → FitsAt there number → FitsWord there (unpacked there number))
    → FitsAt (place_of op) number → FitsSeen op (shown op number)
FitsSeen-shown (Load there) number fits old = fits there old
FitsSeen-shown (Store there w) number fits old = tt
FitsSeen-shown (Exchange there expect w) number fits old = fits there old
FitsSeen-shown (MarkGone coll entry) number fits old = fits (Entry coll entry) old

-- the row of a region without objects is one that runs
FitsAt-opened : (opening : Opening) (there : Place) → IsOpening opening → FitsAt there (packed (first_word opening there))
FitsAt-opened opening Epoch is = is.last
FitsAt-opened opening (Section pass) is = omega arith
FitsAt-opened opening there is = tt

pub IsRow-opened : (shape : Layout) (opening : Opening) (row : List ℕ) → IsShape shape → IsOpening opening → IsOpened shape opening row → IsRow shape row
IsRow-opened shape opening row valid is opened = record {
  valid = valid;
  whole = opened.long;
  fits = λ there within. subst (λ (n : ℕ). FitsAt there n) (sym (opened.words there within)) (FitsAt-opened opening there is);
}
