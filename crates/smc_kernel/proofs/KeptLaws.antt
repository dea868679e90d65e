-- The rows of a batch that a plan keeps.
use Rattle.std.proofs.Common.{◌≡◌, ℕ, ◌≤◌, Bool, true, false, cond, List, [], ◌∷◌, ◌++◌, length, map, filter, get_or, refl, sym, ap, ◌∙◌, arith}
use Rattle.std.specs.List.{All, range_with_len}
use Rattle.std.proofs.lemmas.List.Elements.{filter-append}
use Rattle.std.proofs.lemmas.List.FromFn.{fill_by_all, length-range_with_len}
use Rattle.smc_plan.specs.Planned.{Planned}
use Rattle.smc_meaning.specs.Kept.{is_kept, kept_rows}
use Rattle.smc_kernel.specs.Batches.{ArePlaces, row_at, rows_at}
use Rattle.smc_kernel.specs.declared.batch.TheConstants.{ROOM}
use Rattle.smc_kernel.proofs.PickLaws.{kept-below, kept-few, length-rows_at}

-- what is kept of all that is made is made of what is kept
map-filter : {X Y : Type 0} (f : X → Y) (p : Y → Bool) (xs : List X) → map f (filter (λ x. p (f x)) xs) ≡ filter p (map f xs)
map-filter f p [] = refl
map-filter f p (x ∷ xs) = elim (p (f x)) as (λ t. map f (cond t (x ∷ filter (λ y. p (f y)) xs) (filter (λ y. p (f y)) xs)) ≡ cond t (f x ∷ filter p (map f xs)) (filter p (map f xs))) [
  | true ↦ ap (λ rest. f x ∷ rest) (map-filter f p xs)
  | false ↦ map-filter f p xs
]

-- the rows at all places are all rows
all-places : (rows : List (List ℕ)) → rows_at rows (range_with_len 0 (length rows)) ≡ rows
all-places rows = sym (fill_by_all (row_at rows) rows (length rows) [] refl (λ k low. refl))

-- the rows at the places that are kept
pub rows_at-kept : (p : List ℕ → Bool) (rows : List (List ℕ)) (places : List ℕ) → places ≡ filter (λ place. p (row_at rows place)) (range_with_len 0 (length rows))
    → rows_at rows places ≡ filter p rows
rows_at-kept p rows places is = ap (rows_at rows) is ∙ map-filter (row_at rows) p (range_with_len 0 (length rows)) ∙ ap (filter p) (all-places rows)

-- a plan keeps of rows and more what it keeps of both
pub kept-both : (plan : Planned) (rows more : List (List ℕ)) → kept_rows plan (rows ++ more) ≡ kept_rows plan rows ++ kept_rows plan more
kept-both plan rows more = filter-append (is_kept plan) rows more

-- places that are kept are places
pub are-places : (p : ℕ → Bool) (rows : List (List ℕ)) (places : List ℕ) → places ≡ filter p (range_with_len 0 (length rows)) → length places ≤ ROOM → ArePlaces rows places
are-places p rows places is few = record {
  within = kept-below p (length rows) (length rows) places (omega arith) is;
  few = few;
}

-- and no more than rows
pub places-few : (p : ℕ → Bool) (rows : List (List ℕ)) (places : List ℕ) → places ≡ filter p (range_with_len 0 (length rows)) → length places ≤ length rows
places-few p rows places is = omega (arith, ap (λ (xs : List ℕ). length xs) is, kept-few p (range_with_len 0 (length rows)), length-range_with_len 0 (length rows))
