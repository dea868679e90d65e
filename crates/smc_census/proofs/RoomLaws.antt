-- Two walks side by side: over sources that are in use, and over targets that are free, of which there are enough.
use Rattle.std.proofs.Common.{◌≡◌, ℕ, ◌+◌, ◌<◌, ◌≤◌, Bool, true, false, not, arith}
use Rattle.smc_census.specs.Counts.{count_below, count_between}
use Rattle.smc_census.proofs.CountLaws.{count_below-both, count_below-mono, count_between-below, count_between-first, count_between-not_first, count_between-order, count_between-same, count_between-some}

-- from this target on, and below those that are kept, at least as many numbers are free as numbers are in use from this
-- source on, of all
abbrev pub HasRoom : (ℕ → Bool) → (ℕ → Bool) → ℕ → ℕ → ℕ → ℕ → Type 0
HasRoom used free source all target kept = count_between used source all ≤ count_between free target kept

-- where no more numbers are in use than are kept, there is room for those behind in those that are kept
pub room-first : (used : ℕ → Bool) (all kept : ℕ) → kept ≤ all → count_below used all ≤ kept → HasRoom used (λ n. not (used n)) kept all 0 kept
room-first used all kept le few = omega (arith, count_below-both used kept, count_below-mono used kept all le, count_between-below (λ n. not (used n)) kept)

module _ (used free : ℕ → Bool) (source all target kept : ℕ) (room : HasRoom used free source all target kept) where
  -- a source that is not in use is passed
  pub room-pass_source : used source ≡ false → HasRoom used free (source + 1) all target kept
  room-pass_source lacks = omega (arith, room, count_between-not_first used source all lacks)

  -- a target that is not free is passed
  pub room-pass_target : free target ≡ false → HasRoom used free source all (target + 1) kept
  room-pass_target lacks = omega (arith, room, count_between-not_first free target kept lacks)

  -- a source in use gets a free target
  pub room-take : used source ≡ true → source < all → free target ≡ true → target < kept → HasRoom used free (source + 1) all (target + 1) kept
  room-take has lt is_free below = omega (arith, room, count_between-first used source all has lt, count_between-first free target kept is_free below)

  -- there is one for it
  pub room-found : used source ≡ true → source < all → (n : ℕ) × (target ≤ n) × (n < kept) × (free n ≡ true)
  room-found has lt = count_between-some free target kept (omega (arith, room, count_between-first used source all has lt))

  -- so no target is the last while a source is in use
  pub room-target : used source ≡ true → source < all → target < kept
  room-target has lt = count_between-order free target kept (omega (arith, room, count_between-first used source all has lt))

  -- only what is ahead matters
  pub room-same : (used' free' : ℕ → Bool) → ((n : ℕ) → source ≤ n → n < all → used n ≡ used' n) → ((n : ℕ) → target ≤ n → n < kept → free n ≡ free' n)
      → HasRoom used' free' source all target kept
  room-same used' free' same same' = omega (arith, room, count_between-same used used' source all same, count_between-same free free' target kept same')
