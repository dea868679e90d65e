-- As many slots are left for targets as sources have still to be moved, and each of them is ripe.
use Rattle.std.proofs.Common.{◌≡◌, ◌≢◌, ℕ, ◌+◌, ◌<◌, ◌≤◌, Bool, true, false, not, sym, ap, ◌∙◌, subst, arith}
use Rattle.std.proofs.lemmas.Bool.Decides.{nat_tests}
use Rattle.smc_shape.specs.declared.place.Place.TheVariants as place
use Rattle.smc_core.specs.declared.word.State.TheVariants as state
use Rattle.smc_core.specs.declared.word.Word.{Word}
use Rattle.smc_core.specs.Count.{is_valid}
use Rattle.smc_core.specs.Ripe.{is_ripe_slot}
use Rattle.smc_rules.specs.Memory.{Memory, put_word}
use Rattle.smc_rules.specs.Reads.{state_in, dir_in}
use Rattle.smc_census.specs.Counts.{count_between}
use Rattle.smc_census.proofs.CountLaws.{count_below-mono, count_between-first, count_between-not_first, count_between-order, count_between-same}

-- whether the slot's directory word says valid
abbrev pub is_valid_in : Memory → ℕ → ℕ → Bool
is_valid_in memory coll slot = is_valid (dir_in memory coll slot)

-- whether it says anything else
abbrev pub is_other_in : Memory → ℕ → ℕ → Bool
is_other_in memory coll slot = not (is_valid_in memory coll slot)

-- from this source on no more slots are valid than are not from this target on, below the kept ones; and these are ripe
pub record HasRoom (epoch : ℕ) (memory : Memory) (coll kept all source target : ℕ) : Type 0 where
  pub enough : count_between (is_valid_in memory coll) source all ≤ count_between (is_other_in memory coll) target kept
  pub ripe : (slot : ℕ) → target ≤ slot → slot < kept → is_valid_in memory coll slot ≡ false → is_ripe_slot epoch (dir_in memory coll slot) ≡ true

-- the slot's word is not that of another one
pub dir-other : (memory : Memory) (coll target : ℕ) (w : Word) (slot : ℕ) → slot ≢ target → dir_in (put_word memory (place.Directory coll target) w) coll slot ≡ dir_in memory coll slot
dir-other memory coll target w slot apart = grind (arith, nat_tests)

module _ (epoch : ℕ) (memory : Memory) (coll kept all : ℕ) where
  -- a source is passed
  pub room-source : (source target : ℕ) → HasRoom epoch memory coll kept all source target → HasRoom epoch memory coll kept all (source + 1) target
  room-source source target room = record {
    enough = omega (arith, room.enough, count_below-mono (is_valid_in memory coll) source (source + 1) (omega arith));
    ripe = room.ripe;
  }

  -- a target that is valid is passed
  pub room-target : (source target : ℕ) → is_valid_in memory coll target ≡ true → HasRoom epoch memory coll kept all source target → HasRoom epoch memory coll kept all source (target + 1)
  room-target source target valid room = record {
    enough = omega (arith, room.enough, count_between-not_first (is_other_in memory coll) target kept (ap not valid));
    ripe = λ slot low high other. room.ripe slot (omega arith) high other;
  }

  -- where a source is in hand, a target is left
  pub room-some : (source target : ℕ) → is_valid_in memory coll source ≡ true → source < all → HasRoom epoch memory coll kept all source target → target < kept
  room-some source target valid lt room = count_between-order (is_other_in memory coll) target kept (omega (arith, room.enough, count_between-first (is_valid_in memory coll) source all valid lt))

  -- a source that is valid gets a target that is not
  pub room-both : (source target : ℕ) → is_valid_in memory coll source ≡ true → source < all → is_valid_in memory coll target ≡ false → target < kept
      → HasRoom epoch memory coll kept all source target → HasRoom epoch memory coll kept all (source + 1) (target + 1)
  room-both source target valid lt other below room = record {
    enough = omega (arith, room.enough, count_between-first (is_valid_in memory coll) source all valid lt, count_between-first (is_other_in memory coll) target kept (ap not other) below);
    ripe = λ slot low high is. room.ripe slot (omega arith) high is;
  }

  -- what the word of a slot before them says does not matter
  pub room-put : (source target slot : ℕ) (w : Word) → slot < source → slot < target → HasRoom epoch memory coll kept all source target
      → HasRoom epoch (put_word memory (place.Directory coll slot) w) coll kept all source target
  room-put source target slot w before below room =
      let after : Memory = put_word memory (place.Directory coll slot) w in record {
        enough = omega (
          arith,
          room.enough,
          count_between-same (is_valid_in memory coll) (is_valid_in after coll) source all (λ n low high. sym (ap is_valid (dir-other memory coll slot w n (omega arith)))),
          count_between-same (is_other_in memory coll) (is_other_in after coll) target kept (λ n low high. sym (ap (λ d. not (is_valid d)) (dir-other memory coll slot w n (omega arith)))),
        );
        ripe = λ n low high other.
            let same : dir_in after coll n ≡ dir_in memory coll n = dir-other memory coll slot w n (omega arith) in
            ap (is_ripe_slot epoch) same ∙ room.ripe n low high (sym (ap is_valid same) ∙ other);
      }

-- each object without a mark in a slot above the kept ones is in this source or behind it
abbrev pub ArePassed : Memory → ℕ → ℕ → ℕ → Type 0
ArePassed memory coll kept source = (a e slot : ℕ) → state_in memory coll e ≡ state.Present a slot → kept ≤ slot → source ≤ slot

-- a source in which there is none is passed
pub passed-next : (memory : Memory) (coll kept source : ℕ) → ((a e : ℕ) → state_in memory coll e ≡ state.Present a source → ⊥)
    → ArePassed memory coll kept source → ArePassed memory coll kept (source + 1)
passed-next memory coll kept source none passed a e slot is above =
    let low : source ≤ slot = passed a e slot is above in
    let apart : slot ≢ source = λ same. none a e (subst (λ (k : ℕ). state_in memory coll e ≡ state.Present a k) same is) in
    omega arith
