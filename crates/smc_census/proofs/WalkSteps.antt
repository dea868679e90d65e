-- What a counting walk knows at each of its steps, in a memory that stays as it is.
use Rattle.std.proofs.Common.{◌≡◌, ℕ, zero, suc, ◌+◌, ◌-◌, ◌*◌, ◌%◌, ◌<◌, ◌≤◌, nat_lt, if◌then◌else◌, Bool, true, false, Option, Some, None, refl, sym, ap, ◌∙◌, subst, arith}
use Rattle.std.proofs.lemmas.Bool.Decides.{nat_tests}
use Rattle.smc_words.specs.declared.dir.Dir.TheVariants as dir
use Rattle.smc_words.specs.declared.number.Number.{Number}
use Rattle.smc_shape.specs.Layout.{Layout, slots_of}
use Rattle.smc_shape.specs.declared.coll.TheConstants.{BLOCK_SLOTS}
use Rattle.smc_shape.specs.declared.place.Place.TheVariants as place
use Rattle.smc_core.specs.declared.phase.moves.Count.{Count}
use Rattle.smc_core.specs.declared.phase.moves.CountPhase.{CountPhase}
use Rattle.smc_core.specs.declared.phase.moves.CountPhase.TheVariants as walk
use Rattle.smc_core.specs.declared.phase.moves.Counting.{Counting}
use Rattle.smc_core.specs.declared.phase.moves.Counting.TheVariants.{Walks, Counted}
use Rattle.smc_core.specs.declared.word.Word.{Word}
use Rattle.smc_core.specs.Count.{no_count, with_object, is_valid, count_offer, count_next, count_owner, counting}
use Rattle.smc_core.specs.Words.{has_object_at, state_of, dir_of, back_of}
use Rattle.smc_rules.specs.Memory.{Memory, seen}
use Rattle.smc_rules.specs.Reads.{dir_in, back_in, state_for}
use Rattle.smc_census.specs.Census.{owner_is_at, is_home, homes, occupied}
use Rattle.smc_census.specs.Laws.{counting_after}
use Rattle.smc_census.proofs.CountLaws.{by_test}
use Rattle.smc_census.proofs.WalkLaws.{CountsBelow, counts-none, counts-pass, counts-object, counts-all}

-- each slot of the collection with a present object says that an object is in it
abbrev pub HomesAreValid : Memory → ℕ → ℕ → Type 0
HomesAreValid memory coll slots = (slot : ℕ) → slot < slots → is_home memory coll slot ≡ true → dir_in memory coll slot ≡ dir.Valid

-- what the walk has passed is counted; at the entry of an owner, the slot names it
abbrev pub CountsAt : Layout → Memory → CountPhase → Type 0
CountsAt shape memory (walk.Directory coll slot count) = (slot < slots_of shape coll) × CountsBelow (is_home memory coll) slot count
CountsAt shape memory (walk.Back coll slot count) = (slot < slots_of shape coll) × CountsBelow (is_home memory coll) slot count
CountsAt shape memory (walk.Entry coll slot count number) = (slot < slots_of shape coll) × CountsBelow (is_home memory coll) slot count × (back_in memory coll slot ≡ Some number)

-- the collection that is counted
abbrev pub counted_coll : CountPhase → ℕ
counted_coll (walk.Directory coll slot count) = coll
counted_coll (walk.Back coll slot count) = coll
counted_coll (walk.Entry coll slot count number) = coll

-- a walk over this collection knows that, and when all is passed, all is counted
abbrev pub CountsIn : Layout → Memory → ℕ → Counting → Type 0
CountsIn shape memory coll (Walks next) = (counted_coll next ≡ coll) × CountsAt shape memory next
CountsIn shape memory coll (Counted own count) = (own ≡ coll) × (count.objects ≡ homes shape memory own) × (count.blocks ≡ occupied shape memory own)

module _ (shape : Layout) (memory : Memory) where
  module _ (coll : ℕ) (whole : slots_of shape coll % BLOCK_SLOTS ≡ 0) (valid : HomesAreValid memory coll (slots_of shape coll)) where
    -- the slot is passed
    counts-next : (slot : ℕ) (count : Count) → slot < slots_of shape coll → CountsBelow (is_home memory coll) (slot + 1) count → CountsIn shape memory coll (count_next shape coll slot count)
    counts-next slot count lt c = go (nat_lt (slot + 1) (slots_of shape coll)) refl
      where
        go : (b : Bool) → nat_lt (slot + 1) (slots_of shape coll) ≡ b → CountsIn shape memory coll (if b then Walks (walk.Directory coll (slot + 1) count) else Counted coll count)
        go true is = (refl, (grind (arith, nat_tests, is), c))
        go false is =
            let last : slot + 1 ≡ slots_of shape coll = grind (arith, nat_tests, is, lt) in
            let all = counts-all (is_home memory coll) (slots_of shape coll) count whole (subst (λ (n : ℕ). CountsBelow (is_home memory coll) n count) last c) in
            (refl, all.0, all.1)

    passes : (slot : ℕ) (count : Count) → slot < slots_of shape coll → is_home memory coll slot ≡ false → CountsBelow (is_home memory coll) slot count → CountsIn shape memory coll (count_next shape coll slot count)
    passes slot count lt lacks c = counts-next slot count lt (counts-pass (is_home memory coll) slot count lacks c)

    directory-step : (slot : ℕ) (count : Count) → slot < slots_of shape coll → CountsBelow (is_home memory coll) slot count
        → CountsIn shape memory coll (counting shape (walk.Directory coll slot count) (memory (place.Directory coll slot)))
    directory-step slot count lt c = go (is_valid (dir_in memory coll slot)) refl
      where
        go : (b : Bool) → is_valid (dir_in memory coll slot) ≡ b → CountsIn shape memory coll (if b then Walks (walk.Back coll slot count) else count_next shape coll slot count)
        go true is = (refl, (lt, c))
        go false is = passes slot count lt (by_test (is_home memory coll slot)
            (λ has. let not_valid : is_valid dir.Valid ≡ false = sym (ap is_valid (valid slot lt has)) ∙ is in absurd (cc)) (λ lacks. lacks)) c

    back-step : (slot : ℕ) (count : Count) → slot < slots_of shape coll → CountsBelow (is_home memory coll) slot count
        → CountsIn shape memory coll (counting shape (walk.Back coll slot count) (memory (place.Back coll slot)))
    back-step slot count lt c = go (back_in memory coll slot) refl
      where
        go : (back : Option Number) → back_in memory coll slot ≡ back → CountsIn shape memory coll (count_owner shape coll slot count back)
        go None at = passes slot count lt (ap (owner_is_at memory slot) at) c
        go (Some number) at = (refl, (lt, c, at))

    entry-step : (slot : ℕ) (count : Count) (number : Number) → slot < slots_of shape coll → CountsBelow (is_home memory coll) slot count → back_in memory coll slot ≡ Some number
        → CountsIn shape memory coll (counting shape (walk.Entry coll slot count number) (memory (place.Entry number.coll number.entry)))
    entry-step slot count number lt c at = go (has_object_at number.incarnation slot (state_for memory number)) refl
      where
        go : (b : Bool) → has_object_at number.incarnation slot (state_for memory number) ≡ b → CountsIn shape memory coll (count_next shape coll slot (if b then with_object slot count else count))
        go true is = counts-next slot (with_object slot count) lt (counts-object (is_home memory coll) slot count (ap (owner_is_at memory slot) at ∙ is) c)
        go false is = passes slot count lt (ap (owner_is_at memory slot) at ∙ is) c

  -- a counting walk begins
  pub counts-first : (coll : ℕ) → 0 < slots_of shape coll → CountsAt shape memory (walk.Directory coll 0 no_count)
  counts-first coll some = (some, counts-none (is_home memory coll))

  -- each of its steps
  pub counts-step : (next : CountPhase) → slots_of shape (counted_coll next) % BLOCK_SLOTS ≡ 0 → HomesAreValid memory (counted_coll next) (slots_of shape (counted_coll next))
      → CountsAt shape memory next → CountsIn shape memory (counted_coll next) (counting shape next (seen (count_offer next).op memory))
  counts-step (walk.Directory coll slot count) whole valid at = directory-step coll whole valid slot count at.0 at.1
  counts-step (walk.Back coll slot count) whole valid at = back-step coll whole valid slot count at.0 at.1
  counts-step (walk.Entry coll slot count number) whole valid at = entry-step coll whole valid slot count number at.0 at.1 at.2

  -- the steps that are left to a walk: three for each slot that is not passed
  left : Counting → ℕ
  left (Walks (walk.Directory coll slot count)) = 3 * (slots_of shape coll - slot)
  left (Walks (walk.Back coll slot count)) = 3 * (slots_of shape coll - slot) - 1
  left (Walks (walk.Entry coll slot count number)) = 3 * (slots_of shape coll - slot) - 2
  left (Counted coll count) = 0

  left-next : (coll slot : ℕ) (count : Count) → slot < slots_of shape coll → left (count_next shape coll slot count) + 3 ≤ 3 * (slots_of shape coll - slot)
  unfolding left
  left-next coll slot count lt = go (nat_lt (slot + 1) (slots_of shape coll)) refl
    where
      go : (b : Bool) → nat_lt (slot + 1) (slots_of shape coll) ≡ b → left (if b then Walks (walk.Directory coll (slot + 1) count) else Counted coll count) + 3 ≤ 3 * (slots_of shape coll - slot)
      go true is = omega (arith, lt)
      go false is = omega (arith, lt)

  -- a step leaves one less
  left-step : (next : CountPhase) (w : Word) → CountsAt shape memory next → left (counting shape next w) < left (Walks next)
  unfolding left
  left-step (walk.Directory coll slot count) w at = go (is_valid (dir_of w))
    where
      go : (b : Bool) → left (if b then Walks (walk.Back coll slot count) else count_next shape coll slot count) < 3 * (slots_of shape coll - slot)
      go true = omega (arith, at.0)
      go false = omega (arith, left-next coll slot count at.0)
  left-step (walk.Back coll slot count) w at = go (back_of w)
    where
      go : (back : Option Number) → left (count_owner shape coll slot count back) < 3 * (slots_of shape coll - slot) - 1
      go None = omega (arith, left-next coll slot count at.0)
      go (Some number) = omega (arith, at.0)
  left-step (walk.Entry coll slot count number) w at =
      omega (arith, left-next coll slot (if has_object_at number.incarnation slot (state_of w) then with_object slot count else count) at.0)

  -- one that has steps left walks
  some-left : (next : CountPhase) → CountsAt shape memory next → 0 < left (Walks next)
  some-left next at = omega (arith, left-step next (memory place.Epoch) at)

  -- the walk has ended, and has counted all
  abbrev pub HasCounted : ℕ → Counting → Type 0
  HasCounted coll (Walks next) = ⊥
  HasCounted coll (Counted own count) = (own ≡ coll) × (count.objects ≡ homes shape memory own) × (count.blocks ≡ occupied shape memory own)

  -- so it is after as many steps as are left
  counts-after : (coll steps : ℕ) (at : Counting) → slots_of shape coll % BLOCK_SLOTS ≡ 0 → HomesAreValid memory coll (slots_of shape coll)
      → left at ≤ steps → CountsIn shape memory coll at → HasCounted coll (counting_after shape memory steps at)
  counts-after coll zero (Counted own count) whole valid le c = c
  counts-after coll zero (Walks next) whole valid le c = absurd (omega (arith, some-left next c.1))
  counts-after coll (suc steps) (Counted own count) whole valid le c = c
  counts-after coll (suc steps) (Walks next) whole valid le c =
      counts-after coll steps (counting shape next (seen (count_offer next).op memory)) whole valid (omega (arith, left-step next (seen (count_offer next).op memory) c.1))
      (subst (λ (k : ℕ). CountsIn shape memory k (counting shape next (seen (count_offer next).op memory))) c.0
      (counts-step next (ap (λ (k : ℕ). slots_of shape k % BLOCK_SLOTS) c.0 ∙ whole)
      (subst (λ (k : ℕ). HomesAreValid memory k (slots_of shape k)) (sym c.0) valid) c.1))

  -- a whole walk
  pub counts-whole : (coll : ℕ) → slots_of shape coll % BLOCK_SLOTS ≡ 0 → 0 < slots_of shape coll → HomesAreValid memory coll (slots_of shape coll)
      → HasCounted coll (counting_after shape memory (3 * slots_of shape coll) (Walks (walk.Directory coll 0 no_count)))
  unfolding left
  counts-whole coll whole some valid = counts-after coll (3 * slots_of shape coll) (Walks (walk.Directory coll 0 no_count)) whole valid (omega arith) (refl, counts-first coll some)
