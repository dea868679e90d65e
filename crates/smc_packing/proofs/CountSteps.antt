-- What a counting walk does with a slot, over a memory in which each slot with a present object is valid.
use Rattle.std.proofs.Common.{◌≡◌, ℕ, ◌+◌, ◌<◌, true, Option, Some, None, refl, ap, ◌∙◌, subst, arith}
use Rattle.std.specs.Prelude.{nat_lt}
use Rattle.std.proofs.lemmas.Bool.{cond_both}
use Rattle.std.proofs.lemmas.Bool.Decides.{nat_tests}
use Rattle.smc_words.specs.declared.number.Number.{Number}
use Rattle.smc_shape.specs.Layout.{Layout, slots_of}
use Rattle.smc_shape.specs.declared.place.Place.TheVariants as place
use Rattle.smc_core.specs.declared.phase.moves.Count.{Count}
use Rattle.smc_core.specs.declared.phase.moves.CountPhase.TheVariants as walk
use Rattle.smc_core.specs.declared.phase.moves.Counting.{Counting}
use Rattle.smc_core.specs.declared.phase.moves.Counting.TheVariants.{Walks, Counted}
use Rattle.smc_core.specs.Count.{count_next, count_owner, counting, is_valid, with_object}
use Rattle.smc_core.specs.Words.{has_object_at}
use Rattle.smc_rules.specs.Memory.{Memory}
use Rattle.smc_rules.specs.Reads.{state_for, dir_in, back_in}
use Rattle.smc_census.specs.Census.{is_home, owner_is_at}
use Rattle.smc_census.proofs.CountLaws.{by_test}
use Rattle.smc_census.proofs.WalkLaws.{CountsBelow, counts-pass, counts-object}
use Rattle.smc_packing.proofs.Rooms.{is_valid_in}

-- each slot of the collection with a present object is valid
abbrev pub HomesAreValid : Layout → Memory → ℕ → Type 0
HomesAreValid shape memory coll = (slot : ℕ) → slot < slots_of shape coll → is_home memory coll slot ≡ true → is_valid_in memory coll slot ≡ true

module _ (shape : Layout) (memory : Memory) (coll : ℕ) (homes : HomesAreValid shape memory coll) (Holds : Counting → Type 0)
    (walks : (slot : ℕ) (count : Count) → slot < slots_of shape coll → CountsBelow (is_home memory coll) slot count → Holds (Walks (walk.Directory coll slot count)))
    (ends : (count : Count) → CountsBelow (is_home memory coll) (slots_of shape coll) count → Holds (Counted coll count)) where
  -- the walk goes on with the next slot, or has passed all
  passes : (slot : ℕ) (count : Count) → slot < slots_of shape coll → CountsBelow (is_home memory coll) (slot + 1) count → Holds (count_next shape coll slot count)
  passes slot count lt counts = cond_both (nat_lt (slot + 1) (slots_of shape coll)) (Walks (walk.Directory coll (slot + 1) count)) (Counted coll count) Holds
      (λ t. walks (slot + 1) count (grind (arith, nat_tests, t)) counts)
      (λ n. ends count (subst (λ (k : ℕ). CountsBelow (is_home memory coll) k count) (let end : slot + 1 ≡ slots_of shape coll = grind (arith, nat_tests, n, lt) in end) counts))

  -- a slot that is not valid has no object
  pub steps-directory : (slot : ℕ) (count : Count) → slot < slots_of shape coll → CountsBelow (is_home memory coll) slot count → Holds (Walks (walk.Back coll slot count))
      → Holds (counting shape (walk.Directory coll slot count) (memory (place.Directory coll slot)))
  steps-directory slot count lt counts back = cond_both (is_valid (dir_in memory coll slot)) (Walks (walk.Back coll slot count)) (count_next shape coll slot count) Holds
      (λ t. back)
      (λ n. passes slot count lt (counts-pass (is_home memory coll) slot count (by_test (is_home memory coll slot) (λ home. absurd (let valid = homes slot lt home in cc)) (λ none. none)) counts))

  -- nor has one without an owner
  pub steps-back : (slot : ℕ) (count : Count) → slot < slots_of shape coll → CountsBelow (is_home memory coll) slot count
      → ((number : Number) → back_in memory coll slot ≡ Some number → Holds (Walks (walk.Entry coll slot count number)))
      → Holds (counting shape (walk.Back coll slot count) (memory (place.Back coll slot)))
  steps-back slot count lt counts entry = go (back_in memory coll slot) refl
    where
      go : (back : Option Number) → back_in memory coll slot ≡ back → Holds (count_owner shape coll slot count back)
      go None is = passes slot count lt (counts-pass (is_home memory coll) slot count (ap (owner_is_at memory slot) is) counts)
      go (Some number) is = entry number is

  -- the owner's entry says whether it has one
  pub steps-entry : (slot : ℕ) (count : Count) (number : Number) → slot < slots_of shape coll → CountsBelow (is_home memory coll) slot count → back_in memory coll slot ≡ Some number
      → Holds (counting shape (walk.Entry coll slot count number) (memory (place.Entry number.coll number.entry)))
  steps-entry slot count number lt counts back =
      let its : is_home memory coll slot ≡ has_object_at number.incarnation slot (state_for memory number) = ap (owner_is_at memory slot) back in
      cond_both (has_object_at number.incarnation slot (state_for memory number)) (with_object slot count) count (λ c. Holds (count_next shape coll slot c))
      (λ t. passes slot (with_object slot count) lt (counts-object (is_home memory coll) slot count (its ∙ t) counts))
      (λ n. passes slot count lt (counts-pass (is_home memory coll) slot count (its ∙ n) counts))
