-- What the counts of slots and blocks come to.
use Rattle.std.specs.Prelude.{◌≡◌, ℕ, zero, suc, ◌*◌, ◌<◌, ◌≤◌, length}
use Rattle.smc_shape.specs.Layout.{Layout, IsShape, slots_of}
use Rattle.smc_shape.specs.declared.coll.TheConstants.{BLOCK_SLOTS}
use Rattle.smc_model.specs.World.{count_of}
use Rattle.smc_core.specs.declared.local.Opening.{Opening}
use Rattle.smc_core.specs.declared.phase.moves.CountPhase.TheVariants as walk
use Rattle.smc_core.specs.declared.phase.moves.Counting.{Counting}
use Rattle.smc_core.specs.declared.phase.moves.Counting.TheVariants.{Walks, Counted}
use Rattle.smc_core.specs.Count.{blocks_for, no_count, count_offer, counting}
use Rattle.smc_rules.specs.Memory.{Memory, seen}
use Rattle.smc_rules.specs.Reads.{IsIncoming}
use Rattle.smc_rules.specs.State.{State}
use Rattle.smc_census.specs.Census.{ArePacked, homes, occupied, blocks_of}

-- in each collection as many slots have a present object as objects are present in the world
abbrev pub HomesAreObjects : Layout → Opening → State → Type 0
HomesAreObjects shape opening s = (coll : ℕ) → homes shape s.memory coll ≡ count_of s.world coll

-- the blocks that hold a present object are enough for all of them
pub record BlocksAreEnough (shape : Layout) (opening : Opening) (s : State) : Type 0 where
  -- no more objects lie in a block than it has slots
  pub enough : (coll : ℕ) → count_of s.world coll ≤ occupied shape s.memory coll * BLOCK_SLOTS
  -- each of these blocks holds one
  pub needed : (coll : ℕ) → occupied shape s.memory coll ≤ count_of s.world coll
  -- there are no more objects than slots, and no more of these blocks than blocks
  pub slots : (coll : ℕ) → count_of s.world coll ≤ slots_of shape coll
  pub blocks : (coll : ℕ) → occupied shape s.memory coll ≤ blocks_of shape coll

-- where the present objects are packed, no more blocks hold one than so many objects need
abbrev pub PackedIsEnough : Type 0
PackedIsEnough = (shape : Layout) (memory : Memory) (coll : ℕ) → IsShape shape → ArePacked shape memory coll
    → occupied shape memory coll ≡ blocks_for (homes shape memory coll)

-- what a counting walk comes to in so many steps, each of which is shown what this memory says
abbrev pub counting_after : Layout → Memory → ℕ → Counting → Counting
counting_after shape memory zero at = at
counting_after shape memory (suc steps) (Walks next) = counting_after shape memory steps (counting shape next (seen (count_offer next).op memory))
counting_after shape memory (suc steps) (Counted coll count) = Counted coll count

-- the walk has ended, and has counted the present objects and the blocks that hold one
abbrev pub HasCountedAll : Layout → State → ℕ → Counting → Type 0
HasCountedAll shape s coll (Walks next) = ⊥
HasCountedAll shape s coll (Counted own count) = (own ≡ coll) × (count.objects ≡ count_of s.world coll) × (count.blocks ≡ occupied shape s.memory coll)

-- so it has after three steps for each slot, where no slot of the collection is a target
abbrev pub WalksCountAll : Layout → Opening → State → Type 0
WalksCountAll shape opening s = (coll : ℕ) → coll < length shape.colls → ((slot : ℕ) → slot < slots_of shape coll → ¬ (IsIncoming s.memory coll slot))
    → HasCountedAll shape s coll (counting_after shape s.memory (3 * slots_of shape coll) (Walks (walk.Directory coll 0 no_count)))
