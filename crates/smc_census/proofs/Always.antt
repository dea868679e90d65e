-- What counts come to in every state that lists of steps lead to.
use Rattle.std.proofs.Common.{◌*◌, ◌≡◌, ℕ, ◌%◌, length, le_antisymm, ap, ◌∙◌, arith}
use Rattle.std.proofs.lemmas.List.{get_or_past}
use Rattle.smc_shape.specs.Layout.{Layout, Collection, IsShape, no_coll, slots_of}
use Rattle.smc_shape.specs.declared.coll.TheConstants.{BLOCK_SLOTS}
use Rattle.smc_core.specs.declared.local.Opening.{Opening}
use Rattle.smc_core.specs.declared.phase.moves.CountPhase.TheVariants as walk
use Rattle.smc_core.specs.declared.phase.moves.Counting.{Counting}
use Rattle.smc_core.specs.declared.phase.moves.Counting.TheVariants.{Walks, Counted}
use Rattle.smc_core.specs.Count.{blocks_for, no_count}
use Rattle.smc_rules.specs.History.{HoldsAlways, history_state}
use Rattle.smc_rules.specs.State.{State}
use Rattle.smc_census.specs.Census.{is_home, homes, blocks_of, occupied}
use Rattle.smc_census.specs.Counts.{any_in_block}
use Rattle.smc_census.specs.Laws.{HomesAreObjects, BlocksAreEnough, PackedIsEnough, WalksCountAll, HasCountedAll, counting_after}
use Rattle.smc_census.proofs.BlockLaws.{blocks-hold, blocks-least, blocks-most, blocks-need, whole-blocks}
use Rattle.smc_census.proofs.CountLaws.{by_order, count_below-le}
use Rattle.smc_census.proofs.HomeCounts.{homes-objects, homes-valid}
use Rattle.smc_census.proofs.WalkSteps.{HasCounted, counts-whole}
use Rattle.smc_census.proofs.FitWorlds.{EverythingFits, everything_fits-then}

-- what follows of a state for every shape holds always
pub always_fits : (Rule : Layout → Opening → State → Type 0)
    → ((opening : Opening) (shape : Layout) (s : State) → IsShape shape → EverythingFits opening shape s → Rule shape opening s) → HoldsAlways Rule
always_fits Rule follows shape opening first m valid h = follows opening shape (history_state h) valid (everything_fits-then opening shape valid first m h).rule

-- the slots of a collection are whole blocks; past the last collection there are none
pub slots-whole : (shape : Layout) (coll : ℕ) → IsShape shape → slots_of shape coll % BLOCK_SLOTS ≡ 0
slots-whole shape coll valid = by_order coll (length shape.colls) (λ lt. (valid.coll coll lt).slots)
    (λ past. ap (λ (c : Collection). c.slots % BLOCK_SLOTS) (get_or_past shape.colls coll no_coll past))

pub homes_objects : (opening : Opening) (shape : Layout) (s : State) → EverythingFits opening shape s → HomesAreObjects shape opening s
homes_objects opening shape s h coll = homes-objects opening shape s h.rule h.fits.of_its_coll coll

pub blocks_enough : (opening : Opening) (shape : Layout) (s : State) → IsShape shape → EverythingFits opening shape s → BlocksAreEnough shape opening s
blocks_enough opening shape s valid h = record {
  enough = λ coll. omega (
    arith,
    homes_objects opening shape s h coll,
    whole-blocks (is_home s.memory coll) (slots_of shape coll) (slots-whole shape coll valid),
    blocks-hold (is_home s.memory coll) (blocks_of shape coll),
  );
  needed = λ coll. omega (
    arith,
    homes_objects opening shape s h coll,
    whole-blocks (is_home s.memory coll) (slots_of shape coll) (slots-whole shape coll valid),
    blocks-need (is_home s.memory coll) (blocks_of shape coll),
  );
  slots = λ coll. omega (arith, homes_objects opening shape s h coll, count_below-le (is_home s.memory coll) (slots_of shape coll));
  blocks = λ coll. count_below-le (any_in_block (is_home s.memory coll)) (blocks_of shape coll);
}

-- where the objects are packed, the blocks that hold one are as many as they need
pub packed_enough : PackedIsEnough
packed_enough shape memory coll valid packed = le_antisymm
    (blocks-most (is_home memory coll) (slots_of shape coll) (blocks_for (homes shape memory coll)) (slots-whole shape coll valid) packed)
    (blocks-least (is_home memory coll) (slots_of shape coll) (slots-whole shape coll valid))

pub walks_count : (opening : Opening) (shape : Layout) (s : State) → IsShape shape → EverythingFits opening shape s → WalksCountAll shape opening s
walks_count opening shape s valid h coll is_coll none =
    go (counting_after shape s.memory (3 * slots_of shape coll) (Walks (walk.Directory coll 0 no_count)))
    (counts-whole shape s.memory coll (slots-whole shape coll valid) (valid.coll coll is_coll).some_slots (homes-valid opening shape s h.rule coll (λ slot lt has. none slot lt)))
  where
    go : (at : Counting) → HasCounted shape s.memory coll at → HasCountedAll shape s coll at
    go (Walks next) c = absurd c
    go (Counted own count) c = (
      c.0,
      c.1 ∙ (ap (homes shape s.memory) c.0 ∙ homes_objects opening shape s h coll),
      c.2 ∙ ap (occupied shape s.memory) c.0,
    )
