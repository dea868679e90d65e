-- Two memories that have their present objects in the same slots have as many of them, in as many blocks.
use Rattle.std.proofs.Common.{◌≡◌, ℕ, ◌+◌, ◌%◌, ◌<◌, Option, Some, None, List, refl, sym, ap, ◌∙◌, subst, arith}
use Rattle.std.specs.Prelude.{nat_lt}
use Rattle.smc_words.specs.declared.number.Number.{Number}
use Rattle.smc_shape.specs.Layout.{Layout, IsShape, slots_of}
use Rattle.smc_shape.specs.Places.{InRange}
use Rattle.smc_shape.specs.declared.coll.TheConstants.{BLOCK_SLOTS}
use Rattle.smc_shape.specs.declared.place.Place.{Place}
use Rattle.smc_shape.specs.declared.place.Place.TheVariants as place
use Rattle.smc_core.specs.declared.local.Local.{Local}
use Rattle.smc_core.specs.declared.local.Opening.{Opening}
use Rattle.smc_core.specs.declared.word.Word.{Word}
use Rattle.smc_core.specs.Row.{unpacked}
use Rattle.smc_core.specs.Words.{back_of, state_of, has_object_at}
use Rattle.smc_rules.specs.Memory.{Memory}
use Rattle.smc_rules.specs.Mirror.{anywhere}
use Rattle.smc_rules.specs.Reads.{back_in}
use Rattle.smc_rules.specs.State as S
use Rattle.smc_rules.specs.State.{Backs}
use Rattle.smc_rules.proofs.ReadBack.{unpacked-packed}
use Rattle.smc_aside.proofs.Stillness.{Still}
use Rattle.smc_inv_range.proofs.Memories as ranges
use Rattle.smc_laws.proofs.Everything.{Everything}
use Rattle.smc_census.specs.Census.{owner_is_at, is_home, homes, occupied, blocks_of}
use Rattle.smc_census.specs.Counts.{any_in_block, block_start}
use Rattle.smc_census.proofs.CountLaws.{count_below-same, count_between-same}
use Rattle.smc_census.proofs.Always.{slots-whole}

-- in both memories a slot of the collection has a present object, or in neither
abbrev pub SameHomes : Layout → ℕ → Memory → Memory → Type 0
SameHomes shape coll before after = (slot : ℕ) → slot < slots_of shape coll → is_home after coll slot ≡ is_home before coll slot

module _ (shape : Layout) (valid : IsShape shape) (coll : ℕ) (before after : Memory) (same : SameHomes shape coll before after) where
  pub same-homes : homes shape after coll ≡ homes shape before coll
  same-homes = count_below-same (is_home after coll) (is_home before coll) (slots_of shape coll) same

  pub same-occupied : occupied shape after coll ≡ occupied shape before coll
  same-occupied = count_below-same (any_in_block (is_home after coll)) (any_in_block (is_home before coll)) (blocks_of shape coll) (λ block lt.
      ap (nat_lt 0) (count_between-same (is_home after coll) (is_home before coll) (block_start block) (block_start (block + 1))
      (λ n low high. same n (let whole : slots_of shape coll % BLOCK_SLOTS ≡ 0 = slots-whole shape coll valid in omega (arith, lt, high, whole)))))

-- a memory in which such words stand still has them in the same slots
pub still-homes : (shape : Layout) (coll : ℕ) (before after : Memory) → Still before after → SameHomes shape coll before after
still-homes shape coll before after still slot lt = go (back_in before coll slot) (back_in after coll slot) (ap back_of (still (place.Back coll slot) refl))
  where
    go : (b a : Option Number) → a ≡ b → owner_is_at after slot a ≡ owner_is_at before slot b
    go b a is = subst (λ (x : Option Number). owner_is_at after slot x ≡ owner_is_at before slot b) (sym is) (its b)
      where
        its : (b : Option Number) → owner_is_at after slot b ≡ owner_is_at before slot b
        its None = refl
        its (Some number) = ap (λ (w : Word). has_object_at number.incarnation slot (state_of w)) (still (place.Entry number.coll number.entry) refl)

module _ (shape : Layout) (row : List ℕ) (locals : List Local) (s t : S.State) (b : Backs shape anywhere row locals s) (c : Backs shape anywhere row locals t) where
  -- two states behind one row have the same words
  pub one-word : (there : Place) → InRange shape there → t.memory there ≡ s.memory there
  one-word there within =
      sym (unpacked-packed there (t.memory there) (c.mirrors.suits there refl within))
      ∙ (ap (unpacked there) (sym (c.mirrors.words there refl within) ∙ b.mirrors.words there refl within)
      ∙ unpacked-packed there (s.memory there) (b.mirrors.suits there refl within))

  -- and so their present objects in the same slots
  pub one-homes : (opening : Opening) (coll : ℕ) → Everything opening shape s → SameHomes shape coll s.memory t.memory
  one-homes opening coll e slot lt = go (back_in s.memory coll slot) (back_in t.memory coll slot) (ap back_of (one-word (place.Back coll slot) lt))
      (ranges.back_in shape coll slot (s.memory (place.Back coll slot)) (e.whole.ranges.memory (place.Back coll slot) lt))
    where
      go : (x y : Option Number) → y ≡ x → ranges.InBack shape coll x → owner_is_at t.memory slot y ≡ owner_is_at s.memory slot x
      go x y is within = subst (λ (z : Option Number). owner_is_at t.memory slot z ≡ owner_is_at s.memory slot x) (sym is) (its x within)
        where
          its : (x : Option Number) → ranges.InBack shape coll x → owner_is_at t.memory slot x ≡ owner_is_at s.memory slot x
          its None within = refl
          its (Some number) within = ap (λ (w : Word). has_object_at number.incarnation slot (state_of w)) (one-word (place.Entry number.coll number.entry) within.entry)
