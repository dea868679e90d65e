-- A memory whose words keep their ranges, and what an operation within them leaves of it.
use Rattle.std.proofs.Common.{◌≡◌, ℕ, ◌<◌, ◌≤◌, Bool, true, false, Option, Some, None, length, refl, sym, ap, subst, inl, inr, arith}
use Rattle.std.specs.Prelude.{if◌then◌else◌}
use Rattle.smc_words.specs.declared.layout.TheConstants.{ENTRIES}
use Rattle.smc_words.specs.declared.number.Number.{Number}
use Rattle.smc_words.specs.Number.{FitsNumber}
use Rattle.smc_shape.specs.Layout.{Layout, IsShape, entries_of}
use Rattle.smc_shape.specs.declared.place.Place.{Place}
use Rattle.smc_shape.specs.declared.place.Place.TheVariants as place
use Rattle.smc_core.specs.declared.op.Op.{Op}
use Rattle.smc_core.specs.declared.op.Op.TheVariants.{Load, Store, Exchange, MarkGone}
use Rattle.smc_core.specs.declared.word.State.{State}
use Rattle.smc_core.specs.declared.word.State.TheVariants as state
use Rattle.smc_core.specs.declared.word.Word.{Word}
use Rattle.smc_core.specs.declared.word.Word.TheVariants as word
use Rattle.smc_core.specs.Row.{Suits, FitsState, OpFits}
use Rattle.smc_core.specs.Words.{plain_of, dir_of, state_of, back_of, forward_of, gone, same_word}
use Rattle.smc_core.specs.declared.section.TheConstants.{LAST_EPOCH}
use Rattle.smc_words.specs.Dir.{FitsDir}
use Rattle.std.specs.Prelude.{◌^◌}
use Rattle.std.proofs.lemmas.Bool.{cases_lt}
use Rattle.std.proofs.lemmas.List.{get_or_past}
use Rattle.smc_shape.proofs.PlaceLaws.{coll-small}
use Rattle.smc_shape.specs.Layout.{Collection, coll_of, no_coll}
use Rattle.smc_rules.specs.Memory.{Memory, same_place, put_word, apply, seen}
use Rattle.smc_rules.proofs.PlaceLaws.{same_place-eq}
use Rattle.smc_inv_range.specs.Ranges.{IsNumberOf, IsSlot, InState, InWord, InMemory, InOp, InShown}

-- a slot of a collection has a small index
slot_small : (shape : Layout) (coll slot : ℕ) → IsShape shape → IsSlot shape coll slot → slot < ENTRIES
slot_small shape coll slot valid lt = omega (arith, lt, (coll-small shape coll valid).0)

-- so has an entry
entry_small : (shape : Layout) (coll entry : ℕ) → IsShape shape → entry < entries_of shape coll → entry < ENTRIES
entry_small shape coll entry valid lt = omega (arith, lt, (coll-small shape coll valid).1)

-- a collection with a slot or an entry is one of the region
coll_past : (shape : Layout) (coll : ℕ) → length shape.colls ≤ coll → coll_of shape coll ≡ no_coll
coll_past shape coll past = get_or_past shape.colls coll no_coll past

pub entry_coll : (shape : Layout) (coll entry : ℕ) → entry < entries_of shape coll → coll < length shape.colls
entry_coll shape coll entry lt = elim (cases_lt coll (length shape.colls)) [
  | inl l ↦ l
  | inr past ↦ absurd (omega (arith, lt, ap (λ (c : Collection). c.entries) (coll_past shape coll past)))
]

pub slot_coll : (shape : Layout) (coll slot : ℕ) → IsSlot shape coll slot → coll < length shape.colls
slot_coll shape coll slot lt = elim (cases_lt coll (length shape.colls)) [
  | inl l ↦ l
  | inr past ↦ absurd (omega (arith, lt, ap (λ (c : Collection). c.slots) (coll_past shape coll past)))
]

-- a collection has an entry for each slot
pub slot_entry : (shape : Layout) (coll slot : ℕ) → IsShape shape → IsSlot shape coll slot → slot < entries_of shape coll
slot_entry shape coll slot valid lt = omega (arith, lt, (valid.coll coll (slot_coll shape coll slot lt)).room)

state_fits : (shape : Layout) (coll : ℕ) (s : State) → IsShape shape → InState shape coll s → FitsState s
state_fits shape coll (state.Free incarnation stamp) valid f = f
state_fits shape coll (state.Claimed incarnation) valid f = f
state_fits shape coll (state.Present incarnation slot) valid f = (f.0, slot_small shape coll slot valid f.1)
state_fits shape coll (state.Frozen incarnation slot) valid f = (f.0, slot_small shape coll slot valid f.1)
state_fits shape coll (state.Locked incarnation slot) valid f = (f.0, slot_small shape coll slot valid f.1)
state_fits shape coll (state.Removed incarnation slot frozen locked) valid f = (f.0, slot_small shape coll slot valid f.1)

number_fits : (shape : Layout) (coll : ℕ) (number : Number) → IsShape shape → IsNumberOf shape coll number → FitsNumber number
number_fits shape coll number valid f = record {
  given = f.given;
  incarnation = f.incarnation;
  entry = entry_small shape number.coll number.entry valid f.entry;
  coll = omega (arith, entry_coll shape number.coll number.entry f.entry, valid.colls);
}

-- a word that keeps its range suits its place
pub suits : (shape : Layout) (there : Place) (w : Word) → IsShape shape → InWord shape there w → Suits there w
suits shape place.Epoch (word.Plain number) valid f = omega (arith, f)
suits shape place.Round (word.Round None) valid f = tt
suits shape place.Round (word.Round (Some round)) valid f = f
suits shape (place.Section pass) (word.Plain number) valid f = omega (arith, f)
suits shape (place.Entry coll entry) (word.Entry s) valid f = state_fits shape coll s valid f
suits shape (place.Directory coll slot) (word.Directory d) valid f = f
suits shape (place.Back coll slot) (word.Back None) valid f = tt
suits shape (place.Back coll slot) (word.Back (Some number)) valid f = number_fits shape coll number valid f
suits shape (place.Forward coll slot) (word.Forward target) valid f = slot_small shape coll target valid f
suits shape (place.Field coll slot field) (word.Plain number) valid f = f
suits shape _ _ valid f = absurd (search)

-- so an operation within the region fits the row
pub op_fits : (shape : Layout) (op : Op) → IsShape shape → InOp shape op → OpFits shape op
op_fits shape (Load there) valid f = f
op_fits shape (Store there w) valid f = (f.0, suits shape there w valid f.1)
op_fits shape (Exchange there expect w) valid f = (f.0, suits shape there expect valid f.1, suits shape there w valid f.2)
op_fits shape (MarkGone coll entry) valid f = f

-- what a word says keeps its range, where the word does
pub dir_in : (shape : Layout) (coll slot : ℕ) (w : Word) → InWord shape (place.Directory coll slot) w → FitsDir (dir_of w)
dir_in shape coll slot (word.Directory d) f = f
dir_in shape coll slot _ f = absurd (search)

pub state_in : (shape : Layout) (coll entry : ℕ) (w : Word) → InWord shape (place.Entry coll entry) w → InState shape coll (state_of w)
state_in shape coll entry (word.Entry s) f = f
state_in shape coll entry _ f = absurd (search)

-- the owner that a slot names, if it names one
abbrev pub InBack : Layout → ℕ → Option Number → Type 0
InBack shape coll None = Unit {0}
InBack shape coll (Some number) = IsNumberOf shape coll number

pub back_in : (shape : Layout) (coll slot : ℕ) (w : Word) → InWord shape (place.Back coll slot) w → InBack shape coll (back_of w)
back_in shape coll slot (word.Back None) f = tt
back_in shape coll slot (word.Back (Some number)) f = f
back_in shape coll slot _ f = absurd (search)

pub forward_in : (shape : Layout) (coll slot : ℕ) (w : Word) → InWord shape (place.Forward coll slot) w → IsSlot shape coll (forward_of w)
forward_in shape coll slot (word.Forward target) f = f
forward_in shape coll slot _ f = absurd (search)

pub field_in : (shape : Layout) (coll slot field : ℕ) (w : Word) → InWord shape (place.Field coll slot field) w → plain_of w < 2 ^ 64
field_in shape coll slot field (word.Plain number) f = f
field_in shape coll slot field _ f = absurd (search)

pub epoch_in : (shape : Layout) (w : Word) → InWord shape place.Epoch w → plain_of w ≤ LAST_EPOCH
epoch_in shape (word.Plain number) f = f
epoch_in shape _ f = absurd (search)

-- an entry that is marked keeps its range
gone_in : (shape : Layout) (coll : ℕ) (s : State) → InState shape coll s → InState shape coll (gone s)
gone_in shape coll (state.Free incarnation stamp) f = f
gone_in shape coll (state.Claimed incarnation) f = f
gone_in shape coll (state.Present incarnation slot) f = f
gone_in shape coll (state.Frozen incarnation slot) f = f
gone_in shape coll (state.Locked incarnation slot) f = f
gone_in shape coll (state.Removed incarnation slot frozen locked) f = f

-- one of two values, by a test
pub either : {A : Type 0} (P : A → Type 0) (b : Bool) (x y : A) → (b ≡ true → P x) → (b ≡ false → P y) → P (if b then x else y)
either P true x y f g = f refl
either P false x y f g = g refl

module _ (shape : Layout) (memory : Memory) (m : InMemory shape memory) where
  -- a memory keeps its ranges where a word that keeps its own is put
  put_in : (here : Place) (w : Word) → InWord shape here w → InMemory shape (put_word memory here w)
  put_in here w f there r = either (InWord shape there) (same_place there here) w (memory there)
      (λ t. subst (λ p. InWord shape p w) (sym (same_place-eq there here t)) f) (λ n. m there r)

  -- and so after an operation within the region
  pub apply_in : (op : Op) → InOp shape op → InMemory shape (apply op memory)
  apply_in (Load there) f = m
  apply_in (Store there w) f = put_in there w f.1
  apply_in (Exchange there expect w) f = put_in there (if same_word (memory there) expect then w else memory there)
      (either (InWord shape there) (same_word (memory there) expect) w (memory there) (λ t. f.2) (λ n. m there f.0))
  apply_in (MarkGone coll entry) f =
      let there : Place = place.Entry coll entry in
      put_in there (word.Entry (gone (state_of (memory there)))) (gone_in shape coll (state_of (memory there)) (state_in shape coll entry (memory there) (m there f)))

  -- what an operation within the region is shown
  pub seen_in : (op : Op) → InOp shape op → InShown shape op (seen op memory)
  seen_in (Load there) f = m there f
  seen_in (Store there w) f = tt
  seen_in (Exchange there expect w) f = m there f.0
  seen_in (MarkGone coll entry) f = m (place.Entry coll entry) f
