-- The ranges of what a step is shown, and of indices that a walk has tested.
use Rattle.std.proofs.Common.{◌≡◌, ◌<◌, ◌≤◌, ◌+◌, ℕ, true, nat_lt, Option, Some, None, List, length, arith, inl, inr, ap}
use Rattle.std.proofs.lemmas.Bool.{ltb-true, cond_both, cases_lt}
use Rattle.std.proofs.lemmas.List.{get_or_past}
use Rattle.smc_words.specs.declared.layout.TheConstants.{ENTRIES}
use Rattle.smc_words.specs.declared.number.Number.{Number}
use Rattle.smc_words.specs.Dir.{FitsDir}
use Rattle.smc_words.specs.Number.{FitsNumber}
use Rattle.smc_shape.proofs.PlaceLaws.{coll-small}
use Rattle.smc_shape.specs.Layout.{Layout, Collection, IsShape, no_coll, coll_of, slots_of, entries_of, width_of}
use Rattle.smc_shape.specs.declared.coll.TheConstants.{MAX_WIDTH}
use Rattle.smc_shape.specs.declared.place.Place.TheVariants as place
use Rattle.smc_core.specs.declared.change.Change.{Change}
use Rattle.smc_core.specs.declared.local.Held.{Held}
use Rattle.smc_core.specs.declared.section.TheConstants.{LAST_EPOCH}
use Rattle.smc_core.specs.declared.word.Word.{Word}
use Rattle.smc_core.specs.declared.word.Word.TheVariants as word
use Rattle.smc_core.specs.Row.{FitsState}
use Rattle.smc_core.specs.Words.{plain_of, state_of, dir_of, back_of, forward_of}
use Rattle.smc_core.specs.Ripe.{next_round}
use Rattle.smc_automaton.specs.FitsPhase.{HasIncarnation, FitsPhase}
use Rattle.smc_automaton.specs.FitsWord.{FitsWord}

-- no record of a collection has more words than a record may have
width-past : (shape : Layout) (c : ℕ) → length shape.colls ≤ c → width_of shape c ≤ MAX_WIDTH
width-past shape c past =
    let none : coll_of shape c ≡ no_coll = get_or_past shape.colls c no_coll past in
    omega (arith, ap (λ (coll : Collection). coll.width) none)

pub width-limit : (shape : Layout) (c : ℕ) → IsShape shape → width_of shape c ≤ MAX_WIDTH
width-limit shape c valid =
    elim (cases_lt c (length shape.colls)) [ inl there ↦ (valid.coll c there).width | inr past ↦ width-past shape c past ]

-- an index below the slots or the entries of a collection is an index of a region
pub slot-index : (shape : Layout) (c slot : ℕ) → IsShape shape → nat_lt slot (slots_of shape c) ≡ true → slot < ENTRIES
slot-index shape c slot valid less = omega (arith, ltb-true slot (slots_of shape c) less, (coll-small shape c valid).0)

pub entry-index : (shape : Layout) (c entry : ℕ) → IsShape shape → nat_lt entry (entries_of shape c) ≡ true → entry < ENTRIES
entry-index shape c entry valid less = omega (arith, ltb-true entry (entries_of shape c) less, (coll-small shape c valid).1)

pub field-index : (shape : Layout) (c field : ℕ) → IsShape shape → nat_lt field (width_of shape c) ≡ true → field < MAX_WIDTH
field-index shape c field valid less = omega (arith, ltb-true field (width_of shape c) less, width-limit shape c valid)

-- the index behind one, round to the front, is one too
pub round-index : (many index : ℕ) → many < ENTRIES → next_round many index < ENTRIES
round-index many index few = cond_both (nat_lt (index + 1) many) (index + 1) 0 (λ i. i < ENTRIES) (λ less. omega (arith, ltb-true (index + 1) many less, few)) (λ _. omega arith)

-- what is seen of a word that fits its place
pub state-fits : (coll entry : ℕ) (w : Word) → FitsWord (place.Entry coll entry) w → FitsState (state_of w)
state-fits coll entry (word.Entry state) fits = fits
state-fits coll entry (word.Plain number) fits = absurd fits
state-fits coll entry (word.Round round) fits = absurd fits
state-fits coll entry (word.Directory dir) fits = absurd fits
state-fits coll entry (word.Back number) fits = absurd fits
state-fits coll entry (word.Forward slot) fits = absurd fits

pub dir-fits : (coll slot : ℕ) (w : Word) → FitsWord (place.Directory coll slot) w → FitsDir (dir_of w)
dir-fits coll slot (word.Directory dir) fits = fits
dir-fits coll slot (word.Plain number) fits = absurd fits
dir-fits coll slot (word.Round round) fits = absurd fits
dir-fits coll slot (word.Entry state) fits = absurd fits
dir-fits coll slot (word.Back number) fits = absurd fits
dir-fits coll slot (word.Forward there) fits = absurd fits

-- an owner, where there is one, fits the word of a slot
abbrev pub OwnerFits : Option Number → Type 0
OwnerFits None = Unit {0}
OwnerFits (Some number) = FitsNumber number

pub back-fits : (coll slot : ℕ) (w : Word) → FitsWord (place.Back coll slot) w → OwnerFits (back_of w)
back-fits coll slot (word.Back None) fits = tt
back-fits coll slot (word.Back (Some number)) fits = fits
back-fits coll slot (word.Plain number) fits = absurd fits
back-fits coll slot (word.Round round) fits = absurd fits
back-fits coll slot (word.Entry state) fits = absurd fits
back-fits coll slot (word.Directory dir) fits = absurd fits
back-fits coll slot (word.Forward there) fits = absurd fits

pub forward-fits : (coll slot : ℕ) (w : Word) → FitsWord (place.Forward coll slot) w → forward_of w < ENTRIES
forward-fits coll slot (word.Forward there) fits = fits
forward-fits coll slot (word.Plain number) fits = absurd fits
forward-fits coll slot (word.Round round) fits = absurd fits
forward-fits coll slot (word.Entry state) fits = absurd fits
forward-fits coll slot (word.Directory dir) fits = absurd fits
forward-fits coll slot (word.Back number) fits = absurd fits

pub epoch-fits : (w : Word) → FitsWord place.Epoch w → plain_of w ≤ LAST_EPOCH
epoch-fits (word.Plain number) fits = fits
epoch-fits (word.Round round) fits = absurd fits
epoch-fits (word.Entry state) fits = absurd fits
epoch-fits (word.Directory dir) fits = absurd fits
epoch-fits (word.Back number) fits = absurd fits
epoch-fits (word.Forward slot) fits = absurd fits

-- what a section holds from a step on fits
abbrev pub HoldsFit : Option Held → Type 0
HoldsFit None = Unit {0}
HoldsFit (Some pair) = HasIncarnation pair.number

-- a change leaves the call, with these words of the latest add, in its ranges
abbrev pub ChangeFits : Layout → List ℕ → Change → Type 0
ChangeFits shape words change = FitsPhase shape words change.phase × HoldsFit change.holds
