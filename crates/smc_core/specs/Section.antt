-- How a section begins, and what it tells the calls in it.
use Rattle.std.specs.Prelude.{ℕ, nat_le, Bool, true, false, Option, Some, None}
use Rattle.smc_words.specs.declared.round.RoundWord.{RoundWord}
use Rattle.smc_shape.specs.declared.place.Place.TheVariants as place
use Rattle.smc_model.specs.declared.event.Event.TheVariants as event
use Rattle.smc_core.specs.declared.change.Change.{Change}
use Rattle.smc_core.specs.declared.done.Done.TheVariants as done
use Rattle.smc_core.specs.declared.kind.Kind.TheVariants as kind
use Rattle.smc_core.specs.declared.op.Offer.{Offer}
use Rattle.smc_core.specs.declared.op.Op.TheVariants.{Load, Store}
use Rattle.smc_core.specs.declared.phase.Phase.TheVariants.{Idle, Entering}
use Rattle.smc_core.specs.declared.section.Section.{Section}
use Rattle.smc_core.specs.declared.section.Section.TheVariants.{Outside, Loaded, Announced, Again, Lasting, Inside}
use Rattle.smc_core.specs.declared.word.Word.{Word}
use Rattle.smc_core.specs.declared.word.Word.TheVariants as word
use Rattle.smc_core.specs.Step.{step, goes, tells}
use Rattle.smc_core.specs.Words.{plain_of, round_of}

-- the epoch of a section that lasts
abbrev pub epoch_of : Section → ℕ
epoch_of (Lasting epoch) = epoch
epoch_of (Inside epoch calm) = epoch
epoch_of _ = 0

-- whether a section knows that it is calm: no object is locked while it lasts
abbrev pub is_calm : Section → Bool
is_calm (Inside epoch calm) = calm
is_calm _ = false

-- a section is calm where it sees no round, or one whose bound it is not past
abbrev pub calm_by : ℕ → Option RoundWord → Bool
calm_by epoch None = true
calm_by epoch (Some round) = nat_le epoch round.bound

-- the step of enter that follows, by how far it has come
abbrev pub entering_offer : ℕ → Section → Option Offer
entering_offer pass (Loaded seen) = Some (step kind.Announce (Store (place.Section pass) (word.Plain seen)))
entering_offer pass (Announced seen) = Some (step kind.LoadEpochAgain (Load place.Epoch))
entering_offer pass (Again seen epoch) = Some (step kind.AnnounceAgain (Store (place.Section pass) (word.Plain epoch)))
entering_offer pass (Lasting epoch) = Some (step kind.LoadRound (Load place.Round))
entering_offer pass Outside = None
entering_offer pass (Inside epoch calm) = None

-- where that step leaves the section
abbrev pub entering_section : Section → Word → Section
entering_section (Loaded seen) w = Announced seen
entering_section (Announced seen) w = Again seen (plain_of w)
entering_section (Again seen epoch) w = Lasting epoch
entering_section (Lasting epoch) w = Inside epoch (calm_by epoch (round_of w))
entering_section Outside w = Outside
entering_section (Inside epoch calm) w = Inside epoch calm

-- the section has begun once the round word is loaded
abbrev pub entering_change : Section → Change
entering_change (Lasting epoch) = tells event.Enter (done.At epoch)
entering_change (Loaded seen) = goes Entering
entering_change (Announced seen) = goes Entering
entering_change (Again seen epoch) = goes Entering
entering_change Outside = goes Idle
entering_change (Inside epoch calm) = goes Idle
