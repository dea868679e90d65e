-- What a call on a round needs of its pass, and what it leaves of it.
use Rattle.std.specs.Prelude.{◌≡◌, ℕ, ◌+◌, ◌≤◌, ◌<◌, Some, length}
use Rattle.smc_words.specs.declared.round.RoundWord.{RoundWord}
use Rattle.smc_shape.specs.declared.place.Place.TheVariants as place
use Rattle.smc_core.specs.declared.done.Done.{Done}
use Rattle.smc_core.specs.declared.done.Done.TheVariants as done
use Rattle.smc_core.specs.declared.local.Local.{Local}
use Rattle.smc_core.specs.declared.op.Op.{Op}
use Rattle.smc_core.specs.declared.word.Word.{Word}
use Rattle.smc_core.specs.Row.{place_of}
use Rattle.smc_core.specs.Words.{round_of}
use Rattle.smc_region.specs.Callers.{Caller}
use Rattle.smc_region.specs.Reached.{Took}
use Rattle.smc_does.specs.Does.{OwnsNone}
use Rattle.smc_compact.specs.declared.begun.Begun.{Begun}
use Rattle.smc_compact.specs.declared.begun.Begun.TheVariants as begun
use Rattle.smc_compact.specs.declared.begun.Round.{Round}
use Rattle.smc_compact.specs.declared.ending.Finished.{Finished}
use Rattle.smc_compact.specs.declared.ending.Finished.TheVariants as finished

-- the round is the one that the pass owns
pub record IsRoundOf (pass : Caller) (round : Round) : Type 0 where
  pub coll : round.coll < length pass.shape.colls
  pub owned : pass.local.stand.round ≡ Some (record { bound = round.bound; coll = round.coll })

-- the answer that is kept of a begin in this collection
abbrev pub begun_done : ℕ → Begun → Done
begun_done coll (begun.Round round) = done.Round coll round.bound round.moves
begun_done coll begun.Nothing = done.Nothing coll
begun_done coll (begun.Busy seen) = done.Busy seen.bound seen.pass seen.coll

-- a round that was begun is the pass's; it has none where there was nothing to do, and what it had where another was open
abbrev pub OwnsBy : Caller → Caller → Begun → Type 0
OwnsBy old new (begun.Round round) = IsRoundOf new round
OwnsBy old new begun.Nothing = OwnsNone new
OwnsBy old new (begun.Busy seen) = new.local.stand.round ≡ old.local.stand.round

-- a round that was begun is one of this collection, and its bound is the epoch behind that of the section
abbrev pub HasBound : ℕ → ℕ → Begun → Type 0
HasBound coll epoch (begun.Round round) = (round.coll ≡ coll) × (round.bound ≡ epoch + 1)
HasBound coll epoch begun.Nothing = Unit {0}
HasBound coll epoch (begun.Busy seen) = Unit {0}

-- at its only step a begin of the pass, which stood so, saw this round
pub record SawRound (pass : Caller) (new : Local) (round : RoundWord) : Type 0 where
  pub op : Op
  pub seen : Word
  pub here : place_of op ≡ place.Round
  pub took : Took pass.shape pass.number pass.local op seen new
  pub is : round_of seen ≡ Some round

-- why a begin found another round open
abbrev pub IsBusyFor : Caller → Local → Begun → Type 0
IsBusyFor pass new (begun.Busy round) = SawRound pass new round
IsBusyFor pass new begun.Nothing = Unit {0}
IsBusyFor pass new (begun.Round round) = Unit {0}

-- the answer that is kept of a finish in a section at this epoch
abbrev pub finished_done : ℕ → Finished → Done
finished_done epoch (finished.Done moved abandoned gone) = done.Finished moved abandoned gone
finished_done epoch (finished.Early again) = done.Early epoch again.bound

-- a finish ends the round in a section that is two epochs past its bound; in an earlier one it leaves the round as it is
abbrev pub EndsBy : Caller → ℕ → Round → Finished → Type 0
EndsBy new epoch round (finished.Done moved abandoned gone) = (round.bound + 2 ≤ epoch) × OwnsNone new
EndsBy new epoch round (finished.Early again) = (epoch < round.bound + 2) × (again ≡ round) × IsRoundOf new again

-- a call that adds no object and has to do with no note leaves these
pub record Keeps (old new : Local) : Type 0 where
  pub notes : new.notes ≡ old.notes
  pub learnt : new.learnt ≡ old.learnt
  pub cursors : new.cursors ≡ old.cursors
