-- How an advance ends, and why.
use Rattle.std.specs.Prelude.{◌≡◌, ◌≢◌, ℕ, ◌+◌, ◌<◌}
use Rattle.smc_shape.specs.Layout.{Layout}
use Rattle.smc_shape.specs.declared.place.Place.{Place}
use Rattle.smc_shape.specs.declared.place.Place.TheVariants as place
use Rattle.smc_core.specs.declared.done.Done.{Done}
use Rattle.smc_core.specs.declared.done.Done.TheVariants as done
use Rattle.smc_core.specs.declared.local.Local.{Local}
use Rattle.smc_core.specs.declared.op.Op.{Op}
use Rattle.smc_core.specs.declared.op.Op.TheVariants.{Load}
use Rattle.smc_core.specs.declared.section.TheConstants.{LAST_EPOCH}
use Rattle.smc_core.specs.declared.word.Word.{Word}
use Rattle.smc_core.specs.Change.{advance_next}
use Rattle.smc_core.specs.Row.{place_of}
use Rattle.smc_core.specs.Words.{plain_of}
use Rattle.smc_region.specs.declared.advance.Advance.{Advance}
use Rattle.smc_region.specs.declared.advance.Advance.TheVariants.{Advanced, NotYet, Overtaken, Spent}
use Rattle.smc_region.specs.Callers.{Caller}
use Rattle.smc_region.specs.Reached.{Took}

-- the answer that the pass keeps
abbrev pub done_of : Advance → Done
done_of (Advanced epoch) = done.Advanced epoch
done_of (NotYet pass seen) = done.NotYet pass seen
done_of (Overtaken seen) = done.Overtaken seen
done_of Spent = done.Spent

-- at the step of an advance that left the pass so, it saw this number at that place
pub record SawNumber (shape : Layout) (pass : ℕ) (there : Place) (number : ℕ) (new : Local) : Type 0 where
  pub before : Local
  pub op : Op
  pub seen : Word
  pub here : place_of op ≡ there
  pub took : Took shape pass before op seen new
  pub last : new.steps ≡ before.steps + 1
  pub is : plain_of seen ≡ number

-- why an advance that meant to move on from this epoch, and stood so behind its first step, ended so: at its last step, which is the
-- first one where no epoch is left
abbrev pub IsCause : Layout → ℕ → ℕ → Local → Local → Advance → Type 0
IsCause shape pass from second new (Advanced epoch) = (from ≢ LAST_EPOCH) × (epoch ≡ from + 1) × SawNumber shape pass place.Epoch from new
IsCause shape pass from second new (NotYet other seen) = (from ≢ LAST_EPOCH) × (seen ≢ 0) × (seen ≢ from) × SawNumber shape pass (place.Section other) seen new
IsCause shape pass from second new (Overtaken seen) = (from ≢ LAST_EPOCH) × (from < seen) × SawNumber shape pass place.Epoch seen new
IsCause shape pass from second new Spent = (from ≡ LAST_EPOCH) × (new ≡ second)

-- the advance loaded some epoch at its first step, and ended so for its cause
pub record Advances (old new : Caller) (answer : Advance) : Type 0 where
  pub from : ℕ
  pub seen : Word
  pub second : Local
  pub first : Took old.shape old.number old.local (Load place.Epoch) seen second
  pub is : plain_of seen ≡ from
  pub cause : IsCause old.shape old.number from second new.local answer

-- an advance that has passed the section words below this one
abbrev pub advancing : Layout → Local → ℕ → ℕ → Local
advancing shape l epoch other = record {
  stand = record l.stand { phase = advance_next shape epoch other };
  log = l.log;
  answers = l.answers;
  notes = l.notes;
  learnt = l.learnt;
  cursors = l.cursors;
  steps = l.steps + 1 + other;
}
