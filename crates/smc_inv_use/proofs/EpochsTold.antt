-- What every state tells of epochs, to a pass that works alone.
use Rattle.std.proofs.Common.{◌≡◌, refl}
use Rattle.smc_shape.specs.Layout.{Layout}
use Rattle.smc_shape.specs.declared.place.Place.TheVariants as place
use Rattle.smc_core.specs.declared.local.Opening.{Opening}
use Rattle.smc_core.specs.declared.word.Word.{Word}
use Rattle.smc_core.specs.declared.word.Word.TheVariants as word
use Rattle.smc_core.specs.Words.{plain_of}
use Rattle.smc_rules.specs.State.{State}
use Rattle.smc_aside.proofs.Waiting.{TellsEpochs}
use Rattle.smc_inv_range.specs.Ranges.{InWord}
use Rattle.smc_laws.proofs.Everything.{Everything}

-- the epoch's word is a number
epoch-word : (shape : Layout) (w : Word) → InWord shape place.Epoch w → w ≡ word.Plain (plain_of w)
epoch-word shape (word.Plain number) is = refl
epoch-word shape w is = absurd is

pub tells-epochs : (opening : Opening) (shape : Layout) (s : State) → Everything opening shape s → TellsEpochs shape s
tells-epochs opening shape s e = record {
  rule = e.whole.rounds.epochs.rule;
  agrees = e.whole.rounds.epochs.agrees;
  number = epoch-word shape (s.memory place.Epoch) (e.whole.ranges.memory place.Epoch tt);
}
